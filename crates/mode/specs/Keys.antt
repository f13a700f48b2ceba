-- The bundle that keys were made from.
use Rattle.std.specs.Prelude.{ℕ, List, ◌++◌, Ok, Err, Result}
use Rattle.base.specs.declared.refusals.Refusal.{Refusal}
use Rattle.base.specs.Numbers.{bytes}
use Rattle.mode.specs.declared.keys.Keys.{Keys}

-- tau and the keys of the two ciphers, joined
abbrev pub bundle_of : {C : Type 0} → (C → List ℕ) → Keys C → List ℕ
bundle_of key_of keys = bytes 16 keys.tau ++ (key_of keys.prf ++ key_of keys.blk)

-- what making keys answers, with their bundle in their place
abbrev pub bundle_answer : {C : Type 0} → (C → List ℕ) → Result (Keys C) Refusal → Result (List ℕ) Refusal
bundle_answer key_of (Ok keys) = Ok (bundle_of key_of keys)
bundle_answer key_of (Err why) = Err why
