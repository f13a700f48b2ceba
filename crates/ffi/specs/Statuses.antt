-- What the calls answer to C, and what they leave in the memory they work on, for ciphers with keys of sixteen bytes.
use Rattle.std.specs.Prelude.{ℕ, ◌-◌, List, ◌++◌, length, Ok, Err, Result}
use Rattle.base.specs.declared.refusals.Refusal.{Refusal}
use Rattle.base.specs.Refusals.{number_of, decided}
use Rattle.ciphers.specs.Keys.{key_checks}
use Rattle.mode.specs.Bundles.{sealed_under, opened_under}
use Rattle.mode.specs.Cmac.{cmac_of}
use Rattle.mode.specs.Calls.{bundle_checks, length_checks, proof_checks, cmac_checks, spare_zeroed, if_accepted, if_genuine}

-- 0 for an accepted call, and else the number of its refusal
abbrev pub status_of : Result ℕ Refusal → ℕ
status_of (Ok n) = 0
status_of (Err why) = number_of why

-- what sealing, and opening without proof, answer
abbrev pub answer : List ℕ → List ℕ → List ℕ → List ℕ → Result ℕ Refusal
answer bundle nonce ad m = decided (bundle_checks 16 (length bundle) ++ length_checks (length nonce) (length ad) (length m)) (Ok 0)

-- the message after sealing by a cipher's forward function
abbrev pub after_seal : (List ℕ → List ℕ → List ℕ) → List ℕ → List ℕ → List ℕ → List ℕ → List ℕ
after_seal forward bundle nonce ad m = if_accepted (answer bundle nonce ad m) (sealed_under forward 16 bundle nonce ad m) m

-- and with proof
abbrev pub after_seal_with_proof : (List ℕ → List ℕ → List ℕ) → List ℕ → List ℕ → List ℕ → List ℕ → List ℕ
after_seal_with_proof forward bundle nonce ad m = if_accepted (answer bundle nonce ad m) (sealed_under forward 16 bundle nonce ad (spare_zeroed m)) m

-- the message after opening by a cipher's forward and back functions
abbrev pub after_open : (List ℕ → List ℕ → List ℕ) → (List ℕ → List ℕ → List ℕ) → List ℕ → List ℕ → List ℕ → List ℕ → List ℕ
after_open forward back bundle nonce ad m = if_accepted (answer bundle nonce ad m) (opened_under forward back 16 bundle nonce ad m) m

-- what opening with proof answers
abbrev pub proof_answer : (List ℕ → List ℕ → List ℕ) → (List ℕ → List ℕ → List ℕ) → List ℕ → List ℕ → List ℕ → List ℕ → Result ℕ Refusal
proof_answer forward back bundle nonce ad m =
    decided
    (bundle_checks 16 (length bundle) ++ (length_checks (length nonce) (length ad) (length m) ++ proof_checks (opened_under forward back 16 bundle nonce ad m)))
    (Ok (length m - 16))

-- and the message after it
abbrev pub after_open_with_proof : (List ℕ → List ℕ → List ℕ) → (List ℕ → List ℕ → List ℕ) → List ℕ → List ℕ → List ℕ → List ℕ → List ℕ
after_open_with_proof forward back bundle nonce ad m = if_genuine (proof_answer forward back bundle nonce ad m) (opened_under forward back 16 bundle nonce ad m) m

-- what CMAC answers, for keys of n bytes
abbrev pub cmac_answer : ℕ → List ℕ → List ℕ → Result ℕ Refusal
cmac_answer n key m = decided (key_checks n (length key) ++ cmac_checks (length m)) (Ok 0)

-- the sixteen bytes for the code after it, by a cipher's forward function
abbrev pub after_cmac : (List ℕ → List ℕ → List ℕ) → ℕ → List ℕ → List ℕ → List ℕ → List ℕ
after_cmac forward n key m code = if_accepted (cmac_answer n key m) (cmac_of (forward key) m) code
