-- The limits of the calls, what they answer, and what they leave in the memory they work on.
use Rattle.std.specs.Prelude.{ℕ, ◌+◌, ◌-◌, ◌*◌, Bool, true, false, cond, not, ◌||◌, List, [], ◌∷◌, ◌++◌, length, take, drop, Ok, Err, Result, ◌==◌, nat_lt}
use Rattle.base.specs.declared.refusals.Refusal.{Refusal}
use Rattle.base.specs.declared.refusals.Refusal.TheVariants.{WrongKeyLength, ContextTooLong, WrongLength, NotGenuine}
use Rattle.base.specs.Refusals.{Check}
use Rattle.base.specs.Bytes.{zeros, all_zero}

-- the longest nonce and the longest associated data
abbrev pub context_limit : ℕ
context_limit = 1024

-- the shortest message
abbrev pub shortest_message : ℕ
shortest_message = 16

-- the longest message
abbrev pub longest_message : ℕ
longest_message = 65536

-- a bundle is not as long as tau and two keys of n bytes
abbrev pub wrong_bundle : ℕ → ℕ → Bool
wrong_bundle n bundle = not (bundle == 16 + 2 * n)

-- nonce or associated data is longer than the limit
abbrev pub context_too_long : ℕ → ℕ → Bool
context_too_long nonce ad = nat_lt context_limit nonce || nat_lt context_limit ad

-- a message is too short or too long
abbrev pub wrong_length : ℕ → Bool
wrong_length message = nat_lt message shortest_message || nat_lt longest_message message

-- the checks of a bundle by its length, for keys of n bytes
abbrev pub bundle_checks : ℕ → ℕ → List Check
bundle_checks n bundle = (wrong_bundle n bundle, WrongKeyLength) ∷ []

-- the check of a message by its length
abbrev pub message_checks : ℕ → List Check
message_checks message = (wrong_length message, WrongLength) ∷ []

-- the checks of nonce, associated data and message by their lengths, in their order
abbrev pub length_checks : ℕ → ℕ → ℕ → List Check
length_checks nonce ad message = (context_too_long nonce ad, ContextTooLong) ∷ message_checks message

-- the check of a message for CMAC alone
abbrev pub cmac_checks : ℕ → List Check
cmac_checks message = (nat_lt longest_message message, WrongLength) ∷ []

-- a message is genuine if its last sixteen bytes are all zero
abbrev pub genuine : List ℕ → Bool
genuine m = all_zero (drop (length m - 16) m)

-- what opening with proof checks of the opened message
abbrev pub proof_checks : List ℕ → List Check
proof_checks m = (not (genuine m), NotGenuine) ∷ []

-- a message with its last sixteen bytes, the spare ones, made zero
abbrev pub spare_zeroed : List ℕ → List ℕ
spare_zeroed m = take (length m - 16) m ++ zeros 16

-- what a call answers, with 0 in the place of what it made
abbrev pub outcome : {A : Type 0} → Result A Refusal → Result ℕ Refusal
outcome (Ok made) = Ok 0
outcome (Err why) = Err why

-- what a call leaves: `done` where it was accepted, and where it was declined what it found
abbrev pub if_accepted : {A : Type 0} → Result A Refusal → List ℕ → List ℕ → List ℕ
if_accepted (Ok answer) done found = done
if_accepted (Err why) done found = found

-- whether a refusal is NotGenuine
abbrev pub is_not_genuine : Refusal → Bool
is_not_genuine NotGenuine = true
is_not_genuine _ = false

-- what opening with proof leaves: as above, but zeros where the opened message is not genuine
abbrev pub if_genuine : Result ℕ Refusal → List ℕ → List ℕ → List ℕ
if_genuine (Ok answer) done found = done
if_genuine (Err why) done found = cond (is_not_genuine why) (zeros (length found)) found
