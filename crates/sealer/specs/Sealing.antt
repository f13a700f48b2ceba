-- What the commands on a message ask, and what they give. Both ciphers have keys of sixteen bytes.
use Rattle.std.specs.Prelude.{◌≡◌, ℕ, ◌-◌, List, [], ◌∷◌, ◌++◌, length, take, Ok, Err, Result, Some, vec_items}
use Rattle.base.specs.declared.refusals.Refusal.{Refusal}
use Rattle.base.specs.Refusals.{decided}
use Rattle.base.specs.Bytes.{zeros}
use Rattle.mode.specs.Bundles.{sealed_under, opened_under}
use Rattle.mode.specs.Calls.{bundle_checks, length_checks, proof_checks}
use Rattle.text.specs.Hexadecimal.{bytes_of}
use Rattle.text.specs.Kinds.{name_of}
use Rattle.text.specs.declared.fault.Fault.{Fault}
use Rattle.text.specs.declared.fault.Fault.TheVariants.{Line, Declined, Memory}
use Rattle.sealer.specs.Work.{forward_of, back_of}
use Rattle.sealer.specs.declared.sealing.Sealing.{Sealing}

-- the five words: the name of a cipher, and in hexadecimal the bundle, the nonce, the associated data and the message
abbrev pub Reads : List (List ℕ) → Sealing → Type 0
Reads [] s = ⊥
Reads (cipher ∷ []) s = ⊥
Reads (cipher ∷ (bundle ∷ [])) s = ⊥
Reads (cipher ∷ (bundle ∷ (nonce ∷ []))) s = ⊥
Reads (cipher ∷ (bundle ∷ (nonce ∷ (ad ∷ [])))) s = ⊥
Reads (cipher ∷ (bundle ∷ (nonce ∷ (ad ∷ (message ∷ []))))) s =
    (cipher ≡ name_of s.kind) × (bytes_of bundle ≡ Some (vec_items s.bundle)) × (bytes_of nonce ≡ Some (vec_items s.nonce)) × (bytes_of ad ≡ Some (vec_items s.ad)) × (bytes_of message ≡ Some (vec_items s.message))
Reads (cipher ∷ (bundle ∷ (nonce ∷ (ad ∷ (message ∷ (word ∷ more)))))) s = ⊥

-- a step gives no bytes: it was declined, as is due, or there was no memory
abbrev pub DeclinedOrFull : Fault → Result (List ℕ) Refusal → Type 0
DeclinedOrFull (Line wrong) due = ⊥
DeclinedOrFull (Declined why) due = due ≡ Err why
DeclinedOrFull Memory due = Unit {0}

-- what sealing a message m gives
abbrev pub sealed_message : Sealing → List ℕ → Result (List ℕ) Refusal
sealed_message s m =
    decided (bundle_checks 16 (length (vec_items s.bundle)) ++ length_checks (length (vec_items s.nonce)) (length (vec_items s.ad)) (length m))
    (Ok (sealed_under (forward_of s.kind) 16 (vec_items s.bundle) (vec_items s.nonce) (vec_items s.ad) m))

-- the opened message
abbrev pub opened_message : Sealing → List ℕ
opened_message s = opened_under (forward_of s.kind) (back_of s.kind) 16 (vec_items s.bundle) (vec_items s.nonce) (vec_items s.ad) (vec_items s.message)

-- what each step gives
abbrev pub sealed : Sealing → Result (List ℕ) Refusal
sealed s = sealed_message s (vec_items s.message)

abbrev pub opened : Sealing → Result (List ℕ) Refusal
opened s =
    decided (bundle_checks 16 (length (vec_items s.bundle)) ++ length_checks (length (vec_items s.nonce)) (length (vec_items s.ad)) (length (vec_items s.message)))
    (Ok (opened_message s))

-- with proof sixteen zeros are sealed behind the message, and left out again after opening
abbrev pub sealed_with_proof : Sealing → Result (List ℕ) Refusal
sealed_with_proof s = sealed_message s (vec_items s.message ++ zeros 16)

abbrev pub opened_with_proof : Sealing → Result (List ℕ) Refusal
opened_with_proof s =
    decided
    (bundle_checks 16 (length (vec_items s.bundle)) ++ (length_checks (length (vec_items s.nonce)) (length (vec_items s.ad)) (length (vec_items s.message)) ++ proof_checks (opened_message s)))
    (Ok (take (length (vec_items s.message) - 16) (opened_message s)))
