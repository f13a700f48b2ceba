-- The words of a command, one by one and as a list.
use Rattle.std.proofs.Common.{◌≡◌, ℕ, suc, ◌-◌, ◌<◌, List, [], ◌∷◌, map, length, get_or, take, drop, Bor, inr, refl, subst, arith}
use Rattle.std.proofs.lemmas.List.{take_all}
use Rattle.sealer.specs.Commands.{OnMessage, Accepted}
use Rattle.sealer.specs.Sealing.{Reads}
use Rattle.sealer.specs.declared.sealing.Sealing.{Sealing}

-- only five words ask for a message to be sealed or opened
pub five : (words : List (Bor (List ℕ))) (s : Sealing) → (length words ≡ 5 → ⊥) → Reads (map (λ w. w.now) words) s → ⊥
five [] s other reads = reads
five (a ∷ []) s other reads = reads
five (a ∷ (b ∷ [])) s other reads = reads
five (a ∷ (b ∷ (c ∷ []))) s other reads = reads
five (a ∷ (b ∷ (c ∷ (d ∷ [])))) s other reads = reads
five (a ∷ (b ∷ (c ∷ (d ∷ (e ∷ []))))) s other reads = other refl
five (a ∷ (b ∷ (c ∷ (d ∷ (e ∷ (f ∷ more)))))) s other reads = reads

-- what is read past the last word
abbrev pub nothing : Bor (List ℕ)
nothing = record { ref_ptr = (0, 0); now = [] }

pub on_message : (words : List (Bor (List ℕ))) (line : List ℕ) → 0 < length words → OnMessage (get_or words 0 nothing).now (map (λ w. w.now) (take (length words - 1) (drop 1 words))) line → Accepted (map (λ w. w.now) words) line
on_message [] line some h = absurd (omega arith)
on_message (w ∷ words) line some h =
    let rest : take (suc (length words) - 1) words ≡ words = take_all (suc (length words) - 1) words (omega arith) in
    let P : List (Bor (List ℕ)) → Type 0 = λ after. OnMessage w.now (map (λ v. v.now) after) line in
    inr (inr (inr (inr (subst P rest h))))
