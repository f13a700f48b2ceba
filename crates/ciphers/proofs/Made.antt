-- What an array made by `array::from_fn` holds, where the closure stays the same.
use Rattle.std.proofs.Common.{◌≡◌, ℕ, zero, suc, ◌+◌, ◌<◌, ◌≤◌, List, map, get_or, sym, refl, ap, ◌∙◌, subst, add-zero, zero-add, arith}
use denote.Param.Members.{Mut, Called}
use Rattle.std.specs.Array.{IsFromFnResult, IsFromFnResultFrom}
use Rattle.std.specs.List.{range_with_len}
use Rattle.std.proofs.lemmas.List.FromFn.{fill_by_all}

module _ {F B : Type 0} (g : Mut F (ℕ × Unit {0}) B) (f : F) (h : ℕ → B) (n : ℕ) (d : B) (calls : (i : ℕ) (y : B) (q : F) → i < n → Called g f (i, tt) y q → (q ≡ f) × (y ≡ h i)) where
  each_made : (ys : List B) (i m : ℕ) (p : F) → p ≡ f → i + m ≤ n → IsFromFnResultFrom g p ys i m → (k : ℕ) → k < m → get_or ys (i + k) d ≡ h (i + k)
  each_made ys i zero p e l r k b = absurd (omega arith)
  each_made ys i (suc m) p e l r zero b =
      let one = calls i r.1 r.0 (omega arith) (subst (λ (s : F). Called g s (i, tt) r.1 r.0) e r.3) in
      ap (λ (j : ℕ). get_or ys j d) (add-zero i) ∙ r.2.1 d ∙ one.1 ∙ ap h (sym (add-zero i))
  each_made ys i (suc m) p e l r (suc k) b =
      let one = calls i r.1 r.0 (omega arith) (subst (λ (s : F). Called g s (i, tt) r.1 r.0) e r.3) in
      let j : i + 1 + k ≡ i + suc k = omega arith in
      sym (ap (λ (x : ℕ). get_or ys x d) j) ∙ each_made ys (i + 1) m r.0 one.0 (omega arith) r.4 k (omega arith) ∙ ap h j

  pub made : (ys : List B) → IsFromFnResult g f ys n → ys ≡ map h (range_with_len 0 n)
  made ys r = fill_by_all h ys n d r.long (λ k l. let z : 0 + k ≡ k = zero-add k in
      sym (ap (λ (x : ℕ). get_or ys x d) z) ∙ each_made ys 0 n f refl (omega arith) r.each k l ∙ ap h z)
