-- What checks decide, from what they decided of another answer.
use Rattle.std.proofs.Common.{◌≡◌, ℕ, ◌+◌, ◌*◌, Bool, true, false, cond, not, List, [], ◌∷◌, ◌++◌, Ok, Err, Result, sym, refl, ap, ◌∙◌, arith}
use Rattle.std.proofs.lemmas.Bool.{eq-eqb}
use Rattle.base.specs.declared.refusals.Refusal.{Refusal}
use Rattle.base.specs.declared.refusals.Refusal.TheVariants.{WrongKeyLength, NotGenuine}
use Rattle.base.specs.Refusals.{Check, decided}
use Rattle.mode.specs.Calls.{bundle_checks, genuine, proof_checks}

module _ {A B : Type 0} where
  declined_step : (t : Bool) (r e : Refusal) (x : Result A Refusal) (y : Result B Refusal) → (x ≡ Err e → y ≡ Err e) → cond t (Err r) x ≡ Err e → cond t (Err r) y ≡ Err e
  declined_step true r e x y h k = cc
  declined_step false r e x y h k = h k

  -- where checks decline one answer they decline every answer alike
  pub declined_too : (cs : List Check) (a : A) (y : Result B Refusal) (e : Refusal) → decided cs (Ok a) ≡ Err e → decided cs y ≡ Err e
  declined_too [] a y e h = let z : ◌≡◌ {A = ℕ} 0 1 = cc in absurd (omega arith)
  declined_too (c ∷ cs) a y e h = declined_step c.0 c.1 e (decided cs (Ok a)) (decided cs y) (declined_too cs a y e) h

  passed_step : (t : Bool) (r : Refusal) (x : Result A Refusal) (b : A) (y z : Result B Refusal) → (x ≡ Ok b → y ≡ z) → cond t (Err r) x ≡ Ok b → cond t (Err r) y ≡ z
  passed_step true r x b y z h k = let q : ◌≡◌ {A = ℕ} 0 1 = cc in absurd (omega arith)
  passed_step false r x b y z h k = h k

  -- where they pass one answer they pass every answer
  pub passed_too : (cs : List Check) (a b : A) (y : Result B Refusal) → decided cs (Ok a) ≡ Ok b → decided cs y ≡ y
  passed_too [] a b y h = refl
  passed_too (c ∷ cs) a b y h = passed_step c.0 c.1 (decided cs (Ok a)) b (decided cs y) y (passed_too cs a b y) h

  -- checks after checks: those before decline, or those after decide alone
  pub after_declined : (cs ds : List Check) (a : A) (y : Result B Refusal) (e : Refusal) → decided cs (Ok a) ≡ Err e → decided (cs ++ ds) y ≡ Err e
  after_declined [] ds a y e h = let z : ◌≡◌ {A = ℕ} 0 1 = cc in absurd (omega arith)
  after_declined (c ∷ cs) ds a y e h = declined_step c.0 c.1 e (decided cs (Ok a)) (decided (cs ++ ds) y) (after_declined cs ds a y e) h

  pub after_passed : (cs ds : List Check) (a b : A) (y : Result B Refusal) → decided cs (Ok a) ≡ Ok b → decided (cs ++ ds) y ≡ decided ds y
  after_passed [] ds a b y h = refl
  after_passed (c ∷ cs) ds a b y h = passed_step c.0 c.1 (decided cs (Ok a)) b (decided (cs ++ ds) y) (decided ds y) (after_passed cs ds a b y) h

-- what passed the checks was the answer
pub passed_same : {A : Type 0} (cs : List Check) (a b : A) → decided cs (Ok a) ≡ Ok b → a ≡ b
passed_same cs a b h = let e = passed_too cs a b (Ok a) h in cc

-- a bundle of the right length passes
pub bundle_passes : {A : Type 0} (n l : ℕ) (y : Result A Refusal) → l ≡ 16 + 2 * n → y ≡ decided (bundle_checks n l) y
bundle_passes n l y e = sym (ap (λ (t : Bool). cond (not t) (Err WrongKeyLength) y) (eq-eqb l (16 + 2 * n) e))

-- an opened message that is genuine passes what opening with proof checks behind other checks, and another is declined
module _ (cs : List Check) (m : List ℕ) (y : Result ℕ Refusal) (passed : decided {A = ℕ} cs (Ok 0) ≡ Ok 0) where
  pub proof_passes : genuine m ≡ true → y ≡ decided (cs ++ proof_checks m) y
  proof_passes e = sym (after_passed cs (proof_checks m) 0 0 y passed ∙ ap (λ (t : Bool). cond (not t) (Err NotGenuine) y) e)

  pub proof_declines : genuine m ≡ false → Err NotGenuine ≡ decided (cs ++ proof_checks m) y
  proof_declines e = sym (after_passed cs (proof_checks m) 0 0 y passed ∙ ap (λ (t : Bool). cond (not t) (Err NotGenuine) y) e)
