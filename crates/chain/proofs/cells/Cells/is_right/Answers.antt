use Rattle.std.proofs.Common.{◌≡◌, ◌+◌, ◌-◌, length, get_or, take, drop, sym, ap, ◌∙◌, ⊎_elim, arith}
use Rattle.std.proofs.lemmas.Bool.{false≢true}
use Rattle.std.proofs.lemmas.List.{take_all, length-drop}
use Rattle.base.proofs.Zeros.{are_zeros, zeros_all}
use Rattle.chain.specs.Cells.{cell, next_of, used_of}
use Rattle.chain.proofs.Checks.{right_zero, zero_right}
use Rattle.chain.proofs.cells.Cells.is_right.Goals as goal

pub returns-then-n-lt1 : goal.returns-then-n-lt1
returns-then-n-lt1 c =
    let u = ap (λ t. get_or t 1 0) c.cell-cell.ensures.cell in
    ((λ e. absurd (false≢true e)), λ g. absurd (⊎_elim (λ h. omega (arith, g.least, u, h)) (λ h. omega (arith, g.most, u, h.1)) c.then-n-lt1.either))

pub returns-then-n-ne30 : goal.returns-then-n-ne30
returns-then-n-ne30 c =
    let x = c.cell-cell.ensures.cell in
    ((λ e. absurd (false≢true e)), λ g. absurd (c.if-n-ne30.true (ap (λ t. get_or t 1 0) x ∙ g.full (λ z. c.if-cell-ne0.true (ap (λ t. get_or t 0 0) x ∙ z)))))

pub returns : goal.returns
returns c =
    let s = c.args.self.now in
    let b = s.bytes.now in
    let k = c.args.k in
    let n = get_or c.cell-cell.result.now 1 0 in
    let x = c.cell-cell.ensures.cell in
    let u : n ≡ used_of b k = ap (λ t. get_or t 1 0) x in
    let f : (next_of b k ≡ 0 → ⊥) → used_of b k ≡ 30 = λ ne. ⊎_elim (λ h. sym u ∙ h.1) (λ h. absurd (ne (sym (ap (λ t. get_or t 0 0) x) ∙ h))) c.else-cell-ne0.either in
    let r = c.cell-cell.result.now in
    let p : take (length r - (2 + n)) (drop (2 + n) r) ≡ drop (2 + n) (cell b k) = take_all (length r - (2 + n)) (drop (2 + n) r) (omega (arith, length-drop (2 + n) r)) ∙ ap (drop (2 + n)) x in (
      (λ e. let z = sym c.all_zero.ensures ∙ e in right_zero s.count b k n s.size (omega arith) (omega arith) u (omega arith) (omega arith) f (are_zeros (drop (2 + n) (cell b k)) (rw p at z))),
      λ g. c.all_zero.ensures ∙ rw p (zeros_all (drop (2 + n) (cell b k)) (zero_right s.count b k n s.size (omega arith) (omega arith) u (omega arith) g)),
    )
