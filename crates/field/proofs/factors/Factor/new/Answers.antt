use Rattle.std.proofs.Common.{◌≡◌, ℕ, sym, ap, ◌∙◌, subst, arith}
use Rattle.field.specs.Field.{field_product}
use Rattle.field.specs.Factors.{Multiples, factor_of}
use Rattle.field.proofs.Products.{laws}
use Rattle.field.proofs.factors.Factor.new.Goals as goal

pub invariant_of-result : goal.invariant_of-result
invariant_of-result c =
    let low = c.multiples_of-low.ensures in
    let one : factor_of c.multiples_of-low.result ≡ c.args.a = low.2 1 (omega arith) ∙ laws.ring.one c.args.a low.1 in (
      subst (λ (a : ℕ). Multiples a c.multiples_of-low.result) (sym one) low,
      subst (λ (a : ℕ). Multiples a c.multiples_of-high.result) (c.four_up.ensures ∙ ap (field_product 16) (sym one)) c.multiples_of-high.ensures,
    )

pub returns : goal.returns
returns c = c.multiples_of-low.ensures.2 1 (omega arith) ∙ laws.ring.one c.args.a c.multiples_of-low.ensures.1
