use Rattle.std.proofs.Common.{◌≡◌, ℕ, ◌+◌, ◌-◌, ◌*◌, ◌/◌, ◌%◌, ◌^◌, ◌<◌, mod-lt, arith, rules}
use Rattle.field.proofs.Places.{groups_none, groups_more, groups_all}
use Rattle.field.proofs.factors.Factor.times.Goals as goal

pub loop-i-init : goal.loop-i-init
loop-i-init c = let ha : c.args.self.now < 2 ^ 128 = search rules in groups_none c.args.b c.args.self.now (search rules) ha

pub loop-i-preserved : goal.loop-i-preserved
loop-i-preserved c =
    let b : ℕ = c.args.b in
    let a : ℕ = c.args.self.now in
    let k : ℕ = c.loop-i.i - 1 in
    let e : c.loop-i.i ≡ k + 1 = omega arith in
    let g : ℕ = b / 2 ^ (8 * k) % 256 in
    let hg : g < 256 = mod-lt (b / 2 ^ (8 * k)) (omega arith) in
    let high = c.self.invariant.1.2 (g / 16) (omega (arith, hg)) in
    let low = c.self.invariant.0.2 (g % 16) (mod-lt g (omega arith)) in
    let more = groups_more b a k (search rules) (search rules) in
    cc

pub returns : goal.returns
returns c =
    let ha : c.args.self.now < 2 ^ 128 = search rules in
    let e : c.loop-i.i ≡ 0 = omega arith in record {
      product = let all = groups_all c.args.b c.args.self.now (search rules) ha in cc;
      element = ha;
    }
