use Rattle.std.proofs.Common.{◌≡◌, ◌+◌, ◌*◌, false, length, sym, refl, ap, ◌∙◌}
use Rattle.base.specs.Bytes.{zeros}
use Rattle.base.proofs.Strings.{zeros_long}
use Rattle.chain.specs.Memory.{wrong_dimensions}
use Rattle.chain.proofs.Empty.{right_dimensions, zero_formed, zero_held}
use Rattle.chain.proofs.Chain.set_out.Goals as goal

pub returns : goal.returns
returns c =
    let s = c.args.layout.slots in
    let m = c.args.layout.longest in
    let k = c.args.layout.cells in
    let n = length c.args.memory.now in
    let w : wrong_dimensions s m k n ≡ false = sym c.is_wrong.ensures ∙ c.if-is_wrong.false in
    let d = right_dimensions s m k n w in
    let z : c.wipe.new.s ≡ zeros n = c.wipe.ensures in
    let e : c.wipe.new.s ≡ zeros (s + 32 * k) = z ∙ ap zeros d.2 in
    let l : length c.wipe.new.s ≡ n = ap (λ t. length t) z ∙ zeros_long n in
    record {
      answer = rw w refl;
      memory = z;
      attachable = λ _. record { dimensions = ap (wrong_dimensions s m k) l ∙ w; formed = zero_formed s m k c.wipe.new.s e };
      empty = λ _. zero_held s m k c.wipe.new.s e;
    }
