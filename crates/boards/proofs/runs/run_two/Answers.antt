use Rattle.std.proofs.Common.{arith}
use Rattle.boards.specs.Modes.{mode_kind}
use Rattle.boards.proofs.ModeFacts.{CipherFacts, opens_sealed, seals_opened}
use Rattle.boards.proofs.Alike.{turn_alike}
use Rattle.boards.proofs.TwoScreens.{agreement}
use Rattle.boards.proofs.runs.run_two.Goals as goal

pub returns : goal.returns
returns g c =
    let C = g.C.BlockCipher in
    let E = g.E.BlockCipher in
    let M = g.met.C.BlockCipher in
    let N = g.met.E.BlockCipher in
    let L : CipherFacts C = record { mode = c.mode_laws.ensures.laws; keyed = M.keyed; undone = M.undone; redone = M.redone; ahead = M.ahead; behind = M.behind } in
    let L' : CipherFacts E = record { mode = c.mode_laws.ensures.laws; keyed = N.keyed; undone = N.undone; redone = N.redone; ahead = N.ahead; behind = N.behind } in
    record {
      first = c.run-a.ensures;
      second = c.run-b.ensures;
      agreement = λ bundle label shared alike.
          agreement (mode_kind C) (mode_kind E) g.D.SlotDevice g.F.SlotDevice c.args.one c.args.two c.args.first.now c.run-a.new.list c.args.second.now c.run-b.new.list c.run-a.result c.run-b.result bundle label
          (omega arith) (omega arith) (omega arith) (omega arith) (opens_sealed C L) (opens_sealed E L') (seals_opened C L) (seals_opened E L') c.run-a.ensures c.run-b.ensures shared (turn_alike C E L bundle label alike);
    }
