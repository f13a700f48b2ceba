use Rattle.std.proofs.Common.{◌≡◌, rules}
use Rattle.base.specs.Bytes.{zeros}
use Rattle.chain.proofs.Bytes.{put_part}
use Rattle.chain.proofs.cells.Loan.clean_cell.Goals as goal

pub returns : goal.returns
returns c =
    let z : c.fill.new.self ≡ zeros 32 = search rules in
    put_part c.args.at 32 c.args.self.now.bytes.now _ _ z
