use Rattle.std.proofs.Common.{rules}
use Rattle.tray.proofs.Putting.{zeros_ready, zeros_held}
use Rattle.tray.proofs.Tray.set_out.Goals as goal

pub returns-clause-ready : goal.returns-clause-ready
returns-clause-ready c = zeros_ready c.args.layout.slots c.args.layout.longest _ _ c.wipe.ensures (search rules)

pub returns-clause-empty : goal.returns-clause-empty
returns-clause-empty c = let d = c.fits.ensures.dims (search rules) in zeros_held c.args.layout.slots c.args.layout.longest _ _ c.wipe.ensures d.4
