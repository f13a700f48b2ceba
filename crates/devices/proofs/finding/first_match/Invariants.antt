use Rattle.std.proofs.Common.{◌≡◌, ℕ, ◌<◌, false, get_or, drop}
use Rattle.devices.specs.Slots.{nothing}
use Rattle.devices.specs.Finding.{slot_begins}
use Rattle.devices.specs.Leaving.{Unchanged}
use Rattle.devices.proofs.finding.first_match.Given as goal

abbrev pub invariant-loop-slot : goal.invariant-loop-slot
invariant-loop-slot g l = let m = g.D.SlotDevice in record {
  device : Unchanged m l.initial.device l.device;
  rest : drop (m.shape l.initial.device).longest l.work ≡ drop (m.shape l.initial.device).longest l.initial.work;
  before : (i : ℕ) → i < l.slot → slot_begins l.front (get_or (m.held l.initial.device) i nothing) ≡ false;
}
