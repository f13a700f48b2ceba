-- A device that is left as it was.
use Rattle.std.specs.Prelude.{◌≡◌}
use Rattle.devices.specs.declared.device.SlotDevice.{Ghosts as Device}

-- nothing has changed of what a device's clauses speak of
pub record Unchanged {D : Type 0} (d : Device D) (old new : D) : Type 0 where
  pub fixed : d.fixed new ≡ d.fixed old
  pub shape : d.shape new ≡ d.shape old
  pub held : d.held new ≡ d.held old
  pub kept : d.state new ≡ d.state old
