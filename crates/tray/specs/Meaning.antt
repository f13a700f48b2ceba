-- What a tray means as a device.
use Rattle.std.specs.Prelude.{ℕ, List}
use Rattle.tray.specs.declared.Tray.{Tray}
use Rattle.devices.specs.Slots.{Slot, Shape}
use Rattle.tray.specs.Layout.{tray_shape, tray_held}

-- the bytes of its memory
abbrev pub memory_of : Tray → List ℕ
memory_of t = t.memory.bytes.now

-- its slots and its longest row; no row costs units
abbrev pub shape_of : Tray → Shape
shape_of t = tray_shape t.layout.slots t.layout.longest

-- what each slot holds
abbrev pub held_in : Tray → List Slot
held_in t = tray_held t.layout.slots t.layout.longest (memory_of t)
