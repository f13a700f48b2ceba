-- What a device of either kind means.
use Rattle.std.specs.Prelude.{ℕ, List}
use Rattle.devices.specs.Slots.{Slot, Shape}
use Rattle.tray.specs.Meaning as tray
use Rattle.chain.specs.Meaning as chain
use Rattle.commands.specs.declared.device.Device.{Device}
use Rattle.commands.specs.declared.device.Device.TheVariants.{Tray, Chain}

-- the bytes of its memory
abbrev pub memory_of : Device → List ℕ
memory_of (Tray t) = tray.memory_of t
memory_of (Chain c) = chain.memory_of c

-- its slots, its longest row and what rows cost
abbrev pub shape_of : Device → Shape
shape_of (Tray t) = tray.shape_of t
shape_of (Chain c) = chain.shape_of c

-- what each slot holds
abbrev pub held_in : Device → List Slot
held_in (Tray t) = tray.held_in t
held_in (Chain c) = chain.held_in c
