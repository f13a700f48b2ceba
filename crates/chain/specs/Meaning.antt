-- What a chain means as a device.
use Rattle.std.specs.Prelude.{ℕ, List}
use Rattle.chain.specs.declared.Chain.{Chain}
use Rattle.devices.specs.Slots.{Slot, Shape}
use Rattle.chain.specs.Lent.{bytes_of, memory_shape, memory_holds}

-- the bytes of its memory
abbrev pub memory_of : Chain → List ℕ
memory_of t = bytes_of t.memory

-- its slots, its longest row and its cells, of which each unit of a row takes one
abbrev pub shape_of : Chain → Shape
shape_of t = memory_shape t.memory

-- what each slot holds
abbrev pub held_in : Chain → List Slot
held_in t = memory_holds t.memory
