-- How long the memory of a device is, and when a device can be attached to memory.
use Rattle.std.specs.Prelude.{◌≡◌, ℕ, ◌+◌, ◌*◌, cond, ◌||◌, List, Err, nat_lt}
use Rattle.devices.specs.Slots.{Slot, Shape}
use Rattle.devices.specs.Answers.{Answer}
use Rattle.tray.specs.Layout.{TrayReady, tray_shape, tray_held, tray_set_out_answer, tray_check_answer}
use Rattle.chain.specs.Memory as chain
use Rattle.text.specs.declared.fault.Fault.{Fault}
use Rattle.text.specs.declared.fault.Fault.TheVariants.{Line, Declined, Memory}
use Rattle.commands.specs.declared.layout.Layout.{Layout}
use Rattle.commands.specs.declared.layout.Layout.TheVariants.{Tray, Chain}

-- a tray has two bytes and the longest row for each slot, a chain one byte for each slot and 32 for each cell;
-- 0 for dimensions that no device has
abbrev pub size_of : Layout → ℕ
size_of (Tray l) = cond (nat_lt 64 l.slots || nat_lt 1000 l.longest) 0 (l.slots * (2 + l.longest))
size_of (Chain l) = cond (nat_lt 64 l.slots || nat_lt 255 l.cells) 0 (l.slots + 32 * l.cells)

-- how many slots there are
abbrev pub slots_of : Layout → ℕ
slots_of (Tray l) = l.slots
slots_of (Chain l) = l.slots

-- what setting out a device in n bytes answers
abbrev pub set_out_answer : Layout → ℕ → Answer
set_out_answer (Tray l) n = tray_set_out_answer l.slots l.longest n
set_out_answer (Chain l) n = chain.set_out_answer l.slots l.longest l.cells n

-- why new memory could not be had with a device in it: no device has these dimensions, or memory ran out
abbrev pub NotSetOut : Layout → Fault → Type 0
NotSetOut l (Line wrong) = ⊥
NotSetOut l (Declined why) = set_out_answer l (size_of l) ≡ Err why
NotSetOut l Memory = Unit {0}

-- what a check of memory answers
abbrev pub CheckAnswer : Layout → List ℕ → Answer → Type 0
CheckAnswer (Tray l) memory answer = answer ≡ tray_check_answer l.slots l.longest memory
CheckAnswer (Chain l) memory answer = chain.CheckAnswer l.slots l.longest l.cells memory answer

-- memory that can be attached
abbrev pub Ready : Layout → List ℕ → Type 0
Ready (Tray l) memory = TrayReady l.slots l.longest memory
Ready (Chain l) memory = chain.Attachable l.slots l.longest l.cells memory

-- the shape of the device
abbrev pub shape_by : Layout → Shape
shape_by (Tray l) = tray_shape l.slots l.longest
shape_by (Chain l) = chain.chain_shape l.slots l.longest l.cells

-- what each slot holds
abbrev pub held_by : Layout → List ℕ → List Slot
held_by (Tray l) memory = tray_held l.slots l.longest memory
held_by (Chain l) memory = chain.chain_held l.slots l.cells memory
