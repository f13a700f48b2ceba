-- The number and the name that each refusal is reported by, and how a call's checks decide.
use Rattle.std.specs.Prelude.{ℕ, Bool, cond, List, [], ◌∷◌, Err, codes, Result}
use Rattle.base.specs.declared.refusals.Refusal.{Refusal}
use Rattle.base.specs.declared.refusals.Refusal.TheVariants.{BadDimensions, MalformedMemory, WrongKeyLength, ContextTooLong, NoSuchSlot, WrongLength, EmptySlot, BufferTooShort, NoRoom, NotGenuine}

-- the number of a refusal
abbrev pub number_of : Refusal → ℕ
number_of BadDimensions = 1
number_of MalformedMemory = 2
number_of WrongKeyLength = 3
number_of ContextTooLong = 4
number_of NoSuchSlot = 5
number_of WrongLength = 6
number_of EmptySlot = 7
number_of BufferTooShort = 8
number_of NoRoom = 9
number_of NotGenuine = 10

-- its name, spelled out
abbrev pub name_of : Refusal → List ℕ
name_of BadDimensions = codes "BadDimensions"
name_of MalformedMemory = codes "MalformedMemory"
name_of WrongKeyLength = codes "WrongKeyLength"
name_of ContextTooLong = codes "ContextTooLong"
name_of NoSuchSlot = codes "NoSuchSlot"
name_of WrongLength = codes "WrongLength"
name_of EmptySlot = codes "EmptySlot"
name_of BufferTooShort = codes "BufferTooShort"
name_of NoRoom = codes "NoRoom"
name_of NotGenuine = codes "NotGenuine"

-- a check: whether it hits, and the refusal that it then gives
abbrev pub Check : Type 0
Check = Bool × Refusal

-- the checks run in their order, the first that hits decides, and where none does the answer is given
abbrev pub decided : {A : Type 0} → List Check → Result A Refusal → Result A Refusal
decided [] answer = answer
decided (c ∷ checks) answer = cond c.0 (Err c.1) (decided checks answer)
