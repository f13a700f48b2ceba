use Rattle.std.proofs.Common.{sym, ap}
use Rattle.base.specs.Refusals.{name_of}
use Rattle.base.proofs.refusals.Refusal.name.Goals as goal

pub returns-in-BadDimensions : goal.returns-in-BadDimensions
returns-in-BadDimensions c = sym (ap name_of c.in-BadDimensions.is)

pub returns-in-MalformedMemory : goal.returns-in-MalformedMemory
returns-in-MalformedMemory c = sym (ap name_of c.in-MalformedMemory.is)

pub returns-in-WrongKeyLength : goal.returns-in-WrongKeyLength
returns-in-WrongKeyLength c = sym (ap name_of c.in-WrongKeyLength.is)

pub returns-in-ContextTooLong : goal.returns-in-ContextTooLong
returns-in-ContextTooLong c = sym (ap name_of c.in-ContextTooLong.is)

pub returns-in-NoSuchSlot : goal.returns-in-NoSuchSlot
returns-in-NoSuchSlot c = sym (ap name_of c.in-NoSuchSlot.is)

pub returns-in-WrongLength : goal.returns-in-WrongLength
returns-in-WrongLength c = sym (ap name_of c.in-WrongLength.is)

pub returns-in-EmptySlot : goal.returns-in-EmptySlot
returns-in-EmptySlot c = sym (ap name_of c.in-EmptySlot.is)

pub returns-in-BufferTooShort : goal.returns-in-BufferTooShort
returns-in-BufferTooShort c = sym (ap name_of c.in-BufferTooShort.is)

pub returns-in-NoRoom : goal.returns-in-NoRoom
returns-in-NoRoom c = sym (ap name_of c.in-NoRoom.is)

pub returns-in-NotGenuine : goal.returns-in-NotGenuine
returns-in-NotGenuine c = sym (ap name_of c.in-NotGenuine.is)
