-- Trusted: The kinds of tasks at an archive: which have an input, which change the archive, and which are a driver's own.
use Rattle.std.specs.Prelude.{Bool, true, false}
use Rattle.tacho_desk.specs.declared.want.Want.{Want}
use Rattle.tacho_desk.specs.declared.want.Want.TheVariants.{Ahead, Base, Drivers, Enter, File, Form, Handover, Import, Key, MonthReading, Name, Reading, Register, Version, Withdraw}

-- the task has an input: a text of CSV, a card file, a key or a name
abbrev pub takes_input : Want → Bool
takes_input Register = true
takes_input Import = true
takes_input Enter = true
takes_input Key = true
takes_input Name = true
takes_input want = false

-- the task is a command, which changes the archive
abbrev pub is_command : Want → Bool
is_command Register = true
is_command Import = true
is_command Enter = true
is_command Withdraw = true
is_command Base = true
is_command Key = true
is_command Name = true
is_command want = false

-- a driver's own tasks are the import of their card, readings about them, what is listed of them, and the version
abbrev pub is_own : Want → Bool
is_own Import = true
is_own (Reading text) = true
is_own (MonthReading text) = true
is_own Form = true
is_own File = true
is_own Handover = true
is_own Drivers = true
is_own Version = true
is_own Ahead = true
is_own want = false

-- the task is a forecast, which may go past 2099
abbrev pub looks_ahead : Want → Bool
looks_ahead Ahead = true
looks_ahead want = false
