-- How a call of the program ends.
use Rattle.std.specs.Prelude.{Err, Ok, Result, ℕ}
use Rattle.wh_base.specs.declared.statements.BadScript.{BadScript}
use Rattle.wh_base.specs.declared.statements.ScriptKind.{ScriptKind}
use Rattle.wh_top.specs.declared.input.InputFault.{InputFault}
use Rattle.wh_top.specs.declared.input.InputFault.TheVariants as faults
use Rattle.wh_top.specs.declared.top.Status.{Status}
use Rattle.wh_top.specs.declared.top.Status.TheVariants as statuses

-- what is known of the line and the kind where the bytes are no script
abbrev pub IfBadScript : Status → (ℕ → ScriptKind → Type 0) → Type 0
IfBadScript (statuses.BadScript line kind) P = P line kind
IfBadScript statuses.Done P = Unit {0}
IfBadScript statuses.NoMemory P = Unit {0}
IfBadScript statuses.BadWords P = Unit {0}
IfBadScript statuses.ReadFault P = Unit {0}
IfBadScript statuses.WriteFault P = Unit {0}
IfBadScript statuses.TooLong P = Unit {0}

-- what is known of the fault where there is no script because of the bytes
abbrev pub IfBad : {X : Type 0} → Result X InputFault → (BadScript → Type 0) → Type 0
IfBad (Ok x) P = Unit {0}
IfBad (Err faults.Memory) P = Unit {0}
IfBad (Err faults.Failed) P = Unit {0}
IfBad (Err faults.TooLong) P = Unit {0}
IfBad (Err (faults.Bad b)) P = P b

-- all bytes were read, and they were found to be a script or none
abbrev pub IsOfBytes : Status → Type 0
IsOfBytes statuses.Done = Unit {0}
IsOfBytes statuses.WriteFault = Unit {0}
IsOfBytes (statuses.BadScript line kind) = Unit {0}
IsOfBytes statuses.NoMemory = ⊥
IsOfBytes statuses.BadWords = ⊥
IsOfBytes statuses.ReadFault = ⊥
IsOfBytes statuses.TooLong = ⊥

-- nothing is written
abbrev pub IsSilent : Status → Type 0
IsSilent statuses.Done = ⊥
IsSilent statuses.WriteFault = ⊥
IsSilent statuses.NoMemory = Unit {0}
IsSilent statuses.BadWords = Unit {0}
IsSilent statuses.ReadFault = Unit {0}
IsSilent (statuses.BadScript line kind) = Unit {0}
IsSilent statuses.TooLong = Unit {0}

-- all or a part of the output was written
abbrev pub IsWritten : Status → Type 0
IsWritten statuses.Done = Unit {0}
IsWritten statuses.WriteFault = Unit {0}
IsWritten statuses.NoMemory = ⊥
IsWritten statuses.BadWords = ⊥
IsWritten statuses.ReadFault = ⊥
IsWritten (statuses.BadScript line kind) = ⊥
IsWritten statuses.TooLong = ⊥

-- no row was read
abbrev pub IsUnread : Status → Type 0
IsUnread statuses.BadWords = Unit {0}
IsUnread statuses.ReadFault = Unit {0}
IsUnread statuses.TooLong = Unit {0}
IsUnread (statuses.BadScript line kind) = Unit {0}
IsUnread statuses.Done = ⊥
IsUnread statuses.WriteFault = ⊥
IsUnread statuses.NoMemory = ⊥

-- the source is at fault
abbrev pub IsOfSource : Status → Type 0
IsOfSource statuses.ReadFault = Unit {0}
IsOfSource statuses.TooLong = Unit {0}
IsOfSource (statuses.BadScript line kind) = Unit {0}
IsOfSource statuses.Done = ⊥
IsOfSource statuses.WriteFault = ⊥
IsOfSource statuses.NoMemory = ⊥
IsOfSource statuses.BadWords = ⊥

-- nothing was begun
abbrev pub IsUnbegun : Status → Type 0
IsUnbegun statuses.BadWords = Unit {0}
IsUnbegun statuses.NoMemory = Unit {0}
IsUnbegun statuses.Done = ⊥
IsUnbegun statuses.WriteFault = ⊥
IsUnbegun statuses.ReadFault = ⊥
IsUnbegun (statuses.BadScript line kind) = ⊥
IsUnbegun statuses.TooLong = ⊥

-- the words were those of a form
abbrev pub IsBegun : Status → Type 0
IsBegun statuses.BadWords = ⊥
IsBegun statuses.Done = Unit {0}
IsBegun statuses.WriteFault = Unit {0}
IsBegun statuses.NoMemory = Unit {0}
IsBegun statuses.ReadFault = Unit {0}
IsBegun (statuses.BadScript line kind) = Unit {0}
IsBegun statuses.TooLong = Unit {0}

-- how `gen` may end, which has no source
abbrev pub IsOfGen : Status → Type 0
IsOfGen statuses.Done = Unit {0}
IsOfGen statuses.WriteFault = Unit {0}
IsOfGen statuses.NoMemory = Unit {0}
IsOfGen statuses.BadWords = ⊥
IsOfGen statuses.ReadFault = ⊥
IsOfGen (statuses.BadScript line kind) = ⊥
IsOfGen statuses.TooLong = ⊥
