-- What a call answers, against the reading that it does.
use Rattle.std.specs.Prelude.{Option, Some, None, Result}
use Rattle.cdr_core.specs.declared.fault.CdrError.{CdrError}
use Rattle.cdr_core.specs.declared.fault.CdrError.TheVariants as cdr
use Rattle.cdr_core.specs.Answers as Cdr
use Rattle.cdr_core.specs.Cursor.{Cursor}
use Rattle.cdr_core.specs.Sequence.{Parsed}
use Rattle.giop_messages.specs.declared.message_fault.MessageFault.{MessageFault}
use Rattle.giop_messages.specs.declared.message_fault.MessageFault.TheVariants as faults

-- an error of the Common Data Representation, told of a message
abbrev pub message_error : CdrError → MessageFault
message_error (cdr.Refused f) = faults.Cdr f
message_error cdr.NoMemory = faults.NoMemory

-- the fault itself, and None when out of memory
abbrev pub fault_of : MessageFault → Option MessageFault
fault_of (faults.Cdr f) = Some (faults.Cdr f)
fault_of (faults.BadTarget place) = Some (faults.BadTarget place)
fault_of (faults.BadStatus place) = Some (faults.BadStatus place)
fault_of faults.NoMemory = None

-- the fault of the reading, unless memory was wanting
abbrev pub Fails : {Y : Type 0} → MessageFault → Result Y MessageFault → Type 0
Fails e reading = Cdr.FailsWith (fault_of e) reading

-- what a call answers, seen by the view, and the cursor after it are what the reading gives, unless memory was wanting
abbrev pub Gives : {X Y : Type 0} → (X → Y) → Result X MessageFault → Cursor → Parsed MessageFault Y → Type 0
Gives = Cdr.Gives fault_of

-- the same without a cursor
abbrev pub Answers : {X Y : Type 0} → (X → Y) → Result X MessageFault → Result Y MessageFault → Type 0
Answers = Cdr.Answers fault_of

-- the same of a call that takes no memory: whatever it tells is the fault of the reading
abbrev pub Finds : {X Y : Type 0} → (X → Y) → Result X MessageFault → Cursor → Parsed MessageFault Y → Type 0
Finds = Cdr.Gives Some

-- the same without a cursor
abbrev pub Means : {X Y : Type 0} → (X → Y) → Result X MessageFault → Result Y MessageFault → Type 0
Means = Cdr.Answers Some
