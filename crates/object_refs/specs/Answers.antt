-- What a call answers, against the reading that it does.
use Rattle.std.specs.Prelude.{Option, Some, None, Result}
use Rattle.cdr_core.specs.Answers as Cdr
use Rattle.object_refs.specs.declared.fault.RefError.{RefError}
use Rattle.object_refs.specs.declared.fault.RefError.TheVariants.{Refused, NoMemory}
use Rattle.object_refs.specs.declared.fault.RefFault.{RefFault}
use Rattle.object_refs.specs.Reading.{Read}

-- the fault of an error, and None when out of memory
abbrev pub fault_of : RefError → Option RefFault
fault_of (Refused fault) = Some fault
fault_of NoMemory = None

-- the fault of the reading, unless memory was wanting
abbrev pub Fails : {Y : Type 0} → RefError → Read Y → Type 0
Fails e reading = Cdr.FailsWith (fault_of e) reading

-- what a call answers, seen by the view, is what the reading gives, unless memory was wanting
abbrev pub Answers : {X Y : Type 0} → (X → Y) → Result X RefError → Read Y → Type 0
Answers = Cdr.Answers fault_of
