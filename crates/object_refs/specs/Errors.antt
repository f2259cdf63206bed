-- Errors of readings of the Common Data Representation, told of references.
use Rattle.cdr_core.specs.declared.fault.CdrError.{CdrError}
use Rattle.cdr_core.specs.declared.fault.CdrError.TheVariants as cdr
use Rattle.object_refs.specs.declared.fault.RefError.{RefError}
use Rattle.object_refs.specs.declared.fault.RefError.TheVariants.{Refused, NoMemory}
use Rattle.object_refs.specs.Reading.{cdr_fault}

-- a fault is given as that fault, and out of memory as such
abbrev pub ref_error : CdrError → RefError
ref_error (cdr.Refused f) = Refused (cdr_fault f)
ref_error cdr.NoMemory = NoMemory
