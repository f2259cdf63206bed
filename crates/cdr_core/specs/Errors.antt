-- Errors of readings for which memory may be wanting.
use Rattle.std.specs.Prelude.{Option, Some, None}
use Rattle.cdr_core.specs.declared.fault.CdrFault.{CdrFault}
use Rattle.cdr_core.specs.declared.fault.CdrError.{CdrError}
use Rattle.cdr_core.specs.declared.fault.CdrError.TheVariants.{Refused, NoMemory}

-- the fault of an error, and None when out of memory
abbrev pub fault_of : CdrError → Option CdrFault
fault_of (Refused fault) = Some fault
fault_of NoMemory = None
