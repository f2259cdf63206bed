-- The fault of a connection that a message's fault is: own profile.
use Rattle.std.specs.Prelude.{Option, Some, None}
use Rattle.giop_messages.specs.declared.message_fault.MessageFault.{MessageFault}
use Rattle.giop_messages.specs.declared.message_fault.MessageFault.TheVariants as faults
use Rattle.giop_messages.specs.declared.refused.Fault.{Fault}
use Rattle.giop_messages.specs.declared.refused.Fault.TheVariants.{Message, BadTarget, BadStatus}

-- the cause without its place; out of memory is no fault of a message
abbrev pub cause_of : MessageFault → Option Fault
cause_of (faults.Cdr f) = Some (Message f.cause)
cause_of (faults.BadTarget place) = Some BadTarget
cause_of (faults.BadStatus place) = Some BadStatus
cause_of faults.NoMemory = None
