-- What the call of one caller over a shared link comes to: own profile.
use Rattle.std.specs.Prelude.{[], map, List, Ok, Err}
use Rattle.idl_types.specs.Things.{OperationView}
use Rattle.client_calls.specs.Replies.{Outcome, meaning_of}
use Rattle.client_calls.specs.declared.call_fault.CallFault.{CallFault}
use Rattle.client_calls.specs.declared.call_fault.CallFault.TheVariants as fault
use Rattle.client_lines.specs.Awaiting.{answer_of}
use Rattle.client_mux.specs.declared.why.Why.{Why}
use Rattle.client_mux.specs.declared.why.Why.TheVariants as why
use Rattle.mux_sides.specs.declared.calling.CallEnd.{CallEnd}
use Rattle.mux_sides.specs.declared.calling.CallEnd.TheVariants.{Reply, Gone, NoneDue}

-- the fault of a call whose link is lost for this cause
abbrev pub fault_of : Why → CallFault
fault_of why.Closed = fault.Closed
fault_of (why.Refused offset cause) = fault.Refused offset cause
fault_of why.Limit = fault.Limit
fault_of why.ReadFault = fault.ReadFault
fault_of why.WriteFault = fault.WriteFault
fault_of why.NoMemory = fault.NoMemory

-- what a caller's call comes to: what its reply means, as to a single call; or why the link is lost; or nothing, where no reply is due
abbrev pub result_of : OperationView → CallEnd → Outcome
result_of operation (Reply r) = meaning_of operation (answer_of r.order r.reply)
result_of operation (Gone why) = Err (fault_of why)
result_of operation NoneDue = Ok []

-- the same of each caller, in order
abbrev pub results_of : OperationView → List CallEnd → List Outcome
results_of operation ends = map (result_of operation) ends
