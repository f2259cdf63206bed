-- The lines of several callers: own profile.
use Rattle.std.specs.Prelude.{◌≡◌, ℕ, Bool, true, false, List, [], ◌∷◌, ◌++◌, Option, Some, None, Ok, Err}
use Rattle.orb_base.specs.Outside.{SinkState, Rose}
use Rattle.cdr_values.specs.Trees.{Value}
use Rattle.idl_types.specs.Things.{OperationView}
use Rattle.text_streams.specs.Streams.{WroteText, WroteFrontOf}
use Rattle.client_calls.specs.Replies.{Outcome}
use Rattle.client_calls.specs.declared.call_fault.CallFault.{CallFault}
use Rattle.client_calls.specs.declared.call_fault.CallFault.TheVariants as fault
use Rattle.client_runs.specs.Lines.{line_of}
use Rattle.client_runs.specs.declared.call_end.CallEnd.{CallEnd}
use Rattle.client_runs.specs.declared.call_end.CallEnd.TheVariants.{Called, Done, WriteFault, NoMemory}

-- a line for each call, in order, up to the first that gave no results
abbrev pub lines_of : OperationView → List Outcome → List ℕ
lines_of operation [] = []
lines_of operation (Ok values ∷ more) = line_of operation values ++ lines_of operation more
lines_of operation (Err f ∷ more) = []

-- why that call gave none, if there is one
abbrev pub first_fault : List Outcome → Option CallFault
first_fault [] = None
first_fault (Ok values ∷ more) = first_fault more
first_fault (Err f ∷ more) = Some f

-- whether a call failed because memory was out
abbrev pub is_memory : CallFault → Bool
is_memory fault.NoMemory = true
is_memory f = false

-- whether a line was written
abbrev pub is_done : CallEnd → Bool
is_done Done = true
is_done e = false

-- the lines were written, and no call failed, or the first that did has this fault; or a prefix of them was written, up to a failed write
-- or out of memory
abbrev pub WritesLines : CallEnd → OperationView → List Outcome → SinkState → SinkState → Type 0
WritesLines Done operation results out out' =
    (first_fault results ≡ None) × WroteText (lines_of operation results) out out' × (out'.faults ≡ out.faults)
WritesLines (Called f) operation results out out' =
    (first_fault results ≡ Some f) × WroteText (lines_of operation results) out out' × (out'.faults ≡ out.faults)
WritesLines WriteFault operation results out out' = WroteFrontOf (lines_of operation results) out out' × Rose out.faults out'.faults
WritesLines NoMemory operation results out out' = WroteFrontOf (lines_of operation results) out out' × (out'.faults ≡ out.faults)
WritesLines _ operation results out out' = ⊥

-- the line of one call was written, or a prefix of it up to a failed write; or it gave no results, or memory was out: nothing was written
abbrev pub WritesOne : CallEnd → OperationView → Outcome → SinkState → SinkState → Type 0
WritesOne Done operation outcome out out' =
    (values : List Value) × (outcome ≡ Ok values) × WroteText (line_of operation values) out out' × (out'.faults ≡ out.faults)
WritesOne WriteFault operation outcome out out' =
    (values : List Value) × (outcome ≡ Ok values) × WroteFrontOf (line_of operation values) out out' × Rose out.faults out'.faults
WritesOne NoMemory operation outcome out out' = out' ≡ out
WritesOne (Called f) operation outcome out out' = (outcome ≡ Err f) × (out' ≡ out)
WritesOne _ operation outcome out out' = ⊥
