-- The line of a call's results: own profile.
use Rattle.std.specs.Prelude.{◌≡◌, ℕ, List, ◌++◌, codes}
use Rattle.orb_base.specs.Outside.{SinkState, Rose}
use Rattle.cdr_values.specs.Trees.{Value}
use Rattle.idl_types.specs.Things.{OperationView}
use Rattle.value_json.specs.Operations.{kinds_out, results_text}
use Rattle.text_streams.specs.Streams.{WroteText, WroteFrontOf}
use Rattle.client_runs.specs.declared.call_end.CallEnd.{CallEnd}
use Rattle.client_runs.specs.declared.call_end.CallEnd.TheVariants.{Done, WriteFault, NoMemory}

-- a JSON array of the results of an operation, and a line feed
abbrev pub line_of : OperationView → List Value → List ℕ
line_of operation values = results_text (kinds_out operation) values ++ codes "\n"

-- the line was written, or a prefix of it up to a fault; nothing where memory ran out for it
abbrev pub WritesLine : CallEnd → List ℕ → SinkState → SinkState → Type 0
WritesLine Done line out out' = WroteText line out out' × (out'.faults ≡ out.faults)
WritesLine WriteFault line out out' = WroteFrontOf line out out' × Rose out.faults out'.faults
WritesLine NoMemory line out out' = out' ≡ out
WritesLine _ line out out' = ⊥
