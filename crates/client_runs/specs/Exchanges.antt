-- A call over a connection, and the line of its results.
use Rattle.std.specs.Prelude.{◌≡◌, Ok, Err}
use Rattle.orb_base.specs.Outside.{SourceState, SinkState}
use Rattle.idl_types.specs.Things.{OperationView}
use Rattle.client_stub.specs.Asking.{Asked}
use Rattle.client_calls.specs.Calls.{Calls}
use Rattle.client_calls.specs.Replies.{Outcome}
use Rattle.client_runs.specs.Lines.{line_of, WritesLine}
use Rattle.client_runs.specs.declared.call_end.CallEnd.{CallEnd}
use Rattle.client_runs.specs.declared.call_end.CallEnd.TheVariants.{Called}

-- what becomes of what a call comes to: the line of its results; without results nothing is written
abbrev pub TellsOf : CallEnd → Outcome → OperationView → SinkState → SinkState → Type 0
TellsOf end (Ok values) operation out out' = WritesLine end (line_of operation values) out out'
TellsOf end (Err fault) operation out out' = (end ≡ Called fault) × (out' ≡ out)

-- the call came to something over a source and a sink, as its exchange says, and that was told
pub record CallsOnce (end : CallEnd) (asked : Asked) (source source' : SourceState) (sink sink' : SinkState)
    (out out' : SinkState) : Type 0 where
  pub outcome : Outcome
  pub calls : Calls outcome asked source source' sink sink'
  pub tells : TellsOf end outcome asked.operation out out'
