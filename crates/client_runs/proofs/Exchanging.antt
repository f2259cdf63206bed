-- A call over a connection, by what it came to.
use Rattle.std.proofs.Common.{◌≡◌, true, None}
use Rattle.orb_base.specs.Outside.{SourceState, SinkState}
use Rattle.heard_messages.specs.declared.read_end.TheConstants.{MAX_TAKEN}
use Rattle.text_streams.specs.Streams.{GaveFew}
use Rattle.client_stub.specs.Asking.{Asked}
use Rattle.client_calls.specs.Calls.{IfWhole, IfBrokenOff, Exchanged, SentPrefix, CountsReads, CountsWrites}
use Rattle.client_calls.specs.Replies.{Outcome}
use Rattle.client_runs.specs.Exchanges.{CallsOnce, TellsOf}
use Rattle.client_runs.specs.declared.call_end.CallEnd.{CallEnd}

-- the call, and what was told of it
pub called_once : (end : CallEnd) (outcome : Outcome) (asked : Asked) (source source' : SourceState) (sink sink' out out' : SinkState)
    → IfWhole outcome (Exchanged outcome asked source source' sink sink') → IfBrokenOff outcome (SentPrefix asked source source' sink sink')
    → CountsReads outcome source source' → CountsWrites outcome sink sink' → GaveFew MAX_TAKEN source source'
    → (asked.operation.oneway ≡ true → asked.band ≡ None → source' ≡ source) → TellsOf end outcome asked.operation out out'
    → CallsOnce end asked source source' sink sink' out out'
called_once end outcome asked source source' sink sink' out out' exchange prefix reads writes few unread tells = record {
  outcome = outcome;
  calls = record { exchange = exchange; prefix = prefix; read_fault = reads; write_fault = writes; few = few; unread = unread };
  tells = tells;
}
