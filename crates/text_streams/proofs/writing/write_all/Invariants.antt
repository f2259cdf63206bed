use Rattle.std.proofs.Common.{◌≡◌, length}
use Rattle.text_streams.specs.Streams.{WroteSome}
use Rattle.text_streams.proofs.writing.write_all.Given as goal

abbrev pub invariant-loop-rest : goal.invariant-loop-rest
invariant-loop-rest g l = record {
  wrote : WroteSome l.bytes l.rest (g.O.Sink.state l.fn.sink) (g.O.Sink.state l.sink);
  faults : (g.O.Sink.state l.sink).faults ≡ (g.O.Sink.state l.fn.sink).faults;
}

abbrev pub decreases-loop-rest : goal.decreases-loop-rest
decreases-loop-rest g l = length l.rest
