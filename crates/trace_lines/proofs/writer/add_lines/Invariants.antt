use Rattle.std.proofs.Common.{◌≡◌, ◌++◌, take, string_bytes}
use Rattle.text_streams.specs.Streams.{WroteSome}
use Rattle.trace_lines.specs.Numbers.{number_in}
use Rattle.trace_lines.specs.Texts.{lines_text}
use Rattle.trace_lines.proofs.writer.add_lines.Given as goal

abbrev pub invariant-loop-entry : goal.invariant-loop-entry
invariant-loop-entry g l = record {
  wrote : WroteSome (string_bytes l.fn.piece ++ lines_text (number_in l.numbering) (take l.entry-index l.history)) (string_bytes l.piece)
      (g.O.Sink.state l.fn.sink) (g.O.Sink.state l.sink);
  faults : (g.O.Sink.state l.sink).faults ≡ (g.O.Sink.state l.fn.sink).faults;
}
