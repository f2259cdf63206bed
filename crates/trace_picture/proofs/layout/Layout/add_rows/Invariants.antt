use Rattle.std.proofs.Common.{◌≡◌, ◌++◌, string_bytes}
use Rattle.trace_picture.specs.Grounds.{each, row_text}
use Rattle.trace_picture.proofs.layout.Layout.add_rows.Given as goal

abbrev pub invariant-loop-thread : goal.invariant-loop-thread
invariant-loop-thread l = string_bytes l.text ≡ string_bytes l.fn.text ++ each (row_text l.self) l.thread
