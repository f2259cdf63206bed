use Rattle.std.proofs.Common.{◌≡◌, ◌++◌, string_bytes}
use Rattle.trace_picture.specs.Grounds.{each, number_text}
use Rattle.trace_picture.proofs.layout.Layout.add_numbers.Given as goal

abbrev pub invariant-loop-i : goal.invariant-loop-i
invariant-loop-i l = string_bytes l.text ≡ string_bytes l.fn.text ++ each (number_text l.self) l.i
