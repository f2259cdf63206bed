use Rattle.std.proofs.Common.{◌≡◌, ◌++◌, string_bytes}
use Rattle.trace_picture.specs.Grounds.{each, strip_text}
use Rattle.trace_picture.proofs.layout.Layout.add_strips.Given as goal

abbrev pub invariant-loop-lane : goal.invariant-loop-lane
invariant-loop-lane l = string_bytes l.text ≡ string_bytes l.fn.text ++ each (strip_text l.self) l.lane
