use Rattle.std.proofs.Common.{◌≡◌, ◌++◌, string_bytes}
use Rattle.trace_picture.specs.Grounds.{each, pattern_text}
use Rattle.trace_picture.proofs.ground.add_patterns.Given as goal

abbrev pub invariant-loop-lane : goal.invariant-loop-lane
invariant-loop-lane l = string_bytes l.text ≡ string_bytes l.fn.text ++ each pattern_text l.lane
