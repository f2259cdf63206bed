use Rattle.std.proofs.Common.{◌≡◌, ◌++◌, take, string_bytes}
use Rattle.std.specs.List.{flat_map}
use Rattle.trace_lines.specs.Texts.{lane_text}
use Rattle.trace_lines.proofs.head.add_lanes.Given as goal

abbrev pub invariant-loop-lane : goal.invariant-loop-lane
invariant-loop-lane l = string_bytes l.text ≡ string_bytes l.fn.text ++ flat_map lane_text (take l.lane-index l.lanes)
