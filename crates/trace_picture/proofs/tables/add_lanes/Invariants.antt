use Rattle.std.proofs.Common.{◌≡◌, ◌++◌, string_bytes}
use Rattle.trace_picture.specs.Grounds.{each}
use Rattle.trace_picture.specs.Tables.{lane_line}
use Rattle.trace_picture.proofs.tables.add_lanes.Given as goal

abbrev pub invariant-loop-lane : goal.invariant-loop-lane
invariant-loop-lane l = string_bytes l.text ≡ string_bytes l.fn.text ++ each (lane_line l.layout l.lines l.shapes) l.lane
