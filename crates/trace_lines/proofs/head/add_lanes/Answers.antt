use Rattle.std.proofs.Common.{string_bytes, arith}
use Rattle.trace_lines.proofs.Growing.{no_lanes, lane_added, lanes_added}
use Rattle.trace_lines.proofs.head.add_lanes.Goals as goal

pub loop-lane-init : goal.loop-lane-init
loop-lane-init c = no_lanes (string_bytes c.args.text.now) c.args.lanes.now

pub loop-lane-preserved : goal.loop-lane-preserved
loop-lane-preserved c =
    lane_added (string_bytes c.args.text.now) c.args.lanes.now c.loop-lane.lane-index c.lane-item.result (string_bytes c.loop-lane.text)
    (string_bytes c.add_lane.new.text) c.loop-lane.invariant (omega arith) c.lane-item.is c.in_ok-add_lane.ensures

pub returns : goal.returns
returns c =
    lanes_added (string_bytes c.args.text.now) c.args.lanes.now c.loop-lane.lane-index (string_bytes c.loop-lane.text) c.loop-lane.invariant (omega arith)
