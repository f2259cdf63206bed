use Rattle.std.proofs.Common.{string_bytes}
use Rattle.trace_picture.specs.Grounds.{strip_text}
use Rattle.trace_picture.proofs.Eaches.{one_more}
use Rattle.trace_picture.proofs.layout.Layout.add_strips.Goals as goal

pub loop-lane-preserved : goal.loop-lane-preserved
loop-lane-preserved c =
    one_more (string_bytes c.args.text.now) (string_bytes c.loop-lane.text) (string_bytes c.add_strip.new.text) (strip_text c.args.self.now) c.loop-lane.lane
    c.loop-lane.invariant c.in_ok-add_strip.ensures
