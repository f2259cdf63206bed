use Rattle.giop_messages.specs.Ranges.{HasTag}
use Rattle.giop_messages.proofs.RangeLaws.{EachTo}
use Rattle.giop_messages.proofs.ranges.see_profiles.Given as goal

abbrev pub invariant-loop-tagged : goal.invariant-loop-tagged
invariant-loop-tagged l = EachTo HasTag l.tagged-index l.profiles
