-- No object before the number is unserved.
use Rattle.std.proofs.Common.{◌≡◌, ◌≤◌, ◌-◌, length, drop}
use Rattle.std.specs.List.{position_from}
use Rattle.dynamic_servants.specs.Served.{served_of}
use Rattle.setup_servants.specs.Serving.{is_unserved}
use Rattle.setup_servants.proofs.serving.first_unserved.Given as goal

abbrev pub invariant-loop-object : goal.invariant-loop-object
invariant-loop-object l = (l.n ≤ length l.setup.objects)
    × (position_from (is_unserved (served_of l.servants)) l.n (drop l.n l.setup.objects)
    ≡ position_from (is_unserved (served_of l.servants)) 0 l.setup.objects)

abbrev pub decreases-loop-object : goal.decreases-loop-object
decreases-loop-object l = length l.setup.objects - l.n
