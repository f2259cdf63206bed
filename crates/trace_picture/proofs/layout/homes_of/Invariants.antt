use Rattle.std.proofs.Common.{◌≡◌, ◌++◌, drop}
use Rattle.trace_picture.specs.Plots.{homes_from}
use Rattle.trace_picture.proofs.layout.homes_of.Given as goal

abbrev pub invariant-loop-l : goal.invariant-loop-l
invariant-loop-l l = homes_from 0 l.lanes ≡ l.homes.items ++ homes_from l.l (drop l.l l.lanes)
