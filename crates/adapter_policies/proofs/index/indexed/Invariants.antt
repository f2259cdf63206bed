use Rattle.std.proofs.Common.{◌≤◌, drop, length}
use Rattle.adapter_policies.specs.Index.{IsIndexed}
use Rattle.adapter_policies.proofs.index.indexed.Given as goal

abbrev pub invariant-loop-n : goal.invariant-loop-n
invariant-loop-n l = record {
  within : l.n ≤ length l.objects;
  indexed : IsIndexed l.numbers l.n (drop l.n l.objects);
}

abbrev pub decreases-loop-n : goal.decreases-loop-n
decreases-loop-n l = l.n
