use Rattle.std.proofs.Common.{◌≡◌, ◌≤◌, ◌+◌, drop, length}
use Rattle.trace_lines.specs.Offers.{offers}
use Rattle.trace_lines.specs.Numbers.{NumbersFrom}
use Rattle.trace_lines.proofs.numbering.Numbering.new.Given as goal

abbrev pub invariant-loop-i : goal.invariant-loop-i
invariant-loop-i l = record {
  within : l.i ≤ length l.history;
  counted : l.count ≡ length (offers l.history);
  sums : l.next + length (offers (drop l.i l.history)) ≡ l.count;
  numbered : NumbersFrom l.first l.count l.next (offers (drop l.i l.history));
}

abbrev pub decreases-loop-i : goal.decreases-loop-i
decreases-loop-i l = l.i
