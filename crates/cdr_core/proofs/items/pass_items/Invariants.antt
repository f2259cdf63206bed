use Rattle.std.proofs.Common.{◌≡◌, ◌-◌}
use Rattle.cdr_core.specs.Lists.{item_at}
use Rattle.cdr_core.specs.Sequence.{times, behind}
use Rattle.cdr_core.proofs.items.pass_items.Given as goal

abbrev pub invariant-loop : goal.invariant-loop
invariant-loop l =
    behind (times item_at (l.count - l.counter) l.reader) ≡ behind (times item_at l.count l.initial.reader)
