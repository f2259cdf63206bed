use Rattle.std.proofs.Common.{◌≡◌, ◌-◌}
use Rattle.cdr_core.specs.Lists.{made_at}
use Rattle.cdr_core.specs.Sequence.{times}
use Rattle.cdr_core.proofs.Loops.{with_front}
use Rattle.cdr_core.proofs.items.take_so_many.Given as goal

abbrev pub invariant-loop : goal.invariant-loop
invariant-loop g l =
    with_front l.list.items (times (made_at g.T.Item.made) (l.count - l.counter) l.reader)
    ≡ times (made_at g.T.Item.made) l.count l.initial.reader
