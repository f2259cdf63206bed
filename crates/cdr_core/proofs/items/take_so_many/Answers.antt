use Rattle.std.proofs.lemmas.Result.{err_from_is_err_and}
use Rattle.cdr_core.specs.Errors.{fault_of}
use Rattle.cdr_core.specs.Lists.{made_at}
use Rattle.cdr_core.specs.Sequence.{times}
use Rattle.cdr_core.proofs.Loops.{goes_on, ends_with, is_done}
use Rattle.cdr_core.proofs.items.take_so_many.Goals as goal

pub returns-in_err-value : goal.returns-in_err-value
returns-in_err-value g c =
    let p = err_from_is_err_and c.from_residual.result c.from_residual.ensures.1 in
    rw (p.1, p.2)
    (ends_with (made_at g.T.Item.made) (fault_of c.in_err-value.field-0.0) c.loop.list.items c.args.count c.loop.counter
    c.loop.reader (times (made_at g.T.Item.made) c.args.count c.args.reader.now) c.loop-test.true
    c.in_err-value.ensures c.loop.invariant)

pub loop-preserved : goal.loop-preserved
loop-preserved g c =
    rw c.in-Ok.ensures.ok
    (goes_on (made_at g.T.Item.made) c.loop.list.items c.args.count c.loop.counter c.loop.reader c.in_ok-value.value
    c.take_one.new.reader (times (made_at g.T.Item.made) c.args.count c.args.reader.now)
    c.loop-test.true c.in_ok-value.ensures c.loop.invariant)

pub returns : goal.returns
returns g c =
    is_done (made_at g.T.Item.made) c.loop.list.items c.args.count c.loop.counter c.loop.reader
    (times (made_at g.T.Item.made) c.args.count c.args.reader.now) c.loop-test.false c.loop.invariant
