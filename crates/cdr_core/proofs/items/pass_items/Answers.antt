use Rattle.std.proofs.lemmas.Result.{err_from_is_err_and}
use Rattle.cdr_core.specs.Lists.{item_at}
use Rattle.cdr_core.specs.Sequence.{times, behind}
use Rattle.cdr_core.proofs.Passed.{passes_on, passes_to_fault, passes_all}
use Rattle.cdr_core.proofs.items.pass_items.Goals as goal

pub returns-in_err-take_item : goal.returns-in_err-take_item
returns-in_err-take_item c =
    let p = err_from_is_err_and c.from_residual.result c.from_residual.ensures.1 in
    rw (p.1, p.2)
    (passes_to_fault item_at c.in_err-take_item.field-0.0 c.args.count c.loop.counter c.loop.reader
    (behind (times item_at c.args.count c.args.reader.now)) c.loop-test.true c.in_err-take_item.ensures.exact.0 c.loop.invariant)

pub loop-preserved : goal.loop-preserved
loop-preserved c =
    passes_on item_at c.args.count c.loop.counter c.loop.reader _ c.take_item.new.self
    (behind (times item_at c.args.count c.args.reader.now)) c.loop-test.true c.in_ok-take_item.ensures.exact c.loop.invariant

pub returns : goal.returns
returns c =
    passes_all item_at c.args.count c.loop.counter c.loop.reader (behind (times item_at c.args.count c.args.reader.now))
    c.loop-test.false c.loop.invariant
