use Rattle.std.proofs.Common.{◌<◌, ◌^◌, length}
use Rattle.std.proofs.lemmas.Result.{err_from_is_err_and}
use Rattle.cdr_core.specs.Lists.{item_fields}
use Rattle.cdr_core.proofs.Loops.{written_none, list_next, list_front, list_done, each_at}
use Rattle.cdr_core.proofs.items.put_each.Goals as goal

pub loop-value-init : goal.loop-value-init
loop-value-init g c = written_none c.args.into.now

pub put_item-requires : goal.put_item-requires
put_item-requires g c =
    rw c.bytes.ensures (each_at (λ x. length (g.T.Item.item x).1 < 2 ^ 32) c.args.list.now c.loop-value.value-index c.value-item.result
    c.loop-value-test.true c.value-item.is c.requires)

pub loop-value-preserved : goal.loop-value-preserved
loop-value-preserved g c =
    list_next (λ x. item_fields (g.T.Item.item x)) c.args.into.now c.loop-value.into c.put_item.new.self c.args.list.now
    c.loop-value.value-index c.value-item.result c.loop-value-test.true
    c.value-item.is c.loop-value.invariant (rw (c.number.ensures, c.bytes.ensures) at c.in_ok-put_item.ensures)

pub returns-in_err-put_item : goal.returns-in_err-put_item
returns-in_err-put_item g c =
    let p = err_from_is_err_and c.from_residual.result c.from_residual.ensures.1 in
    rw p.1 (list_front (λ x. item_fields (g.T.Item.item x)) p.0 c.args.into.now c.loop-value.into c.put_item.new.self c.args.list.now
    c.loop-value.value-index c.value-item.result
    c.loop-value-test.true c.value-item.is c.loop-value.invariant (rw (c.number.ensures, c.bytes.ensures) at c.in_err-put_item.ensures))

pub returns : goal.returns
returns g c =
    list_done (λ x. item_fields (g.T.Item.item x)) c.args.into.now c.loop-value.into c.args.list.now c.loop-value.value-index
    c.loop-value-test.false c.loop-value.auto.value-index-end
    c.loop-value.invariant
