use Rattle.std.proofs.Common.{sym, ◌∙◌}
use Rattle.std.proofs.lemmas.Result.{err_from_is_err_and}
use Rattle.lane_machine.specs.Machine.{item_place}
use Rattle.pipe_laws.specs.Setup.{pipe_conn}
use Rattle.lane_driver.proofs.Items.{empties_none, empties_more, empties_stopped, empties_want, empties_done, fewer_items, none_there}
use Rattle.lane_driver.proofs.collects.collect_all.Goals as goal

pub loop-lanes-init : goal.loop-lanes-init
loop-lanes-init g c = empties_none c.args.lanes.now c.args.log.now (g.O.Sink.state c.args.sink.now) c.requires

pub returns-in_err-collect-clause-drives : goal.returns-in_err-collect-clause-drives
returns-in_err-collect-clause-drives g c outcome =
    let p = err_from_is_err_and c.from_residual.result c.from_residual.ensures.1 in
    rw p.1 (empties_want outcome c.args.lanes.now c.loop-lanes.lanes c.args.log.now c.loop-lanes.log _ _ (g.O.Sink.state c.collect.new.sink) c.loop-lanes.invariant c.in_err-collect.ensures)

pub loop-lanes-smaller : goal.loop-lanes-smaller
loop-lanes-smaller g c =
    fewer_items c.loop-lanes.lanes c.collect.new.lanes c.loop-lanes.log c.collect.new.log c.in_ok-collect.ensures.reply (sym c.has_item.ensures ∙ c.loop-lanes-test.true) c.in_ok-collect.ensures.applied

pub loop-lanes-preserved : goal.loop-lanes-preserved
loop-lanes-preserved g c =
    empties_more c.in_ok-collect.field-0 c.args.lanes.now c.loop-lanes.lanes c.collect.new.lanes c.args.log.now c.loop-lanes.log c.collect.new.log _ _ _ c.in-Whole.is (sym c.has_item.ensures ∙ c.loop-lanes-test.true)
    c.loop-lanes.invariant c.in_ok-collect.ensures

pub returns-in-Stopped-clause-drives : goal.returns-in-Stopped-clause-drives
returns-in-Stopped-clause-drives g c outcome =
    empties_stopped outcome c.in_ok-collect.field-0 c.args.lanes.now c.loop-lanes.lanes c.collect.new.lanes c.args.log.now c.loop-lanes.log c.collect.new.log _ _ _ c.in-Stopped.is (sym c.has_item.ensures ∙ c.loop-lanes-test.true)
    c.loop-lanes.invariant c.in_ok-collect.ensures

pub returns-clause-drives : goal.returns-clause-drives
returns-clause-drives g c outcome =
    empties_done outcome c.args.lanes.now c.loop-lanes.lanes c.args.log.now c.loop-lanes.log _ _ c.loop-lanes.invariant
    (none_there (item_place c.loop-lanes.lanes pipe_conn) (sym c.has_item.ensures ∙ c.loop-lanes-test.false))

pub returns-clause-stays : goal.returns-clause-stays
returns-clause-stays g c =
    (c.loop-lanes.invariant.stays, c.loop-lanes.invariant.given, none_there (item_place c.loop-lanes.lanes pipe_conn) (sym c.has_item.ensures ∙ c.loop-lanes-test.false))
