-- One line after another.
use Rattle.std.proofs.Common.{Bool, length, subst, refl}
use Rattle.std.proofs.lemmas.Option.{slice_get_read}
use Rattle.lane_machine.specs.State.{opening}
use Rattle.trace_lines.specs.ReadBack.{call_by}
use Rattle.lane_audit.specs.Resolved.{reply_with}
use Rattle.lane_audit.specs.Verdicts.{Judges}
use Rattle.lane_audit.proofs.Runs.{one_ran, one_wrong, none_wrong}
use Rattle.lane_audit.proofs.run.count_legal.Goals as goal

pub returns-then-not-branch : goal.returns-then-not-branch
returns-then-not-branch c =
    one_wrong (opening c.args.pool.now c.args.slots c.args.per_slot) c.loop-i.desk c.args.lines.now c.loop-i.i c.index-lines-i.result c.loop-i.offers
    (slice_get_read c.args.lines.now (length c.args.lines.now) c.loop-i.i c.index-lines-i.result refl c.loop-i-test.true c.index-lines-i.is) c.loop-i.invariant c.judge.new.self
    (subst (λ (b : Bool). Judges c.loop-i.desk (call_by c.loop-i.offers.asked.items c.index-lines-i.result.action)
    (reply_with c.loop-i.offers.asked.items c.loop-i.offers.lens.items c.index-lines-i.result.action) c.judge.new.self b) c.if-not-branch.true c.in_ok-judge.ensures)

pub loop-i-preserved : goal.loop-i-preserved
loop-i-preserved c =
    one_ran (opening c.args.pool.now c.args.slots c.args.per_slot) c.loop-i.desk c.args.lines.now c.loop-i.i c.index-lines-i.result c.loop-i.offers
    (slice_get_read c.args.lines.now (length c.args.lines.now) c.loop-i.i c.index-lines-i.result refl c.loop-i-test.true c.index-lines-i.is) c.loop-i.invariant c.judge.new.self c.note.new.self
    (subst (λ (b : Bool). Judges c.loop-i.desk (call_by c.loop-i.offers.asked.items c.index-lines-i.result.action)
    (reply_with c.loop-i.offers.asked.items c.loop-i.offers.lens.items c.index-lines-i.result.action) c.judge.new.self b) c.if-not-branch.false c.in_ok-judge.ensures)
    c.note.ensures.asked c.note.ensures.lens

pub returns : goal.returns
returns c =
    none_wrong (opening c.args.pool.now c.args.slots c.args.per_slot) c.args.lines.now c.loop-i.i (length c.args.lines.now) refl c.loop-i-test.false c.loop-i.invariant.legal
