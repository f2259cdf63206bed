use Rattle.std.proofs.Common.{rules, arith}
use Rattle.fit_audit.proofs.Judging.{none_heard, next_heard, all_heard}
use Rattle.fit_audit.proofs.fit.are_fit.Goals as goal

pub loop-line-init : goal.loop-line-init
loop-line-init c = none_heard c.args.slots c.args.per_slot c.args.lines.now c.in_ok-seats.seats c.in_ok-seats.ensures

pub loop-line-preserved : goal.loop-line-preserved
loop-line-preserved c =
    next_heard c.args.slots c.args.per_slot c.args.lines.now c.loop-line.line-index c.line-item.result c.loop-line.seats c.hear.new.self
    c.loop-line-test.true (first_of (omega arith, search rules)) c.line-item.is c.hear.ensures c.loop-line.invariant

pub returns : goal.returns
returns c =
    all_heard c.args.slots c.args.per_slot c.args.lines.now c.loop-line.line-index c.loop-line.seats (omega arith) c.loop-line.invariant
