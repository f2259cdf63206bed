-- One message more, or the last.
use Rattle.std.proofs.Common.{◌≤◌, ◌+◌, None, length, arith}
use Rattle.heard_messages.specs.Hearing.{Meaning}
use Rattle.heard_messages.proofs.Hearings.{leaves_next, ended_with, heard_all, few_more}
use Rattle.heard_messages.proofs.heard.hear.Goals as goal

pub loop-message-preserved : goal.loop-message-preserved
loop-message-preserved g c =
    let old : Meaning g.row.J-Bound.Denot g.row.J-Call.Denot = record { calls = c.loop-message.calls.items; bound = c.loop-message.bound; ending = None } in
    let new : Meaning g.row.J-Bound.Denot g.row.J-Call.Denot = record { calls = c.take.new.calls.items; bound = c.take.new.bound; ending = c.in_ok-ending.field-0 } in
    let more : length c.take.new.calls.items ≤ length c.loop-message.calls.items + 1 =
    few_more (g.J.Judge.means c.args.judge.now) c.args.serial c.message-item.result old new c.in_ok-ending.ensures in
    let few = c.loop-message.invariant.few in
    record {
      leaves = leaves_next (g.J.Judge.means c.args.judge.now) c.args.messages.now c.loop-message.message-index c.message-item.result c.args.bound.now c.args.serial old new
          c.loop-message-test.true c.message-item.is c.in_ok-ending.ensures c.in_default.is c.loop-message.invariant.leaves;
      few = omega (arith, more, few);
    }

pub returns-in-Some : goal.returns-in-Some
returns-in-Some g c =
    let old : Meaning g.row.J-Bound.Denot g.row.J-Call.Denot = record { calls = c.loop-message.calls.items; bound = c.loop-message.bound; ending = None } in
    let new : Meaning g.row.J-Bound.Denot g.row.J-Call.Denot = record { calls = c.take.new.calls.items; bound = c.take.new.bound; ending = c.in_ok-ending.field-0 } in
    ended_with (g.J.Judge.means c.args.judge.now) c.args.messages.now c.loop-message.message-index c.message-item.result c.args.bound.now c.args.serial old new c.in-Some.ending
    c.loop-message-test.true c.message-item.is c.in_ok-ending.ensures c.in-Some.is c.loop-message.invariant.leaves

pub returns : goal.returns
returns g c =
    heard_all (g.J.Judge.means c.args.judge.now) c.args.messages.now c.loop-message.message-index c.args.bound.now c.args.serial c.loop-message.calls.items c.loop-message.bound
    c.loop-message-test.false c.loop-message.invariant.leaves
