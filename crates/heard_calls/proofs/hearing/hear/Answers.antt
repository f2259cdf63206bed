-- One message more was heard, or the last.
use Rattle.std.proofs.lemmas.List.{drop_all}
use Rattle.std.proofs.Common.{arith}
use Rattle.heard_calls.proofs.Hearings.{few_more, next_left, stands_on, stood}
use Rattle.heard_calls.proofs.hearing.hear.Goals as goal

pub loop-message-preserved : goal.loop-message-preserved
loop-message-preserved c =
    let at = c.loop-message.message-index in
    let old = c.loop-message.heard in
    let new = c.go_on.new.self in
    let m = c.message-item.result in
    let next = next_left c.args.messages.now at m c.loop-message-test.true c.message-item.is in
    let more = few_more c.args.setup.now c.args.conn c.args.serial m old new c.in_ok-go_on.ensures in
    record {
      stands = stands_on c.args.setup.now c.args.conn c.args.messages.now at m c.args.band c.args.serial old new next c.in_ok-go_on.ensures c.loop-message.invariant.stands;
      few = omega (arith, more, c.loop-message.invariant.few);
    }

pub returns : goal.returns
returns c = stood c.args.setup.now c.args.conn c.args.messages.now _ c.args.band c.args.serial c.loop-message.heard (drop_all c.loop-message.message-index c.args.messages.now c.loop-message-test.false) c.loop-message.invariant.stands
