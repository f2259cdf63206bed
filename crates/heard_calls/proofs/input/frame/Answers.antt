-- The input was fed at once.
use Rattle.std.proofs.Common.{length, ap, subst, sym, arith}
use Rattle.std.specs.List.{All}
use Rattle.orb_base.specs.declared.limits.TheConstants.{MAX_MESSAGE}
use Rattle.giop_frames.specs.Stream.{Said}
use Rattle.giop_messages.specs.MessageReading.{IsMessage}
use Rattle.giop_messages.proofs.CallerLemmas.{streams_messages}
use Rattle.heard_calls.proofs.Framing.{fed_at_once}
use Rattle.heard_calls.proofs.StreamCounts.{few_messages}
use Rattle.heard_calls.proofs.input.frame.Goals as goal

pub returns-clause-stream : goal.returns-clause-stream
returns-clause-stream c =
    fed_at_once c.feed.result c.in_ok-bad.bad c.in_ok-framer.framer c.feed.new.self c.new-messages.result.items c.feed.new.whole.items c.rest.result c.args.input.now
    c.in_ok-bad.ensures c.in_ok-framer.ensures c.feed.ensures.fed.0 c.feed.ensures.fed.1 c.new-messages.ensures c.feed.ensures.tells c.rest.ensures.rest

pub returns-clause-messages : goal.returns-clause-messages
returns-clause-messages c =
    let is = fed_at_once c.feed.result c.in_ok-bad.bad c.in_ok-framer.framer c.feed.new.self c.new-messages.result.items c.feed.new.whole.items c.rest.result c.args.input.now
    c.in_ok-bad.ensures c.in_ok-framer.ensures c.feed.ensures.fed.0 c.feed.ensures.fed.1 c.new-messages.ensures c.feed.ensures.tells c.rest.ensures.rest
    in
    subst (λ (s : Said). All IsMessage s.messages) (sym is) (streams_messages MAX_MESSAGE c.args.input.now (omega arith))

pub returns-clause-few : goal.returns-clause-few
returns-clause-few c =
    let is = fed_at_once c.feed.result c.in_ok-bad.bad c.in_ok-framer.framer c.feed.new.self c.new-messages.result.items c.feed.new.whole.items c.rest.result c.args.input.now
    c.in_ok-bad.ensures c.in_ok-framer.ensures c.feed.ensures.fed.0 c.feed.ensures.fed.1 c.new-messages.ensures c.feed.ensures.tells c.rest.ensures.rest
    in
    omega (arith, ap (λ (s : Said). length s.messages) is, few_messages MAX_MESSAGE c.args.input.now, c.requires)
