-- The input is one piece of a reading that begins.
use Rattle.std.proofs.Common.{Option, sym, ap, ◌∙◌}
use Rattle.std.specs.Prelude.{unwrap_or}
use Rattle.orb_base.specs.declared.limits.TheConstants.{MAX_MESSAGE}
use Rattle.giop_frames.specs.Stream.{stream}
use Rattle.heard_messages.specs.ReadEnds.{input_end}
use Rattle.heard_messages.specs.declared.read_end.ReadEnd.{ReadEnd}
use Rattle.heard_messages.proofs.Inputs.{whole_heard}
use Rattle.heard_messages.proofs.input.hear_input.Goals as goal

pub returns-in-Some : goal.returns-in-Some
returns-in-Some g c =
    let at_end : ReadEnd = input_end (stream MAX_MESSAGE c.feed.new.self.framer.fed).rest in
    whole_heard g.J.Judge.first g.J.Judge.means c.args.judge.now c.in_ok-hearing.hearing c.feed.new.self c.args.input.now c.in_ok-heard.heard.calls.items c.in_ok-heard.heard.ending
    c.in-Some.end c.in_ok-hearing.ensures c.in_ok-heard.ensures (sym (ap (λ (o : Option ReadEnd). unwrap_or o at_end) c.in-Some.is))

pub at_end-requires : goal.at_end-requires
at_end-requires g c = c.in_ok-heard.ensures.goes_on c.in-None.is

pub returns : goal.returns
returns g c =
    let at_end : ReadEnd = input_end (stream MAX_MESSAGE c.feed.new.self.framer.fed).rest in
    whole_heard g.J.Judge.first g.J.Judge.means c.args.judge.now c.in_ok-hearing.hearing c.feed.new.self c.args.input.now c.in_ok-heard.heard.calls.items c.in_ok-heard.heard.ending
    c.at_end.result c.in_ok-hearing.ensures c.in_ok-heard.ensures (c.at_end.ensures ∙ sym (ap (λ (o : Option ReadEnd). unwrap_or o at_end) c.in-None.is))
