-- One piece more was framed and heard.
use Rattle.std.proofs.Common.{◌≡◌, ℕ, ◌+◌, ◌<◌, ◌^◌, List, ◌++◌, length, Option, refl, sym, ap, ◌∙◌, subst, arith}
use Rattle.giop_frames.specs.Messages as Frames
use Rattle.heard_calls.specs.Hearing.{Told, Hears}
use Rattle.heard_calls.specs.declared.ending.Ending.{Ending}
use Rattle.lane_machine.specs.declared.call.LaneCall.{LaneCall}
use Rattle.conn_engine.specs.HeardSoFar.{decided}
use Rattle.conn_engine.specs.Hearers.{Hearer, IsGoing, FeedsOn}
use Rattle.conn_engine.proofs.Feeds.{few_calls, few_with, feeds_on}
use Rattle.conn_engine.proofs.hearing.Hearing.feed.Goals as goal

pub hear-requires-clause-few : goal.hear-requires-clause-few
hear-requires-clause-few c =
    let going = subst IsGoing (sym c.self.view_is) c.requires.going in
    let few = subst (λ (h : Hearer). length h.framer.fed + length c.args.piece.now < 2 ^ 32) (sym c.self.view_is) c.requires.few in
    let all = few_with _ c.frame.new.framer c.args.piece.now c.frame.new.messages.items c.in_ok-bad.bad (2 ^ 32) going c.in_ok-bad.ensures.ok c.in_ok-bad.ensures.fed few in
    omega (arith, all, ap length c.as_slice-messages.ensures)

pub overflow_cast-self : goal.overflow_cast-self
overflow_cast-self c =
    let going = subst IsGoing (sym c.self.view_is) c.requires.going in
    let few = subst (λ (h : Hearer). length h.framer.fed + length c.args.piece.now < 2 ^ 32) (sym c.self.view_is) c.requires.few in
    let all = few_with _ c.frame.new.framer c.args.piece.now c.frame.new.messages.items c.in_ok-bad.bad (2 ^ 32) going c.in_ok-bad.ensures.ok c.in_ok-bad.ensures.fed few in
    let calls = few_calls c.self.inside.setup.now c.self.inside.conn c.as_slice-messages.result.now c.self.inside.band c.self.inside.made c.in_ok-heard.heard c.in_ok-heard.ensures in
    omega (arith, all, calls, ap length c.as_slice-messages.ensures, ap (λ (t : Told). length t.calls) c.heard.view_is, c.len.ensures)

pub overflow_add-self : goal.overflow_add-self
overflow_add-self c =
    let going = subst IsGoing (sym c.self.view_is) c.requires.going in
    let few = subst (λ (h : Hearer). length h.framer.fed + length c.args.piece.now < 2 ^ 32) (sym c.self.view_is) c.requires.few in
    let all = few_with _ c.frame.new.framer c.args.piece.now c.frame.new.messages.items c.in_ok-bad.bad (2 ^ 32) going c.in_ok-bad.ensures.ok c.in_ok-bad.ensures.fed few in
    let calls = few_calls c.self.inside.setup.now c.self.inside.conn c.as_slice-messages.result.now c.self.inside.band c.self.inside.made c.in_ok-heard.heard c.in_ok-heard.ensures in
    omega (arith, all, calls, ap length c.as_slice-messages.ensures, ap (λ (t : Told). length t.calls) c.heard.view_is, c.len.ensures)

pub returns : goal.returns
returns c =
    let now : Hearer = record {
      setup = c.self.inside.setup.now;
      conn = c.self.inside.conn;
      framer = c.self.inside.framer;
      band = c.self.inside.band;
      made = c.self.inside.made;
      calls = c.self.inside.calls.items;
    } in
    let new : Hearer = record {
      setup = c.self.inside.setup.now;
      conn = c.self.inside.conn;
      framer = c.frame.new.framer;
      band = c.heard.inside.band;
      made = c.self.inside.made + c.len.result;
      calls = c.and-self-inside.result.items;
    } in
    let is : now ≡ c.args.self.now = c.self.view_is in
    let going : IsGoing now = subst IsGoing (sym is) c.requires.going in
    let hears = subst (λ (ms : List Frames.Message). Hears c.self.inside.setup.now c.self.inside.conn ms c.self.inside.band c.self.inside.made c.in_ok-heard.heard) c.as_slice-messages.ensures c.in_ok-heard.ensures in
    let calls : c.heard.inside.calls.items ≡ c.in_ok-heard.heard.calls = ap (λ (t : Told). t.calls) c.heard.view_is in
    let ends : c.heard.inside.ending ≡ c.in_ok-heard.heard.ending = ap (λ (t : Told). t.ending) c.heard.view_is in
    let feeds : FeedsOn now new c.args.piece.now c.heard.inside.calls.items c.decided.result =
    feeds_on now new c.args.piece.now c.frame.new.messages.items c.in_ok-bad.bad c.in_ok-heard.heard c.heard.inside.calls.items c.decided.result going c.in_ok-bad.ensures.ok hears
    refl refl c.in_ok-bad.ensures.fed (ap (λ (t : Told). t.band) c.heard.view_is)
    (ap (λ (n : ℕ). c.self.inside.made + n) (c.len.ensures ∙ ap length calls))
    (c.and-self-inside.ensures ∙ ap (λ (cs : List LaneCall). c.self.inside.calls.items ++ cs) c.as_slice.ensures) calls
    (c.decided.ensures ∙ ap (λ (o : Option Ending). decided o c.in_ok-bad.bad) ends) in
    subst (λ (h : Hearer). FeedsOn h new c.args.piece.now c.heard.inside.calls.items c.decided.result) is feeds
