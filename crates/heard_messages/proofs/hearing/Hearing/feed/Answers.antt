-- One piece more was framed and heard.
use Rattle.std.proofs.Common.{◌≡◌, ℕ, ◌+◌, ◌≤◌, ◌<◌, ◌^◌, List, ◌++◌, length, refl, sym, ap, ◌∙◌, subst, arith}
use Rattle.giop_frames.specs.Messages as Frames
use Rattle.heard_messages.specs.Hearers.{Hearer, IsGoing, FeedsOn}
use Rattle.heard_messages.specs.Hearing.{Meaning, Hears}
use Rattle.heard_messages.proofs.Feeds.{few_with, feeds_on}
use Rattle.heard_messages.proofs.Hearings.{few_calls}
use Rattle.heard_messages.proofs.hearing.Hearing.feed.Goals as goal

pub hear-requires-clause-few : goal.hear-requires-clause-few
hear-requires-clause-few g c =
    let Seen : Type 0 = Hearer g.row.J.Denot g.row.J-Bound.Denot g.row.J-Call.Denot in
    let going = subst (λ (h : Seen). IsGoing g.J.Judge.first g.J.Judge.means h) (sym c.self.view_is) c.requires.going in
    let few = subst (λ (h : Seen). length h.framer.fed + length c.args.piece.now < 2 ^ 32) (sym c.self.view_is) c.requires.few in
    let all : c.self.inside.made + length c.in_ok-framed.framed.messages.items < 2 ^ 32 =
    few_with g.J.Judge.first g.J.Judge.means _ c.frame.new.framer c.args.piece.now c.in_ok-framed.framed.messages.items c.in_ok-framed.framed.bad (2 ^ 32) going
    c.in_ok-framed.ensures.ok c.in_ok-framed.ensures.fed few in
    omega (arith, all, ap length c.as_slice-messages.ensures)

pub overflow_cast-self : goal.overflow_cast-self
overflow_cast-self g c =
    let Seen : Type 0 = Hearer g.row.J.Denot g.row.J-Bound.Denot g.row.J-Call.Denot in
    let going = subst (λ (h : Seen). IsGoing g.J.Judge.first g.J.Judge.means h) (sym c.self.view_is) c.requires.going in
    let few = subst (λ (h : Seen). length h.framer.fed + length c.args.piece.now < 2 ^ 32) (sym c.self.view_is) c.requires.few in
    let all : c.self.inside.made + length c.in_ok-framed.framed.messages.items < 2 ^ 32 =
    few_with g.J.Judge.first g.J.Judge.means _ c.frame.new.framer c.args.piece.now c.in_ok-framed.framed.messages.items c.in_ok-framed.framed.bad (2 ^ 32) going
    c.in_ok-framed.ensures.ok c.in_ok-framed.ensures.fed few in
    let given : length c.in_ok-heard.heard.calls.items ≤ length c.as_slice-messages.result.now =
    few_calls (g.J.Judge.means c.self.inside.judge.now) c.as_slice-messages.result.now c.self.inside.bound c.self.inside.made
    (record { calls = c.in_ok-heard.heard.calls.items; bound = c.hear.new.bound; ending = c.in_ok-heard.heard.ending }) c.in_ok-heard.ensures in
    omega (arith, all, given, ap length c.as_slice-messages.ensures, c.len.ensures)

pub overflow_add-self : goal.overflow_add-self
overflow_add-self g c =
    let Seen : Type 0 = Hearer g.row.J.Denot g.row.J-Bound.Denot g.row.J-Call.Denot in
    let going = subst (λ (h : Seen). IsGoing g.J.Judge.first g.J.Judge.means h) (sym c.self.view_is) c.requires.going in
    let few = subst (λ (h : Seen). length h.framer.fed + length c.args.piece.now < 2 ^ 32) (sym c.self.view_is) c.requires.few in
    let all : c.self.inside.made + length c.in_ok-framed.framed.messages.items < 2 ^ 32 =
    few_with g.J.Judge.first g.J.Judge.means _ c.frame.new.framer c.args.piece.now c.in_ok-framed.framed.messages.items c.in_ok-framed.framed.bad (2 ^ 32) going
    c.in_ok-framed.ensures.ok c.in_ok-framed.ensures.fed few in
    let given : length c.in_ok-heard.heard.calls.items ≤ length c.as_slice-messages.result.now =
    few_calls (g.J.Judge.means c.self.inside.judge.now) c.as_slice-messages.result.now c.self.inside.bound c.self.inside.made
    (record { calls = c.in_ok-heard.heard.calls.items; bound = c.hear.new.bound; ending = c.in_ok-heard.heard.ending }) c.in_ok-heard.ensures in
    omega (arith, all, given, ap length c.as_slice-messages.ensures, c.len.ensures)

pub returns : goal.returns
returns g c =
    let Seen : Type 0 = Hearer g.row.J.Denot g.row.J-Bound.Denot g.row.J-Call.Denot in
    let now : Seen = record {
      judge = c.self.inside.judge.now;
      framer = c.self.inside.framer;
      bound = c.self.inside.bound;
      made = c.self.inside.made;
      calls = c.self.inside.calls.items;
    } in
    let new : Seen = record {
      judge = c.self.inside.judge.now;
      framer = c.frame.new.framer;
      bound = c.hear.new.bound;
      made = c.self.inside.made + c.len.result;
      calls = c.and-self-inside.result.items;
    } in
    let is : now ≡ c.args.self.now = c.self.view_is in
    let going : IsGoing g.J.Judge.first g.J.Judge.means now = subst (λ (h : Seen). IsGoing g.J.Judge.first g.J.Judge.means h) (sym is) c.requires.going in
    let later : Meaning g.row.J-Bound.Denot g.row.J-Call.Denot =
    record { calls = c.in_ok-heard.heard.calls.items; bound = c.hear.new.bound; ending = c.in_ok-heard.heard.ending } in
    let hears = subst (λ (ms : List Frames.Message). Hears (g.J.Judge.means c.self.inside.judge.now) ms c.self.inside.bound c.self.inside.made later)
    c.as_slice-messages.ensures c.in_ok-heard.ensures in
    subst (λ (h : Seen). FeedsOn g.J.Judge.first g.J.Judge.means h new c.args.piece.now c.in_ok-heard.heard.calls.items c.decided.result) is
    (feeds_on g.J.Judge.first g.J.Judge.means now new c.args.piece.now c.in_ok-framed.framed.messages.items c.in_ok-framed.framed.bad later c.decided.result going
    c.in_ok-framed.ensures.ok hears refl c.in_ok-framed.ensures.fed refl (ap (λ (n : ℕ). c.self.inside.made + n) c.len.ensures)
    (c.and-self-inside.ensures ∙ ap (λ (cs : List g.row.J-Call.Denot). c.self.inside.calls.items ++ cs) c.as_slice.ensures) c.decided.ensures)
