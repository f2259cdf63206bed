-- What one piece more comes to, after the bytes that were fed before it.
use Rattle.std.proofs.Common.{◌≡◌, ℕ, ◌+◌, ◌<◌, false, List, [], ◌++◌, length, Option, Some, None, refl, sym, ap, ◌∙◌, subst, arith, length-append}
use Rattle.orb_base.specs.declared.limits.TheConstants.{MAX_MESSAGE}
use Rattle.orb_base.specs.declared.order.Order.{Order}
use Rattle.giop_frames.proofs.Grows.{nothing_said}
use Rattle.giop_frames.specs.Feeds.{Feed}
use Rattle.giop_frames.specs.Messages as Frames
use Rattle.giop_frames.specs.Stream.{Said, stream}
use Rattle.giop_frames.specs.declared.fault.FrameFault.{FrameFault}
use Rattle.giop_messages.specs.Message.{Message}
use Rattle.heard_messages.specs.Framing.{FramesOn}
use Rattle.heard_messages.specs.Hearers.{Hearer, IsGoing, IsNew, FeedsOn}
use Rattle.heard_messages.specs.Hearing.{Meaning, nothing, after_calls, Hears}
use Rattle.heard_messages.specs.ReadEnds.{decided}
use Rattle.heard_messages.specs.declared.means.Means.{Means}
use Rattle.heard_messages.specs.declared.read_end.ReadEnd.{ReadEnd}
use Rattle.heard_messages.proofs.Hearings.{few_calls, hears_both}
use Rattle.heard_messages.proofs.StreamCounts.{few_messages}

decides_none : (o : Option ReadEnd) (bad : Option FrameFault) → decided o bad ≡ None → o ≡ None
decides_none (Some e) bad is = absurd (cc)
decides_none None bad is = refl

module _ {J B C : Type 0} (first : J → B) (means : J → B → ℕ → Order → ℕ → Message → Means B C → Type 0) where
  -- the first byte is still to come
  pub new_hearing : (judge : J) (h : Hearer J B C) → h.judge ≡ judge → h.framer ≡ record { limit = MAX_MESSAGE; fed = []; lacked = false; kept = 0 } → h.bound ≡ first judge
      → h.made ≡ 0 → h.calls ≡ [] → IsNew first means judge h
  new_hearing judge h same framer bound made given =
      let none : h.framer.fed ≡ [] = ap (λ (f : Feed). f.fed) framer in
      let says : stream MAX_MESSAGE h.framer.fed ≡ record { messages = []; rest = None; bad = None } = ap (stream MAX_MESSAGE) none ∙ nothing_said MAX_MESSAGE in
      record {
        judge_is = same;
        none_fed = none;
        none_given = given;
        going = record {
          framing = record { limit_is = ap (λ (f : Feed). f.limit) framer; enough = ap (λ (f : Feed). f.lacked) framer };
          heard = record {
            meaning = nothing (first h.judge) None;
            hears = subst (λ (ms : List Frames.Message). Hears (means h.judge) ms (first h.judge) 0 (nothing (first h.judge) None)) (sym (ap (λ (s : Said). s.messages) says)) refl;
            calls_are = given;
            ends = sym (ap (λ (s : Said). decided None s.bad) says);
          };
          bound_is = bound ∙ ap first (sym same);
          made_is = made ∙ sym (ap length given);
        };
      }

  -- no more calls than bytes, with a piece more
  pub few_with : (h : Hearer J B C) (f' : Feed) (piece : List ℕ) (messages : List Frames.Message) (bad : Option FrameFault) (limit : ℕ) → IsGoing first means h
      → FramesOn h.framer f' messages bad → f'.fed ≡ h.framer.fed ++ piece → length h.framer.fed + length piece < limit → h.made + length messages < limit
  few_with h f' piece messages bad limit going frames fed few =
      let before = few_calls (means h.judge) (stream MAX_MESSAGE h.framer.fed).messages (first h.judge) 0 going.heard.meaning going.heard.hears in
      let all = few_messages MAX_MESSAGE f'.fed in
      let counts : length (stream MAX_MESSAGE f'.fed).messages ≡ length (stream MAX_MESSAGE h.framer.fed).messages + length messages =
      ap length frames.messages_are ∙ length-append (stream MAX_MESSAGE h.framer.fed).messages messages in
      omega (arith, before, all, counts, going.made_is, ap length going.heard.calls_are, ap length fed, length-append h.framer.fed piece)

  pub feeds_on : (h h' : Hearer J B C) (piece : List ℕ) (messages : List Frames.Message) (bad : Option FrameFault) (later : Meaning B C) (ending : Option ReadEnd)
      → IsGoing first means h → FramesOn h.framer h'.framer messages bad → Hears (means h.judge) messages h.bound h.made later
      → h'.judge ≡ h.judge → h'.framer.fed ≡ h.framer.fed ++ piece → h'.bound ≡ later.bound → h'.made ≡ h.made + length later.calls
      → h'.calls ≡ h.calls ++ later.calls → ending ≡ decided later.ending bad → FeedsOn first means h h' piece later.calls ending
  feeds_on h h' piece messages bad later ending going frames hears same fed bound made given ends =
      let so_far : Meaning B C = going.heard.meaning in
      let all : Meaning B C = after_calls so_far.calls later in
      let earlier : List Frames.Message = (stream MAX_MESSAGE h.framer.fed).messages in
      let undecided : so_far.ending ≡ None = decides_none so_far.ending (stream MAX_MESSAGE h.framer.fed).bad (sym going.heard.ends) in
      let counts : h.made ≡ 0 + length so_far.calls = omega (arith, going.made_is, ap length going.heard.calls_are) in
      let next : Hears (means h.judge) messages so_far.bound (0 + length so_far.calls) later =
      subst (λ (b : B). Hears (means h.judge) messages b (0 + length so_far.calls) later) going.bound_is
      (subst (λ (n : ℕ). Hears (means h.judge) messages h.bound n later) counts hears) in
      let both : Hears (means h.judge) (stream MAX_MESSAGE h'.framer.fed).messages (first h.judge) 0 all =
      subst (λ (ms : List Frames.Message). Hears (means h.judge) ms (first h.judge) 0 all) (sym frames.messages_are)
      (hears_both (means h.judge) earlier messages (first h.judge) 0 so_far later undecided going.heard.hears next) in
      let here : Hears (means h'.judge) (stream MAX_MESSAGE h'.framer.fed).messages (first h'.judge) 0 all =
      subst (λ (j : J). Hears (means j) (stream MAX_MESSAGE h'.framer.fed).messages (first j) 0 all) (sym same) both in
      let all_calls : h'.calls ≡ so_far.calls ++ later.calls = given ∙ ap (λ (cs : List C). cs ++ later.calls) going.heard.calls_are in
      let ending_is : ending ≡ decided later.ending (stream MAX_MESSAGE h'.framer.fed).bad = ends ∙ ap (decided later.ending) (sym frames.bad_is) in
      record {
        same_judge = same;
        fed_is = fed;
        calls_are = given;
        heard = record { meaning = all; hears = here; calls_are = all_calls; ends = ending_is };
        goes_on = λ none. record {
          framing = frames.framing;
          heard = record { meaning = all; hears = here; calls_are = all_calls; ends = sym none ∙ ending_is };
          bound_is = bound;
          made_is = omega (arith, made, going.made_is, ap length given, length-append h.calls later.calls);
        };
      }
