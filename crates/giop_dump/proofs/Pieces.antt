-- Lemmas on one more piece of a dump.
use Rattle.std.proofs.Common.{◌≡◌, ℕ, List, [], ◌++◌, Option, Some, None, refl, sym, ap, ◌∙◌, arith}
use Rattle.std.specs.Prelude.{Ok, Err, option_map}
use Rattle.std.specs.Option.{option_or}
use Rattle.orb_base.specs.declared.limits.TheConstants.{MAX_MESSAGE}
use Rattle.giop_frames.specs.declared.fault.FrameFault.{FrameFault}
use Rattle.giop_frames.specs.declared.fault.FeedFault.TheVariants as feed
use Rattle.giop_frames.specs.Messages.{Message}
use Rattle.giop_frames.specs.Stream.{stream}
use Rattle.giop_frames.specs.Feeds.{Feed, said, Tells, Adds}
use Rattle.giop_messages.proofs.CallerLemmas.{first_messages}
use Rattle.giop_dump.specs.declared.refusal.Refusal.{Refusal}
use Rattle.giop_dump.specs.Ending.{broken, first_refusal, lines_before, dumped, dump_text}
use Rattle.giop_dump.specs.Steps.{IsGoing, FeedsOn, AddsLines}
use Rattle.giop_dump.proofs.DumpLaws.{first_refusal-append, lines_before-append}

-- what is said under the limit of a dump
said_is : (f : Feed) → f.limit ≡ MAX_MESSAGE → said f ≡ dumped f.fed
said_is f h = ap (λ limit. stream limit f.fed) h

-- the messages so far have no refusal
none_refused : (a b : Option Refusal) → option_or a b ≡ None → a ≡ None
none_refused None b h = refl
none_refused (Some r) b h = absurd (cc)

new_messages : (f f' : Feed) (whole whole' : List Message) → f.limit ≡ MAX_MESSAGE → f'.limit ≡ MAX_MESSAGE → whole ≡ [] → Adds f f' whole whole' → (dumped f'.fed).messages ≡ (dumped f.fed).messages ++ whole'
new_messages f f' whole whole' limit limit' empty h =
    let new : h.new ≡ whole' = sym (h.gives ∙ ap (λ x. x ++ h.new) empty) in
    ap (λ s. s.messages) (sym (said_is f' limit')) ∙ h.says_new ∙ ap (λ s. s.messages ++ h.new) (said_is f limit) ∙ ap (λ x. (dumped f.fed).messages ++ x) new

-- without a fault
pub fed_on : (f f' : Feed) (whole whole' : List Message) → IsGoing f → f'.limit ≡ f.limit → whole ≡ [] → Tells (Ok tt) f f' whole whole' → FeedsOn f f' whole' None
fed_on f f' whole whole' going same empty h =
    let limit' : f'.limit ≡ MAX_MESSAGE = same ∙ going.limit_is in
    record {
      limit_is = limit';
      enough = h.1;
      messages_are = new_messages f f' whole whole' going.limit_is limit' empty h.3;
      fault_is = ap (λ s. option_map broken s.bad) (sym (said_is f' limit')) ∙ ap (option_map broken) h.2;
      readable = first_messages (Ok tt) f f' whole whole' empty (omega (arith, limit')) h;
    }

-- with a fault
pub fed_to_fault : (f f' : Feed) (whole whole' : List Message) (e : FrameFault) → IsGoing f → f'.limit ≡ f.limit → whole ≡ [] → Tells (Err (feed.Frame e)) f f' whole whole' → FeedsOn f f' whole' (Some (broken e))
fed_to_fault f f' whole whole' e going same empty h =
    let limit' : f'.limit ≡ MAX_MESSAGE = same ∙ going.limit_is in
    record {
      limit_is = limit';
      enough = h.1;
      messages_are = new_messages f f' whole whole' going.limit_is limit' empty h.3;
      fault_is = ap (λ s. option_map broken s.bad) (sym (said_is f' limit')) ∙ ap (option_map broken) h.2;
      readable = first_messages (Err (feed.Frame e)) f f' whole whole' empty (omega (arith, limit')) h;
    }

-- the lines grow with the messages
pub grown : (f f' : Feed) (new : List Message) → IsGoing f → (dumped f'.fed).messages ≡ (dumped f.fed).messages ++ new → dump_text f'.fed ≡ dump_text f.fed ++ lines_before new
unfolding dump_text
grown f f' new going more =
    ap lines_before more ∙ lines_before-append (dumped f.fed).messages new (none_refused (first_refusal (dumped f.fed).messages) (option_map broken (dumped f.fed).bad) going.sound)

-- the lines of the new messages are what is added
pub lines_added : (f f' : Feed) (messages : List Message) (fault : Option Refusal) (text : List ℕ) (refusal all : Option Refusal) → IsGoing f → FeedsOn f f' messages fault → text ≡ lines_before messages → refusal ≡ first_refusal messages → all ≡ option_or refusal fault → AddsLines f f' text all
lines_added f f' messages fault text refusal all going h is_text is_refusal is_all =
    let none = none_refused (first_refusal (dumped f.fed).messages) (option_map broken (dumped f.fed).bad) going.sound in
    let first : first_refusal (dumped f'.fed).messages ≡ refusal =
    ap first_refusal h.messages_are ∙ first_refusal-append (dumped f.fed).messages messages ∙ rw none (sym is_refusal) in
    record {
      limit_is = h.limit_is;
      enough = h.enough;
      text_is = grown f f' messages going h.messages_are ∙ ap (λ x. dump_text f.fed ++ x) (sym is_text);
      refusal_is = rw (first, h.fault_is) (sym is_all);
    }
