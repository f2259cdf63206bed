-- What a feed of one piece more completes.
use Rattle.std.proofs.Common.{◌≡◌, ℕ, false, List, [], ◌++◌, Option, Some, None, Result, Ok, Err, sym, ap, ◌∙◌, arith}
use Rattle.std.proofs.lemmas.Option.{same_Some}
use Rattle.orb_base.specs.declared.limits.TheConstants.{MAX_MESSAGE}
use Rattle.giop_frames.specs.Feeds.{Feed, said, Tells, Adds}
use Rattle.giop_frames.specs.Messages.{Message}
use Rattle.giop_frames.specs.Stream.{Said, stream}
use Rattle.giop_frames.specs.declared.fault.FeedFault.{FeedFault}
use Rattle.giop_frames.specs.declared.fault.FeedFault.TheVariants as feed
use Rattle.giop_frames.specs.declared.fault.FrameFault.{FrameFault}
use Rattle.giop_messages.proofs.CallerLemmas.{first_messages}
use Rattle.heard_messages.specs.Framing.{IsFraming, FramesOn, fault_in}

said_is : (f : Feed) → f.limit ≡ MAX_MESSAGE → said f ≡ stream MAX_MESSAGE f.fed
said_is f limit = ap (λ (n : ℕ). stream n f.fed) limit

framed : (result : Result (Unit {0}) FeedFault) (bad : Option FrameFault) (f f' : Feed) (whole whole' : List Message) → IsFraming f → f'.limit ≡ f.limit → whole ≡ []
    → f'.lacked ≡ false → (said f').bad ≡ bad → Adds f f' whole whole' → Tells result f f' whole whole' → FramesOn f f' whole' bad
framed result bad f f' whole whole' going same none enough broke adds tells =
    let limit : f'.limit ≡ MAX_MESSAGE = same ∙ going.limit_is in
    let new : adds.new ≡ whole' = sym (adds.gives ∙ ap (λ (ms : List Message). ms ++ adds.new) none) in
    record {
      framing = record { limit_is = limit; enough = enough };
      messages_are = ap (λ (s : Said). s.messages) (sym (said_is f' limit)) ∙ adds.says_new ∙ ap (λ (s : Said). s.messages ++ adds.new) (said_is f going.limit_is)
          ∙ ap (λ (ms : List Message). (stream MAX_MESSAGE f.fed).messages ++ ms) new;
      bad_is = ap (λ (s : Said). s.bad) (sym (said_is f' limit)) ∙ broke;
      readable = first_messages result f f' whole whole' none (omega (arith, limit)) tells;
    }

pub frames_on : (result : Result (Unit {0}) FeedFault) (bad : Option FrameFault) (f f' : Feed) (whole whole' : List Message) → fault_in result ≡ Some bad → IsFraming f
    → f'.limit ≡ f.limit → whole ≡ [] → Tells result f f' whole whole' → FramesOn f f' whole' bad
frames_on (Ok x) bad f f' whole whole' is going same none tells =
    framed (Ok x) bad f f' whole whole' going same none tells.1 (tells.2 ∙ same_Some None bad is) tells.3 tells
frames_on (Err (feed.Frame e)) bad f f' whole whole' is going same none tells =
    framed (Err (feed.Frame e)) bad f f' whole whole' going same none tells.1 (tells.2 ∙ same_Some (Some e) bad is) tells.3 tells
frames_on (Err feed.NoMemory) bad f f' whole whole' is going same none tells = absurd (cc)
