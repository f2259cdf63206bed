-- What is dumped of some bytes, when further bytes follow.
use Rattle.std.proofs.Common.{◌≡◌, ℕ, ◌+◌, ◌-◌, List, [], ◌++◌, Option, Some, None, refl, sym, ap, ◌∙◌, subst, arith, append-nil}
use Rattle.std.specs.Prelude.{option_map}
use Rattle.std.specs.Option.{option_or}
use Rattle.orb_base.specs.declared.limits.TheConstants.{MAX_MESSAGE}
use Rattle.giop_frames.specs.declared.fault.FrameFault.{FrameFault}
use Rattle.giop_frames.specs.Messages.{Message}
use Rattle.giop_frames.specs.Stream.{Said}
use Rattle.giop_frames.proofs.Grows.{Grows, stream_grows}
use Rattle.giop_messages.specs.Front.{IsFront}
use Rattle.giop_dump.specs.declared.refusal.Refusal.{Refusal}
use Rattle.giop_dump.specs.Ending.{broken, first_refusal, lines_before, refusal_of, dumped, dump_text}
use Rattle.giop_dump.proofs.DumpLaws.{first_refusal-append, lines_before-append, lines_stop}

abbrev dumped_grows : (a b : List ℕ) → Grows (dumped a) (dumped (a ++ b))
dumped_grows = stream_grows MAX_MESSAGE

-- the text of more messages begins with that of the first ones
text_by : (first : Option Refusal) (x y : List Message) → first_refusal x ≡ first → IsFront (lines_before x) (lines_before (x ++ y))
text_by None x y h = record { missing = lines_before y; parts = lines_before-append x y h }
text_by (Some r) x y h = record { missing = []; parts = lines_stop x y r h ∙ sym (append-nil (lines_before x)) }

pub text_grows : (a b : List ℕ) → IsFront (dump_text a) (dump_text (a ++ b))
unfolding dump_text
text_grows a b =
    let g = dumped_grows a b in
    subst (λ (m : List Message). IsFront (lines_before (dumped a).messages) (lines_before m)) (sym g.more)
    (text_by (first_refusal (dumped a).messages) (dumped a).messages g.new refl)

-- a fault ends what is said
bad_stops : (bad : Option FrameFault) (s s' : Said) (r : Refusal) → Grows s s' → s.bad ≡ bad → option_map broken bad ≡ Some r → s' ≡ s
bad_stops None s s' r g h e = absurd (cc)
bad_stops (Some f) s s' r g h e = g.stops f h

-- the later saying of a refused one
stays_by : (first : Option Refusal) (s s' : Said) (r : Refusal) → Grows s s' → first_refusal s.messages ≡ first → refusal_of s ≡ Some r → (refusal_of s' ≡ Some r) × (lines_before s'.messages ≡ lines_before s.messages)
stays_by (Some q) s s' r g h is =
    let same : Some q ≡ Some r = sym (ap (λ o. option_or o (option_map broken s.bad)) h) ∙ is in
    let later : first_refusal s'.messages ≡ Some r =
    ap first_refusal g.more ∙ first_refusal-append s.messages g.new ∙ ap (λ o. option_or o (first_refusal g.new)) (h ∙ same) in
    (ap (λ o. option_or o (option_map broken s'.bad)) later, ap lines_before g.more ∙ lines_stop s.messages g.new q h)
stays_by None s s' r g h is =
    let fault : option_map broken s.bad ≡ Some r = sym (ap (λ o. option_or o (option_map broken s.bad)) h) ∙ is in
    let same : s' ≡ s = bad_stops s.bad s s' r g refl fault in
    (ap refusal_of same ∙ is, ap (λ (x : Said). lines_before x.messages) same)

pub refusal_stays : (a b : List ℕ) (r : Refusal) → refusal_of (dumped a) ≡ Some r → (refusal_of (dumped (a ++ b)) ≡ Some r) × (dump_text (a ++ b) ≡ dump_text a)
unfolding dump_text
refusal_stays a b r h = stays_by (first_refusal (dumped a).messages) (dumped a) (dumped (a ++ b)) r (dumped_grows a b) refl h
