-- Bytes mean one thing so far, and further bytes add to it.
use Rattle.std.proofs.Common.{◌≡◌, ℕ, List, ◌++◌, Option, Some, None, refl, sym, ap, ◌∙◌, subst}
use Rattle.orb_base.specs.declared.limits.TheConstants.{MAX_MESSAGE}
use Rattle.orb_base.specs.declared.order.Order.{Order}
use Rattle.giop_frames.proofs.Grows.{Grows, stream_grows}
use Rattle.giop_frames.specs.Messages as Frames
use Rattle.giop_frames.specs.Stream.{Said, stream}
use Rattle.giop_frames.specs.declared.fault.FrameFault.{FrameFault}
use Rattle.giop_messages.specs.Message.{Message}
use Rattle.heard_messages.specs.Hearing.{Meaning, IsOneWay, Hears, HeardBy}
use Rattle.heard_messages.specs.Laws.{GrowsBy, GoesOn}
use Rattle.heard_messages.specs.ReadEnds.{decided, IsByBytes}
use Rattle.heard_messages.specs.declared.means.Means.{Means}
use Rattle.heard_messages.specs.declared.read_end.ReadEnd.{ReadEnd}
use Rattle.heard_messages.proofs.Hearings.{IsByBytesIf, by_bytes}
use Rattle.heard_messages.proofs.OneMeaning.{hears_one, goes_on}

-- a message, or else the stream
decides_by : (o : Option ReadEnd) (bad : Option FrameFault) → IsByBytesIf o → IsByBytesIf (decided o bad)
decides_by (Some e) bad h = h
decides_by None (Some fault) h = tt
decides_by None None h = tt

module _ {B C : Type 0} (means : B → ℕ → Order → ℕ → Message → Means B C → Type 0) where
  pub heard_one : IsOneWay means → (first : B) (bytes : List ℕ) (a b : List C) (e f : Option ReadEnd) → HeardBy means first bytes a e → HeardBy means first bytes b f → (a ≡ b) × (e ≡ f)
  heard_one one first bytes a b e f h k =
      let same = hears_one means one (stream MAX_MESSAGE bytes).messages first 0 h.meaning k.meaning h.hears k.hears in (
        h.calls_are ∙ ap (λ (z : Meaning B C). z.calls) same ∙ sym k.calls_are,
        h.ends ∙ ap (λ (z : Meaning B C). decided z.ending (stream MAX_MESSAGE bytes).bad) same ∙ sym k.ends,
      )

  -- by how a message ended the reading, and by what the stream breaks
  grows_by : IsOneWay means → (o : Option ReadEnd) (bad : Option FrameFault) (first : B) (s s' : Said) (calls all : List C) (e f : Option ReadEnd) (earlier later : Meaning B C)
      → earlier.ending ≡ o → s.bad ≡ bad → Grows s s' → Hears means s.messages first 0 earlier → Hears means s'.messages first 0 later
      → calls ≡ earlier.calls → all ≡ later.calls → f ≡ decided later.ending s'.bad → GrowsBy (decided o bad) calls all f
  grows_by one (Some x) bad first s s' calls all e f earlier later is broke g h k are are' ends =
      let goes : GoesOn means earlier.ending g.new 0 earlier later =
      goes_on means one s.messages g.new first 0 earlier later h (subst (λ (ms : List Frames.Message). Hears means ms first 0 later) g.more k) in
      let same : later ≡ earlier = subst (λ (o : Option ReadEnd). GoesOn means o g.new 0 earlier later) is goes in (
        are' ∙ ap (λ (z : Meaning B C). z.calls) same ∙ sym are,
        ends ∙ ap (λ (z : Meaning B C). decided z.ending s'.bad) same ∙ ap (λ (o : Option ReadEnd). decided o s'.bad) is,
      )
  grows_by one None None first s s' calls all e f earlier later is broke g h k are are' ends =
      let goes : GoesOn means earlier.ending g.new 0 earlier later =
      goes_on means one s.messages g.new first 0 earlier later h (subst (λ (ms : List Frames.Message). Hears means ms first 0 later) g.more k) in
      let on : GoesOn means None g.new 0 earlier later = subst (λ (o : Option ReadEnd). GoesOn means o g.new 0 earlier later) is goes in
      (on.0.calls, are' ∙ ap (λ (z : Meaning B C). z.calls) on.2 ∙ ap (λ (cs : List C). cs ++ on.0.calls) (sym are))
  grows_by one None (Some fault) first s s' calls all e f earlier later is broke g h k are are' ends =
      let stops : s' ≡ s = g.stops fault broke in
      let again : Hears means s.messages first 0 later = subst (λ (x : Said). Hears means x.messages first 0 later) stops k in
      let same : later ≡ earlier = hears_one means one s.messages first 0 later earlier again h in (
        are' ∙ ap (λ (z : Meaning B C). z.calls) same ∙ sym are,
        ends ∙ ap (λ (z : Meaning B C). decided z.ending s'.bad) same ∙ ap (λ (x : Said). decided earlier.ending x.bad) stops
            ∙ ap (λ (o : Option ReadEnd). decided o s.bad) is ∙ ap (decided None) broke,
      )

  pub hearing_grows : IsOneWay means → (first : B) (bytes more : List ℕ) (calls all : List C) (e f : Option ReadEnd) → HeardBy means first bytes calls e
      → HeardBy means first (bytes ++ more) all f → GrowsBy e calls all f
  hearing_grows one first bytes more calls all e f h k =
      subst (λ (o : Option ReadEnd). GrowsBy o calls all f) (sym h.ends)
      (grows_by one h.meaning.ending (stream MAX_MESSAGE bytes).bad first (stream MAX_MESSAGE bytes) (stream MAX_MESSAGE (bytes ++ more)) calls all e f h.meaning k.meaning
      refl refl (stream_grows MAX_MESSAGE bytes more) h.hears k.hears h.calls_are k.calls_are k.ends)

  pub bytes_end : (first : B) (bytes : List ℕ) (calls : List C) (end : ReadEnd) → HeardBy means first bytes calls (Some end) → IsByBytes end
  bytes_end first bytes calls end h =
      subst (λ (o : Option ReadEnd). IsByBytesIf o) (sym h.ends)
      (decides_by h.meaning.ending (stream MAX_MESSAGE bytes).bad (by_bytes means (stream MAX_MESSAGE bytes).messages first 0 h.meaning h.hears))
