-- Messages that are heard one after another.
use Rattle.std.proofs.Common.{◌≡◌, ℕ, ◌+◌, ◌≤◌, ◌<◌, List, [], ◌∷◌, ◌++◌, length, drop, get_or, Option, Some, None, refl, sym, ap, ◌∙◌, subst, arith, append_assoc, append-nil, length-append}
use Rattle.std.specs.Prelude.{option_to_list}
use Rattle.std.proofs.lemmas.List.{drop_more, drop_all}
use Rattle.orb_base.specs.declared.order.Order.{Order}
use Rattle.giop_frames.specs.Messages as Frames
use Rattle.giop_messages.specs.Message.{Message}
use Rattle.heard_messages.specs.Hearing.{Meaning, nothing, after_calls, HearsOn, heard_with, IsMeant, Hears, Takes}
use Rattle.heard_messages.specs.ReadEnds.{IsByBytes}
use Rattle.heard_messages.specs.declared.means.Means.{Means}
use Rattle.heard_messages.specs.declared.means.Means.TheVariants.{Goes, Ends, Breaks}
use Rattle.heard_messages.specs.declared.read_end.ReadEnd.{ReadEnd}
use Rattle.heard_messages.specs.declared.read_end.ReadEnd.TheVariants.{Ended, Broken}

-- nothing, or what bytes alone can say
abbrev pub IsByBytesIf : Option ReadEnd → Type 0
IsByBytesIf None = Unit {0}
IsByBytesIf (Some end) = IsByBytes end

module _ {C : Type 0} where
  pub one_call : (call : Option C) → length (option_to_list call) ≤ 1
  one_call None = grind arith
  one_call (Some call) = grind arith

module _ {B C : Type 0} (means : B → ℕ → Order → ℕ → Message → Means B C → Type 0) where
  -- ---- the loop over messages

  -- after what was heard so far, what the rest means is what all mean
  abbrev pub Leaves : List Frames.Message → List Frames.Message → B → ℕ → Meaning B C → Type 0
  Leaves all rest first serial heard =
      (later : Meaning B C) → Hears means rest heard.bound (serial + length heard.calls) later → Hears means all first serial (after_calls heard.calls later)

  next_by : (all : List Frames.Message) (m : Frames.Message) (rest : List Frames.Message) (first : B) (serial : ℕ) (old new : Meaning B C) (x : Means B C)
      → IsMeant means old.bound (serial + length old.calls) m x → new ≡ heard_with old m.at x → new.ending ≡ None
      → Leaves all (m ∷ rest) first serial old → Leaves all rest first serial new
  next_by all m rest first serial old new (Goes next call) meant is none h =
      let calls : List C = option_to_list call in
      subst (λ (z : Meaning B C). Leaves all rest first serial z) (sym is)
      (λ later hears.
      let counts : serial + length (old.calls ++ calls) ≡ (serial + length old.calls) + length calls = omega (arith, length-append old.calls calls) in
      subst (λ (c : List C). Hears means all first serial (record { calls = c; bound = later.bound; ending = later.ending })) (sym (append_assoc old.calls calls later.calls))
      (h (after_calls calls later) (Goes next call, meant, (later, subst (λ (n : ℕ). Hears means rest next n later) counts hears, refl))))
  next_by all m rest first serial old new Ends meant is none h =
      let ended : Some Ended ≡ None = sym (ap (λ (z : Meaning B C). z.ending) is) ∙ none in absurd (cc)
  next_by all m rest first serial old new (Breaks fault) meant is none h =
      let ended : Some (Broken m.at fault) ≡ None = sym (ap (λ (z : Meaning B C). z.ending) is) ∙ none in absurd (cc)

  ended_by : (all : List Frames.Message) (m : Frames.Message) (rest : List Frames.Message) (first : B) (serial : ℕ) (old new : Meaning B C) (e : ReadEnd) (x : Means B C)
      → IsMeant means old.bound (serial + length old.calls) m x → new ≡ heard_with old m.at x → new.ending ≡ Some e
      → Leaves all (m ∷ rest) first serial old → Hears means all first serial new
  ended_by all m rest first serial old new e (Goes next call) meant is some h =
      let going : None ≡ Some e = sym (ap (λ (z : Meaning B C). z.ending) is) ∙ some in absurd (cc)
  ended_by all m rest first serial old new e Ends meant is some h =
      subst (λ (z : Meaning B C). Hears means all first serial z)
      ((λ i. record { calls = append-nil old.calls i; bound = old.bound; ending = Some Ended }) ∙ sym is)
      (h (nothing old.bound (Some Ended)) (Ends, meant, refl))
  ended_by all m rest first serial old new e (Breaks fault) meant is some h =
      subst (λ (z : Meaning B C). Hears means all first serial z)
      ((λ i. record { calls = append-nil old.calls i; bound = old.bound; ending = Some (Broken m.at fault) }) ∙ sym is)
      (h (nothing old.bound (Some (Broken m.at fault))) (Breaks fault, meant, refl))

  -- the message at a place goes before those after it
  next_left : (ms : List Frames.Message) (n : ℕ) (m : Frames.Message) → n < length ms → m ≡ get_or ms n m → drop n ms ≡ m ∷ drop (n + 1) ms
  next_left ms n m lt is = drop_more ms n m lt ∙ ap (λ (x : Frames.Message). x ∷ drop (n + 1) ms) (sym is)

  pub leaves_next : (all : List Frames.Message) (n : ℕ) (m : Frames.Message) (first : B) (serial : ℕ) (old new : Meaning B C) → n < length all → m ≡ get_or all n m
      → Takes means serial m old new → new.ending ≡ None → Leaves all (drop n all) first serial old → Leaves all (drop (n + 1) all) first serial new
  leaves_next all n m first serial old new lt is takes none h =
      next_by all m (drop (n + 1) all) first serial old new takes.0 takes.1 takes.2 none
      (subst (λ (ms : List Frames.Message). Leaves all ms first serial old) (next_left all n m lt is) h)

  pub ended_with : (all : List Frames.Message) (n : ℕ) (m : Frames.Message) (first : B) (serial : ℕ) (old new : Meaning B C) (e : ReadEnd) → n < length all → m ≡ get_or all n m
      → Takes means serial m old new → new.ending ≡ Some e → Leaves all (drop n all) first serial old
      → Hears means all first serial (record { calls = new.calls; bound = new.bound; ending = Some e })
  ended_with all n m first serial old new e lt is takes some h =
      let ended : Hears means all first serial new =
      ended_by all m (drop (n + 1) all) first serial old new e takes.0 takes.1 takes.2 some
      (subst (λ (ms : List Frames.Message). Leaves all ms first serial old) (next_left all n m lt is) h) in
      subst (λ (o : Option ReadEnd). Hears means all first serial (record { calls = new.calls; bound = new.bound; ending = o })) some ended

  pub heard_all : (all : List Frames.Message) (n : ℕ) (first : B) (serial : ℕ) (calls : List C) (bound : B) → length all ≤ n
      → Leaves all (drop n all) first serial (record { calls = calls; bound = bound; ending = None }) → Hears means all first serial (record { calls = calls; bound = bound; ending = None })
  heard_all all n first serial calls bound le h =
      subst (λ (c : List C). Hears means all first serial (record { calls = c; bound = bound; ending = None })) (append-nil calls)
      ((subst (λ (ms : List Frames.Message). Leaves all ms first serial (record { calls = calls; bound = bound; ending = None })) (drop_all n all le) h) (nothing bound None) refl)

  more_by : (old new : Meaning B C) (at : ℕ) (x : Means B C) → new ≡ heard_with old at x → length new.calls ≤ length old.calls + 1
  more_by old new at (Goes next call) is = omega (arith, ap (λ (z : Meaning B C). length z.calls) is, length-append old.calls (option_to_list call), one_call call)
  more_by old new at Ends is = omega (arith, ap (λ (z : Meaning B C). length z.calls) is)
  more_by old new at (Breaks fault) is = omega (arith, ap (λ (z : Meaning B C). length z.calls) is)

  -- at most one call more
  pub few_more : (serial : ℕ) (m : Frames.Message) (old new : Meaning B C) → Takes means serial m old new → length new.calls ≤ length old.calls + 1
  few_more serial m old new takes = more_by old new m.at takes.0 takes.2

  -- ---- no more calls than messages

  few_on : (ms : List Frames.Message) (bound : B) (serial at : ℕ) (x : Means B C) (all : Meaning B C)
      → ((bound : B) (n : ℕ) (later : Meaning B C) → Hears means ms bound n later → length later.calls ≤ length ms)
      → HearsOn (Hears means ms) bound serial at x all → length all.calls ≤ 1 + length ms
  few_on ms bound serial at (Goes next call) all few h =
      omega (arith, ap (λ (z : Meaning B C). length z.calls) h.2, length-append (option_to_list call) h.0.calls, one_call call, few next (serial + length (option_to_list call)) h.0 h.1)
  few_on ms bound serial at Ends all few h = omega (arith, ap (λ (z : Meaning B C). length z.calls) h)
  few_on ms bound serial at (Breaks fault) all few h = omega (arith, ap (λ (z : Meaning B C). length z.calls) h)

  pub few_calls : (ms : List Frames.Message) (bound : B) (serial : ℕ) (all : Meaning B C) → Hears means ms bound serial all → length all.calls ≤ length ms
  few_calls [] bound serial all h = omega (arith, ap (λ (z : Meaning B C). length z.calls) h)
  few_calls (m ∷ ms) bound serial all h =
      let few = few_on ms bound serial m.at h.0 all (few_calls ms) h.2 in omega (arith, few)

  -- ---- messages after others that ended nothing

  both_on : (ms new : List Frames.Message) (bound : B) (serial at : ℕ) (x : Means B C) (earlier later : Meaning B C)
      → ((bound : B) (n : ℕ) (e : Meaning B C) → e.ending ≡ None → Hears means ms bound n e → Hears means new e.bound (n + length e.calls) later
      → Hears means (ms ++ new) bound n (after_calls e.calls later))
      → earlier.ending ≡ None → HearsOn (Hears means ms) bound serial at x earlier → Hears means new earlier.bound (serial + length earlier.calls) later
      → HearsOn (Hears means (ms ++ new)) bound serial at x (after_calls earlier.calls later)
  both_on ms new bound serial at (Goes next call) earlier later both none h k =
      let calls : List C = option_to_list call in
      let rest : Meaning B C = h.0 in
      let its_bound : earlier.bound ≡ rest.bound = ap (λ (z : Meaning B C). z.bound) h.2 in
      let its_calls : earlier.calls ≡ calls ++ rest.calls = ap (λ (z : Meaning B C). z.calls) h.2 in
      let counts : serial + length earlier.calls ≡ (serial + length calls) + length rest.calls = omega (arith, ap length its_calls, length-append calls rest.calls) in
      let on : Hears means new rest.bound ((serial + length calls) + length rest.calls) later =
      subst (λ (b : B). Hears means new b ((serial + length calls) + length rest.calls) later) its_bound
      (subst (λ (n : ℕ). Hears means new earlier.bound n later) counts k) in (
        after_calls rest.calls later,
        both next (serial + length calls) rest (sym (ap (λ (z : Meaning B C). z.ending) h.2) ∙ none) h.1 on,
        λ i. record { calls = (ap (λ (cs : List C). cs ++ later.calls) its_calls ∙ append_assoc calls rest.calls later.calls) i; bound = later.bound; ending = later.ending },
      )
  both_on ms new bound serial at Ends earlier later both none h k =
      let ended : Some Ended ≡ None = sym (ap (λ (z : Meaning B C). z.ending) h) ∙ none in absurd (cc)
  both_on ms new bound serial at (Breaks fault) earlier later both none h k =
      let ended : Some (Broken at fault) ≡ None = sym (ap (λ (z : Meaning B C). z.ending) h) ∙ none in absurd (cc)

  pub hears_both : (ms new : List Frames.Message) (bound : B) (serial : ℕ) (earlier later : Meaning B C) → earlier.ending ≡ None → Hears means ms bound serial earlier
      → Hears means new earlier.bound (serial + length earlier.calls) later → Hears means (ms ++ new) bound serial (after_calls earlier.calls later)
  hears_both [] new bound serial earlier later none h k =
      let its_bound : earlier.bound ≡ bound = ap (λ (z : Meaning B C). z.bound) h in
      let its_calls : earlier.calls ≡ [] = ap (λ (z : Meaning B C). z.calls) h in
      let zero : serial + length earlier.calls ≡ serial = omega (arith, ap length its_calls) in
      subst (λ (cs : List C). Hears means new bound serial (after_calls cs later)) (sym its_calls)
      (subst (λ (b : B). Hears means new b serial later) its_bound (subst (λ (n : ℕ). Hears means new earlier.bound n later) zero k))
  hears_both (m ∷ ms) new bound serial earlier later none h k =
      (h.0, h.1, both_on ms new bound serial m.at h.0 earlier later (λ b n e. hears_both ms new b n e later) none h.2 k)

  -- ---- what messages end the reading by

  by_on : (ms : List Frames.Message) (bound : B) (serial at : ℕ) (x : Means B C) (all : Meaning B C)
      → ((bound : B) (n : ℕ) (later : Meaning B C) → Hears means ms bound n later → IsByBytesIf later.ending)
      → HearsOn (Hears means ms) bound serial at x all → IsByBytesIf all.ending
  by_on ms bound serial at (Goes next call) all by h =
      subst (λ (z : Meaning B C). IsByBytesIf z.ending) (sym h.2) (by next (serial + length (option_to_list call)) h.0 h.1)
  by_on ms bound serial at Ends all by h = subst (λ (z : Meaning B C). IsByBytesIf z.ending) (sym h) tt
  by_on ms bound serial at (Breaks fault) all by h = subst (λ (z : Meaning B C). IsByBytesIf z.ending) (sym h) tt

  pub by_bytes : (ms : List Frames.Message) (bound : B) (serial : ℕ) (all : Meaning B C) → Hears means ms bound serial all → IsByBytesIf all.ending
  by_bytes [] bound serial all h = subst (λ (z : Meaning B C). IsByBytesIf z.ending) (sym h) tt
  by_bytes (m ∷ ms) bound serial all h = by_on ms bound serial m.at h.0 all (by_bytes ms) h.2
