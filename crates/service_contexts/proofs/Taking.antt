-- What a reading takes is lawful and is there, and what is there is taken.
use Rattle.std.proofs.Common.{◌≡◌, ℕ, ◌+◌, ◌-◌, ◌^◌, ◌<◌, Bool, true, false, cond, eqb, ltb, List, [], ◌∷◌, ◌++◌}
use Rattle.std.proofs.Common.{Option, Some, None, Result, Ok, refl, ap, subst, ◌∙◌, arith, ◌⊎◌, inl, inr}
use Rattle.std.specs.Int.{w16, w32}
use Rattle.std.specs.Option.{ok_or}
use Rattle.std.specs.Result.{result_ok}
use Rattle.std.proofs.lemmas.Bool.{eqb-true, ltb-true, ltb-false, lt-ltb, le-ltb}
use Rattle.orb_base.specs.Span.{Span}
use Rattle.orb_base.specs.Priorities.{model_number, model_of}
use Rattle.orb_base.specs.declared.priority_model.PriorityModel.{PriorityModel}
use Rattle.orb_base.specs.declared.priority_model.PriorityModel.TheVariants.{ClientPropagated, ServerDeclared}
use Rattle.cdr_core.specs.Field.{Field, number}
use Rattle.cdr_core.specs.Cursor.{Cursor, AreBytes}
use Rattle.cdr_core.specs.Reading.{number_at, count_at}
use Rattle.cdr_core.specs.Passing.{Spans}
use Rattle.cdr_core.specs.Sequence.{times}
use Rattle.cdr_core.specs.ListLaws.{TakesOnly, TakesEach, TakesRoom}
use Rattle.cdr_core.proofs.CallerLemmas.{spans_then, spans_split, number_takes, number_reads}
use Rattle.cdr_core.proofs.CallerLemmas.{ok_is, bytes_behind, counted_takes, counted_again, with_front, goes_on, ends}
use Rattle.service_contexts.specs.Layout.{IsPriority, IsBand, ModelValue, IsModelValue, AreBands, priority_fields}
use Rattle.service_contexts.specs.Layout.{band_fields, model_fields, bands_fields}
use Rattle.service_contexts.specs.Reading.{Taken, priority_at, band_at, model_at, or_refused, bands_at}
use Rattle.service_contexts.proofs.Steps.{bind_some, ok_of, some_is, passed, not_failed}

-- a lawful value between two cursors
pub record Took (A : Type 0) (IsLawful : A → Type 0) (fields : A → List Field) (c d : Cursor) (value : A) : Type 0 where
  pub lawful : IsLawful value
  pub spans : Spans c d (fields value)
  pub bytes : AreBytes d.rest

-- what the reading takes is such a value
abbrev pub Takes : (A : Type 0) → (A → Type 0) → (A → List Field) → (Cursor → Taken A) → Type 0
Takes A IsLawful fields one = (c : Cursor) (y : A × Cursor) → AreBytes c.rest → one c ≡ Some y
    → Took A IsLawful fields c y.1 y.0

-- the reading takes each such value
abbrev pub Again : (A : Type 0) → (A → Type 0) → (A → List Field) → (Cursor → Taken A) → Type 0
Again A IsLawful fields one = (c d : Cursor) (a : A) → IsLawful a → Spans c d (fields a) → one c ≡ Some (a, d)

-- ---- priorities

pub priority_takes : Takes ℕ IsPriority priority_fields priority_at
unfolding priority_at
priority_takes c y fits e =
    let b = bind_some (result_ok (number_at w16 c)) (λ x. cond (ltb x.0 (2 ^ 15)) (Some x) None) y e in
    let t = number_takes w16 c b.0 (omega arith) fits (ok_of (number_at w16 c) b.0 b.1) in
    let g = passed (ltb b.0.0 (2 ^ 15)) b.0 y b.2 in
    subst (λ (x : ℕ × Cursor). Took ℕ IsPriority priority_fields c x.1 x.0) g.1
    (record { lawful = ltb-true _ _ g.0; spans = t.spans; bytes = t.bytes })

pub priority_again : Again ℕ IsPriority priority_fields priority_at
unfolding priority_at
priority_again c d n lawful p = rw (number_reads w16 c d n (omega arith) (omega arith) p, lt-ltb n (2 ^ 15) lawful) refl

-- ---- bands

pub band_takes : Takes Span IsBand band_fields band_at
unfolding band_at
band_takes c y fits e =
    let low = bind_some (priority_at c) _ y e in
    let high = bind_some (priority_at low.0.1) _ y low.2 in
    let span : Span = record { low = low.0.0; high = high.0.0 } in
    let g = not_failed (ltb high.0.0 low.0.0) (span, high.0.1) y high.2 in
    let t = priority_takes c low.0 fits low.1 in
    let u = priority_takes low.0.1 high.0 t.bytes high.1 in
    subst (λ (x : Span × Cursor). Took Span IsBand band_fields c x.1 x.0) g.1 (record {
      lawful = (ltb-false _ _ g.0, u.lawful);
      spans = spans_then c low.0.1 high.0.1 (priority_fields low.0.0) (priority_fields high.0.0) t.spans u.spans;
      bytes = u.bytes;
    })

pub band_again : Again Span IsBand band_fields band_at
unfolding band_at
band_again c d b lawful p =
    let h = spans_split c d (priority_fields b.low) (priority_fields b.high) p in
    let low_lawful : IsPriority b.low = omega (arith, lawful.0, lawful.1) in
    rw (
      priority_again c h.middle b.low low_lawful h.first,
      priority_again h.middle d b.high lawful.1 h.others,
      le-ltb _ _ lawful.0,
    ) refl

-- ---- models

one_of_two : (first second : Bool) (m : PriorityModel)
    → cond first (Some ClientPropagated) (cond second (Some ServerDeclared) None) ≡ Some m
    → ((first ≡ true) × (ClientPropagated ≡ m)) ⊎ ((second ≡ true) × (ServerDeclared ≡ m))
one_of_two true second m e = inl (refl, some_is ClientPropagated m e)
one_of_two false true m e = inr (refl, some_is ServerDeclared m e)
one_of_two false false m e = absurd cc

model_found : (n : ℕ) (m : PriorityModel) → model_of n ≡ Some m → n ≡ model_number m
unfolding model_of
model_found n m e =
    elim (one_of_two (eqb n 0) (eqb n 1) m e) [
      | inl h ↦ eqb-true n 0 h.0 ∙ ap model_number h.1
      | inr h ↦ eqb-true n 1 h.0 ∙ ap model_number h.1
    ]

model_there : (m : PriorityModel) → model_of (model_number m) ≡ Some m
unfolding model_of
model_there ClientPropagated = refl
model_there ServerDeclared = refl

model_small : (m : PriorityModel) → model_number m < 2 ^ 32
model_small ClientPropagated = omega arith
model_small ServerDeclared = omega arith

pub model_takes : Takes ModelValue IsModelValue model_fields model_at
unfolding model_at
model_takes c y fits e =
    let n = bind_some (result_ok (number_at w32 c)) _ y e in
    let m = bind_some (model_of n.0.0) _ y n.2 in
    let l = bind_some (priority_at n.0.1) _ y m.2 in
    let t = number_takes w32 c n.0 (omega arith) fits (ok_of (number_at w32 c) n.0 n.1) in
    let u = priority_takes n.0.1 l.0 t.bytes l.1 in
    let same = model_found n.0.0 m.0 m.1 in
    let first : Spans c n.0.1 (number w32 (model_number m.0) ∷ []) =
    subst (λ (k : ℕ). Spans c n.0.1 (number w32 k ∷ [])) same t.spans in
    let is : ((m.0, l.0.0), l.0.1) ≡ y = let h = l.2 in cc in
    subst (λ (x : ModelValue × Cursor). Took ModelValue IsModelValue model_fields c x.1 x.0) is (record {
      lawful = u.lawful;
      spans = spans_then c n.0.1 l.0.1 (number w32 (model_number m.0) ∷ []) (priority_fields l.0.0) first u.spans;
      bytes = u.bytes;
    })

pub model_again : Again ModelValue IsModelValue model_fields model_at
unfolding model_at
model_again c d v lawful p =
    let h = spans_split c d (number w32 (model_number v.0) ∷ []) (priority_fields v.1) p in
    rw (
      number_reads w32 c h.middle (model_number v.0) (omega arith) (model_small v.0) h.first,
      model_there v.0,
      priority_again h.middle d v.1 lawful h.others,
    ) refl

-- ---- bands behind their number

-- want of a value as the one error
abbrev refused : {A : Type 0} → Option A → Result A (Unit {0})
refused o = ok_or o tt

some_of : {A : Type 0} (o : Option A) (x : A) → refused o ≡ Ok x → o ≡ Some x
some_of (Some y) x e = ap (λ z. Some z) (ok_is y x e)
some_of None x e = absurd cc

band_found : TakesOnly (or_refused band_at) band_fields IsBand
band_found c y fits e = let t = band_takes c y fits (some_of (band_at c) y e) in (t.lawful, t.spans)

band_there : TakesEach (or_refused band_at) band_fields IsBand
band_there c d b lawful p = ap (λ (o : Taken Span). refused o) (band_again c d b lawful p)

band_room : TakesRoom band_fields
band_room b place = omega arith

pub bands_takes : Takes (List Span) AreBands bands_fields bands_at
unfolding bands_at
bands_takes c y fits e =
    let n = bind_some (result_ok (count_at c)) (λ x. result_ok (times (or_refused band_at) x.0 x.1)) y e in
    let t = counted_takes (or_refused band_at) band_fields IsBand band_found c n.0 y fits (ok_of (count_at c) n.0 n.1) (ok_of (times (or_refused band_at) n.0.0 n.0.1) y n.2) in
    record { lawful = t.0; spans = t.1; bytes = bytes_behind c y.1 (bands_fields y.0) fits t.1 }

pub bands_again : Again (List Span) AreBands bands_fields bands_at
unfolding bands_at
bands_again c d s lawful p =
    let h = counted_again (or_refused band_at) band_fields IsBand band_there band_room c d s lawful p in
    rw (h.counts, h.values) refl

-- ---- a loop over them

-- what one more reading without a value makes of the whole
pub bands_end : (front : List Span) (count i : ℕ) (c start : Cursor) → i < count → band_at c ≡ None
    → with_front front (times (or_refused band_at) (count - i) c) ≡ times (or_refused band_at) count start
    → result_ok (times (or_refused band_at) count start) ≡ None
bands_end front count i c start less none so_far =
    ap result_ok (ends (or_refused band_at) tt front count i c (times (or_refused band_at) count start) less
    (ap (λ (o : Taken Span). refused o) none) so_far)

-- and one that has a value
pub bands_go_on : (front : List Span) (count i : ℕ) (c start : Cursor) (b : Span) (d : Cursor) → i < count → band_at c ≡ Some (b, d)
    → with_front front (times (or_refused band_at) (count - i) c) ≡ times (or_refused band_at) count start
    → with_front (front ++ b ∷ []) (times (or_refused band_at) (count - (i + 1)) d) ≡ times (or_refused band_at) count start
bands_go_on front count i c start b d less some so_far =
    goes_on (or_refused band_at) front count i c b d (times (or_refused band_at) count start) less
    (ap (λ (o : Taken Span). refused o) some) so_far
