-- Where no value of a lawful type is, for a first fault, the reading is refused with that fault.
use Rattle.std.proofs.Common.{◌≡◌, ℕ, zero, suc, ◌+◌, ◌<◌, ◌≤◌, ◌^◌, Bool, true, false, not, eqb, ltb, List, [], ◌∷◌, ◌++◌, length, Option, Some, None, Ok, Err, refl, sym, ap, subst, ◌∙◌, arith, inl, inr}
use Rattle.std.specs.Prelude.{IsTrue}
use Rattle.std.specs.Int.{w8, w32}
use Rattle.std.proofs.lemmas.Bool.{le-ltb, and_parts}
use Rattle.cdr_core.specs.declared.fault.CdrFault.{CdrFault}
use Rattle.cdr_core.specs.Cursor.{Cursor, Reads}
use Rattle.cdr_core.specs.Field.{Field}
use Rattle.cdr_core.specs.Passing as passing
use Rattle.cdr_core.specs.Passing.{FailsCount}
use Rattle.cdr_core.specs.Basic.{string}
use Rattle.cdr_core.specs.Reading.{number_at}
use Rattle.cdr_core.proofs.CallerLemmas.{spans_split, number_reads, number_refuses, bool_refuses, count_reads, count_refuses, string_reads, string_refuses}
use Rattle.cdr_values.specs.Trees.{wide, Scalar, boolean, char, unsigned, signed, enumeration, Kind, scalar, words, sequence, array, structure, union, Members, no_members, member, Cases, no_cases, case, Value, Values, no_values, value, values_of}
use Rattle.cdr_values.specs.Choice.{choose}
use Rattle.cdr_values.specs.Passing.{Passed}
use Rattle.cdr_values.specs.Lawful.{is_lawful, are_lawful, cases_are_lawful}
use Rattle.cdr_values.specs.Spelling.{fields_of, fields_each}
use Rattle.cdr_values.specs.Reading.{label_at, scalar_at, tag_at, text_at, bounded_count_at, times, read, read_members, read_chosen}
use Rattle.cdr_values.specs.FirstFault.{IsNoLabel, IsLongText, IsHighCount, Counts, FailsScalar, FailsTag, FailsAmong, Fails, FailsMembers, FailsChosen}
use Rattle.cdr_values.proofs.Growing.{halves}
use Rattle.cdr_values.proofs.ReadBack.{Again, no_fields, tag_reads, bounded_reads, struct_lawful, choice_lawful, read_again}

-- where one thing fails so the reading is refused with that fault
abbrev pub Refuses : (Cursor → CdrFault → Type 0) → (Cursor → Reads Value) → Type 0
Refuses Bad one = (c : Cursor) (f : CdrFault) → Bad c f → one c ≡ Err f

label_refuses : (len : ℕ) (c : Cursor) (f : CdrFault) → IsNoLabel len c f → label_at len c ≡ Err f
unfolding label_at
label_refuses len c f h =
    rw (number_reads w32 c h.behind h.number (omega arith) h.passes.fits h.passes.spans, le-ltb h.number len h.high) (ap Err (sym h.told))

short_refuses : (len : ℕ) (c : Cursor) (f : CdrFault) → passing.IsShort 4 c f → label_at len c ≡ Err f
unfolding label_at
short_refuses len c f h = rw (number_refuses w32 c f h) refl

scalar_refuses : (s : Scalar) (c : Cursor) (f : CdrFault) → FailsScalar s c f → scalar_at s c ≡ Err f
unfolding scalar_at
scalar_refuses boolean c f h = rw (bool_refuses c f h) refl
scalar_refuses char c f h = rw (number_refuses w8 c f h) refl
scalar_refuses (unsigned s) c f h = rw (number_refuses (wide s) c f h) refl
scalar_refuses (signed s) c f h = rw (number_refuses (wide s) c f h) refl
scalar_refuses (enumeration name labels) c f (inl h) = rw (short_refuses (length labels) c f h) refl
scalar_refuses (enumeration name labels) c f (inr h) = rw (label_refuses (length labels) c f h) refl

tag_refuses : (k : Kind) (c : Cursor) (f : CdrFault) → FailsTag k c f → tag_at k c ≡ Err f
unfolding tag_at
tag_refuses (scalar s) c f h = scalar_refuses s c f h
tag_refuses (words bound) c f h = ap Err (sym h)
tag_refuses (sequence k bound) c f h = ap Err (sym h)
tag_refuses (array k n) c f h = ap Err (sym h)
tag_refuses (structure name ms) c f h = ap Err (sym h)
tag_refuses (union name k cs) c f h = ap Err (sym h)

text_refuses : (bound : ℕ) (c : Cursor) (f : CdrFault) → passing.Fails c string f → text_at bound c ≡ Err f
unfolding text_at
text_refuses bound c f h = rw (string_refuses c f h) refl

long_refuses : (bound : ℕ) (c : Cursor) (f : CdrFault) → IsLongText bound c f → text_at bound c ≡ Err f
unfolding text_at
long_refuses bound c f h = rw (string_reads c h.behind h.bytes h.passes.fits.0 h.passes.fits.1 h.passes.spans, h.high) (ap Err (sym h.told))

uncounted : (bound : ℕ) (c : Cursor) (f : CdrFault) → FailsCount c f → bounded_count_at bound c ≡ Err f
unfolding bounded_count_at
uncounted bound c f h = rw (count_refuses c f h) refl

high_refuses : (bound : ℕ) (c : Cursor) (f : CdrFault) → IsHighCount bound c f → bounded_count_at bound c ≡ Err f
unfolding bounded_count_at
high_refuses bound c f h = rw (count_reads c h.behind h.count h.passes.fits h.room h.passes.spans, h.high) (ap Err (sym h.told))

-- ---- one after the other

times_refuses : (one : Cursor → Reads Value) (k : Kind) (Bad : Cursor → CdrFault → Type 0) → Again one k → Refuses Bad one
    → (before : List Value) (n : ℕ) (c d : Cursor) (f : CdrFault) → length before < n → Passed c d (fields_each (values_of before) k) → Bad d f → times one n c ≡ Err f
unfolding times
times_refuses one k Bad again refuses before zero c d f few p bad = absurd (omega arith)
times_refuses one k Bad again refuses [] (suc n) c d f few p bad =
    let same : c ≡ d = no_fields p.fields c d p.asks p.spans in
    let here : Bad c f = subst (λ (x : Cursor). Bad x f) (sym same) bad in
    rw (refuses c f here) refl
times_refuses one k Bad again refuses (v ∷ before) (suc n) c d f few p bad =
    let h = halves (fields_of v k) (fields_each (values_of before) k) p.fields p.asks in
    let s = spans_split c d h.front h.back (subst (λ (gs : List Field). passing.Spans c d gs) h.parts p.spans) in
    let q : Passed s.middle d (fields_each (values_of before) k) = record { fields = h.back; asks = h.others; spans = s.others } in
    let first = again v h.front c s.middle h.first s.first in
    let others = times_refuses one k Bad again refuses before n s.middle d f (omega (arith, few)) q bad in
    rw (first, others) refl

among : (one : Cursor → Reads Value) (k : Kind) (Bad : Cursor → CdrFault → Type 0) → Again one k → Refuses Bad one
    → (n : ℕ) (c : Cursor) (f : CdrFault) → FailsAmong Bad k n c f → times one n c ≡ Err f
among one k Bad again refuses n c f h = times_refuses one k Bad again refuses h.before n c h.behind f h.few h.stand h.fails

-- ---- types

mutual
  unfolding read read_members read_chosen

  pub read_refuses : (k : Kind) → IsTrue (is_lawful k) → Refuses (Fails k) (read k)
  read_refuses (scalar s) l c f h = rw (scalar_refuses s c f h) refl
  read_refuses (words bound) l c f (inl h) = rw (text_refuses bound c f h) refl
  read_refuses (words bound) l c f (inr h) = rw (long_refuses bound c f h) refl
  read_refuses (sequence k bound) l c f (inl (inl h)) = rw (uncounted bound c f h) refl
  read_refuses (sequence k bound) l c f (inl (inr h)) = rw (high_refuses bound c f h) refl
  read_refuses (sequence k bound) l c f (inr h) =
      let g = h.2 in
      let count = bounded_reads bound h.0 c h.1 g.within g.room g.passes.spans in
      rw (count, among (read k) k (Fails k) (read_again k l) (read_refuses k l) h.0 h.1 f h.3) refl
  read_refuses (array k n) l c f h =
      let a = and_parts (not (eqb n 0)) (is_lawful k) l in
      rw (among (read k) k (Fails k) (read_again k a.1) (read_refuses k a.1) n c f h) refl
  read_refuses (structure name ms) l c f h =
      rw (members_refuse ms (struct_lawful ms l) c f h) refl
  read_refuses (union name d cs) l c f (inl h) = rw (tag_refuses d c f h) refl
  read_refuses (union name d cs) l c f (inr h) =
      let good = choice_lawful d cs l in
      let p = h.2 in
      rw (tag_reads d h.0 p.fields c h.1 p.asks p.spans, chosen_refuses cs good (choose h.0 cs) h.1 f h.3) refl

  members_refuse : (ms : Members) → IsTrue (are_lawful ms) → (c : Cursor) (f : CdrFault) → FailsMembers ms c f → read_members ms c ≡ Err f
  members_refuse no_members l c f h = absurd h
  members_refuse (member name k ms) l c f (inl h) = let a = and_parts (is_lawful k) (are_lawful ms) l in rw (read_refuses k a.0 c f h) refl
  members_refuse (member name k ms) l c f (inr h) =
      let a = and_parts (is_lawful k) (are_lawful ms) l in
      let p = h.2 in
      rw (read_again k a.0 h.0 p.fields c h.1 p.asks p.spans, members_refuse ms a.1 h.1 f h.3) refl

  chosen_refuses : (cs : Cases) → IsTrue (cases_are_lawful cs) → (i : Option ℕ) (c : Cursor) (f : CdrFault) → FailsChosen cs i c f → read_chosen cs i c ≡ Err f
  chosen_refuses no_cases l None c f h = absurd h
  chosen_refuses no_cases l (Some i) c f h = absurd h
  chosen_refuses (case labels x name k cs) l None c f h = absurd h
  chosen_refuses (case labels x name k cs) l (Some zero) c f h = let a = and_parts (is_lawful k) (cases_are_lawful cs) l in rw (read_refuses k a.0 c f h) refl
  chosen_refuses (case labels x name k cs) l (Some (suc i)) c f h = let a = and_parts (is_lawful k) (cases_are_lawful cs) l in chosen_refuses cs a.1 (Some i) c f h
