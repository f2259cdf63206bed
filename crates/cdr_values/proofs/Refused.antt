-- Where a reading is refused no value of the type is, and its fault is the first one.
use Rattle.std.proofs.Common.{◌≡◌, ℕ, zero, suc, pos, ◌+◌, ◌<◌, ◌≤◌, ◌^◌, Bool, true, false, cond, ltb, List, [], ◌∷◌, ◌++◌, length, Option, Some, None, Ok, Err, refl, sym, ap, subst, arith, ◌⊎◌, inl, inr}
use Rattle.std.specs.Int.{w8, w32, cast_signed, from_bool}
use Rattle.std.proofs.lemmas.Bool.{ltb-false, lt-ltb}
use Rattle.cdr_core.specs.declared.fault.CdrFault.{CdrFault}
use Rattle.cdr_core.specs.declared.fault.CdrCause.TheVariants.{BadEnum, OverBound}
use Rattle.cdr_core.specs.Basic.{unsigned, string}
use Rattle.cdr_core.specs.Cursor.{Cursor, AreBytes, Reads, fault, aligned}
use Rattle.cdr_core.specs.Sequence.{◌>>=◌}
use Rattle.cdr_core.specs.Passing.{IsShort, FailsCount}
use Rattle.cdr_core.specs.Passing as passing
use Rattle.cdr_core.specs.Reading.{number_at, bool_at, count_at, string_at}
use Rattle.cdr_core.proofs.CallerLemmas.{bind_err, guard_ok, guard_err, passes_of, number_takes, number_fails, bool_fails, count_takes, count_fails, string_takes, string_fails, bind_ok}
use Rattle.cdr_values.specs.Trees.{wide, Scalar, boolean, char, signed, enumeration, Kind, scalar, words, sequence, array, structure, union, Members, no_members, member, Cases, no_cases, case, Value, text, items, chosen, Values, no_values, value, values_of}
use Rattle.cdr_values.specs.Trees as trees
use Rattle.cdr_values.specs.Choice.{choose}
use Rattle.cdr_values.specs.Passing.{Passed}
use Rattle.cdr_values.specs.Spelling.{is_above, is_count, fields_of, fields_each}
use Rattle.cdr_values.specs.Reading.{as_read, label_at, scalar_at, value_at, tag_at, text_at, bounded_count_at, then_values, times, counted, then_member, read, read_members, read_chosen}
use Rattle.cdr_values.specs.FirstFault.{IsNoLabel, IsLongText, IsHighCount, Counts, FailsScalar, FailsTag, FailsAmong, Fails, FailsMembers, FailsChosen}
use Rattle.cdr_values.proofs.Taking.{Sound, bytes_behind, spans_none, passed_both, tag_takes, read_takes}

-- every fault that a reading tells is the first
abbrev Tells : (Cursor → Reads Value) → (Cursor → CdrFault → Type 0) → Type 0
Tells one Bad = (c : Cursor) (f : CdrFault) → AreBytes c.rest → one c ≡ Err f → Bad c f

as_err : {A B : Type 0} (g : A → B) (r : Reads A) (f : CdrFault) → as_read g r ≡ Err f → r ≡ Err f
as_err g (Ok x) f e = absurd cc
as_err g (Err d) f e = let h : d ≡ f = cc in rw h refl

pass_err : {A : Type 0} (b : Bool) (d : CdrFault) (x : A) (f : CdrFault) → cond b (Ok x) (Err d) ≡ Err f → (b ≡ false) × (d ≡ f)
pass_err true d x f e = absurd cc
pass_err false d x f e = (refl, cc)

-- ---- numbers, texts and counts

label_fails : (len : ℕ) (c : Cursor) (f : CdrFault) → AreBytes c.rest → label_at len c ≡ Err f → IsShort 4 c f ⊎ IsNoLabel len c f
unfolding label_at
label_fails len c f fits e =
    elim (bind_err (number_at w32 c) (λ x. cond (ltb x.0 len) (Ok x) (Err (fault BadEnum (aligned 4 c.place)))) f e) [
      | inl h ↦ inl (number_fails w32 c f h)
      | inr h ↦
          let t = number_takes w32 c h.0 (omega arith) fits h.1 in
          let g = pass_err (ltb h.0.0 len) (fault BadEnum (aligned 4 c.place)) h.0 f h.2 in
          let high : len ≤ h.0.0 = ltb-false _ _ g.0 in
          inr (record { number = h.0.0; behind = h.0.1; passes = passes_of c h.0.1 (unsigned w32 h.0.0) t.fits t.spans; high = high; told = sym g.1 })
    ]

scalar_fails : (s : Scalar) (c : Cursor) (f : CdrFault) → AreBytes c.rest → scalar_at s c ≡ Err f → FailsScalar s c f
unfolding scalar_at
scalar_fails boolean c f fits e = bool_fails c f fits (as_err (λ b. pos (from_bool b)) (bool_at c) f e)
scalar_fails char c f fits e = number_fails w8 c f (as_err pos (number_at w8 c) f e)
scalar_fails (trees.unsigned s) c f fits e = number_fails (wide s) c f (as_err pos (number_at (wide s) c) f e)
scalar_fails (signed s) c f fits e = number_fails (wide s) c f (as_err (cast_signed (wide s)) (number_at (wide s) c) f e)
scalar_fails (enumeration name labels) c f fits e = label_fails (length labels) c f fits (as_err pos (label_at (length labels) c) f e)

tag_fails : (k : Kind) (c : Cursor) (f : CdrFault) → AreBytes c.rest → tag_at k c ≡ Err f → FailsTag k c f
unfolding tag_at
tag_fails (scalar s) c f fits e = scalar_fails s c f fits e
tag_fails (words bound) c f fits e = cc
tag_fails (sequence k bound) c f fits e = cc
tag_fails (array k n) c f fits e = cc
tag_fails (structure name ms) c f fits e = cc
tag_fails (union name d cs) c f fits e = cc

text_fails : (bound : ℕ) (c : Cursor) (f : CdrFault) → AreBytes c.rest → text_at bound c ≡ Err f → passing.Fails c string f ⊎ IsLongText bound c f
unfolding text_at
text_fails bound c f fits e =
    elim (bind_err (string_at c) (λ x. cond (is_above bound (length x.0)) (Err (fault OverBound (aligned 4 c.place))) (Ok x)) f e) [
      | inl h ↦ inl (string_fails c f fits h)
      | inr h ↦
          let g = guard_err (is_above bound (length h.0.0)) (fault OverBound (aligned 4 c.place)) h.0 f h.2 in
          inr (record { bytes = h.0.0; behind = h.0.1; passes = string_takes c h.0 fits h.1; high = g.0; told = sym g.1 })
    ]

bounded_fails : (bound : ℕ) (c : Cursor) (f : CdrFault) → AreBytes c.rest → bounded_count_at bound c ≡ Err f → FailsCount c f ⊎ IsHighCount bound c f
unfolding bounded_count_at
bounded_fails bound c f fits e =
    elim (bind_err (count_at c) (λ x. cond (is_above bound x.0) (Err (fault OverBound (aligned 4 c.place))) (Ok x)) f e) [
      | inl h ↦ inl (count_fails c f fits h)
      | inr h ↦
          let t = count_takes c h.0 fits h.1 in
          let g = guard_err (is_above bound h.0.0) (fault OverBound (aligned 4 c.place)) h.0 f h.2 in
          inr (record { count = h.0.0; behind = h.0.1; passes = passes_of c h.0.1 (unsigned w32 h.0.0) t.fits t.spans; room = t.room; high = g.0; told = sym g.1 })
    ]

bounded_counts : (bound : ℕ) (c : Cursor) (y : ℕ × Cursor) → AreBytes c.rest → bounded_count_at bound c ≡ Ok y → Counts bound y.0 c y.1
unfolding bounded_count_at
bounded_counts bound c y fits e =
    let a = bind_ok (count_at c) (λ x. cond (is_above bound x.0) (Err (fault OverBound (aligned 4 c.place))) (Ok x)) y e in
    let g = guard_ok (is_above bound a.0.0) (fault OverBound (aligned 4 c.place)) a.0 y a.2 in
    let t = count_takes c a.0 fits a.1 in
    let few : ltb a.0.0 (2 ^ 32) ≡ true = lt-ltb _ _ t.fits in
    let within : is_count bound a.0.0 ≡ true = rw (g.0, few) refl in
    subst (λ (x : ℕ × Cursor). Counts bound x.0 c x.1) g.1 (record { passes = passes_of c a.0.1 (unsigned w32 a.0.0) t.fits t.spans; room = t.room; within = within })

-- ---- elements

times_fail : (one : Cursor → Reads Value) (k : Kind) (Bad : Cursor → CdrFault → Type 0) → Sound one k → Tells one Bad
    → (n : ℕ) (c : Cursor) (f : CdrFault) → AreBytes c.rest → times one n c ≡ Err f → FailsAmong Bad k n c f
unfolding times
times_fail one k Bad sound tells zero c f fits e = absurd cc
times_fail one k Bad sound tells (suc n) c f fits e =
    elim (bind_err (one c) (then_values (times one n)) f e) [
      | inl a ↦ record { before = []; behind = c; few = omega arith; stand = record { fields = []; asks = refl; spans = spans_none c }; fails = tells c f fits a }
      | inr a ↦
          let v = a.0.0 in
          let p = sound c v a.0.1 fits a.1 in
          let later = as_err (λ ws. v ∷ ws) (times one n a.0.1) f a.2 in
          let q = times_fail one k Bad sound tells n a.0.1 f (bytes_behind c a.0.1 p.fields p.spans fits) later in
          record {
            before = v ∷ q.before;
            behind = q.behind;
            few = omega (arith, q.few);
            stand = passed_both c a.0.1 q.behind (fields_of v k) (fields_each (values_of q.before) k) p q.stand;
            fails = q.fails;
          }
    ]

-- ---- types

mutual
  unfolding read read_members read_chosen

  pub read_fails : (k : Kind) → Tells (read k) (Fails k)
  read_fails (scalar s) c f fits e = scalar_fails s c f fits (as_err (value_at s) (scalar_at s c) f e)
  read_fails (words bound) c f fits e = text_fails bound c f fits (as_err text (text_at bound c) f e)
  read_fails (sequence k bound) c f fits e =
      let all = as_err (λ vs. items (values_of vs)) (bounded_count_at bound c >>= counted (read k)) f e in
      elim (bind_err (bounded_count_at bound c) (counted (read k)) f all) [
        | inl h ↦ inl (bounded_fails bound c f fits h)
        | inr h ↦
            let t = bounded_counts bound c h.0 fits h.1 in
            let bytes = bytes_behind c h.0.1 _ t.passes.spans fits in
            inr (h.0.0, h.0.1, t, times_fail (read k) k (Fails k) (read_takes k) (read_fails k) h.0.0 h.0.1 f bytes h.2)
      ]
  read_fails (array k n) c f fits e = times_fail (read k) k (Fails k) (read_takes k) (read_fails k) n c f fits (as_err (λ vs. items (values_of vs)) (times (read k) n c) f e)
  read_fails (structure name ms) c f fits e = members_fail ms c f fits (as_err (λ vs. items (values_of vs)) (read_members ms c) f e)
  read_fails (union name d cs) c f fits e =
      elim (bind_err (tag_at d c) (then_member cs (read_chosen cs)) f e) [
        | inl h ↦ inl (tag_fails d c f fits h)
        | inr h ↦
            let z = h.0.0 in
            let p = tag_takes d c z h.0.1 fits h.1 in
            let later = as_err (chosen z) (read_chosen cs (choose z cs) h.0.1) f h.2 in
            inr (z, h.0.1, p, chosen_fail cs (choose z cs) h.0.1 f (bytes_behind c h.0.1 p.fields p.spans fits) later)
      ]

  members_fail : (ms : Members) (c : Cursor) (f : CdrFault) → AreBytes c.rest → read_members ms c ≡ Err f → FailsMembers ms c f
  members_fail no_members c f fits e = absurd cc
  members_fail (member name k ms) c f fits e =
      elim (bind_err (read k c) (then_values (read_members ms)) f e) [
        | inl h ↦ inl (read_fails k c f fits h)
        | inr h ↦
            let v = h.0.0 in
            let p = read_takes k c v h.0.1 fits h.1 in
            let later = as_err (λ ws. v ∷ ws) (read_members ms h.0.1) f h.2 in
            inr (v, h.0.1, p, members_fail ms h.0.1 f (bytes_behind c h.0.1 p.fields p.spans fits) later)
      ]

  chosen_fail : (cs : Cases) (i : Option ℕ) (c : Cursor) (f : CdrFault) → AreBytes c.rest → read_chosen cs i c ≡ Err f → FailsChosen cs i c f
  chosen_fail no_cases None c f fits e = absurd cc
  chosen_fail no_cases (Some i) c f fits e = absurd cc
  chosen_fail (case l x name k cs) None c f fits e = absurd cc
  chosen_fail (case l x name k cs) (Some zero) c f fits e = read_fails k c f fits (as_err (λ v. value v no_values) (read k c) f e)
  chosen_fail (case l x name k cs) (Some (suc i)) c f fits e = chosen_fail cs (Some i) c f fits e
