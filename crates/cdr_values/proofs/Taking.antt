-- What is read is spelled so.
use Rattle.std.proofs.Common.{◌≡◌, ℕ, zero, suc, ℤ, pos, negsuc, ◌+◌, ◌-◌, ◌<◌, ◌≤◌, ◌^◌, ◌*◌, Bool, true, false, not, cond, ltb, List, [], ◌∷◌, ◌++◌, length, get_or, Option, Some, None, Ok, Err, refl, sym, ap, subst, ◌∙◌, arith, inl, inr}
use Rattle.std.proofs.lemmas.Bool.{cases_lt, lt-ltb, le-ltb, ltb-true, eq-eqb, le-leb}
use Rattle.std.proofs.lemmas.List.{get_or-append-add}
use Rattle.std.proofs.lemmas.Int.{to_z_pos}
use Rattle.std.proofs.Math.Facts.{to_z-neg}
use Rattle.std.specs.Int.{w8, w16, w32, w64, byte_len, from_bool, cast_signed}
use Rattle.cdr_core.specs.declared.fault.CdrFault.{CdrFault}
use Rattle.cdr_core.specs.declared.fault.CdrCause.TheVariants.{BadEnum, OverBound}
use Rattle.cdr_core.specs.Cursor.{Cursor, AreBytes, Reads, fault, aligned}
use Rattle.cdr_core.specs.Sequence.{◌>>=◌}
use Rattle.cdr_core.specs.Field.{Field, string_fields}
use Rattle.cdr_core.specs.Field as core
use Rattle.cdr_core.specs.Passing.{Spans}
use Rattle.cdr_core.specs.Reading.{number_at, bool_at, count_at, string_at}
use Rattle.cdr_core.proofs.CallerLemmas.{bind_ok, guard_ok, ok_is, spans_then, number_takes, bool_takes, count_takes, string_takes}
use Rattle.cdr_values.specs.Trees.{Size, size1, size2, size4, size8, wide, Scalar, boolean, char, unsigned, signed, enumeration, Kind, scalar, words, sequence, array, structure, union, Members, no_members, member, Cases, no_cases, case, Value, number, text, items, chosen, Values, no_values, value, values_of, values_len}
use Rattle.cdr_values.specs.Numerals.{numeral}
use Rattle.cdr_values.proofs.Labels.{in_range}
use Rattle.cdr_values.proofs.HasFields.{plain_is}
use Rattle.cdr_values.specs.Choice.{choose, kind_at}
use Rattle.cdr_values.specs.Passing.{Passed}
use Rattle.cdr_values.specs.Spelling.{is_above, is_text, is_count, behind, both, one_field, number_field, tag_field, fields_of, fields_each, fields_members, fields_chosen}
use Rattle.cdr_values.specs.Reading.{as_read, label_at, scalar_at, value_at, tag_at, text_at, bounded_count_at, then_values, times, counted, then_member, read, read_members, read_chosen}

pub bytes_behind : (c d : Cursor) (fields : List Field) → Spans c d fields → AreBytes c.rest → AreBytes d.rest
bytes_behind c d fields p h = λ i.
    let there : get_or (p.spelling ++ d.rest) (length p.spelling + i) 0 < 256 = subst (λ (x : List ℕ). get_or x (length p.spelling + i) 0 < 256) p.parts (h (length p.spelling + i)) in
    subst (λ (n : ℕ). n < 256) (get_or-append-add p.spelling d.rest i 0) there

pub as_ok : {A B : Type 0} (f : A → B) (r : Reads A) (y : B × Cursor) → as_read f r ≡ Ok y → (x : A) × (r ≡ Ok (x, y.1)) × (f x ≡ y.0)
as_ok f (Ok x) y e = let k = ok_is (f x.0, x.1) y e in (x.0, ap (λ (d : Cursor). Ok (x.0, d)) (ap (λ (z : _ × Cursor). z.1) k), ap (λ (z : _ × Cursor). z.0) k)
as_ok f (Err d) y e = absurd cc

pub passed_both : (a b c : Cursor) (p q : Option (List Field)) → Passed a b p → Passed b c q → Passed a c (both p q)
passed_both a b c p q x y = record { fields = x.fields ++ y.fields; asks = rw (x.asks, y.asks) refl; spans = spans_then a b c x.fields y.fields x.spans y.spans }

pub spans_none : (a : Cursor) → Spans a a []
spans_none a = record { spelling = []; parts = refl; spelled = refl; order = refl; place = omega arith }

-- every value that a reading gives is before the cursor after it
abbrev pub Sound : (Cursor → Reads Value) → Kind → Type 0
Sound one k = (c : Cursor) (v : Value) (d : Cursor) → AreBytes c.rest → one c ≡ Ok (v, d) → Passed c d (fields_of v k)

times_takes : (one : Cursor → Reads Value) (k : Kind) → Sound one k → (n : ℕ) (c : Cursor) (vs : List Value) (d : Cursor) → AreBytes c.rest → times one n c ≡ Ok (vs, d)
    → (values_len (values_of vs) ≡ n) × Passed c d (fields_each (values_of vs) k)
unfolding times
times_takes one k sound zero c vs d fits e =
    subst (λ (x : List Value × Cursor). (values_len (values_of x.0) ≡ 0) × Passed c x.1 (fields_each (values_of x.0) k)) (ok_is ([], c) (vs, d) e)
    (refl, record { fields = []; asks = refl; spans = spans_none c })
times_takes one k sound (suc n) c vs d fits e =
    let a = bind_ok (one c) (then_values (times one n)) (vs, d) e in
    let v = a.0.0 in
    let p = sound c v a.0.1 fits a.1 in
    let b = as_ok (λ ws. v ∷ ws) (times one n a.0.1) (vs, d) a.2 in
    let q = times_takes one k sound n a.0.1 b.0 d (bytes_behind c a.0.1 p.fields p.spans fits) b.1 in
    subst (λ ws. (values_len (values_of ws) ≡ suc n) × Passed c d (fields_each (values_of ws) k)) b.2 (ap suc q.0, passed_both c a.0.1 d (fields_of v k) (fields_each (values_of b.0) k) p q.1)

-- ---- counts and texts

pub counted_takes : (bound : ℕ) (c : Cursor) (n : ℕ) (d : Cursor) → AreBytes c.rest → bounded_count_at bound c ≡ Ok (n, d)
    → Spans c d (core.number w32 n ∷ []) × (is_count bound n ≡ true)
unfolding bounded_count_at
counted_takes bound c n d fits e =
    let a = bind_ok (count_at c) (λ x. cond (is_above bound x.0) (Err (fault OverBound (aligned 4 c.place))) (Ok x)) (n, d) e in
    let g = guard_ok (is_above bound a.0.0) (fault OverBound (aligned 4 c.place)) a.0 (n, d) a.2 in
    let t = count_takes c a.0 fits a.1 in
    let few : ltb a.0.0 (2 ^ 32) ≡ true = lt-ltb _ _ t.fits in
    let counts : is_count bound a.0.0 ≡ true = rw (g.0, few) refl in
    subst (λ (x : ℕ × Cursor). Spans c x.1 (core.number w32 x.0 ∷ []) × (is_count bound x.0 ≡ true)) g.1 (t.spans, counts)

text_takes : (bound : ℕ) (c : Cursor) (t : List ℕ) (d : Cursor) → AreBytes c.rest → text_at bound c ≡ Ok (t, d)
    → Spans c d (string_fields t) × (is_text bound t ≡ true)
unfolding text_at
text_takes bound c t d fits e =
    let a = bind_ok (string_at c) (λ x. cond (is_above bound (length x.0)) (Err (fault OverBound (aligned 4 c.place))) (Ok x)) (t, d) e in
    let g = guard_ok (is_above bound (length a.0.0)) (fault OverBound (aligned 4 c.place)) a.0 (t, d) a.2 in
    let p = string_takes c a.0 fits a.1 in
    let few : ltb (length a.0.0 + 1) (2 ^ 32) ≡ true = lt-ltb _ _ p.fits.1 in
    let holds : is_text bound a.0.0 ≡ true = rw (p.fits.0, g.0, few) refl in
    subst (λ (x : List ℕ × Cursor). Spans c x.1 (string_fields x.0) × (is_text bound x.0 ≡ true)) g.1 (p.spans, holds)

-- ---- numbers

-- a number of the type, and its field before
pub record Scaled (s : Scalar) (c d : Cursor) (z : ℤ) : Type 0 where
  pub field : Field
  pub asks : number_field s z ≡ Some field
  pub spans : Spans c d (field ∷ [])

pub small : (s : Size) → byte_len (wide s) ≤ 8
small size1 = omega arith
small size2 = omega arith
small size4 = omega arith
small size8 = omega arith

pub unsigned_in : (s : Size) (n : ℕ) → n < 2 ^ (8 * byte_len (wide s)) → number_field (unsigned s) (pos n) ≡ Some (core.number (wide s) n)
unsigned_in s n lt = rw (le-leb 0 n (omega arith), lt-ltb n (2 ^ (8 * byte_len (wide s))) lt) refl

abbrev Signed : Size → ℕ → Type 0
Signed s n = number_field (signed s) (cast_signed (wide s) n) ≡ Some (core.number (wide s) n)

signed_size1 : (n : ℕ) → n < 2 ^ 8 → Signed size1 n
signed_size1 n lt =
    elim (cases_lt n (2 ^ 7)) [
      | inl less ↦ rw (to_z_pos w8 n less, lt-ltb n (2 ^ 7) less) refl
      | inr more ↦
          let k = 2 ^ 8 - suc n in
          let is : 2 ^ 8 - suc k ≡ n = omega arith in
          let less : k < 2 ^ 7 = omega arith in
          let z : cast_signed w8 n ≡ negsuc k = ap (cast_signed w8) (sym is) ∙ to_z-neg w8 k less in
          rw (z, le-leb k (2 ^ 7 - 1) (omega arith), is) refl
    ]

signed_size2 : (n : ℕ) → n < 2 ^ 16 → Signed size2 n
signed_size2 n lt =
    elim (cases_lt n (2 ^ 15)) [
      | inl less ↦ rw (to_z_pos w16 n less, lt-ltb n (2 ^ 15) less) refl
      | inr more ↦
          let k = 2 ^ 16 - suc n in
          let is : 2 ^ 16 - suc k ≡ n = omega arith in
          let less : k < 2 ^ 15 = omega arith in
          let z : cast_signed w16 n ≡ negsuc k = ap (cast_signed w16) (sym is) ∙ to_z-neg w16 k less in
          rw (z, le-leb k (2 ^ 15 - 1) (omega arith), is) refl
    ]

signed_size4 : (n : ℕ) → n < 2 ^ 32 → Signed size4 n
signed_size4 n lt =
    elim (cases_lt n (2 ^ 31)) [
      | inl less ↦ rw (to_z_pos w32 n less, lt-ltb n (2 ^ 31) less) refl
      | inr more ↦
          let k = 2 ^ 32 - suc n in
          let is : 2 ^ 32 - suc k ≡ n = omega arith in
          let less : k < 2 ^ 31 = omega arith in
          let z : cast_signed w32 n ≡ negsuc k = ap (cast_signed w32) (sym is) ∙ to_z-neg w32 k less in
          rw (z, le-leb k (2 ^ 31 - 1) (omega arith), is) refl
    ]

signed_size8 : (n : ℕ) → n < 2 ^ 64 → Signed size8 n
signed_size8 n lt =
    elim (cases_lt n (2 ^ 63)) [
      | inl less ↦ rw (to_z_pos w64 n less, lt-ltb n (2 ^ 63) less) refl
      | inr more ↦
          let k = 2 ^ 64 - suc n in
          let is : 2 ^ 64 - suc k ≡ n = omega arith in
          let less : k < 2 ^ 63 = omega arith in
          let z : cast_signed w64 n ≡ negsuc k = ap (cast_signed w64) (sym is) ∙ to_z-neg w64 k less in
          rw (z, le-leb k (2 ^ 63 - 1) (omega arith), is) refl
    ]

signed_in : (s : Size) (n : ℕ) → n < 2 ^ (8 * byte_len (wide s)) → Signed s n
signed_in size1 n lt = signed_size1 n lt
signed_in size2 n lt = signed_size2 n lt
signed_in size4 n lt = signed_size4 n lt
signed_in size8 n lt = signed_size8 n lt

pub labelled_in : (name : List ℕ) (labels : List (List ℕ)) (n : ℕ) → n < 2 ^ 32 → n < length labels → number_field (enumeration name labels) (pos n) ≡ Some (core.number w32 n)
labelled_in name labels n a b = rw (le-leb 0 n (omega arith), in_range n (length labels) a b) refl

pub letter_in : (n : ℕ) → n < 2 ^ 8 → number_field char (pos n) ≡ Some (core.number w8 n)
letter_in n lt = rw (le-leb 0 n (omega arith), lt-ltb n 256 lt) refl

pub truth_in : (b : Bool) → number_field boolean (pos (from_bool b)) ≡ Some (core.number w8 (from_bool b))
truth_in true = refl
truth_in false = refl

pass_ok : {A : Type 0} (b : Bool) (d : CdrFault) (x y : A) → cond b (Ok x) (Err d) ≡ Ok y → (b ≡ true) × (x ≡ y)
pass_ok true d x y e = (refl, cc)
pass_ok false d x y e = absurd cc

label_takes : (len : ℕ) (c : Cursor) (n : ℕ) (d : Cursor) → AreBytes c.rest → label_at len c ≡ Ok (n, d)
    → Spans c d (core.number w32 n ∷ []) × (n < len) × (n < 2 ^ 32)
unfolding label_at
label_takes len c n d fits e =
    let a = bind_ok (number_at w32 c) (λ x. cond (ltb x.0 len) (Ok x) (Err (fault BadEnum (aligned 4 c.place)))) (n, d) e in
    let t = number_takes w32 c a.0 (omega arith) fits a.1 in
    let g = pass_ok (ltb a.0.0 len) (fault BadEnum (aligned 4 c.place)) a.0 (n, d) a.2 in
    let less : a.0.0 < len = ltb-true _ _ g.0 in
    subst (λ (x : ℕ × Cursor). Spans c x.1 (core.number w32 x.0 ∷ []) × (x.0 < len) × (x.0 < 2 ^ 32)) g.1 (t.spans, less, t.fits)

scalar_takes : (s : Scalar) (c : Cursor) (z : ℤ) (d : Cursor) → AreBytes c.rest → scalar_at s c ≡ Ok (z, d) → Scaled s c d z
unfolding scalar_at
scalar_takes boolean c z d fits e =
    let a = as_ok (λ b. pos (from_bool b)) (bool_at c) (z, d) e in
    subst (λ y. Scaled boolean c d y) a.2 (record { field = core.number w8 (from_bool a.0); asks = truth_in a.0; spans = bool_takes c (a.0, d) fits a.1 })
scalar_takes char c z d fits e =
    let a = as_ok pos (number_at w8 c) (z, d) e in
    let t = number_takes w8 c (a.0, d) (omega arith) fits a.1 in
    subst (λ y. Scaled char c d y) a.2 (record { field = core.number w8 a.0; asks = letter_in a.0 t.fits; spans = t.spans })
scalar_takes (unsigned s) c z d fits e =
    let a = as_ok pos (number_at (wide s) c) (z, d) e in
    let t = number_takes (wide s) c (a.0, d) (small s) fits a.1 in
    subst (λ y. Scaled (unsigned s) c d y) a.2 (record { field = core.number (wide s) a.0; asks = unsigned_in s a.0 t.fits; spans = t.spans })
scalar_takes (signed s) c z d fits e =
    let a = as_ok (cast_signed (wide s)) (number_at (wide s) c) (z, d) e in
    let t = number_takes (wide s) c (a.0, d) (small s) fits a.1 in
    subst (λ y. Scaled (signed s) c d y) a.2 (record { field = core.number (wide s) a.0; asks = signed_in s a.0 t.fits; spans = t.spans })
scalar_takes (enumeration name labels) c z d fits e =
    let a = as_ok pos (label_at (length labels) c) (z, d) e in
    let t = label_takes (length labels) c a.0 d fits a.1 in
    subst (λ y. Scaled (enumeration name labels) c d y) a.2 (record { field = core.number w32 a.0; asks = labelled_in name labels a.0 t.2 t.1; spans = t.0 })

pub tag_takes : (k : Kind) (c : Cursor) (z : ℤ) (d : Cursor) → AreBytes c.rest → tag_at k c ≡ Ok (z, d) → Passed c d (one_field (tag_field k z))
unfolding tag_at
tag_takes (scalar s) c z d fits e = let h = scalar_takes s c z d fits e in record { fields = h.field ∷ []; asks = ap one_field h.asks; spans = h.spans }
tag_takes (words bound) c z d fits e = absurd cc
tag_takes (sequence k bound) c z d fits e = absurd cc
tag_takes (array k n) c z d fits e = absurd cc
tag_takes (structure name ms) c z d fits e = absurd cc
tag_takes (union name k cs) c z d fits e = absurd cc

-- a number of a type in its range is not negative where the type is not signed, so its value has that number
numeral_back : (s : Scalar) (z : ℤ) (f : Field) → number_field s z ≡ Some f → numeral s (value_at s z) ≡ Some z
numeral_back boolean (pos zero) f e = refl
numeral_back boolean (pos (suc zero)) f e = refl
numeral_back boolean (pos (suc (suc n))) f e =
    let out : number_field boolean (pos (suc (suc n))) ≡ None = rw (le-leb 0 (suc (suc n)) (omega arith), le-ltb (suc (suc n)) 2 (omega arith)) refl in
    let never : None ≡ Some f = sym out ∙ e in
    absurd cc
numeral_back boolean (negsuc n) f e = absurd cc
numeral_back char (pos n) f e = refl
numeral_back char (negsuc n) f e = absurd cc
numeral_back (unsigned s) z f e = refl
numeral_back (signed s) z f e = refl
numeral_back (enumeration name labels) (pos n) f e = refl
numeral_back (enumeration name labels) (negsuc n) f e = absurd cc

value_fields : (s : Scalar) (z : ℤ) (f : Field) → number_field s z ≡ Some f → fields_of (value_at s z) (scalar s) ≡ Some (f ∷ [])
value_fields s z f e = sym (plain_is s (value_at s z)) ∙ rw (numeral_back s z f e, e) refl

abbrev given : Values × Cursor → Reads Values
given x = Ok x

no_member : (c : Cursor) (vs : Values) (d : Cursor) → given (no_values, c) ≡ given (vs, d) → Passed c d (fields_chosen vs None)
no_member c vs d e =
    subst (λ (x : Values × Cursor). Passed c x.1 (fields_chosen x.0 None)) (ok_is (no_values, c) (vs, d) e) (record { fields = []; asks = refl; spans = spans_none c })

mutual
  unfolding read read_members read_chosen

  pub read_takes : (k : Kind) → Sound (read k) k
  read_takes (scalar s) c v d fits e =
      let a = as_ok (value_at s) (scalar_at s c) (v, d) e in
      let h = scalar_takes s c a.0 d fits a.1 in
      subst (λ w. Passed c d (fields_of w (scalar s))) a.2 (record { fields = h.field ∷ []; asks = value_fields s a.0 h.field h.asks; spans = h.spans })
  read_takes (words bound) c v d fits e =
      let a = as_ok text (text_at bound c) (v, d) e in
      let t = text_takes bound c a.0 d fits a.1 in
      subst (λ w. Passed c d (fields_of w (words bound))) a.2 (record { fields = string_fields a.0; asks = rw t.1 refl; spans = t.0 })
  read_takes (sequence k bound) c v d fits e =
      let a = as_ok (λ vs. items (values_of vs)) (bounded_count_at bound c >>= counted (read k)) (v, d) e in
      let b = bind_ok (bounded_count_at bound c) (counted (read k)) (a.0, d) a.1 in
      let n = counted_takes bound c b.0.0 b.0.1 fits b.1 in
      let t = times_takes (read k) k (read_takes k) b.0.0 b.0.1 a.0 d (bytes_behind c b.0.1 _ n.0 fits) b.2 in
      let p = t.1 in
      subst (λ w. Passed c d (fields_of w (sequence k bound))) a.2 (record { fields = core.number w32 b.0.0 ∷ p.fields; asks = rw (t.0, n.1, p.asks) refl; spans = spans_then c b.0.1 d (core.number w32 b.0.0 ∷ []) p.fields n.0 p.spans })
  read_takes (array k n) c v d fits e =
      let a = as_ok (λ vs. items (values_of vs)) (times (read k) n c) (v, d) e in
      let t = times_takes (read k) k (read_takes k) n c a.0 d fits a.1 in
      let p = t.1 in
      subst (λ w. Passed c d (fields_of w (array k n))) a.2 (record { fields = p.fields; asks = rw (t.0, eq-eqb n n refl) p.asks; spans = p.spans })
  read_takes (structure name ms) c v d fits e =
      let a = as_ok (λ vs. items (values_of vs)) (read_members ms c) (v, d) e in
      subst (λ w. Passed c d (fields_of w (structure name ms))) a.2 (members_take ms c a.0 d fits a.1)
  read_takes (union name k cs) c v d fits e =
      let a = bind_ok (tag_at k c) (then_member cs (read_chosen cs)) (v, d) e in
      let z = a.0.0 in
      let p = tag_takes k c z a.0.1 fits a.1 in
      let b = as_ok (chosen z) (read_chosen cs (choose z cs) a.0.1) (v, d) a.2 in
      let q = chosen_takes cs (choose z cs) a.0.1 b.0 d (bytes_behind c a.0.1 p.fields p.spans fits) b.1 in
      subst (λ w. Passed c d (fields_of w (union name k cs))) b.2 (passed_both c a.0.1 d (one_field (tag_field k z)) (fields_chosen b.0 (kind_at (choose z cs) cs)) p q)

  pub members_take : (ms : Members) (c : Cursor) (vs : List Value) (d : Cursor) → AreBytes c.rest → read_members ms c ≡ Ok (vs, d) → Passed c d (fields_members (values_of vs) ms)
  members_take no_members c vs d fits e =
      subst (λ (x : List Value × Cursor). Passed c x.1 (fields_members (values_of x.0) no_members)) (ok_is ([], c) (vs, d) e) (record { fields = []; asks = refl; spans = spans_none c })
  members_take (member name k ms) c vs d fits e =
      let a = bind_ok (read k c) (then_values (read_members ms)) (vs, d) e in
      let v = a.0.0 in
      let p = read_takes k c v a.0.1 fits a.1 in
      let b = as_ok (λ ws. v ∷ ws) (read_members ms a.0.1) (vs, d) a.2 in
      let q = members_take ms a.0.1 b.0 d (bytes_behind c a.0.1 p.fields p.spans fits) b.1 in
      subst (λ ws. Passed c d (fields_members (values_of ws) (member name k ms))) b.2 (passed_both c a.0.1 d (fields_of v k) (fields_members (values_of b.0) ms) p q)

  pub chosen_takes : (cs : Cases) (i : Option ℕ) (c : Cursor) (vs : Values) (d : Cursor) → AreBytes c.rest → read_chosen cs i c ≡ Ok (vs, d) → Passed c d (fields_chosen vs (kind_at i cs))
  chosen_takes no_cases None c vs d fits e = no_member c vs d e
  chosen_takes no_cases (Some i) c vs d fits e = no_member c vs d e
  chosen_takes (case l x name k cs) None c vs d fits e = no_member c vs d e
  chosen_takes (case l x name k cs) (Some zero) c vs d fits e =
      let a = as_ok (λ v. value v no_values) (read k c) (vs, d) e in
      subst (λ ws. Passed c d (fields_chosen ws (Some k))) a.2 (read_takes k c a.0 d fits a.1)
  chosen_takes (case l x name k cs) (Some (suc i)) c vs d fits e = chosen_takes cs (Some i) c vs d fits e
