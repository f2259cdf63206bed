-- Where the fields of values end, one value after the other: whatever ends the values that are left ends all of them.
use Rattle.std.proofs.Common.{◌≡◌, ℕ, ℤ, ◌+◌, ◌<◌, ◌≤◌, ◌^◌, Bool, true, false, cond, eqb, List, [], ◌∷◌, ◌++◌, length, Option, Some, None, refl, sym, ap, subst, ◌∙◌, inl, inr, append-nil, length-append, arith}
use Rattle.std.proofs.Math.Nat.{eq-or-lt_of_le}
use Rattle.std.specs.Int.{Width, w32, byte_len}
use Rattle.cdr_core.specs.Alignment.{pad_len}
use Rattle.cdr_core.specs.Field.{Field, number, run, fields_end, string_fields}
use Rattle.cdr_core.proofs.CallerLemmas.{fields_end-append, fields_end-is}
use Rattle.cdr_core.proofs.Spelled.{pad_one}
use Rattle.cdr_values.specs.declared.kind.Member.{Member}
use Rattle.cdr_values.specs.declared.value.IdlValue.{IdlValue}
use Rattle.cdr_values.specs.Trees.{Scalar, Kind, scalar, words, sequence, array, union, Cases, Value, text, items, chosen, Values, no_values, value, values_of, values_len}
use Rattle.cdr_values.specs.Kinds.{kind_of}
use Rattle.cdr_values.specs.Values.{value_of, values_view}
use Rattle.cdr_values.specs.Choice.{choose, kind_at}
use Rattle.cdr_values.specs.Numerals.{plain_field}
use Rattle.cdr_values.specs.Spelling.{is_text, is_count, behind, both, one_field, tag_field, fields_of, fields_each, fields_chosen}
use Rattle.cdr_values.specs.Lengths.{held, Ends, EndsAt, IsBehind}
use Rattle.cdr_values.proofs.HasFields.{plain_is}
use Rattle.cdr_values.proofs.Endings.{each_left, members_left, first_element, first_member}

pub ends_then : (a b c : ℕ) (f g : List Field) → Ends a f b → Ends b g c → Ends a (f ++ g) c
ends_then a b c f g p q = record { at = λ place from. q.at (fields_end place f) (p.at place from) ∙ ap held (sym (fields_end-append place f g)) }

held_more : (a place pa pp n r : ℕ) → (a ≡ place → pa ≡ pp) → a ≡ held place → r ≡ held (a + pa + n) → r ≡ held (place + pp + n)
held_more a place pa pp n r same from e =
    let below : held place ≤ place = omega arith in
    elim (eq-or-lt_of_le below) [ inl h ↦ let q : pa ≡ pp = same (from ∙ h) in omega arith | inr h ↦ omega arith ]

-- a number after its pad
pub ends_number : (a r n : ℕ) (w : Width) → r ≡ held (a + pad_len (byte_len w) a + byte_len w) → Ends a (number w n ∷ []) r
ends_number a r n w e =
    record { at = λ place from. held_more a place (pad_len (byte_len w) a) (pad_len (byte_len w) place) (byte_len w) r (ap (λ (p : ℕ). pad_len (byte_len w) p)) from e }

-- bytes after their pad
pub ends_run : (a size n r : ℕ) (bytes : List ℕ) → length bytes ≡ n → r ≡ held (a + pad_len size a + n) → Ends a (run size bytes ∷ []) r
ends_run a size n r bytes len e =
    record { at = λ place from. rw len (held_more a place (pad_len size a) (pad_len size place) n r (ap (λ (p : ℕ). pad_len size p)) from e) }

-- a text and its NUL
pub ends_nul : (a r : ℕ) (t : List ℕ) → Ends a (run 1 t ∷ run 1 (0 ∷ []) ∷ []) r → Ends a (run 1 (t ++ 0 ∷ []) ∷ []) r
ends_nul a r t p =
    record {
      at = λ place from.
          p.at place from ∙ ap held (omega (arith, length-append t (0 ∷ []), pad_one place, pad_one (place + pad_len 1 place + length t)));
    }

-- the end tells the length
pub behind_of : (place to : ℕ) (asked : Option (List Field)) → place < 2 ^ 64 → EndsAt place asked to → IsBehind place asked to
behind_of place to None small p = λ order. tt
behind_of place to (Some fs) small p = λ order.
    let from : place ≡ held place = omega arith in
    p.at place from ∙ ap held (fields_end-is order place fs)

-- ---- one field

pub field_ends : (a b : ℕ) (f : Field) (o : Option Field) → Some f ≡ o → Ends a (f ∷ []) b → EndsAt a (one_field o) b
field_ends a b f o e p = subst (λ (q : Option Field). EndsAt a (one_field q) b) e p

pub no_field : (a b : ℕ) (o : Option Field) → None ≡ o → EndsAt a (one_field o) b
no_field a b o e = subst (λ (q : Option Field). EndsAt a (one_field q) b) e tt

pub plain_ends : (a b : ℕ) (s : Scalar) (v : Value) → EndsAt a (one_field (plain_field (scalar s) v)) b → EndsAt a (fields_of v (scalar s)) b
plain_ends a b s v p = subst (λ (o : Option (List Field)). EndsAt a o b) (plain_is s v) p

ruled_out : (t : Bool) (a b : ℕ) (asked : Option (List Field)) → EndsAt a asked b → EndsAt a (cond t asked None) b
ruled_out true a b asked p = p
ruled_out false a b asked p = tt

pub text_ends : (a b bound : ℕ) (t : List ℕ) → Ends a (string_fields t) b → EndsAt a (fields_of (text t) (words bound)) b
text_ends a b bound t p = ruled_out (is_text bound t) a b (Some (string_fields t)) p

-- ---- one after the other

behind_ends : (a b c : ℕ) (fs : List Field) (more : Option (List Field)) → Ends a fs b → EndsAt b more c → EndsAt a (behind fs more) c
behind_ends a b c fs None p q = tt
behind_ends a b c fs (Some gs) p q = ends_then a b c fs gs p q

pub both_ends : (a b c : ℕ) (one more : Option (List Field)) → EndsAt a one b → EndsAt b more c → EndsAt a (both one more) c
both_ends a b c None more p q = tt
both_ends a b c (Some fs) more p q = behind_ends a b c fs more p q

counted : (t : Bool) (a b c n : ℕ) (more : Option (List Field)) → Ends a (number w32 n ∷ []) b → EndsAt b more c
    → EndsAt a (cond t (behind (number w32 n ∷ []) more) None) c
counted t a b c n more p q = ruled_out t a c (behind (number w32 n ∷ []) more) (behind_ends a b c (number w32 n ∷ []) more p q)

pub count_ends : (a b c bound : ℕ) (vs : List IdlValue) (k : Kind) → b ≡ held (a + pad_len 4 a + 4)
    → EndsAt b (fields_each (values_of (values_view vs)) k) c → EndsAt a (fields_of (items (values_of (values_view vs))) (sequence k bound)) c
count_ends a b c bound vs k e p =
    let n = values_len (values_of (values_view vs)) in
    counted (is_count bound n) a b c n (fields_each (values_of (values_view vs)) k) (ends_number a b n w32 e) p

pub slots_end : (a b n : ℕ) (vs : List Value) (k : Kind) → EndsAt a (fields_each (values_of vs) k) b → EndsAt a (fields_of (items (values_of vs)) (array k n)) b
slots_end a b n vs k p = ruled_out (eqb (values_len (values_of vs)) n) a b (fields_each (values_of vs) k) p

-- ---- loops: whatever ends what is left from here ends all from the start

abbrev pub Left : ℕ → Option (List Field) → ℕ → Option (List Field) → Type 0
Left here left start all = (to : ℕ) → EndsAt here left to → EndsAt start all to

nothing_ends : (a : ℕ) → Ends a [] a
nothing_ends a = record { at = λ place from. from }

-- nothing is left
all_done : (here start : ℕ) (left all : Option (List Field)) → left ≡ Some [] → Left here left start all → EndsAt start all here
all_done here start left all none so_far = so_far here (subst (λ (o : Option (List Field)). EndsAt here o here) (sym none) (nothing_ends here))

-- what is left is no value
no_value : (here to start : ℕ) (left all : Option (List Field)) → left ≡ None → Left here left start all → EndsAt start all to
no_value here to start left all none so_far = so_far to (subst (λ (o : Option (List Field)). EndsAt here o to) (sym none) tt)

-- one more is passed
passed : (here next start : ℕ) (one more left all : Option (List Field)) → left ≡ both one more → EndsAt here one next → Left here left start all → Left next more start all
passed here next start one more left all is p so_far = λ to h.
    so_far to (subst (λ (o : Option (List Field)). EndsAt here o to) (sym is) (both_ends here next to one more p h))

pub each_next : (k : Kind) (vs more : List IdlValue) (v : IdlValue) (here next start : ℕ) (all : Option (List Field)) → vs ≡ v ∷ more
    → EndsAt here (fields_of (value_of v) k) next → Left here (each_left k vs) start all → Left next (each_left k more) start all
each_next k vs more v here next start all is p so_far =
    passed here next start (fields_of (value_of v) k) (each_left k more) (each_left k vs) all (first_element k vs more v is) p so_far

pub each_ends : (k : Kind) (vs : List IdlValue) (here start : ℕ) (all : Option (List Field)) → vs ≡ [] → Left here (each_left k vs) start all → EndsAt start all here
each_ends k vs here start all none so_far = all_done here start (each_left k vs) all (rw none refl) so_far

pub members_next : (vs later : List IdlValue) (ms more : List Member) (v : IdlValue) (m : Member) (here next start : ℕ) (all : Option (List Field)) → vs ≡ v ∷ later → ms ≡ m ∷ more
    → EndsAt here (fields_of (value_of v) (kind_of m.kind)) next → Left here (members_left vs ms) start all → Left next (members_left later more) start all
members_next vs later ms more v m here next start all is it p so_far =
    passed here next start (fields_of (value_of v) (kind_of m.kind)) (members_left later more) (members_left vs ms) all (first_member vs later ms more v m is it) p so_far

pub members_end : (vs : List IdlValue) (ms : List Member) (here start : ℕ) (all : Option (List Field)) → ms ≡ [] → Left here (members_left vs ms) start all → EndsAt start all here
members_end [] ms here start all none so_far = all_done here start (members_left [] ms) all (rw none refl) so_far
members_end (v ∷ vs) ms here start all none so_far = no_value here here start (members_left (v ∷ vs) ms) all (rw none refl) so_far

-- ---- unions

bare : (a b : ℕ) (one : Option (List Field)) (o : Option Kind) → EndsAt a one b → EndsAt a (both one (fields_chosen no_values o)) b
bare a b None o p = tt
bare a b (Some fs) (Some k) p = tt
bare a b (Some fs) None p = subst (λ (x : List Field). Ends a x b) (sym (append-nil fs)) p

-- a number that was passed on is the same number
pub bare_ends : (a b : ℕ) (name : List ℕ) (d : Kind) (cs : Cases) (z y : ℤ) → y ≡ z → EndsAt a (one_field (tag_field d y)) b
    → EndsAt a (fields_of (chosen z no_values) (union name d cs)) b
bare_ends a b name d cs z y same p =
    bare a b (one_field (tag_field d z)) (kind_at (choose z cs) cs) (subst (λ (q : ℤ). EndsAt a (one_field (tag_field d q)) b) same p)

pub with_ends : (a b c : ℕ) (name : List ℕ) (d : Kind) (cs : Cases) (z y : ℤ) (v : Value) (i : Option ℕ) → y ≡ z → i ≡ choose y cs
    → EndsAt a (one_field (tag_field d y)) b → EndsAt b (fields_chosen (value v no_values) (kind_at i cs)) c
    → EndsAt a (fields_of (chosen z (value v no_values)) (union name d cs)) c
with_ends a b c name d cs z y v i same index p q =
    let member : EndsAt b (fields_chosen (value v no_values) (kind_at (choose y cs) cs)) c
    = subst (λ (j : Option ℕ). EndsAt b (fields_chosen (value v no_values) (kind_at j cs)) c) index q in
    subst (λ (x : ℤ). EndsAt a (fields_of (chosen x (value v no_values)) (union name d cs)) c) same
    (both_ends a b c (one_field (tag_field d y)) (fields_chosen (value v no_values) (kind_at (choose y cs) cs)) p member)

pub union_ends : (a b : ℕ) (name : List ℕ) (d : Kind) (cs : Cases) (z y : ℤ) (v : Value) (vs : Values) → y ≡ z → v ≡ chosen z vs
    → EndsAt a (fields_of (chosen y vs) (union name d cs)) b → EndsAt a (fields_of v (union name d cs)) b
union_ends a b name d cs z y v vs same is p =
    subst (λ (x : Value). EndsAt a (fields_of x (union name d cs)) b) (ap (λ (q : ℤ). chosen q vs) same ∙ sym is) p
