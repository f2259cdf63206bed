-- What was written, piece by piece.
use Rattle.std.proofs.Common.{◌≡◌, ℕ, ℤ, suc, ◌+◌, ◌-◌, ◌<◌, ◌^◌, Bool, true, false, not, ◌&&◌, cond, eqb, ltb, List, [], ◌∷◌, ◌++◌, length, Option, Some, None, Result, Ok, Err, refl, sym, ap, subst, ◌∙◌, append-nil, arith}
use Rattle.std.specs.Prelude.{IfSome, is_none}
use Rattle.std.specs.Int.{w32}
use Rattle.std.proofs.lemmas.Bool.{ltb-true}
use Rattle.orb_base.specs.NulFree.{nul_at}
use Rattle.orb_base.specs.declared.no_memory.NoMemory.{NoMemory}
use Rattle.cdr_core.specs.Field.{Field, number, string_fields}
use Rattle.cdr_core.specs.Writing.{Page, written, HasFront, Puts}
use Rattle.cdr_core.proofs.CallerLemmas.{puts_then, puts_first}
use Rattle.cdr_values.specs.Trees.{Scalar, Kind, scalar, words, sequence, array, structure, union, Members, Cases, Value, text, items, chosen, Values, no_values, value, values_of, values_len}
use Rattle.cdr_values.specs.Choice.{choose, kind_at}
use Rattle.cdr_values.specs.Numerals.{plain_field}
use Rattle.cdr_values.specs.Spelling.{is_above, is_text, is_count, behind, both, one_field, tag_field, fields_of, fields_each, fields_chosen}
use Rattle.cdr_values.specs.Writing.{Wrote}
use Rattle.cdr_values.specs.declared.value.IdlValue.{IdlValue}
use Rattle.cdr_values.specs.Values.{values_view}
use Rattle.cdr_values.proofs.HasFields.{plain_is, so_many}

abbrev pub Answer : Type 0
Answer = Result (Unit {0}) NoMemory

pub plain_wrote : (r : Answer) (old new : Page) (s : Scalar) (v : Value) → Wrote r old new (one_field (plain_field (scalar s) v)) → Wrote r old new (fields_of v (scalar s))
plain_wrote r old new s v h = subst (λ (o : Option (List Field)). Wrote r old new o) (plain_is s v) h

pub field_wrote : (r : Answer) (old new : Page) (f : Field) (o : Option Field) → Some f ≡ o → Puts r old new (f ∷ []) → Wrote r old new (one_field o)
field_wrote r old new f o e h = subst (λ (p : Option Field). Wrote r old new (one_field p)) e h

pub no_field : (r : Answer) (old new : Page) (o : Option Field) → None ≡ o → Wrote r old new (one_field o)
no_field r old new o e = subst (λ (p : Option Field). Wrote r old new (one_field p)) e tt

-- ---- texts and counts

and_right : (a b : Bool) → (a && b) ≡ true → b ≡ true
and_right true b e = e
and_right false b e = absurd cc

pub text_len : (bound : ℕ) (t : List ℕ) → is_text bound t ≡ true → length t + 1 < 2 ^ 32
text_len bound t e =
    let a = and_right (is_none (nul_at t)) (not (is_above bound (length t)) && ltb (length t + 1) (2 ^ 32)) e in
    ltb-true _ _ (and_right (not (is_above bound (length t))) (ltb (length t + 1) (2 ^ 32)) a)

pub text_wrote : (r : Answer) (old new : Page) (bound : ℕ) (t : List ℕ) → is_text bound t ≡ true → Puts r old new (string_fields t) → Wrote r old new (fields_of (text t) (words bound))
text_wrote r old new bound t e h = rw e h

pub no_text : (r : Answer) (old new : Page) (bound : ℕ) (t : List ℕ) → is_text bound t ≡ false → Wrote r old new (fields_of (text t) (words bound))
no_text r old new bound t e = rw e tt

pub count_len : (bound n : ℕ) → is_count bound n ≡ true → n < 2 ^ 32
count_len bound n e = ltb-true _ _ (and_right (not (is_above bound n)) (ltb n (2 ^ 32)) e)

behind_wrote : (r : Answer) (old mid new : Page) (a : List Field) (more : Option (List Field)) → mid ≡ written old a → Wrote r mid new more → Wrote r old new (behind a more)
behind_wrote r old mid new a None e h = tt
behind_wrote r old mid new a (Some fs) e h = puts_then r old mid new a fs e h

behind_front : (e : NoMemory) (old new : Page) (a : List Field) (more : Option (List Field)) → HasFront old new a → Wrote (Err e) old new (behind a more)
behind_front e old new a None h = tt
behind_front e old new a (Some fs) h = puts_first old new a fs h

pub count_wrote : (r : Answer) (old mid new : Page) (bound : ℕ) (vs : List IdlValue) (k : Kind) → is_count bound (length vs) ≡ true → mid ≡ written old (number w32 (length vs) ∷ [])
    → Wrote r mid new (fields_each (values_of (values_view vs)) k) → Wrote r old new (fields_of (items (values_of (values_view vs))) (sequence k bound))
count_wrote r old mid new bound vs k ok e h =
    rw (so_many vs, ok) (behind_wrote r old mid new (number w32 (length vs) ∷ []) (fields_each (values_of (values_view vs)) k) e h)

pub count_front : (e : NoMemory) (old new : Page) (bound : ℕ) (vs : List IdlValue) (k : Kind) → is_count bound (length vs) ≡ true
    → HasFront old new (number w32 (length vs) ∷ []) → Wrote (Err e) old new (fields_of (items (values_of (values_view vs))) (sequence k bound))
count_front e old new bound vs k ok h =
    rw (so_many vs, ok) (behind_front e old new (number w32 (length vs) ∷ []) (fields_each (values_of (values_view vs)) k) h)

pub no_count : (r : Answer) (old new : Page) (bound : ℕ) (vs : List IdlValue) (k : Kind) → is_count bound (length vs) ≡ false
    → Wrote r old new (fields_of (items (values_of (values_view vs))) (sequence k bound))
no_count r old new bound vs k bad = rw (so_many vs, bad) tt

ruled_out : (r : Answer) (b : Bool) (old new : Page) (asked : Option (List Field)) → Wrote r old new asked → Wrote r old new (cond b asked None)
ruled_out r true old new asked h = h
ruled_out r false old new asked h = tt

pub slots_wrote : (r : Answer) (old new : Page) (n : ℕ) (vs : List Value) (k : Kind) → Wrote r old new (fields_each (values_of vs) k) → Wrote r old new (fields_of (items (values_of vs)) (array k n))
slots_wrote r old new n vs k h = ruled_out r (eqb (values_len (values_of vs)) n) old new (fields_each (values_of vs) k) h

-- ---- one after the other

pub both_wrote : (r : Answer) (old mid new : Page) (a more : Option (List Field)) → Wrote (Ok tt) old mid a → Wrote r mid new more → Wrote r old new (both a more)
both_wrote r old mid new None more p h = tt
both_wrote r old mid new (Some fs) more p h = behind_wrote r old mid new fs more p h

pub both_front : (e : NoMemory) (old new : Page) (a more : Option (List Field)) → Wrote (Err e) old new a → Wrote (Err e) old new (both a more)
both_front e old new None more h = tt
both_front e old new (Some fs) more h = behind_front e old new fs more h

-- ---- unions

bare : (r : Answer) (old new : Page) (a : Option (List Field)) (o : Option Kind) → Wrote r old new a → Wrote r old new (both a (fields_chosen no_values o))
bare r old new None o h = tt
bare r old new (Some fs) (Some k) h = tt
bare r old new (Some fs) None h = subst (λ (x : List Field). Puts r old new x) (sym (append-nil fs)) h

-- a number that was passed on is the same number
pub bare_wrote : (r : Answer) (old new : Page) (name : List ℕ) (d : Kind) (cs : Cases) (z y : ℤ) → y ≡ z → Wrote r old new (one_field (tag_field d y))
    → Wrote r old new (fields_of (chosen z no_values) (union name d cs))
bare_wrote r old new name d cs z y same h =
    bare r old new (one_field (tag_field d z)) (kind_at (choose z cs) cs) (subst (λ (q : ℤ). Wrote r old new (one_field (tag_field d q))) same h)

pub with_wrote : (r : Answer) (old mid new : Page) (name : List ℕ) (d : Kind) (cs : Cases) (z y : ℤ) (vs : Values) → y ≡ z → Wrote (Ok tt) old mid (one_field (tag_field d y))
    → Wrote r mid new (fields_chosen vs (kind_at (choose y cs) cs)) → Wrote r old new (fields_of (chosen z vs) (union name d cs))
with_wrote r old mid new name d cs z y vs same p h =
    subst (λ (q : ℤ). Wrote r old new (fields_of (chosen q vs) (union name d cs))) same
    (both_wrote r old mid new (one_field (tag_field d y)) (fields_chosen vs (kind_at (choose y cs) cs)) p h)

pub with_front : (e : NoMemory) (old new : Page) (name : List ℕ) (d : Kind) (cs : Cases) (z y : ℤ) (vs : Values) → y ≡ z → Wrote (Err e) old new (one_field (tag_field d y))
    → Wrote (Err e) old new (fields_of (chosen z vs) (union name d cs))
with_front e old new name d cs z y vs same h =
    subst (λ (q : ℤ). Wrote (Err e) old new (fields_of (chosen q vs) (union name d cs))) same
    (both_front e old new (one_field (tag_field d y)) (fields_chosen vs (kind_at (choose y cs) cs)) h)

pub chosen_wrote : (r : Answer) (old new : Page) (v : Value) (cs : Cases) (z y : ℤ) (i : Option ℕ) → y ≡ z → i ≡ choose y cs
    → Wrote r old new (fields_chosen (value v no_values) (kind_at i cs)) → Wrote r old new (fields_chosen (value v no_values) (kind_at (choose z cs) cs))
chosen_wrote r old new v cs z y i same index h =
    subst (λ (j : Option ℕ). Wrote r old new (fields_chosen (value v no_values) (kind_at j cs))) (index ∙ ap (λ (q : ℤ). choose q cs) same) h

pub union_wrote : (r : Answer) (old new : Page) (name : List ℕ) (d : Kind) (cs : Cases) (z y : ℤ) (v : Value) (vs : Values) → y ≡ z → v ≡ chosen z vs
    → Wrote r old new (fields_of (chosen y vs) (union name d cs)) → Wrote r old new (fields_of v (union name d cs))
union_wrote r old new name d cs z y v vs same is h =
    subst (λ (x : Value). Wrote r old new (fields_of x (union name d cs))) (ap (λ (q : ℤ). chosen q vs) same ∙ sym is) h
