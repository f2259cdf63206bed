-- Operators find operands of their kinds.
use Rattle.std.proofs.Common.{◌≡◌, ℕ, ℤ, pos, ◌+ℤ◌, ◌-ℤ◌, ◌*ℤ◌, neg_ℤ, int_lt, int_le, int_eq, nat_eq, bytes_eq, Bool, true, false, cond, not, List, length, Option, Some, None, Ok, Err, refl, sym, subst, slice_get}
use Rattle.script_grammar.specs.declared.operator.Unary.{Unary}
use Rattle.script_grammar.specs.declared.operator.Unary.TheVariants as un
use Rattle.script_grammar.specs.declared.operator.Binary.{Binary}
use Rattle.script_grammar.specs.declared.operator.Binary.TheVariants as op
use Rattle.servant_scripts.specs.declared.phrase.At.{At}
use Rattle.cdr_values.specs.Trees.{Scalar, boolean, char, unsigned, signed, enumeration, Kind, scalar, words, sequence, array, structure, union, Value, truth, number, letter, text, items, label, list_of}
use Rattle.script_values.specs.Operations.{Comes, ◌>>=◌, checked, divided, remainder, as_value, as_truth, as_items, applied, joined, place_in, item_at, found, member_at}
use Rattle.script_values.specs.Evaluation.{truth_from, beside}
use Rattle.idl_types.specs.References.{member_kind, members_in}
use Rattle.script_checks.specs.declared.fault.CheckCause.TheVariants as cause
use Rattle.script_checks.specs.Kinds.{same_scalar, same_kind, number_kind, truth_kind, has_len, is_simple, element_of}
use Rattle.script_checks.specs.Naming.{as_struct}
use Rattle.script_checks.specs.Scene.{Typed, or_refused}
use Rattle.script_checks.specs.Operators.{suits, gives, takes_numbers, joins, asks}
use Rattle.script_laws.specs.Defined.{Defined, ◌and_then◌, there}
use Rattle.script_laws.specs.Operators.{defined_unary, of_numbers, defined_binary, as_told, defined_beside, defined_member}
use Rattle.script_laws.specs.Kinds.{Every, HasKind}
use Rattle.script_laws.proofs.Good.{Good, bind, itself}
use Rattle.script_laws.proofs.Checks.{both, if_ok, or_ok, ok_is}
use Rattle.script_laws.proofs.Shapes.{is_number, is_truth, every_at, elements_are, members_are, have_kind}

-- the values that come are of a kind
abbrev pub Gives : Kind → Defined Value → Comes Value → Type 0
Gives k s t = Good itself (HasKind k) s t

counts : (r : Comes ℤ) → Gives number_kind (Some (as_value r)) (as_value r)
counts (Ok n) = (refl, (n, refl))
counts (Err l) = refl

tells : (b : Bool) → Gives truth_kind (Some (Ok (truth b))) (Ok (truth b))
tells b = (refl, (b, refl))

-- ---- one operand

len_good : (k : Kind) (v : Value) → has_len k ≡ true → HasKind k v → Gives number_kind (defined_unary un.Len v) (applied un.Len v)
len_good (words bound) v e h = subst (λ (w : Value). Gives number_kind (defined_unary un.Len w) (applied un.Len w)) (sym h.1) (refl, (pos (length h.0), refl))
len_good (sequence k bound) v e h = subst (λ (w : Value). Gives number_kind (defined_unary un.Len w) (applied un.Len w)) (sym h.1) (refl, (pos (length (list_of h.0)), refl))
len_good (array k n) v e h = subst (λ (w : Value). Gives number_kind (defined_unary un.Len w) (applied un.Len w)) (sym h.1) (refl, (pos (length (list_of h.0)), refl))
len_good (scalar s) v e h = absurd cc
len_good (structure name ms) v e h = absurd cc
len_good (union name d cs) v e h = absurd cc

pub unary_good : (o : Unary) (k : Kind) → suits o k ≡ true → (v : Value) → HasKind k v → Gives (gives o k) (defined_unary o v) (applied o v)
unary_good un.Negate k e v h =
    let n = is_number k v e h in
    subst (λ (w : Value). Gives number_kind (defined_unary un.Negate w) (applied un.Negate w)) (sym n.1) (counts (checked (neg_ℤ n.0)))
unary_good un.Not k e v h =
    let b = is_truth k v e h in
    subst (λ (w : Value). Gives truth_kind (defined_unary un.Not w) (applied un.Not w)) (sym b.1) (tells (not b.0))
unary_good un.Len k e v h = len_good k v e h
unary_good un.Group k e v h = (refl, h)

-- ---- members

pub member_good : (k s d : Kind) (i : ℕ) → as_struct k ≡ Some s → member_kind i (members_in s) ≡ Some d → (v : Value) → HasKind k v
    → Gives d (defined_member i v) (Ok (member_at (as_items v) i))
member_good k s d i is kind v h =
    let m = members_are k s v is h in
    let x = have_kind (members_in s) (list_of m.0) i d m.2 kind in
    let last : Gives d (there (Some x.0)) (Ok x.0) = (refl, x.2) in
    subst (λ (w : Value). Gives d (defined_member i w) (Ok (member_at (as_items w) i))) (sym m.1)
    (rw x.1 last)

-- ---- two numbers

of_numbers_good : (o : Binary) → takes_numbers o ≡ true → (a b : ℤ) → Gives (joins o) (of_numbers o a b) (joined o (number a) (number b))
of_numbers_good op.Add t a b = counts (checked (a +ℤ b))
of_numbers_good op.Subtract t a b = counts (checked (a -ℤ b))
of_numbers_good op.Multiply t a b = counts (checked (a *ℤ b))
of_numbers_good op.Divide t a b = counts (divided a b)
of_numbers_good op.Remainder t a b = counts (remainder a b)
of_numbers_good op.Less t a b = tells (int_lt a b)
of_numbers_good op.AtMost t a b = tells (int_le a b)
of_numbers_good op.Greater t a b = tells (int_lt b a)
of_numbers_good op.AtLeast t a b = tells (int_le b a)
of_numbers_good op.Or t a b = absurd cc
of_numbers_good op.And t a b = absurd cc
of_numbers_good op.Same t a b = absurd cc
of_numbers_good op.Differs t a b = absurd cc
of_numbers_good op.Index t a b = absurd cc

numbers_asked : (o : Binary) (at : At) (x : Typed) (k : Kind × Kind) → takes_numbers o ≡ true → asks o at x ≡ Ok k → (same_kind number_kind x.1 ≡ true) × ((number_kind, joins o) ≡ k)
numbers_asked op.Or at x k t e = absurd cc
numbers_asked op.And at x k t e = absurd cc
numbers_asked op.Same at x k t e = absurd cc
numbers_asked op.Differs at x k t e = absurd cc
numbers_asked op.Index at x k t e = absurd cc
numbers_asked op.Add at x k t e = if_ok (same_kind number_kind x.1) cause.Kind at (number_kind, number_kind) k e
numbers_asked op.Subtract at x k t e = if_ok (same_kind number_kind x.1) cause.Kind at (number_kind, number_kind) k e
numbers_asked op.Multiply at x k t e = if_ok (same_kind number_kind x.1) cause.Kind at (number_kind, number_kind) k e
numbers_asked op.Divide at x k t e = if_ok (same_kind number_kind x.1) cause.Kind at (number_kind, number_kind) k e
numbers_asked op.Remainder at x k t e = if_ok (same_kind number_kind x.1) cause.Kind at (number_kind, number_kind) k e
numbers_asked op.Less at x k t e = if_ok (same_kind number_kind x.1) cause.Kind at (number_kind, truth_kind) k e
numbers_asked op.AtMost at x k t e = if_ok (same_kind number_kind x.1) cause.Kind at (number_kind, truth_kind) k e
numbers_asked op.Greater at x k t e = if_ok (same_kind number_kind x.1) cause.Kind at (number_kind, truth_kind) k e
numbers_asked op.AtLeast at x k t e = if_ok (same_kind number_kind x.1) cause.Kind at (number_kind, truth_kind) k e

numbers_good : (o : Binary) (at : At) (x : Typed) (k : Kind × Kind) (d : Kind) → takes_numbers o ≡ true → asks o at x ≡ Ok k → same_kind k.0 d ≡ true → (v : Value) → HasKind x.1 v
    → (s : Defined Value) (t : Comes Value) → Gives d s t → Gives k.1 (s and_then defined_binary o v) (t >>= joined o v)
numbers_good o at x k d is e alike v h s t good =
    let q = numbers_asked o at x k is e in
    let m = is_number x.1 v q.0 h in
    let first : same_kind number_kind d ≡ true = subst (λ (r : Kind × Kind). same_kind r.0 d ≡ true) (sym q.1) alike in
    let here : (w : Value) → HasKind d w → Gives k.1 (defined_binary o v w) (joined o v w) = λ w g.
    let z = is_number d w first g in
    subst (λ (r : Kind × Kind). Gives r.1 (defined_binary o v w) (joined o v w)) q.1
    (subst (λ (u : Value). Gives (joins o) (defined_binary o u w) (joined o u w)) (sym m.1)
    (subst (λ (u : Value). Gives (joins o) (defined_binary o (number m.0) u) (joined o (number m.0) u)) (sym z.1) (of_numbers_good o is m.0 z.0))) in
    bind itself (HasKind d) itself (HasKind k.1) s t (defined_binary o v) (joined o v) good here

-- ---- two truths

second_good : (d : Kind) (s : Defined Value) (t : Comes Value) → same_kind truth_kind d ≡ true → Gives d s t → Gives truth_kind (s and_then as_told) (truth_from t)
second_good d s t is good = bind itself (HasKind d) itself (HasKind truth_kind) s t as_told (λ x. Ok (truth (as_truth x))) good
    (λ w g. let z = is_truth d w is g in subst (λ (u : Value). Gives truth_kind (as_told u) (Ok (truth (as_truth u)))) (sym z.1) (tells z.0))

and_good : (b : Bool) (d : Kind) (s : Defined Value) (t : Comes Value) → same_kind truth_kind d ≡ true → Gives d s t → Gives truth_kind (defined_beside op.And s (truth b)) (beside op.And t (truth b))
and_good true d s t is good = second_good d s t is good
and_good false d s t is good = tells false

or_good : (b : Bool) (d : Kind) (s : Defined Value) (t : Comes Value) → same_kind truth_kind d ≡ true → Gives d s t → Gives truth_kind (defined_beside op.Or s (truth b)) (beside op.Or t (truth b))
or_good true d s t is good = tells true
or_good false d s t is good = second_good d s t is good

-- ---- two that are compared

at_both : (P : Value → Value → Type 0) (a b c d : Value) → a ≡ c → b ≡ d → P c d → P a b
at_both P a b c d e g h = subst (λ (u : Value). P u b) (sym e) (subst (P c) (sym g) h)

-- so of two values of one simple kind
record ForAlike (P : Value → Value → Type 0) : Type 0 where
  numbers : (a b : ℤ) → P (number a) (number b)
  truths : (a b : Bool) → P (truth a) (truth b)
  letters : (a b : ℕ) → P (letter a) (letter b)
  labels : (a b : ℕ) → P (label a) (label b)
  texts : (a b : List ℕ) → P (text a) (text b)

alike_scalars : (P : Value → Value → Type 0) → ForAlike P → (s t : Scalar) → same_scalar s t ≡ true → (a b : Value) → HasKind (scalar s) a → HasKind (scalar t) b → P a b
alike_scalars P f boolean boolean e a b h g = at_both P a b (truth h.0) (truth g.0) h.1 g.1 (f.truths h.0 g.0)
alike_scalars P f boolean char e a b h g = absurd cc
alike_scalars P f boolean (unsigned y) e a b h g = absurd cc
alike_scalars P f boolean (signed y) e a b h g = absurd cc
alike_scalars P f boolean (enumeration n ls) e a b h g = absurd cc
alike_scalars P f char boolean e a b h g = absurd cc
alike_scalars P f char char e a b h g = at_both P a b (letter h.0) (letter g.0) h.1 g.1 (f.letters h.0 g.0)
alike_scalars P f char (unsigned y) e a b h g = absurd cc
alike_scalars P f char (signed y) e a b h g = absurd cc
alike_scalars P f char (enumeration n ls) e a b h g = absurd cc
alike_scalars P f (unsigned x) boolean e a b h g = absurd cc
alike_scalars P f (unsigned x) char e a b h g = absurd cc
alike_scalars P f (unsigned x) (unsigned y) e a b h g = at_both P a b (number h.0) (number g.0) h.1 g.1 (f.numbers h.0 g.0)
alike_scalars P f (unsigned x) (signed y) e a b h g = at_both P a b (number h.0) (number g.0) h.1 g.1 (f.numbers h.0 g.0)
alike_scalars P f (unsigned x) (enumeration n ls) e a b h g = absurd cc
alike_scalars P f (signed x) boolean e a b h g = absurd cc
alike_scalars P f (signed x) char e a b h g = absurd cc
alike_scalars P f (signed x) (unsigned y) e a b h g = at_both P a b (number h.0) (number g.0) h.1 g.1 (f.numbers h.0 g.0)
alike_scalars P f (signed x) (signed y) e a b h g = at_both P a b (number h.0) (number g.0) h.1 g.1 (f.numbers h.0 g.0)
alike_scalars P f (signed x) (enumeration n ls) e a b h g = absurd cc
alike_scalars P f (enumeration m ks) boolean e a b h g = absurd cc
alike_scalars P f (enumeration m ks) char e a b h g = absurd cc
alike_scalars P f (enumeration m ks) (unsigned y) e a b h g = absurd cc
alike_scalars P f (enumeration m ks) (signed y) e a b h g = absurd cc
alike_scalars P f (enumeration m ks) (enumeration n ls) e a b h g = at_both P a b (label h.0) (label g.0) h.1 g.1 (f.labels h.0 g.0)

alike_words : (P : Value → Value → Type 0) → ForAlike P → (bound : ℕ) (d : Kind) → same_kind (words bound) d ≡ true → (a b : Value) → HasKind (words bound) a → HasKind d b → P a b
alike_words P f bound (words n) e a b h g = at_both P a b (text h.0) (text g.0) h.1 g.1 (f.texts h.0 g.0)
alike_words P f bound (scalar t) e a b h g = absurd cc
alike_words P f bound (sequence k n) e a b h g = absurd cc
alike_words P f bound (array k n) e a b h g = absurd cc
alike_words P f bound (structure n ms) e a b h g = absurd cc
alike_words P f bound (union n x cs) e a b h g = absurd cc

alike_scalar : (P : Value → Value → Type 0) → ForAlike P → (s : Scalar) (d : Kind) → same_kind (scalar s) d ≡ true → (a b : Value) → HasKind (scalar s) a → HasKind d b → P a b
alike_scalar P f s (scalar t) e a b h g = alike_scalars P f s t e a b h g
alike_scalar P f s (words n) e a b h g = absurd cc
alike_scalar P f s (sequence k n) e a b h g = absurd cc
alike_scalar P f s (array k n) e a b h g = absurd cc
alike_scalar P f s (structure n ms) e a b h g = absurd cc
alike_scalar P f s (union n x cs) e a b h g = absurd cc

alike_good : (P : Value → Value → Type 0) → ForAlike P → (k d : Kind) → is_simple k ≡ true → same_kind k d ≡ true → (a b : Value) → HasKind k a → HasKind d b → P a b
alike_good P f (scalar s) d simple e a b h g = alike_scalar P f s d e a b h g
alike_good P f (words bound) d simple e a b h g = alike_words P f bound d e a b h g
alike_good P f (sequence k n) d simple e a b h g = absurd cc
alike_good P f (array k n) d simple e a b h g = absurd cc
alike_good P f (structure n ms) d simple e a b h g = absurd cc
alike_good P f (union n x cs) d simple e a b h g = absurd cc

for_same : ForAlike (λ a b. Gives truth_kind (defined_binary op.Same a b) (joined op.Same a b))
for_same = record {
  numbers = λ a b. tells (int_eq a b);
  truths = λ a b. tells (cond a b (not b));
  letters = λ a b. tells (nat_eq a b);
  labels = λ a b. tells (nat_eq a b);
  texts = λ a b. tells (bytes_eq a b);
}

for_differs : ForAlike (λ a b. Gives truth_kind (defined_binary op.Differs a b) (joined op.Differs a b))
for_differs = record {
  numbers = λ a b. tells (not (int_eq a b));
  truths = λ a b. tells (not (cond a b (not b)));
  letters = λ a b. tells (not (nat_eq a b));
  labels = λ a b. tells (not (nat_eq a b));
  texts = λ a b. tells (not (bytes_eq a b));
}

-- ---- a list and a number

found_good : (P : Value → Type 0) (o : Option Value) → ((v : Value) → o ≡ Some v → P v) → Good itself P (Some (found o)) (found o)
found_good P (Some v) f = (refl, f v refl)
found_good P None f = refl

item_good : (k : Kind) (vs : List Value) (o : Option ℕ) → Every (HasKind k) vs → Gives k (Some (item_at vs o)) (item_at vs o)
item_good k vs None h = refl
item_good k vs (Some n) h = found_good (HasKind k) (slice_get vs n) (λ v e. every_at (HasKind k) vs n v h e)

index_good : (k e d : Kind) → element_of k ≡ Some e → same_kind number_kind d ≡ true → (a b : Value) → HasKind k a → HasKind d b → Gives e (defined_binary op.Index a b) (joined op.Index a b)
index_good k e d is alike a b h g =
    let m = elements_are k e a is h in
    let z = is_number d b alike g in
    at_both (λ u w. Gives e (defined_binary op.Index u w) (joined op.Index u w)) a b (items m.0) (number z.0) m.1 z.1
    (item_good e (list_of m.0) (place_in z.0 (length (list_of m.0))) m.2)

-- ---- all of them

pub binary_good : (o : Binary) (at : At) (x : Typed) (k : Kind × Kind) (d : Kind) → asks o at x ≡ Ok k → same_kind k.0 d ≡ true → (s : Defined Value) (t : Comes Value) → Gives d s t
    → (v : Value) → HasKind x.1 v → Gives k.1 (defined_beside o s v) (beside o t v)
binary_good op.Or at x k d e alike s t good v h =
    let q = if_ok (same_kind truth_kind x.1) cause.Kind at (truth_kind, truth_kind) k e in
    let b = is_truth x.1 v q.0 h in
    let first : same_kind truth_kind d ≡ true = subst (λ (r : Kind × Kind). same_kind r.0 d ≡ true) (sym q.1) alike in
    subst (λ (r : Kind × Kind). Gives r.1 (defined_beside op.Or s v) (beside op.Or t v)) q.1
    (subst (λ (u : Value). Gives truth_kind (defined_beside op.Or s u) (beside op.Or t u)) (sym b.1) (or_good b.0 d s t first good))
binary_good op.And at x k d e alike s t good v h =
    let q = if_ok (same_kind truth_kind x.1) cause.Kind at (truth_kind, truth_kind) k e in
    let b = is_truth x.1 v q.0 h in
    let first : same_kind truth_kind d ≡ true = subst (λ (r : Kind × Kind). same_kind r.0 d ≡ true) (sym q.1) alike in
    subst (λ (r : Kind × Kind). Gives r.1 (defined_beside op.And s v) (beside op.And t v)) q.1
    (subst (λ (u : Value). Gives truth_kind (defined_beside op.And s u) (beside op.And t u)) (sym b.1) (and_good b.0 d s t first good))
binary_good op.Same at x k d e alike s t good v h =
    let q = if_ok (is_simple x.1) cause.Kind at (x.1, truth_kind) k e in
    let first : same_kind x.1 d ≡ true = subst (λ (r : Kind × Kind). same_kind r.0 d ≡ true) (sym q.1) alike in
    subst (λ (r : Kind × Kind). Gives r.1 (defined_beside op.Same s v) (beside op.Same t v)) q.1
    (bind itself (HasKind d) itself (HasKind truth_kind) s t (defined_binary op.Same v) (joined op.Same v) good
    (λ w g. alike_good (λ a b. Gives truth_kind (defined_binary op.Same a b) (joined op.Same a b)) for_same x.1 d q.0 first v w h g))
binary_good op.Differs at x k d e alike s t good v h =
    let q = if_ok (is_simple x.1) cause.Kind at (x.1, truth_kind) k e in
    let first : same_kind x.1 d ≡ true = subst (λ (r : Kind × Kind). same_kind r.0 d ≡ true) (sym q.1) alike in
    subst (λ (r : Kind × Kind). Gives r.1 (defined_beside op.Differs s v) (beside op.Differs t v)) q.1
    (bind itself (HasKind d) itself (HasKind truth_kind) s t (defined_binary op.Differs v) (joined op.Differs v) good
    (λ w g. alike_good (λ a b. Gives truth_kind (defined_binary op.Differs a b) (joined op.Differs a b)) for_differs x.1 d q.0 first v w h g))
binary_good op.Index at x k d e alike s t good v h =
    let q = both (or_refused cause.Kind at (element_of x.1)) (λ (n : Kind). Ok (number_kind, n)) k e in
    let is : element_of x.1 ≡ Some q.0 = or_ok cause.Kind at (element_of x.1) q.0 q.1 in
    let r : (number_kind, q.0) ≡ k = ok_is (number_kind, q.0) k q.2 in
    let first : same_kind number_kind d ≡ true = subst (λ (r : Kind × Kind). same_kind r.0 d ≡ true) (sym r) alike in
    subst (λ (r : Kind × Kind). Gives r.1 (defined_beside op.Index s v) (beside op.Index t v)) r
    (bind itself (HasKind d) itself (HasKind q.0) s t (defined_binary op.Index v) (joined op.Index v) good
    (λ w g. index_good x.1 q.0 d is first v w h g))
binary_good op.Add at x k d e alike s t good v h = numbers_good op.Add at x k d refl e alike v h s t good
binary_good op.Subtract at x k d e alike s t good v h = numbers_good op.Subtract at x k d refl e alike v h s t good
binary_good op.Multiply at x k d e alike s t good v h = numbers_good op.Multiply at x k d refl e alike v h s t good
binary_good op.Divide at x k d e alike s t good v h = numbers_good op.Divide at x k d refl e alike v h s t good
binary_good op.Remainder at x k d e alike s t good v h = numbers_good op.Remainder at x k d refl e alike v h s t good
binary_good op.Less at x k d e alike s t good v h = numbers_good op.Less at x k d refl e alike v h s t good
binary_good op.AtMost at x k d e alike s t good v h = numbers_good op.AtMost at x k d refl e alike v h s t good
binary_good op.Greater at x k d e alike s t good v h = numbers_good op.Greater at x k d refl e alike v h s t good
binary_good op.AtLeast at x k d e alike s t good v h = numbers_good op.AtLeast at x k d refl e alike v h s t good
