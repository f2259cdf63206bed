-- The names of operations at places: each operation has names of its own, and what is added once by places is added once by names.
use Rattle.std.proofs.Common.{◌≡◌, ◌⊎◌, inl, inr, ℕ, Bool, true, false, not, List, [], ◌∷◌, ◌++◌, append_assoc, append-nil, drop, codes, Option, refl, sym, ap, subst, ◌∙◌}
use Rattle.std.specs.Prelude.{◌==◌, slice_get, if◌then◌else◌}
use Rattle.std.specs.List.{list_any}
use Rattle.std.specs.Str.{bytes_eq}
use Rattle.std.proofs.lemmas.Bool.{and_from, or_from, or_left, or_right, both_ways, cases_Bool, or_cases, not_from_false, false_from_ne_true, eqb-true}
use Rattle.std.proofs.lemmas.List.{map-append}
use Rattle.std.proofs.lemmas.Slice.Eq.{bytes_eq-Decides}
use Rattle.cdr_values.specs.Lawful.{differ}
use Rattle.cdr_values.specs.Trees.{Names}
use Rattle.idl_scopes.specs.Table.{Table}
use Rattle.idl_types.specs.Names.{operation_names, with_name, with_names}
use Rattle.idl_types.specs.Things.{OperationView}
use Rattle.idl_types.proofs.EachOnce.{with_both}
use Rattle.idl_names.specs.Each.{and_new, and_each}
use Rattle.idl_names.specs.State.{Thing}
use Rattle.idl_names.specs.Changes.{thing_in}
use Rattle.idl_reader.specs.Declared.{operations_of, operations_at}
use Rattle.idl_reader.proofs.FirstNames.{IsFirst, IsAmong, first_one}
use Rattle.idl_reader.proofs.HeldOperations.{AreNamesOf, IsHeld, AreHeld, AreOnce}
use Rattle.idl_reader.proofs.MergedBases.{among_any}
use Rattle.idl_reader.proofs.NameTokens.{begins_low}
use Rattle.idl_reader.proofs.Tables.{known_in, AreInOrder}

-- a name is among others
abbrev pub IsIn : List ℕ → Names → Type 0
IsIn n [] = ⊥
IsIn n (m ∷ ms) = (n ≡ m) ⊎ IsIn n ms

pub in_left : (n : List ℕ) (xs ys : Names) → IsIn n xs → IsIn n (xs ++ ys)
in_left n [] ys h = absurd h
in_left n (x ∷ xs) ys h = elim h [ inl e ↦ inl e | inr r ↦ inr (in_left n xs ys r) ]

pub in_right : (n : List ℕ) (xs ys : Names) → IsIn n ys → IsIn n (xs ++ ys)
in_right n [] ys h = h
in_right n (x ∷ xs) ys h = inr (in_right n xs ys h)

in_either : (n : List ℕ) (xs ys : Names) → IsIn n (xs ++ ys) → IsIn n xs ⊎ IsIn n ys
in_either n [] ys h = inr h
in_either n (x ∷ xs) ys h = elim h [ inl e ↦ inl (inl e) | inr r ↦ elim (in_either n xs ys r) [ inl a ↦ inl (inr a) | inr b ↦ inr b ] ]

in_any : (n : List ℕ) (xs : Names) → IsIn n xs → list_any (bytes_eq n) xs ≡ true
in_any n [] h = absurd h
in_any n (x ∷ xs) h = elim h [ inl e ↦ or_left (bytes_eq n x) (list_any (bytes_eq n) xs) ((bytes_eq-Decides n x).1 e) | inr r ↦ or_right (bytes_eq n x) (list_any (bytes_eq n) xs) (in_any n xs r) ]

none_any : (test : List ℕ → Bool) (xs : Names) → ((n : List ℕ) → IsIn n xs → test n ≡ true → ⊥) → list_any test xs ≡ false
none_any test [] h = refl
none_any test (x ∷ xs) h = or_from (test x) (list_any test xs) (false_from_ne_true (test x) (h x (inl refl))) (none_any test xs (λ n m. h n (inr m)))

-- names that differ
abbrev pub AreDistinct : Names → Type 0
AreDistinct [] = Unit {0}
AreDistinct (n ∷ ns) = (IsIn n ns → ⊥) × AreDistinct ns

pub distinct_differ : (ns : Names) → AreDistinct ns → differ bytes_eq ns ≡ true
distinct_differ [] h = refl
distinct_differ (n ∷ ns) h =
    and_from (not (list_any (λ m. bytes_eq m n) ns)) (differ bytes_eq ns)
    (not_from_false (list_any (λ m. bytes_eq m n) ns) (none_any (λ m. bytes_eq m n) ns (λ m a e. h.0 (subst (λ (z : List ℕ). IsIn z ns) ((bytes_eq-Decides m n).0 e) a)))) (distinct_differ ns h.1)

distinct_both : (xs ys : Names) → AreDistinct xs → AreDistinct ys → ((n : List ℕ) → IsIn n xs → IsIn n ys → ⊥) → AreDistinct (xs ++ ys)
distinct_both [] ys h k f = k
distinct_both (x ∷ xs) ys h k f = (
  λ m. elim (in_either x xs ys m) [ inl a ↦ h.0 a | inr b ↦ f x (inl refl) b ],
  distinct_both xs ys h.1 k (λ n a b. f n (inr a) b),
)

-- a name is added after others where it is none of them
pub with_none : (ns more : Names) → AreDistinct more → ((n : List ℕ) → IsIn n more → IsIn n ns → ⊥) → with_names ns more ≡ ns ++ more
with_none ns [] d f = sym (append-nil ns)
with_none ns (n ∷ more) d f =
    let new : list_any (bytes_eq n) ns ≡ false = none_any (bytes_eq n) ns (λ m a e. f n (inl refl) (subst (λ (z : List ℕ). IsIn z ns) (sym ((bytes_eq-Decides n m).0 e)) a)) in
    ap (λ (b : Bool). with_names (if b then ns else ns ++ n ∷ []) more) new
    ∙ with_none (ns ++ n ∷ []) more d.1 (λ m a b. elim (in_either m ns (n ∷ []) b) [ inl c ↦ f m (inr a) c | inr c ↦ elim c [ inl e ↦ d.0 (subst (λ (z : List ℕ). IsIn z more) e a) | inr r ↦ r ] ])
    ∙ append_assoc ns (n ∷ []) more

-- and where it is one of them none is added
pub with_all : (ns more : Names) → ((n : List ℕ) → IsIn n more → IsIn n ns) → with_names ns more ≡ ns
with_all ns [] f = refl
with_all ns (n ∷ more) f =
    ap (λ (b : Bool). with_names (if b then ns else ns ++ n ∷ []) more) (in_any n ns (f n (inl refl))) ∙ with_all ns more (λ m a. f m (inr a))

-- what is among others stays among them
pub with_front : (n : List ℕ) (ns more : Names) → IsIn n ns → IsIn n (with_names ns more)
with_front n ns [] h = h
with_front n ns (m ∷ more) h = with_front n (with_name ns m) more (one_front (list_any (bytes_eq m) ns))
  where
    one_front : (b : Bool) → IsIn n (if b then ns else ns ++ m ∷ [])
    one_front true = h
    one_front false = in_left n ns (m ∷ []) h

-- and what is added is among them
pub with_each : (n : List ℕ) (ns more : Names) → IsIn n more → IsIn n (with_names ns more)
with_each n ns [] h = absurd h
with_each n ns (m ∷ more) h = elim h [
  | inl e ↦ with_front n (with_name ns m) more (elim (cases_Bool (list_any (bytes_eq m) ns)) [
    | inl t ↦ subst (λ (b : Bool). IsIn n (if b then ns else ns ++ m ∷ [])) (sym t) (any_in n m ns e t)
    | inr f ↦ subst (λ (b : Bool). IsIn n (if b then ns else ns ++ m ∷ [])) (sym f) (in_right n ns (m ∷ []) (inl e))
  ])
  | inr r ↦ with_each n (with_name ns m) more r
]
  where
    any_in : (n m : List ℕ) (xs : Names) → n ≡ m → list_any (bytes_eq m) xs ≡ true → IsIn n xs
    any_in n m [] e h = absurd cc
    any_in n m (x ∷ xs) e h = elim (or_cases (bytes_eq m x) (list_any (bytes_eq m) xs) h) [ inl t ↦ inl (e ∙ (bytes_eq-Decides m x).0 t) | inr r ↦ inr (any_in n m xs e r) ]

-- the name of an operation is its own, or one of an attribute
abbrev IsDressed : List ℕ → List ℕ → Type 0
IsDressed n name = (n ≡ name) ⊎ ((n ≡ codes "_get_" ++ name) ⊎ (n ≡ codes "_set_" ++ name))

dressed : (n name : List ℕ) (ns : Names) → AreNamesOf name ns → IsIn n ns → IsDressed n name
dressed n name ns h m = elim h [
  | inl e ↦ elim (subst (λ (z : Names). IsIn n z) e m) [ inl a ↦ inl a | inr r ↦ absurd r ]
  | inr h ↦ elim h [
    | inl e ↦ elim (subst (λ (z : Names). IsIn n z) e m) [ inl a ↦ inr (inl a) | inr r ↦ absurd r ]
    | inr e ↦ elim (subst (λ (z : Names). IsIn n z) e m) [ inl a ↦ inr (inl a) | inr r ↦ elim r [ inl b ↦ inr (inr b) | inr c ↦ absurd c ] ]
  ]
]

low_get : (name : List ℕ) → begins_low (codes "_get_" ++ name) ≡ true
low_get name = refl

low_set : (name : List ℕ) → begins_low (codes "_set_" ++ name) ≡ true
low_set name = refl

-- the second byte
abbrev second : List ℕ → ℕ
second [] = 0
second (b ∷ []) = 0
second (b ∷ c ∷ z) = c

get_no_set : (x y : List ℕ) → codes "_get_" ++ x ≡ codes "_set_" ++ y → ⊥
get_no_set x y e = both_ways (second (codes "_get_" ++ x) == 103) (ap (λ (z : List ℕ). second z == 103) e) refl

same_name : (n a b : List ℕ) → begins_low a ≡ false → begins_low b ≡ false → IsDressed n a → IsDressed n b → a ≡ b
same_name n a b x y p q = elim p [
  | inl e ↦ elim q [
    | inl f ↦ sym e ∙ f
    | inr q ↦ elim q [
      | inl f ↦ absurd (both_ways (begins_low a) x (ap begins_low (sym e ∙ f) ∙ low_get b))
      | inr f ↦ absurd (both_ways (begins_low a) x (ap begins_low (sym e ∙ f) ∙ low_set b))
    ]
  ]
  | inr p ↦ elim p [
    | inl e ↦ elim q [
      | inl f ↦ absurd (both_ways (begins_low b) y (ap begins_low (sym f ∙ e) ∙ low_get a))
      | inr q ↦ elim q [ inl f ↦ ap (λ (z : List ℕ). drop 5 z) (sym e ∙ f) | inr f ↦ absurd (get_no_set a b (sym e ∙ f)) ]
    ]
    | inr e ↦ elim q [
      | inl f ↦ absurd (both_ways (begins_low b) y (ap begins_low (sym f ∙ e) ∙ low_set a))
      | inr q ↦ elim q [ inl f ↦ absurd (get_no_set b a (sym f ∙ e)) | inr f ↦ ap (λ (z : List ℕ). drop 5 z) (sym e ∙ f) ]
    ]
  ]
]

-- the names of one operation or attribute
pub names_differ : (name : List ℕ) (ns : Names) → AreNamesOf name ns → AreDistinct ns
names_differ name ns h = elim h [
  | inl e ↦ subst AreDistinct (sym e) (λ m. m, tt)
  | inr h ↦ elim h [
    | inl e ↦ subst AreDistinct (sym e) (λ m. m, tt)
    | inr e ↦ subst AreDistinct (sym e) (λ m. elim m [ inl f ↦ get_no_set name name f | inr r ↦ r ], (λ m. m, tt))
  ]
]

-- the names of what is at a place, and at several
abbrev pub names_at : List Thing → ℕ → Names
names_at all o = operation_names (operations_of (thing_in (slice_get all o)))

abbrev pub all_names : List Thing → List ℕ → Names
all_names all os = operation_names (operations_at all os)

pub names_more : (all : List Thing) (o : ℕ) (os : List ℕ) → all_names all (o ∷ os) ≡ names_at all o ++ all_names all os
names_more all o os = map-append (λ (v : OperationView). v.name) (operations_of (thing_in (slice_get all o))) (operations_at all os)

pub names_both : (all : List Thing) (xs ys : List ℕ) → all_names all (xs ++ ys) ≡ all_names all xs ++ all_names all ys
names_both all [] ys = refl
names_both all (x ∷ xs) ys =
    names_more all x (xs ++ ys) ∙ ap (λ (ns : Names). names_at all x ++ ns) (names_both all xs ys) ∙ sym (append_assoc (names_at all x) (all_names all xs) (all_names all ys))
    ∙ ap (λ (ns : Names). ns ++ all_names all ys) (sym (names_more all x xs))

pub among_names : (all : List Thing) (n : List ℕ) (o : ℕ) (os : List ℕ) → IsAmong o os → IsIn n (names_at all o) → IsIn n (all_names all os)
among_names all n o [] m h = absurd m
among_names all n o (x ∷ os) m h =
    subst (λ (ns : Names). IsIn n ns) (sym (names_more all x os)) (elim m [
      | inl e ↦ in_left n (names_at all x) (all_names all os) (subst (λ (i : ℕ). IsIn n (names_at all i)) e h)
      | inr r ↦ in_right n (names_at all x) (all_names all os) (among_names all n o os r h)
    ])

pub names_among : (all : List Thing) (n : List ℕ) (os : List ℕ) → IsIn n (all_names all os) → (o : ℕ) × IsAmong o os × IsIn n (names_at all o)
names_among all n [] h = absurd h
names_among all n (x ∷ os) h = elim (in_either n (names_at all x) (all_names all os) (subst (λ (ns : Names). IsIn n ns) (names_more all x os) h)) [
  | inl a ↦ (x, inl refl, a)
  | inr b ↦ let r = names_among all n os b in (r.0, inr r.1, r.2)
]

any_among : (x : ℕ) (xs : List ℕ) → list_any (λ z. x == z) xs ≡ true → IsAmong x xs
any_among x [] h = absurd cc
any_among x (y ∷ xs) h = elim (or_cases (x == y) (list_any (λ z. x == z) xs) h) [ inl e ↦ inl (eqb-true x y e) | inr r ↦ inr (any_among x xs r) ]

pub among_left : (x : ℕ) (xs ys : List ℕ) → IsAmong x xs → IsAmong x (xs ++ ys)
among_left x [] ys m = absurd m
among_left x (y ∷ xs) ys m = elim m [ inl e ↦ inl e | inr r ↦ inr (among_left x xs ys r) ]

among_last : (xs : List ℕ) (y : ℕ) → IsAmong y (xs ++ y ∷ [])
among_last [] y = inl refl
among_last (x ∷ xs) y = inr (among_last xs y)

new_left : (b : Bool) (x y : ℕ) (xs : List ℕ) → IsAmong x xs → IsAmong x (if b then xs else xs ++ y ∷ [])
new_left true x y xs m = m
new_left false x y xs m = among_left x xs (y ∷ []) m

-- what is among others stays among them, and what is added is
pub each_left : (xs ys : List ℕ) (x : ℕ) → IsAmong x xs → IsAmong x (and_each xs ys)
each_left xs [] x m = m
each_left xs (y ∷ ys) x m = each_left (and_new xs y) ys x (new_left (list_any (λ z. y == z) xs) x y xs m)

module _ (t : Table) (all : List Thing) (ss : List ℕ) (order : AreInOrder (known_in t.declared)) where
  held_names : (o : ℕ) (h : IsHeld t all ss o) → AreNamesOf h.name (names_at all o)
  held_names o h = subst (AreNamesOf h.name) (ap (λ (x : Option Thing). operation_names (operations_of (thing_in x))) (sym h.there)) h.names

  -- two that have a name in common are one
  pub one_place : (n : List ℕ) (o k : ℕ) → IsHeld t all ss o → IsHeld t all ss k → IsIn n (names_at all o) → IsIn n (names_at all k) → o ≡ k
  one_place n o k a b x y =
      let same = same_name n a.name b.name a.plain b.plain (dressed n a.name (names_at all o) (held_names o a) x) (dressed n b.name (names_at all k) (held_names k b) y) in
      first_one (known_in t.declared) order ss b.name o k (subst (λ (z : List ℕ). IsFirst (known_in t.declared) ss z o) same a.first) b.first

  pub among_held : (os : List ℕ) → AreHeld t all ss os → (o : ℕ) → IsAmong o os → IsHeld t all ss o
  among_held [] h o m = absurd m
  among_held (x ∷ os) h o m = elim m [ inl e ↦ subst (IsHeld t all ss) (sym e) h.0 | inr r ↦ among_held os h.1 o r ]

  -- the names of operations, each of which is there once
  pub all_distinct : (os : List ℕ) → AreHeld t all ss os → AreOnce os → AreDistinct (all_names all os)
  all_distinct [] h d = tt
  all_distinct (o ∷ os) h d =
      subst AreDistinct (sym (names_more all o os))
      (distinct_both (names_at all o) (all_names all os) (names_differ h.0.name (names_at all o) (held_names o h.0)) (all_distinct os h.1 d.1)
      (λ n a b. let r = names_among all n os b in d.0 (subst (λ (k : ℕ). IsAmong k os) (sym (one_place n o r.0 h.0 (among_held os h.1 r.0 r.1) a r.2)) r.1)))

  names_new : (xs : List ℕ) (y : ℕ) → ((o : ℕ) → IsAmong o (and_new xs y) → IsHeld t all ss o) → with_names (all_names all xs) (names_at all y) ≡ all_names all (and_new xs y)
  names_new xs y f = elim (cases_Bool (list_any (λ z. y == z) xs)) [
    | inl e ↦
        with_all (all_names all xs) (names_at all y) (λ n a. among_names all n y xs (any_among y xs e) a)
        ∙ ap (λ (b : Bool). all_names all (if b then xs else xs ++ y ∷ [])) (sym e)
    | inr e ↦
        let g : (o : ℕ) → IsAmong o (xs ++ y ∷ []) → IsHeld t all ss o = subst (λ (b : Bool). (o : ℕ) → IsAmong o (if b then xs else xs ++ y ∷ []) → IsHeld t all ss o) e f in
        let mine = g y (among_last xs y) in
        with_none (all_names all xs) (names_at all y) (names_differ mine.name (names_at all y) (held_names y mine))
        (λ n a b.
        let r = names_among all n xs b in
        let same = one_place n y r.0 mine (g r.0 (among_left r.0 xs (y ∷ []) r.1)) a r.2 in
        both_ways (list_any (λ z. y == z) xs) e (among_any y xs (subst (λ (k : ℕ). IsAmong k xs) (sym same) r.1)))
        ∙ ap (λ (ns : Names). all_names all xs ++ ns) (sym (append-nil (names_at all y)) ∙ sym (names_more all y []))
        ∙ sym (names_both all xs (y ∷ []))
        ∙ ap (λ (b : Bool). all_names all (if b then xs else xs ++ y ∷ [])) (sym e)
  ]

  -- what is added once by places is added once by names
  pub names_each : (xs ys : List ℕ) → ((o : ℕ) → IsAmong o (and_each xs ys) → IsHeld t all ss o) → with_names (all_names all xs) (all_names all ys) ≡ all_names all (and_each xs ys)
  names_each xs [] f = refl
  names_each xs (y ∷ ys) f =
      ap (with_names (all_names all xs)) (names_more all y ys) ∙ with_both (all_names all xs) (names_at all y) (all_names all ys)
      ∙ ap (λ (ns : Names). with_names ns (all_names all ys)) (names_new xs y (λ o m. f o (each_left (and_new xs y) ys o m))) ∙ names_each (and_new xs y) ys f
