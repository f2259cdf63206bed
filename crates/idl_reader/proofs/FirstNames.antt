-- The first of several scopes in which a name is declared, and what looking the name up in them finds.
use Rattle.std.proofs.Common.{◌≡◌, ◌⊎◌, inl, inr, ℕ, Bool, true, false, List, [], ◌∷◌, ◌++◌, map, Option, Some, None, refl, sym, ap, subst, ◌∙◌}
use Rattle.std.specs.Prelude.{◌==◌, slice_get, position, if◌then◌else◌}
use Rattle.std.specs.List.{list_any}
use Rattle.std.specs.Option.{option_map}
use Rattle.std.specs.Str.{bytes_eq}
use Rattle.std.proofs.lemmas.Bool.{and_from, and_parts, both_ways, cases_Bool, or_cases, eq-eqb, eqb-true, cond-true, cond-false}
use Rattle.std.proofs.lemmas.Option.{none-some, same_Some, slice_get-map}
use Rattle.std.proofs.lemmas.Slice.Eq.{bytes_eq-Decides}
use Rattle.idl_scopes.specs.Table.{Declared, Table}
use Rattle.idl_scopes.specs.Finding.{lowered, sort_in, sort_at, is_finished, is_at, place_in, is_spelled_in, if_spelled, own, or_else, among}
use Rattle.idl_types.proofs.Places.{at_place, none_any}
use Rattle.idl_names.specs.Each.{and_new, and_each}
use Rattle.idl_reader.proofs.Tables.{known, known_in, key_of, AreInOrder, any_there, get_behind}
use Rattle.idl_reader.proofs.ThingLists.{get_before}

-- no declaration of this scope is spelled so
abbrev pub IsNone : List (ℕ × List ℕ) → ℕ → List ℕ → Type 0
IsNone ps scope name = (k : ℕ) → slice_get ps k ≡ Some (scope, name) → ⊥

-- the declaration with this number is spelled so in the first of these scopes that has the name
abbrev pub IsFirst : List (ℕ × List ℕ) → List ℕ → List ℕ → ℕ → Type 0
IsFirst ps [] name o = ⊥
IsFirst ps (s ∷ ss) name o = (slice_get ps o ≡ Some (s, name)) ⊎ (IsNone ps s name × IsFirst ps ss name o)

-- none of these scopes has it
abbrev pub AreNone : List (ℕ × List ℕ) → List ℕ → List ℕ → Type 0
AreNone ps [] name = Unit {0}
AreNone ps (s ∷ ss) name = IsNone ps s name × AreNone ps ss name

-- a scope is among these
abbrev pub IsAmong : ℕ → List ℕ → Type 0
IsAmong x [] = ⊥
IsAmong x (s ∷ ss) = (x ≡ s) ⊎ IsAmong x ss

-- it is declared in one of them
pub first_known : (ps : List (ℕ × List ℕ)) (ss : List ℕ) (name : List ℕ) (o : ℕ) → IsFirst ps ss name o → (scope : ℕ) × (slice_get ps o ≡ Some (scope, name)) × IsAmong scope ss
first_known ps [] name o h = absurd h
first_known ps (s ∷ ss) name o h = elim h [ inl e ↦ (s, e, inl refl) | inr p ↦ let r = first_known ps ss name o p.1 in (r.0, r.1, inr r.2) ]

-- there is one first
pub first_one : (ps : List (ℕ × List ℕ)) → AreInOrder ps → (ss : List ℕ) (name : List ℕ) (o k : ℕ) → IsFirst ps ss name o → IsFirst ps ss name k → o ≡ k
first_one ps h [] name o k a b = absurd a
first_one ps h (s ∷ ss) name o k a b = elim a [
  | inl e ↦ elim b [ inl f ↦ h.apart o k (s, name) (s, name) e f refl refl | inr q ↦ absurd (q.0 o e) ]
  | inr p ↦ elim b [ inl f ↦ absurd (p.0 k f) | inr q ↦ first_one ps h ss name o k p.1 q.1 ]
]

-- further names, where none of these scopes gets this one
pub first_added : (ps : List (ℕ × List ℕ)) (q : ℕ × List ℕ) (ss : List ℕ) (name : List ℕ) (o : ℕ) → (IsAmong q.0 ss → q.1 ≡ name → ⊥) → IsFirst ps ss name o → IsFirst (ps ++ q ∷ []) ss name o
first_added ps q [] name o c h = h
first_added ps q (s ∷ ss) name o c h = elim h [
  | inl e ↦ inl (get_before ps q (s, name) o e)
  | inr p ↦ inr (
    λ k f. elim (get_behind ps q (s, name) k f) [ inl g ↦ p.0 k g | inr g ↦ c (inl (ap (λ (r : ℕ × List ℕ). r.0) g.1)) (ap (λ (r : ℕ × List ℕ). r.1) g.1) ],
    first_added ps q ss name o (λ m e. c (inr m) e) p.1,
  )
]

-- further scopes
pub first_front : (ps : List (ℕ × List ℕ)) (ss : List ℕ) (s : ℕ) (name : List ℕ) (o : ℕ) → IsFirst ps ss name o → IsFirst ps (ss ++ s ∷ []) name o
first_front ps [] s name o h = absurd h
first_front ps (x ∷ ss) s name o h = elim h [ inl e ↦ inl e | inr p ↦ inr (p.0, first_front ps ss s name o p.1) ]

new_front : (b : Bool) (ps : List (ℕ × List ℕ)) (ss : List ℕ) (s : ℕ) (name : List ℕ) (o : ℕ) → IsFirst ps ss name o → IsFirst ps (if b then ss else ss ++ s ∷ []) name o
new_front true ps ss s name o h = h
new_front false ps ss s name o h = first_front ps ss s name o h

pub each_front : (ps : List (ℕ × List ℕ)) (ss more : List ℕ) (name : List ℕ) (o : ℕ) → IsFirst ps ss name o → IsFirst ps (and_each ss more) name o
each_front ps ss [] name o h = h
each_front ps ss (s ∷ more) name o h = each_front ps (and_new ss s) more name o (new_front (list_any (λ y. s == y) ss) ps ss s name o h)

pub first_behind : (ps : List (ℕ × List ℕ)) (ss : List ℕ) (s : ℕ) (name : List ℕ) (o : ℕ) → AreNone ps ss name → slice_get ps o ≡ Some (s, name) → IsFirst ps (ss ++ s ∷ []) name o
first_behind ps [] s name o h e = inl e
first_behind ps (x ∷ ss) s name o h e = inr (h.0, first_behind ps ss s name o h.1 e)

none_behind : (ps : List (ℕ × List ℕ)) (ss : List ℕ) (s : ℕ) (name : List ℕ) → AreNone ps ss name → IsNone ps s name → AreNone ps (ss ++ s ∷ []) name
none_behind ps [] s name h n = (n, tt)
none_behind ps (x ∷ ss) s name h n = (h.0, none_behind ps ss s name h.1 n)

none_there : (ps : List (ℕ × List ℕ)) (ss : List ℕ) (s : ℕ) (name : List ℕ) → list_any (λ y. s == y) ss ≡ true → AreNone ps ss name → IsNone ps s name
none_there ps [] s name h n = absurd cc
none_there ps (x ∷ ss) s name h n = elim (or_cases (s == x) (list_any (λ y. s == y) ss) h) [
  | inl e ↦ subst (λ (y : ℕ). IsNone ps y name) (sym (eqb-true s x e)) n.0
  | inr r ↦ none_there ps ss s name r n.1
]

-- scopes after others that don't have it, each once
pub each_behind : (ps : List (ℕ × List ℕ)) (ss more : List ℕ) (name : List ℕ) (o : ℕ) → AreNone ps ss name → IsFirst ps more name o → IsFirst ps (and_each ss more) name o
each_behind ps ss [] name o n h = absurd h
each_behind ps ss (s ∷ more) name o n h = elim (cases_Bool (list_any (λ y. s == y) ss)) [
  | inl e ↦
      subst (λ (c : Bool). IsFirst ps (and_each (if c then ss else ss ++ s ∷ []) more) name o) (sym e)
      (elim h [ inl f ↦ absurd (none_there ps ss s name e n o f) | inr p ↦ each_behind ps ss more name o n p.1 ])
  | inr e ↦
      subst (λ (c : Bool). IsFirst ps (and_each (if c then ss else ss ++ s ∷ []) more) name o) (sym e)
      (elim h [ inl f ↦ each_front ps (ss ++ s ∷ []) more name o (first_behind ps ss s name o n f) | inr p ↦ each_behind ps (ss ++ s ∷ []) more name o (none_behind ps ss s name n p.0) p.1 ])
]

-- a key is at one place alone
abbrev IsOnly : List (ℕ × List ℕ) → ℕ → List ℕ → ℕ → Type 0
IsOnly ks scope name o = (slice_get ks o ≡ Some (scope, name)) × ((k : ℕ) → slice_get ks k ≡ Some (scope, name) → k ≡ o)

key_same : (scope : ℕ) (name : List ℕ) (q : ℕ × List ℕ) → is_at scope name q ≡ true → q ≡ (scope, name)
key_same scope name q h =
    let p = and_parts (scope == q.0) (bytes_eq name q.1) h in
    let a : q.0 ≡ scope = sym (eqb-true scope q.0 p.0) in
    let b : q.1 ≡ name = sym ((bytes_eq-Decides name q.1).0 p.1) in
    (λ i. (a i, b i))

is_key : (scope : ℕ) (name : List ℕ) (q : ℕ × List ℕ) → q ≡ (scope, name) → is_at scope name q ≡ true
is_key scope name q e =
    and_from (scope == q.0) (bytes_eq name q.1) (eq-eqb scope q.0 (sym (ap (λ (x : ℕ × List ℕ). x.0) e))) ((bytes_eq-Decides name q.1).1 (sym (ap (λ (x : ℕ × List ℕ). x.1) e)))

key_found : (ks : List (ℕ × List ℕ)) (scope : ℕ) (name : List ℕ) (o : ℕ) → IsOnly ks scope name o → (x : Option ℕ) → position (is_at scope name) ks ≡ x → x ≡ Some o
key_found ks scope name o p None e =
    absurd (both_ways (list_any (is_at scope name) ks) (none_any (is_at scope name) ks e) (any_there (is_at scope name) ks o (scope, name) p.0 (is_key scope name (scope, name) refl)))
key_found ks scope name o p (Some j) e =
    let r = at_place (is_at scope name) ks j e in
    ap (λ (i : ℕ). Some i) (p.1 j (r.1 ∙ ap (λ (x : ℕ × List ℕ). Some x) (key_same scope name r.0 r.2)))

-- and so it is found there
key_place : (ks : List (ℕ × List ℕ)) (scope : ℕ) (name : List ℕ) (o : ℕ) → IsOnly ks scope name o → position (is_at scope name) ks ≡ Some o
key_place ks scope name o p = key_found ks scope name o p (position (is_at scope name) ks) refl

-- what is found has the key
place_key : (ks : List (ℕ × List ℕ)) (scope : ℕ) (name : List ℕ) (o : ℕ) → position (is_at scope name) ks ≡ Some o → slice_get ks o ≡ Some (scope, name)
place_key ks scope name o e = let r = at_place (is_at scope name) ks o e in r.1 ∙ ap (λ (x : ℕ × List ℕ). Some x) (key_same scope name r.0 r.2)

module _ (t : Table) (o : AreInOrder (known_in t.declared)) (keyed : t.keys ≡ map key_of (known_in t.declared)) where
  key_there : (k : ℕ) (scope : ℕ) (name : List ℕ) → slice_get (known_in t.declared) k ≡ Some (scope, name) → slice_get t.keys k ≡ Some (scope, lowered name)
  key_there k scope name e =
      ap (λ (ks : List (ℕ × List ℕ)). slice_get ks k) keyed ∙ slice_get-map key_of (known_in t.declared) k ∙ ap (λ (x : Option (ℕ × List ℕ)). option_map key_of x) e

  key_from : (k : ℕ) (scope : ℕ) (low : List ℕ) → slice_get t.keys k ≡ Some (scope, low) → (x : Option (ℕ × List ℕ)) → slice_get (known_in t.declared) k ≡ x → (name : List ℕ) × (x ≡ Some (scope, name)) × (lowered name ≡ low)
  key_from k scope low e None f =
      absurd (none-some (scope, low) (sym (ap (λ (ks : List (ℕ × List ℕ)). slice_get ks k) keyed ∙ slice_get-map key_of (known_in t.declared) k ∙ ap (λ (x : Option (ℕ × List ℕ)). option_map key_of x) f) ∙ e))
  key_from k scope low e (Some p) f =
      let same : key_of p ≡ (scope, low) = same_Some (key_of p) (scope, low) (sym (ap (λ (ks : List (ℕ × List ℕ)). slice_get ks k) keyed ∙ slice_get-map key_of (known_in t.declared) k ∙ ap (λ (x : Option (ℕ × List ℕ)). option_map key_of x) f) ∙ e) in
      let a : p.0 ≡ scope = ap (λ (r : ℕ × List ℕ). r.0) same in
      (p.1, (λ i. Some (a i, p.1)), ap (λ (r : ℕ × List ℕ). r.1) same)

  -- a name that is declared in a scope is found there
  pub placed : (k : ℕ) (scope : ℕ) (name : List ℕ) → slice_get (known_in t.declared) k ≡ Some (scope, name) → place_in t name scope ≡ Some k
  placed k scope name e =
      key_place t.keys scope (lowered name) k (
        key_there k scope name e,
        λ j f. let r = key_from j scope (lowered name) f (slice_get (known_in t.declared) j) refl in o.apart j k (scope, r.0) (scope, name) r.1 e refl r.2,
      )

  declared_there : (ds : List Declared) (k : ℕ) (p : ℕ × List ℕ) (x : Option Declared) → slice_get ds k ≡ x → slice_get (known_in ds) k ≡ Some p → (d : Declared) × (x ≡ Some d) × (known d ≡ p)
  declared_there ds k p None e f = absurd (none-some p (sym (slice_get-map known ds k ∙ ap (λ (x : Option Declared). option_map known x) e) ∙ f))
  declared_there ds k p (Some d) e f = (d, refl, same_Some (known d) p (sym (slice_get-map known ds k ∙ ap (λ (x : Option Declared). option_map known x) e) ∙ f))

  -- with its end read
  pub own_of : (k : ℕ) (scope : ℕ) (name : List ℕ) → slice_get (known_in t.declared) k ≡ Some (scope, name) → is_finished (sort_at t k) ≡ true → own t name scope ≡ Some k
  own_of k scope name e fin =
      let d = declared_there t.declared k (scope, name) (slice_get t.declared k) refl e in
      let at : slice_get t.declared k ≡ Some d.0 = d.1 in
      let spelled : is_spelled_in name (slice_get t.declared k) ≡ true
      = ap (λ (x : Option Declared). is_spelled_in name x) at
      ∙ and_from (bytes_eq d.0.name name) (is_finished d.0.sort) ((bytes_eq-Decides d.0.name name).1 (ap (λ (r : ℕ × List ℕ). r.1) d.2)) (sym (ap (λ (x : Option Declared). is_finished (sort_in x)) at) ∙ fin) in
      ap (λ (x : Option ℕ). if_spelled t name x) (placed k scope name e) ∙ cond-true (is_spelled_in name (slice_get t.declared k)) (Some k) None spelled

  spelled_known : (name : List ℕ) (k : ℕ) (x : Option Declared) → slice_get t.declared k ≡ x → is_spelled_in name x ≡ true → (scope : ℕ) × (slice_get (known_in t.declared) k ≡ Some (scope, name))
  spelled_known name k None e h = absurd cc
  spelled_known name k (Some d) e h =
      let p = and_parts (bytes_eq d.name name) (is_finished d.sort) h in
      let n : d.name ≡ name = (bytes_eq-Decides d.name name).0 p.0 in
      (d.scope, slice_get-map known t.declared k ∙ ap (λ (x : Option Declared). option_map known x) e ∙ (λ i. Some (d.scope, n i)))

  -- what is found in a scope is declared there, and spelled so
  pub own_known : (k : ℕ) (scope : ℕ) (name : List ℕ) → own t name scope ≡ Some k → slice_get (known_in t.declared) k ≡ Some (scope, name)
  own_known k scope name e = by_place (place_in t name scope) refl e
    where
      by_place : (x : Option ℕ) → place_in t name scope ≡ x → if_spelled t name x ≡ Some k → slice_get (known_in t.declared) k ≡ Some (scope, name)
      by_place None f g = absurd (none-some k g)
      by_place (Some j) f g = elim (cases_Bool (is_spelled_in name (slice_get t.declared j))) [
        | inl h ↦
            let same : j ≡ k = same_Some j k (sym (cond-true (is_spelled_in name (slice_get t.declared j)) (Some j) None h) ∙ g) in
            let u = spelled_known name j (slice_get t.declared j) refl h in
            let c : (scope, lowered name) ≡ (u.0, lowered name) = same_Some (scope, lowered name) (u.0, lowered name) (sym (place_key t.keys scope (lowered name) j f) ∙ key_there j u.0 name u.1) in
            let s : u.0 ≡ scope = sym (ap (λ (x : ℕ × List ℕ). x.0) c) in
            subst (λ (i : ℕ). slice_get (known_in t.declared) i ≡ Some (scope, name)) same (u.1 ∙ (λ i. Some (s i, name)))
        | inr h ↦ absurd (none-some k (sym (cond-false (is_spelled_in name (slice_get t.declared j)) (Some j) None h) ∙ g))
      ]

  -- all names of a scope have their ends read
  abbrev pub IsRead : ℕ → Type 0
  IsRead scope = (k : ℕ) (name : List ℕ) → slice_get (known_in t.declared) k ≡ Some (scope, name) → is_finished (sort_at t k) ≡ true

  abbrev pub AreRead : List ℕ → Type 0
  AreRead [] = Unit {0}
  AreRead (s ∷ ss) = IsRead s × AreRead ss

  -- none of these scopes has the name, or the first is this
  abbrev pub FoundIn : List ℕ → List ℕ → Option ℕ → Type 0
  FoundIn ss name x = AreNone (known_in t.declared) ss name ⊎ ((k : ℕ) × (x ≡ Some k) × IsFirst (known_in t.declared) ss name k)

  -- looking up finds the first
  pub among_first : (ss : List ℕ) (name : List ℕ) (k : ℕ) → IsFirst (known_in t.declared) ss name k → is_finished (sort_at t k) ≡ true → among t name ss ≡ Some k
  among_first [] name k h fin = absurd h
  among_first (s ∷ ss) name k h fin = elim h [
    | inl e ↦ ap (λ (x : Option ℕ). or_else x (among t name ss)) (own_of k s name e fin)
    | inr p ↦ ap (λ (x : Option ℕ). or_else x (among t name ss)) (own_none (own t name s) refl p.0) ∙ among_first ss name k p.1 fin
  ]
    where
      own_none : (x : Option ℕ) → own t name s ≡ x → IsNone (known_in t.declared) s name → x ≡ None
      own_none None e n = refl
      own_none (Some j) e n = absurd (n j (own_known j s name e))

  found_first : (s : ℕ) (ss : List ℕ) (name : List ℕ) → IsRead s → ((x : Option ℕ) → among t name ss ≡ x → FoundIn ss name x) → (y : Option ℕ) → own t name s ≡ y → (x : Option ℕ) → or_else y (among t name ss) ≡ x → FoundIn (s ∷ ss) name x
  found_first s ss name fin rest (Some k) f x e = inr (k, sym e, inl (own_known k s name f))
  found_first s ss name fin rest None f x e =
      let none : IsNone (known_in t.declared) s name = λ k g. none-some k (sym f ∙ own_of k s name g (fin k name g)) in
      elim (rest x e) [ inl n ↦ inl (none, n) | inr p ↦ inr (p.0, p.1, inr (none, p.2)) ]

  -- what it finds is the first, and where it finds none there is none
  pub first_among : (ss : List ℕ) → AreRead ss → (name : List ℕ) (x : Option ℕ) → among t name ss ≡ x → FoundIn ss name x
  first_among [] fin name x e = inl tt
  first_among (s ∷ ss) fin name x e = found_first s ss name fin.0 (λ y f. first_among ss fin.1 name y f) (own t name s) refl x e
