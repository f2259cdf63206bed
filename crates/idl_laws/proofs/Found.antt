-- Looking up by keys finds what a name means over the declarations.
use Rattle.std.proofs.Common.{◌≡◌, inl, inr, ◌≤◌, ℕ, zero, suc, ◌-◌, ◌==◌, Bool, true, false, List, [], ◌∷◌, map, length, Option, Some, None, refl, sym, ap, subst, ◌∙◌, arith}
use Rattle.std.specs.Prelude.{slice_get, if◌then◌else◌}
use Rattle.std.specs.Str.{bytes_eq}
use Rattle.std.proofs.lemmas.Bool.{and_parts, eqb-false, ne_eqb}
use Rattle.std.proofs.lemmas.Option.{none-some, same_Some, cond_some}
use Rattle.idl_scopes.specs.Table.{Declared, Table}
use Rattle.idl_scopes.specs.Finding.{is_finished, sort_in, place_in, is_spelled_in, if_spelled, own, or_else, among, above, outwards, outer, looked_up}
use Rattle.idl_scopes.specs.Finding as scopes
use Rattle.idl_reader.proofs.Tables.{known, known_in, key_of, AreInOrder, in_order}
use Rattle.idl_reader.proofs.FirstNames.{own_of, own_known}
use Rattle.idl_laws.specs.Meaning.{IsNamed, HasNone, IsFirst, AreNone, Means, inside, around}
use Rattle.idl_laws.proofs.Apart.{known_there}

module _ (t : Table) (o : AreInOrder (known_in t.declared)) (keyed : t.keys ≡ map key_of (known_in t.declared)) where
  -- ---- in one scope

  named_from : (scope : ℕ) (name : List ℕ) (i : ℕ) (x : Option Declared) → slice_get t.declared i ≡ x → is_spelled_in name x ≡ true
      → slice_get (known_in t.declared) i ≡ Some (scope, name) → IsNamed t scope name i
  named_from scope name i None e spelled at = absurd cc
  named_from scope name i (Some d) e spelled at =
      let same : known d ≡ (scope, name) = same_Some (known d) (scope, name) (sym (known_there t.declared i d e) ∙ at) in
      record {
        declared = d;
        there = e;
        scope_is = ap (λ (p : ℕ × List ℕ). p.0) same;
        name_is = ap (λ (p : ℕ × List ℕ). p.1) same;
        found = (and_parts (bytes_eq d.name name) (is_finished d.sort) spelled).1;
      }

  spelled_at : (name : List ℕ) (x : Option ℕ) (i : ℕ) → if_spelled t name x ≡ Some i → is_spelled_in name (slice_get t.declared i) ≡ true
  spelled_at name None i e = absurd (none-some i e)
  spelled_at name (Some j) i e =
      let p = cond_some (is_spelled_in name (slice_get t.declared j)) j i e in
      subst (λ (k : ℕ). is_spelled_in name (slice_get t.declared k) ≡ true) p.1 p.0

  pub own_named : (scope : ℕ) (name : List ℕ) (i : ℕ) → own t name scope ≡ Some i → IsNamed t scope name i
  own_named scope name i e =
      let spelled = spelled_at name (place_in t name scope) i e in
      named_from scope name i (slice_get t.declared i) refl spelled (own_known t o keyed i scope name e)

  pub named_own : (scope : ℕ) (name : List ℕ) (i : ℕ) → IsNamed t scope name i → own t name scope ≡ Some i
  named_own scope name i h =
      let same : known h.declared ≡ (scope, name) = λ k. (h.scope_is k, h.name_is k) in
      own_of t o keyed i scope name (known_there t.declared i h.declared h.there ∙ ap Some same)
      (ap (λ (x : Option Declared). is_finished (sort_in x)) h.there ∙ h.found)

  pub none_own : (scope : ℕ) (name : List ℕ) → own t name scope ≡ None → HasNone t scope name
  none_own scope name e i h = none-some i (sym e ∙ named_own scope name i h)

  own_none : (scope : ℕ) (name : List ℕ) (x : Option ℕ) → own t name scope ≡ x → HasNone t scope name → x ≡ None
  own_none scope name None e h = refl
  own_none scope name (Some i) e h = absurd (h i (own_named scope name i e))

  -- ---- in several

  pub among_first : (name : List ℕ) (ss : List ℕ) (i : ℕ) → among t name ss ≡ Some i → IsFirst t name ss i
  among_first name [] i e = absurd (none-some i e)
  among_first name (s ∷ ss) i e = by_own (own t name s) refl (λ g. among_first name ss i g) e
    where
      by_own : (x : Option ℕ) → own t name s ≡ x → (among t name ss ≡ Some i → IsFirst t name ss i) → or_else x (among t name ss) ≡ Some i
          → IsFirst t name (s ∷ ss) i
      by_own (Some j) f rest g = inl (own_named s name i (f ∙ g))
      by_own None f rest g = inr (none_own s name f, rest g)

  pub first_among : (name : List ℕ) (ss : List ℕ) (i : ℕ) → IsFirst t name ss i → among t name ss ≡ Some i
  first_among name [] i h = absurd h
  first_among name (s ∷ ss) i h = elim h [
    | inl n ↦ ap (λ (x : Option ℕ). or_else x (among t name ss)) (named_own s name i n)
    | inr p ↦ ap (λ (x : Option ℕ). or_else x (among t name ss)) (own_none s name (own t name s) refl p.0) ∙ first_among name ss i p.1
  ]

  among_none : (name : List ℕ) (ss : List ℕ) → among t name ss ≡ None → AreNone t name ss
  among_none name [] e = tt
  among_none name (s ∷ ss) e = by_own (own t name s) refl (λ g. among_none name ss g) e
    where
      by_own : (x : Option ℕ) → own t name s ≡ x → (among t name ss ≡ None → AreNone t name ss) → or_else x (among t name ss) ≡ None
          → AreNone t name (s ∷ ss)
      by_own (Some j) f rest g = absurd (none-some j (sym g))
      by_own None f rest g = (none_own s name f, rest g)

  none_among : (name : List ℕ) (ss : List ℕ) → AreNone t name ss → among t name ss ≡ None
  none_among name [] h = refl
  none_among name (s ∷ ss) h =
      ap (λ (x : Option ℕ). or_else x (among t name ss)) (own_none s name (own t name s) refl h.0) ∙ none_among name ss h.1

  -- ---- outwards

  abbrev here : List ℕ → ℕ → Option ℕ
  here name scope = scopes.inside t name scope

  -- what is found past so many scopes, from the scope around
  abbrev Further : List ℕ → ℕ → ℕ → ℕ → Type 0
  Further name n scope i = outwards n t name (outer t scope) ≡ Some i → Means t name i (outer t scope)

  by_zero : (name : List ℕ) (n scope i : ℕ) → Further name n scope i → (b : Bool) → (scope == 0) ≡ b → here name scope ≡ None
      → (if b then None else outwards n t name (outer t scope)) ≡ Some i → Means t name i scope
  by_zero name n scope i rest true f g h = absurd (none-some i h)
  by_zero name n scope i rest false f g h = around scope (among_none name (scope ∷ above t scope) g) (eqb-false scope 0 f) (rest h)

  by_inside : (name : List ℕ) (n scope i : ℕ) → Further name n scope i → (x : Option ℕ) → here name scope ≡ x
      → or_else x (if scope == 0 then None else outwards n t name (outer t scope)) ≡ Some i → Means t name i scope
  by_inside name n scope i rest (Some j) f g = inside scope (among_first name (scope ∷ above t scope) i (f ∙ g))
  by_inside name n scope i rest None f g = by_zero name n scope i rest (scope == 0) refl f g

  outwards_means : (name : List ℕ) (n scope i : ℕ) → outwards n t name scope ≡ Some i → Means t name i scope
  unfolding outwards
  outwards_means name zero scope i e = inside scope (among_first name (scope ∷ above t scope) i e)
  outwards_means name (suc n) scope i e = by_inside name n scope i (λ h. outwards_means name n (outer t scope) i h) (here name scope) refl e

  -- a scope is inside of what was declared before it
  less_around : (scope n : ℕ) → (scope ≡ 0 → ⊥) → scope ≤ suc n → outer t scope ≤ n
  less_around zero n some le = absurd (some refl)
  less_around (suc scope) n some le = let h = (in_order t o).inwards (suc scope - 1) in omega (arith, h)

  means_outwards : (name : List ℕ) (i scope : ℕ) → Means t name i scope → (n : ℕ) → scope ≤ n → outwards n t name scope ≡ Some i
  unfolding outwards
  means_outwards name i scope (inside s h) zero le = first_among name (s ∷ above t s) i h
  means_outwards name i scope (inside s h) (suc n) le =
      ap (λ (x : Option ℕ). or_else x (if s == 0 then None else outwards n t name (outer t s))) (first_among name (s ∷ above t s) i h)
  means_outwards name i scope (around s none some h) zero le = absurd (some (omega arith))
  means_outwards name i scope (around s none some h) (suc n) le =
      ap (λ (x : Option ℕ). or_else x (if s == 0 then None else outwards n t name (outer t s))) (none_among name (s ∷ above t s) none)
      ∙ ap (λ (b : Bool). if b then None else outwards n t name (outer t s)) (ne_eqb s 0 some)
      ∙ means_outwards name i (outer t s) h n (less_around s n some le)

  pub looked_means : (name : List ℕ) (scope i : ℕ) → looked_up t name scope ≡ Some i → Means t name i scope
  looked_means name scope i e = outwards_means name (length t.declared) scope i e

  pub means_looked : (name : List ℕ) (scope i : ℕ) → scope ≤ length t.declared → Means t name i scope → looked_up t name scope ≡ Some i
  means_looked name scope i le h = means_outwards name i scope h (length t.declared) le
