-- What a base adds to those before it: where no name clashes, each operation stays the first of its name.
use Rattle.std.proofs.Common.{◌≡◌, inl, inr, ℕ, zero, suc, ◌+◌, ◌<◌, arith, Bool, true, false, List, [], ◌∷◌, ◌++◌, map, Option, Some, None, refl, sym, ap, subst, ◌∙◌}
use Rattle.std.specs.Prelude.{◌==◌, slice_get, if◌then◌else◌}
use Rattle.std.specs.List.{list_any}
use Rattle.std.specs.Option.{option_map}
use Rattle.std.proofs.lemmas.Bool.{and_cases, or_left, or_right, or_parts, both_ways, cases_Bool, eq-eqb, eqb-true, not-false}
use Rattle.std.proofs.lemmas.Option.{none-some, same_Some, slice_get-map}
use Rattle.idl_scopes.specs.Table.{Sort, operation, Declared, Table}
use Rattle.idl_scopes.specs.Finding.{sort_at, is_finished, inherited, among, scopes_of}
use Rattle.idl_scopes.specs.Bases.{differs, holds, clashes, bases_clash}
use Rattle.idl_names.specs.Each.{and_new, and_each}
use Rattle.idl_names.specs.State.{Thing, interface}
use Rattle.idl_names.specs.Changes.{thing_in}
use Rattle.idl_names.specs.Interfaces.{operations_in, operations_from}
use Rattle.idl_reader.proofs.EarlierBases.{IsBase, AreBases, AreEarlier}
use Rattle.idl_reader.proofs.FirstNames.{IsFirst, IsAmong, AreRead, first_known, each_front, each_behind, among_first, first_among}
use Rattle.idl_reader.proofs.HeldOperations.{AreHeld, AreOnce, IsScopeOf, AreScopes, IsInterface, AreMerged, held_wider, held_behind, once_behind}
use Rattle.idl_reader.proofs.Tables.{known, known_in, key_of, AreInOrder}

-- among numbers
pub among_any : (x : ℕ) (xs : List ℕ) → IsAmong x xs → list_any (λ y. x == y) xs ≡ true
among_any x [] m = absurd m
among_any x (y ∷ xs) m = elim m [ inl e ↦ or_left (x == y) (list_any (λ z. x == z) xs) (eq-eqb x y e) | inr r ↦ or_right (x == y) (list_any (λ z. x == z) xs) (among_any x xs r) ]

among_holds : (x : ℕ) (xs : List ℕ) → IsAmong x xs → holds xs x ≡ true
among_holds x [] m = absurd m
among_holds x (y ∷ xs) m = elim m [ inl e ↦ or_left (y == x) (holds xs x) (eq-eqb y x (sym e)) | inr r ↦ or_right (y == x) (holds xs x) (among_holds x xs r) ]

none_passes : {X : Type 0} (test : X → Bool) (xs : List X) (k : ℕ) (x : X) → slice_get xs k ≡ Some x → list_any test xs ≡ false → test x ≡ false
none_passes test [] k x e h = absurd (none-some x e)
none_passes test (y ∷ xs) zero x e h = ap test (sym (same_Some y x e)) ∙ (or_parts (test y) (list_any test xs) h).0
none_passes test (y ∷ xs) (suc k) x e h = none_passes test xs k x e (or_parts (test y) (list_any test xs) h).1

-- one number more, or not
new_kept : (P : List ℕ → Type 0) (xs : List ℕ) (y : ℕ) → P xs → ((IsAmong y xs → ⊥) → P (xs ++ y ∷ [])) → P (and_new xs y)
new_kept P xs y h k = elim (cases_Bool (list_any (λ z. y == z) xs)) [
  | inl e ↦ subst (λ (b : Bool). P (if b then xs else xs ++ y ∷ [])) (sym e) h
  | inr e ↦ subst (λ (b : Bool). P (if b then xs else xs ++ y ∷ [])) (sym e) (k (λ m. both_ways (list_any (λ z. y == z) xs) e (among_any y xs m)))
]

once_each : (xs ys : List ℕ) → AreOnce xs → AreOnce (and_each xs ys)
once_each xs [] h = h
once_each xs (y ∷ ys) h = once_each (and_new xs y) ys (new_kept AreOnce xs y h (λ n. once_behind y xs n h))

held_each : (t : Table) (ts : List Thing) (ss xs ys : List ℕ) → AreHeld t ts ss xs → AreHeld t ts ss ys → AreHeld t ts ss (and_each xs ys)
held_each t ts ss xs [] h k = h
held_each t ts ss xs (y ∷ ys) h k = held_each t ts ss (and_new xs y) ys (new_kept (AreHeld t ts ss) xs y h (λ n. held_behind t ts ss y xs k.0 h)) k.1

scopes_behind : (ts : List Thing) (n s : ℕ) (ss : List ℕ) → IsScopeOf ts n s → AreScopes ts n ss → AreScopes ts n (ss ++ s ∷ [])
scopes_behind ts n s [] d h = (d, tt)
scopes_behind ts n s (x ∷ ss) d h = (h.0, scopes_behind ts n s ss d h.1)

scopes_each : (ts : List Thing) (n : ℕ) (xs ys : List ℕ) → AreScopes ts n xs → AreScopes ts n ys → AreScopes ts n (and_each xs ys)
scopes_each ts n xs [] h k = h
scopes_each ts n xs (y ∷ ys) h k = scopes_each ts n (and_new xs y) ys (new_kept (AreScopes ts n) xs y h (λ m. scopes_behind ts n y xs k.0 h)) k.1

scopes_further : (ts : List Thing) (n m : ℕ) (ss : List ℕ) → n < m → AreScopes ts n ss → AreScopes ts m ss
scopes_further ts n m [] less h = tt
scopes_further ts n m (s ∷ ss) less h = (record { at = h.0.at; is = h.0.is; less = (let l = h.0.less in omega arith); base = h.0.base }, scopes_further ts n m ss less h.1)

bases_behind : (ts : List Thing) (b : ℕ) (bs : List ℕ) → IsBase ts b → AreBases ts bs → AreBases ts (bs ++ b ∷ [])
bases_behind ts b [] d h = (d, tt)
bases_behind ts b (c ∷ bs) d h = (h.0, bases_behind ts b bs d h.1)

earlier_behind : (b n : ℕ) (bs : List ℕ) → b < n → AreEarlier bs n → AreEarlier (bs ++ b ∷ []) n
earlier_behind b n [] less h = (less, tt)
earlier_behind b n (c ∷ bs) less h = (h.0, earlier_behind b n bs less h.1)

given_behind : (ts : List Thing) (so_far bs : List ℕ) (b : ℕ) → operations_from ts so_far (bs ++ b ∷ []) ≡ and_each (operations_from ts so_far bs) (operations_in (thing_in (slice_get ts b)))
given_behind ts so_far [] b = refl
given_behind ts so_far (c ∷ bs) b = given_behind ts (and_each so_far (operations_in (thing_in (slice_get ts c)))) bs b

declared_of : (ds : List Declared) (k : ℕ) (p : ℕ × List ℕ) (x : Option Declared) → slice_get ds k ≡ x → slice_get (known_in ds) k ≡ Some p → (d : Declared) × (x ≡ Some d) × (known d ≡ p)
declared_of ds k p None e f = absurd (none-some p (sym (slice_get-map known ds k ∙ ap (λ (x : Option Declared). option_map known x) e) ∙ f))
declared_of ds k p (Some d) e f = (d, refl, same_Some (known d) p (sym (slice_get-map known ds k ∙ ap (λ (x : Option Declared). option_map known x) e) ∙ f))

module _ (t : Table) (o : AreInOrder (known_in t.declared)) (keyed : t.keys ≡ map key_of (known_in t.declared)) where
  -- where no name clashes, the first of the later scopes is the first of all
  first_merged : (earlier later : List ℕ) → AreRead t o keyed earlier → bases_clash t earlier later ≡ false → (name : List ℕ) (k : ℕ) → IsFirst (known_in t.declared) later name k → sort_at t k ≡ operation
      → IsFirst (known_in t.declared) (and_each earlier later) name k
  first_merged earlier later read clear name k f s =
      let p = first_known (known_in t.declared) later name k f in
      let d = declared_of t.declared k (p.0, name) (slice_get t.declared k) refl p.1 in
      let no = none_passes (clashes t earlier later) t.declared k d.0 d.1 clear in
      let here : holds later d.0.scope ≡ true = among_holds d.0.scope later (subst (λ (x : ℕ). IsAmong x later) (sym (ap (λ (q : ℕ × List ℕ). q.0) d.2)) p.2) in
      let named : d.0.name ≡ name = ap (λ (q : ℕ × List ℕ). q.1) d.2 in
      let after : among t name later ≡ Some k = among_first t o keyed later name k f (ap is_finished s) in
      let apart : differs (among t name earlier) (Some k) ≡ false
      = elim (and_cases (holds later d.0.scope) (differs (among t d.0.name earlier) (among t d.0.name later)) no) [
        | inl e ↦ absurd (both_ways (holds later d.0.scope) e here)
        | inr e ↦ sym (ap (λ (x : Option ℕ). differs (among t name earlier) x) after) ∙ sym (ap (λ (n : List ℕ). differs (among t n earlier) (among t n later)) named) ∙ e
      ] in
      elim (first_among t o keyed earlier read name (among t name earlier) refl) [
        | inl none ↦ each_behind (known_in t.declared) earlier later name k none f
        | inr q ↦
            let same : q.0 ≡ k = eqb-true q.0 k (not-false (q.0 == k) (sym (ap (λ (x : Option ℕ). differs x (Some k)) q.1) ∙ apart)) in
            each_front (known_in t.declared) earlier later name k (subst (λ (j : ℕ). IsFirst (known_in t.declared) earlier name j) same q.2)
      ]

  -- one base more
  pub base_merged : (ts : List Thing) (n b : ℕ) (bases given bs os : List ℕ) → slice_get ts b ≡ Some (interface bs os) → b < n → (d : IsInterface t ts b bs os) → AreRead t o keyed given
      → bases_clash t given (scopes_of t b) ≡ false → AreMerged t ts n bases given → AreMerged t ts n (bases ++ b ∷ []) (and_each given (scopes_of t b))
  base_merged ts n b bases given bs os there less d read clear m =
      let ss = (b + 1) ∷ d.scopes in
      let same : scopes_of t b ≡ ss = ap (λ (s : Sort). (b + 1) ∷ inherited s) d.sort in
      let clear' : bases_clash t given ss ≡ false = sym (ap (λ (zs : List ℕ). bases_clash t given zs) same) ∙ clear in
      let base : IsBase ts b = record { bases = bs; operations = os; there = there } in
      let all : operations_from ts [] (bases ++ b ∷ []) ≡ and_each (operations_from ts [] bases) os
      = given_behind ts [] bases b ∙ ap (λ (x : Option Thing). and_each (operations_from ts [] bases) (operations_in (thing_in x))) there in
      subst (λ (zs : List ℕ). AreMerged t ts n (bases ++ b ∷ []) (and_each given zs)) (sym same) (record {
        stand = bases_behind ts b bases base m.stand;
        earlier = earlier_behind b n bases less m.earlier;
        within = scopes_each ts n given ss m.within (record { at = b; is = refl; less = less; base = base }, scopes_further ts b n d.scopes less d.within);
        held = subst (AreHeld t ts (and_each given ss)) (sym all)
            (held_each t ts (and_each given ss) (operations_from ts [] bases) os
            (held_wider t ts given (and_each given ss) (λ name k f s. each_front (known_in t.declared) given ss name k f) (operations_from ts [] bases) m.held)
            (held_wider t ts ss (and_each given ss) (λ name k f s. first_merged given ss read clear' name k f s) os d.held));
        once = subst AreOnce (sym all) (once_each (operations_from ts [] bases) os m.once);
      })
