-- Going over the things of a repository by their places.
use Rattle.std.proofs.Common.{◌≡◌, ◌∙◌, ℕ, ◌+◌, ◌≤◌, List, [], ◌∷◌, ◌++◌, Option, Some, None, take, drop, length, inl, inr, refl, sym, ap, arith}
use Rattle.std.specs.Prelude.{slice_get}
use Rattle.std.proofs.lemmas.List.{drop_more, drop_all, take_more, take_all}
use Rattle.std.proofs.lemmas.Option.{slice_get_cases, slice_get_within, get_or_from_slice_get, none-some}
use Rattle.cdr_values.specs.Trees.{Name, Names}
use Rattle.idl_types.specs.Things.{Thing, id_of}
use Rattle.script_names.specs.declared.meaning.Meaning.TheVariants as means
use Rattle.script_names.specs.Meanings.{Pair, parts_of, modules_of, themselves, beside}
use Rattle.script_names.specs.Inherited.{bases_of}
use Rattle.script_names.specs.Views.{with_pair, with_pairs, with_thing}
use Rattle.script_names.proofs.Pairs.{with_both}
use Rattle.script_names.proofs.Listing.{next_thing}

module _ {X : Type 0} (xs : List X) (i : ℕ) where
  drop_next : (x : X) → slice_get xs i ≡ Some x → drop i xs ≡ x ∷ drop (i + 1) xs
  drop_next x at = drop_more xs i x (slice_get_within xs i x at) ∙ ap (λ (y : X). y ∷ drop (i + 1) xs) (get_or_from_slice_get xs i x x at)

  take_next : (x : X) → slice_get xs i ≡ Some x → take (i + 1) xs ≡ take i xs ++ x ∷ []
  take_next x at = take_more xs i x (slice_get_within xs i x at) ∙ ap (λ (y : X). take i xs ++ y ∷ []) (get_or_from_slice_get xs i x x at)

  past : slice_get xs i ≡ None → length xs ≤ i
  past none = elim (slice_get_cases xs i).1 [
    | inl c ↦ absurd (none-some c.0 (sym none ∙ c.2))
    | inr h ↦ h.0
  ]

-- one thing is put in
pub put_thing : (ts : List Thing) (i : ℕ) (t : Thing) (old new : List Pair) → slice_get ts i ≡ Some t → new ≡ with_pair old (id_of t, means.Thing i)
    → with_pairs new (themselves (i + 1) (drop (i + 1) ts)) ≡ with_pairs old (themselves i (drop i ts))
put_thing ts i t old new at is =
    ap (λ (ps : List Pair). with_pairs ps (themselves (i + 1) (drop (i + 1) ts))) is
    ∙ ap (λ (us : List Thing). with_pairs old (themselves i us)) (sym (drop_next ts i t at))

pub no_thing : (ts : List Thing) (i : ℕ) (old : List Pair) → slice_get ts i ≡ None → with_pairs old (themselves (i + 1) (drop (i + 1) ts)) ≡ with_pairs old (themselves i (drop i ts))
no_thing ts i old none =
    let h = past ts i none in
    ap (λ (us : List Thing). with_pairs old (themselves (i + 1) us)) (drop_all (i + 1) ts (omega arith))
    ∙ ap (λ (us : List Thing). with_pairs old (themselves i us)) (sym (drop_all i ts h))

-- what one thing has beside itself is put in
pub put_parts : (ts : List Thing) (i : ℕ) (t : Thing) (old new : List Pair) → slice_get ts i ≡ Some t → new ≡ with_pairs (with_pairs old (parts_of i t)) (modules_of (id_of t))
    → with_pairs new (beside (i + 1) (drop (i + 1) ts)) ≡ with_pairs old (beside i (drop i ts))
put_parts ts i t old new at is =
    let rest = beside (i + 1) (drop (i + 1) ts) in
    ap (λ (ps : List Pair). with_pairs ps rest) (is ∙ sym (with_both old (parts_of i t) (modules_of (id_of t))))
    ∙ sym (with_both old (parts_of i t ++ modules_of (id_of t)) rest)
    ∙ ap (λ (us : List Thing). with_pairs old (beside i us)) (sym (drop_next ts i t at))

pub no_parts : (ts : List Thing) (i : ℕ) (old : List Pair) → slice_get ts i ≡ None → with_pairs old (beside (i + 1) (drop (i + 1) ts)) ≡ with_pairs old (beside i (drop i ts))
no_parts ts i old none =
    let h = past ts i none in
    ap (λ (us : List Thing). with_pairs old (beside (i + 1) us)) (drop_all (i + 1) ts (omega arith))
    ∙ ap (λ (us : List Thing). with_pairs old (beside i us)) (sym (drop_all i ts h))

-- the bases of one thing are listed
pub list_thing : (ts : List Thing) (i : ℕ) (t : Thing) (old new : Name → Names) → slice_get ts i ≡ Some t → ((id : Name) → new id ≡ with_thing old t id)
    → ((id : Name) → old id ≡ bases_of (take i ts) id) → (id : Name) → new id ≡ bases_of (take (i + 1) ts) id
list_thing ts i t old new at is before id =
    is id ∙ next_thing (take i ts) t old before id ∙ ap (λ (us : List Thing). bases_of us id) (sym (take_next ts i t at))

pub list_none : (ts : List Thing) (i : ℕ) (old : Name → Names) → slice_get ts i ≡ None → ((id : Name) → old id ≡ bases_of (take i ts) id) → (id : Name) → old id ≡ bases_of (take (i + 1) ts) id
list_none ts i old none before id =
    let h = past ts i none in
    before id ∙ ap (λ (us : List Thing). bases_of us id) (take_all i ts h ∙ sym (take_all (i + 1) ts (omega arith)))
