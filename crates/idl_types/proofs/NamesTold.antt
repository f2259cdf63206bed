-- Names of operations, told apart one by one.
use Rattle.std.proofs.Common.{◌≡◌, ℕ, suc, zero, true, false, List, [], ◌∷◌, ◌++◌, map, take, Some, sym, ap, ◌∙◌}
use Rattle.std.specs.Prelude.{slice_get}
use Rattle.std.specs.List.{list_any}
use Rattle.std.specs.Str.{bytes_eq}
use Rattle.std.proofs.lemmas.Bool.{both_ways, false_from_ne_true}
use Rattle.std.proofs.lemmas.Option.{none-some, same_Some}
use Rattle.cdr_values.specs.Lawful.{differ}
use Rattle.idl_types.specs.declared.operation.Operation.{Operation}
use Rattle.idl_types.specs.Views.{operation_of}
use Rattle.idl_types.specs.Names.{operation_names}
use Rattle.idl_types.proofs.NamesKept.{name_new, same_both}
use Rattle.idl_types.proofs.Holding.{differ_on}

-- a name that was there before shows that they don't differ
pub told_same : (os : List Operation) (i : ℕ) (o : Operation) → slice_get os i ≡ Some o → list_any (bytes_eq o.name) (operation_names (map operation_of (take i os))) ≡ true
    → false ≡ differ bytes_eq (operation_names (map operation_of os))
told_same os i o at there = sym (false_from_ne_true (differ bytes_eq (operation_names (map operation_of os)))
    (λ all. both_ways (list_any (bytes_eq o.name) (operation_names (map operation_of (take i os)))) (name_new os i o at all) there))

-- the names of one more
pub names_take : (os : List Operation) (i j : ℕ) (o : Operation) → slice_get os i ≡ Some o → j ≡ suc i
    → operation_names (map operation_of (take j os)) ≡ operation_names (map operation_of (take i os)) ++ o.name ∷ []
names_take os i j o at is = ap (λ (n : ℕ). operation_names (map operation_of (take n os))) is ∙ on os i at
  where
    on : (os : List Operation) (i : ℕ) → slice_get os i ≡ Some o → operation_names (map operation_of (take (suc i) os)) ≡ operation_names (map operation_of (take i os)) ++ o.name ∷ []
    on [] i at = absurd (none-some o at)
    on (p ∷ ps) zero at = ap (λ (q : Operation). q.name ∷ []) (same_Some p o at)
    on (p ∷ ps) (suc i) at = ap (λ (ns : List (List ℕ)). p.name ∷ ns) (on ps i at)

-- and one that wasn't goes on showing that they do
pub told_apart : (os : List Operation) (i j : ℕ) (o : Operation) → slice_get os i ≡ Some o → j ≡ suc i → differ bytes_eq (operation_names (map operation_of (take i os))) ≡ true
    → list_any (bytes_eq o.name) (operation_names (map operation_of (take i os))) ≡ false → differ bytes_eq (operation_names (map operation_of (take j os))) ≡ true
told_apart os i j o at is all new =
    ap (differ bytes_eq) (names_take os i j o at is) ∙ differ_on bytes_eq (operation_names (map operation_of (take i os))) o.name same_both all new
