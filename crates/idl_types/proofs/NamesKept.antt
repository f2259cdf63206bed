-- Names that differ are kept in their order.
use Rattle.std.proofs.Common.{◌≡◌, ℕ, suc, zero, Bool, true, false, not, List, [], ◌∷◌, ◌++◌, map, take, Some, refl, sym, ap, ◌∙◌}
use Rattle.std.specs.Prelude.{slice_get, Vec, if◌then◌else◌}
use Rattle.std.specs.List.{list_any}
use Rattle.std.specs.Str.{bytes_eq}
use Rattle.std.specs.declared.alloc.Global.{Global}
use Rattle.std.proofs.lemmas.List.{map-append}
use Rattle.std.proofs.lemmas.Bool.{and_parts, or_from, or_left, or_right, not-true, both_ways, false_from_ne_true}
use Rattle.std.proofs.lemmas.Option.{none-some, same_Some}
use Rattle.std.proofs.lemmas.Slice.Eq.{bytes_eq-Decides}
use Rattle.indexmap.specs.IndexSet.{insert_key}
use Rattle.cdr_values.specs.Lawful.{differ}
use Rattle.idl_types.specs.declared.operation.Operation.{Operation}
use Rattle.idl_types.specs.Views.{operation_of}
use Rattle.idl_types.specs.Names.{names_in, operation_names}
use Rattle.orb_base.proofs.Places.{any_map}

-- a name that isn't there goes after the others
pub put_behind : (eq : Vec ℕ Global → Vec ℕ Global → Bool) (ns : List (Vec ℕ Global)) (n : Vec ℕ Global) → list_any (eq n) ns ≡ false
    → names_in (insert_key eq ns n) ≡ names_in ns ++ n.items ∷ []
put_behind eq ns n new = ap (λ (b : Bool). names_in (if b then ns else ns ++ n ∷ [])) new ∙ map-append (λ (v : Vec ℕ Global). v.items) ns (n ∷ [])

pub not_kept : (name : List ℕ) (ns : List (Vec ℕ Global)) → list_any (bytes_eq name) (names_in ns) ≡ false → list_any (λ (v : Vec ℕ Global). bytes_eq name v.items) ns ≡ false
not_kept name ns e = sym (any_map (bytes_eq name) (λ (v : Vec ℕ Global). v.items) ns) ∙ e

pub same_both : (a b : List ℕ) → bytes_eq a b ≡ true → bytes_eq b a ≡ true
same_both a b e = (bytes_eq-Decides b a).1 (sym ((bytes_eq-Decides a b).0 e))

name_there : (n : List ℕ) (os : List Operation) (i : ℕ) (o : Operation) → slice_get os i ≡ Some o → bytes_eq o.name n ≡ true
    → list_any (λ y. bytes_eq y n) (operation_names (map operation_of os)) ≡ true
name_there n [] i o at same = absurd (none-some o at)
name_there n (p ∷ ps) zero o at same =
    or_left (bytes_eq p.name n) (list_any (λ y. bytes_eq y n) (operation_names (map operation_of ps))) (ap (λ (q : Operation). bytes_eq q.name n) (same_Some p o at) ∙ same)
name_there n (p ∷ ps) (suc i) o at same =
    or_right (bytes_eq p.name n) (list_any (λ y. bytes_eq y n) (operation_names (map operation_of ps))) (name_there n ps i o at same)

-- the name of an operation isn't among those before it
pub name_new : (os : List Operation) (i : ℕ) (o : Operation) → slice_get os i ≡ Some o → differ bytes_eq (operation_names (map operation_of os)) ≡ true
    → list_any (bytes_eq o.name) (operation_names (map operation_of (take i os))) ≡ false
name_new [] i o at all = absurd (none-some o at)
name_new (p ∷ ps) zero o at all = refl
name_new (p ∷ ps) (suc i) o at all =
    let ns = operation_names (map operation_of ps) in
    let parts = and_parts (not (list_any (λ y. bytes_eq y p.name) ns)) (differ bytes_eq ns) all in
    or_from (bytes_eq o.name p.name) (list_any (bytes_eq o.name) (operation_names (map operation_of (take i ps))))
    (false_from_ne_true (bytes_eq o.name p.name) (λ same. both_ways (list_any (λ y. bytes_eq y p.name) ns) (not-true (list_any (λ y. bytes_eq y p.name) ns) parts.0) (name_there p.name ps i o at same)))
    (name_new ps i o at parts.1)
