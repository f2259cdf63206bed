-- The variables of a scope, and the slots in which they are.
use Rattle.std.proofs.Common.{◌≡◌, ◌⊎◌, inl, inr, ⊎_elim, ◌<◌, ◌≤◌, ℕ, suc, ◌+◌, Bool, true, false, cond, List, [], ◌∷◌, ◌++◌, length, Option, Some, None, refl, sym, ap, ◌∙◌, subst, slice_set, arith}
use Rattle.std.specs.Str.{bytes_eq}
use Rattle.std.proofs.lemmas.Option.{none-some, same_Some}
use Rattle.cdr_values.specs.Trees.{Name, Kind, Value}
use Rattle.idl_types.specs.declared.type_ref.TypeRef.{TypeRef}
use Rattle.idl_types.specs.Things.{Thing}
use Rattle.script_checks.specs.Scene.{Var, find_var}
use Rattle.script_laws.specs.Defined.{got}
use Rattle.script_laws.specs.Kinds.{HasKind, FitsDue, Holds, Stands}

-- what find_var finds
abbrev pub Found : Type 0
Found = ℕ × Kind × Option TypeRef

found_var : (b : Bool) (x r : Found) (o : Option Found) → cond b (Some x) o ≡ Some r → (x ≡ r) ⊎ (o ≡ Some r)
found_var true x r o e = inl (same_Some x r e)
found_var false x r o e = inr e

held : (ts : List Thing) (x : Var) (o : Option Value) → Holds ts x o → (v : Value) × (o ≡ Some v) × HasKind x.kind v × FitsDue ts x.kind x.due v
held ts x None h = absurd h
held ts x (Some v) h = (v, refl, h.0, h.1)

-- the slot of a variable holds a value of its kind
pub variable_held : (ts : List Thing) (n : ℕ) (xs : List Var) (name : Name) (r : Found) (os : List (Option Value)) → find_var n xs name ≡ Some r → Stands ts xs os
    → (i : ℕ) × (r.0 ≡ n + i) × (v : Value) × (got os i ≡ Some v) × HasKind r.1 v × FitsDue ts r.1 r.2 v
variable_held ts n [] name r os e h = absurd (none-some r e)
variable_held ts n (x ∷ xs) name r [] e h = absurd h
variable_held ts n (x ∷ xs) name r (o ∷ os) e h = ⊎_elim
    (λ is. let v = held ts x o h.0 in (
      0,
      ap (λ (y : Found). y.0) (sym is) ∙ (omega arith),
      v.0,
      ap (λ (p : Option Value). got (p ∷ os) 0) v.1,
      subst (λ (y : Found). HasKind y.1 v.0) is v.2,
      subst (λ (y : Found). FitsDue ts y.1 y.2 v.0) is v.3,
    ))
    (λ later. let g = variable_held ts (n + 1) xs name r os later h.1 in (suc g.0, (let p = g.1 in omega (arith, p)), g.2, g.3, g.4, g.5))
    (found_var (bytes_eq x.name name) (n, x.kind, x.due) r (find_var (n + 1) xs name) e)

pub stands_long : (ts : List Thing) (xs : List Var) (os : List (Option Value)) → Stands ts xs os → length xs ≤ length os
stands_long ts [] os h = omega arith
stands_long ts (x ∷ xs) [] h = absurd h
stands_long ts (x ∷ xs) (o ∷ os) h = let l = stands_long ts xs os h.1 in omega (arith, l)

-- a new variable is put after the living ones
pub stands_new : (ts : List Thing) (xs : List Var) (x : Var) (os : List (Option Value)) (v : Value) → Stands ts xs os → length xs < length os → HasKind x.kind v → FitsDue ts x.kind x.due v
    → Stands ts (xs ++ x ∷ []) (slice_set os (length xs) (Some v))
stands_new ts [] x [] v h l k d = absurd (omega (arith, l))
stands_new ts [] x (o ∷ os) v h l k d = ((k, d), tt)
stands_new ts (y ∷ ys) x [] v h l k d = absurd h
stands_new ts (y ∷ ys) x (o ∷ os) v h l k d = (h.0, stands_new ts ys x os v h.1 (omega (arith, l)) k d)

-- the living ones still are
pub stands_front : (ts : List Thing) (xs ys : List Var) (os : List (Option Value)) → Stands ts (xs ++ ys) os → Stands ts xs os
stands_front ts [] ys os h = tt
stands_front ts (x ∷ xs) ys [] h = absurd h
stands_front ts (x ∷ xs) ys (o ∷ os) h = (h.0, stands_front ts xs ys os h.1)

-- a variable is set to a value of its kind
pub stands_set : (ts : List Thing) (n : ℕ) (xs : List Var) (name : Name) (r : Found) (os : List (Option Value)) → find_var n xs name ≡ Some r → Stands ts xs os
    → (i : ℕ) × (r.0 ≡ n + i) × (i < length os) × ((v : Value) → HasKind r.1 v → FitsDue ts r.1 r.2 v → Stands ts xs (slice_set os i (Some v)))
stands_set ts n [] name r os e h = absurd (none-some r e)
stands_set ts n (x ∷ xs) name r [] e h = absurd h
stands_set ts n (x ∷ xs) name r (o ∷ os) e h = ⊎_elim
    (λ is. (
      0,
      ap (λ (y : Found). y.0) (sym is) ∙ (omega arith),
      omega arith,
      λ v k d.
          ((subst (λ (y : Found). HasKind y.1 v) (sym is) k, subst (λ (y : Found). FitsDue ts y.1 y.2 v) (sym is) d), h.1),
    ))
    (λ later. let g = stands_set ts (n + 1) xs name r os later h.1 in
    (suc g.0, (let p = g.1 in omega (arith, p)), (let l = g.2 in omega (arith, l)), λ v k d. (h.0, g.3 v k d)))
    (found_var (bytes_eq x.name name) (n, x.kind, x.due) r (find_var (n + 1) xs name) e)
