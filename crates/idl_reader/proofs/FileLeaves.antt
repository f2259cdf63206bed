-- The leaves of what is declared, and what becomes of them where one thing more is declared or set.
use Rattle.std.proofs.Common.{◌≡◌, inl, inr, ℕ, zero, suc, ◌+◌, ◌≤◌, arith, List, [], ◌∷◌, ◌++◌, set, Option, Some, None, refl, sym, ap, subst, ◌∙◌, sum_by}
use Rattle.std.specs.Prelude.{slice_get}
use Rattle.std.proofs.lemmas.Bool.{cases_eq}
use Rattle.std.proofs.lemmas.Option.{none-some, same_Some}
use Rattle.cdr_values.specs.Trees.{members_of}
use Rattle.idl_types.specs.Things.{OperationView}
use Rattle.idl_types.specs.Counting as counting
use Rattle.idl_types.specs.Counting.{leaves_of, leaves_of_members}
use Rattle.idl_names.specs.State.{Thing, nothing, interface, type, exception, constant, enumerator, operations}
use Rattle.idl_names.specs.Changes.{thing_in}
use Rattle.idl_names.specs.Interfaces.{and_operation}
use Rattle.idl_reader.proofs.ThingLists.{get_before, set_elsewhere, set_there}
use Rattle.idl_reader.proofs.Shapes.{gained}

-- the leaves of the operations that a thing stands for
abbrev pub own_leaves : Thing → ℕ
own_leaves (operations os n) = sum_by counting.operation_leaves os
own_leaves thing = 0

-- those of the things at these places
abbrev pub held_leaves : List Thing → List ℕ → ℕ
held_leaves ts [] = 0
held_leaves ts (i ∷ is) = own_leaves (thing_in (slice_get ts i)) + held_leaves ts is

-- the leaves of what a thing declares
abbrev pub declared_leaves : List Thing → Thing → ℕ
declared_leaves ts (type k) = leaves_of k.kind
declared_leaves ts (exception ms) = leaves_of_members (members_of ms)
declared_leaves ts (constant k v) = 1
declared_leaves ts (interface bases os) = held_leaves ts os
declared_leaves ts thing = 0

-- and of all these
abbrev pub all_leaves : List Thing → List Thing → ℕ
all_leaves ts [] = 0
all_leaves ts (x ∷ xs) = declared_leaves ts x + all_leaves ts xs

-- an operation or an attribute is there
pub record IsHeld (ts : List Thing) (i : ℕ) : Type 0 where
  pub os : List OperationView
  pub n : ℕ
  pub there : slice_get ts i ≡ Some (operations os n)

-- at all of these places
abbrev pub AreHeld : List Thing → List ℕ → Type 0
AreHeld ts [] = Unit {0}
AreHeld ts (i ∷ is) = IsHeld ts i × AreHeld ts is

-- so of the operations that an interface has
abbrev pub HasHeld : List Thing → Thing → Type 0
HasHeld ts (interface bases os) = AreHeld ts os
HasHeld ts thing = Unit {0}

-- and of each interface
abbrev pub AllHeld : List Thing → List Thing → Type 0
AllHeld ts [] = Unit {0}
AllHeld ts (x ∷ xs) = HasHeld ts x × AllHeld ts xs

-- where operations are, the same things are in both
abbrev pub HeldSame : List Thing → List Thing → Type 0
HeldSame ts us = (i : ℕ) → IsHeld ts i → slice_get us i ≡ slice_get ts i

held_same : (ts us : List Thing) → HeldSame ts us → (is : List ℕ) → AreHeld ts is → held_leaves us is ≡ held_leaves ts is
held_same ts us f [] h = refl
held_same ts us f (i ∷ is) h = let a = ap (λ (o : Option Thing). own_leaves (thing_in o)) (f i h.0) in let b = held_same ts us f is h.1 in omega arith

pub are_held_same : (ts us : List Thing) → HeldSame ts us → (is : List ℕ) → AreHeld ts is → AreHeld us is
are_held_same ts us f [] h = tt
are_held_same ts us f (i ∷ is) h = (record { os = h.0.os; n = h.0.n; there = f i h.0 ∙ h.0.there }, are_held_same ts us f is h.1)

pub held_leaves_same : (ts us : List Thing) → HeldSame ts us → (is : List ℕ) → AreHeld ts is → held_leaves us is ≡ held_leaves ts is
held_leaves_same ts us f is h = held_same ts us f is h

declared_same : (ts us : List Thing) → HeldSame ts us → (x : Thing) → HasHeld ts x → declared_leaves us x ≡ declared_leaves ts x
declared_same ts us f nothing h = refl
declared_same ts us f (interface bases os) h = held_same ts us f os h
declared_same ts us f (type k) h = refl
declared_same ts us f (exception ms) h = refl
declared_same ts us f (constant k v) h = refl
declared_same ts us f (enumerator id n) h = refl
declared_same ts us f (operations os n) h = refl

pub has_held_same : (ts us : List Thing) → HeldSame ts us → (x : Thing) → HasHeld ts x → HasHeld us x
has_held_same ts us f nothing h = tt
has_held_same ts us f (interface bases os) h = are_held_same ts us f os h
has_held_same ts us f (type k) h = tt
has_held_same ts us f (exception ms) h = tt
has_held_same ts us f (constant k v) h = tt
has_held_same ts us f (enumerator id n) h = tt
has_held_same ts us f (operations os n) h = tt

pub all_same : (ts us : List Thing) → HeldSame ts us → (xs : List Thing) → AllHeld ts xs → all_leaves us xs ≡ all_leaves ts xs
all_same ts us f [] h = refl
all_same ts us f (x ∷ xs) h = let a = declared_same ts us f x h.0 in let b = all_same ts us f xs h.1 in omega arith

pub all_held_same : (ts us : List Thing) → HeldSame ts us → (xs : List Thing) → AllHeld ts xs → AllHeld us xs
all_held_same ts us f [] h = tt
all_held_same ts us f (x ∷ xs) h = (has_held_same ts us f x h.0, all_held_same ts us f xs h.1)

-- one thing more in the list
pub all_more : (us xs : List Thing) (x : Thing) → all_leaves us (xs ++ x ∷ []) ≡ all_leaves us xs + declared_leaves us x
all_more us [] x = omega arith
all_more us (y ∷ xs) x = let h = all_more us xs x in omega arith

pub all_held_more : (us xs : List Thing) (x : Thing) → AllHeld us xs → HasHeld us x → AllHeld us (xs ++ x ∷ [])
all_held_more us [] x h k = (k, tt)
all_held_more us (y ∷ xs) x h k = (h.0, all_held_more us xs x h.1 k)

-- one of them set
pub all_set : (us xs : List Thing) (n : ℕ) (y : Thing) → all_leaves us (set xs n y) + declared_leaves us (thing_in (slice_get xs n)) ≤ all_leaves us xs + declared_leaves us y
all_set us [] n y = omega arith
all_set us (x ∷ xs) zero y = omega arith
all_set us (x ∷ xs) (suc n) y = let h = all_set us xs n y in omega arith

pub all_held_set : (us xs : List Thing) (n : ℕ) (y : Thing) → AllHeld us xs → HasHeld us y → AllHeld us (set xs n y)
all_held_set us [] n y h k = tt
all_held_set us (x ∷ xs) zero y h k = (k, h.1)
all_held_set us (x ∷ xs) (suc n) y h k = (h.0, all_held_set us xs n y h.1 k)

-- a thing of the list
pub held_at : (us xs : List Thing) (i : ℕ) (x : Thing) → AllHeld us xs → slice_get xs i ≡ Some x → HasHeld us x
held_at us [] i x h e = absurd (none-some x e)
held_at us (y ∷ xs) zero x h e = subst (HasHeld us) (same_Some y x e) h.0
held_at us (y ∷ xs) (suc i) x h e = held_at us xs i x h.1 e

-- adding keeps what is, and so does setting where no operation is
pub added_same : (ts : List Thing) (x : Thing) → HeldSame ts (ts ++ x ∷ [])
added_same ts x i h = get_before ts x _ i h.there ∙ sym h.there

-- a thing that is no operation
abbrev pub NoOperation : Thing → Type 0
NoOperation x = (os : List OperationView) (n : ℕ) → x ≡ operations os n → ⊥

pub set_same : (ts : List Thing) (n : ℕ) (x y : Thing) → slice_get ts n ≡ Some x → NoOperation x → HeldSame ts (set ts n y)
set_same ts n x y e free i h = set_elsewhere ts n i y (λ same. free h.os h.n (same_Some x _ (sym e ∙ ap (λ (k : ℕ). slice_get ts k) same ∙ h.there)))

pub nothing_free : NoOperation nothing
nothing_free os n e = absurd cc

-- a thing more, which declares nothing
pub leaves_added : (ts : List Thing) (x : Thing) → declared_leaves (ts ++ x ∷ []) x ≡ 0 → AllHeld ts ts → all_leaves (ts ++ x ∷ []) (ts ++ x ∷ []) ≡ all_leaves ts ts
leaves_added ts x e h = let a = all_more (ts ++ x ∷ []) ts x in let b = all_same ts (ts ++ x ∷ []) (added_same ts x) ts h in omega arith

pub held_added : (ts : List Thing) (x : Thing) → HasHeld (ts ++ x ∷ []) x → AllHeld ts ts → AllHeld (ts ++ x ∷ []) (ts ++ x ∷ [])
held_added ts x k h = all_held_more (ts ++ x ∷ []) ts x (all_held_same ts (ts ++ x ∷ []) (added_same ts x) ts h) k

-- a thing that is set where nothing was
pub leaves_set : (ts : List Thing) (n : ℕ) (y : Thing) → slice_get ts n ≡ Some nothing → AllHeld ts ts → all_leaves (set ts n y) (set ts n y) ≤ all_leaves ts ts + declared_leaves (set ts n y) y
leaves_set ts n y e h = let a = all_set (set ts n y) ts n y in let b = all_same ts (set ts n y) (set_same ts n nothing y e nothing_free) ts h in omega arith

pub held_set : (ts : List Thing) (n : ℕ) (y : Thing) → slice_get ts n ≡ Some nothing → HasHeld (set ts n y) y → AllHeld ts ts → AllHeld (set ts n y) (set ts n y)
held_set ts n y e k h = all_held_set (set ts n y) ts n y (all_held_same ts (set ts n y) (set_same ts n nothing y e nothing_free) ts h) k

-- an interface that gets one operation more
gained_same_at : (ts : List Thing) (n at : ℕ) (o : Option Thing) → slice_get ts n ≡ o → HeldSame ts (set ts n (and_operation at (thing_in o)))
gained_same_at ts n at None e i h = set_elsewhere ts n i nothing (λ p. none-some _ (sym e ∙ ap (λ (k : ℕ). slice_get ts k) p ∙ h.there))
gained_same_at ts n at (Some (interface bs ks)) e i h = set_same ts n (interface bs ks) _ e (λ os m q. absurd cc) i h
gained_same_at ts n at (Some nothing) e i h = set_same ts n nothing _ e (λ os m q. absurd cc) i h
gained_same_at ts n at (Some (type k)) e i h = set_same ts n (type k) _ e (λ os m q. absurd cc) i h
gained_same_at ts n at (Some (exception ms)) e i h = set_same ts n (exception ms) _ e (λ os m q. absurd cc) i h
gained_same_at ts n at (Some (constant k v)) e i h = set_same ts n (constant k v) _ e (λ os m q. absurd cc) i h
gained_same_at ts n at (Some (enumerator id k)) e i h = set_same ts n (enumerator id k) _ e (λ os m q. absurd cc) i h
gained_same_at ts n at (Some (operations os k)) e i h = elim (cases_eq n i) [
  | inl p ↦ subst (λ (j : ℕ). slice_get (set ts n (operations os k)) j ≡ slice_get ts j) p (set_there ts n (operations os k) _ e ∙ sym e)
  | inr p ↦ set_elsewhere ts n i _ p
]

pub gained_same : (ts : List Thing) (n at : ℕ) → HeldSame ts (gained n at ts)
gained_same ts n at = gained_same_at ts n at (slice_get ts n) refl

pub held_more : (us : List Thing) (is : List ℕ) (i : ℕ) → held_leaves us (is ++ i ∷ []) ≡ held_leaves us is + own_leaves (thing_in (slice_get us i))
held_more us [] i = omega arith
held_more us (j ∷ is) i = let h = held_more us is i in omega arith

pub are_held_more : (us : List Thing) (is : List ℕ) (i : ℕ) → AreHeld us is → IsHeld us i → AreHeld us (is ++ i ∷ [])
are_held_more us [] i h k = (k, tt)
are_held_more us (j ∷ is) i h k = (h.0, are_held_more us is i h.1 k)

gained_leaves_at : (us : List Thing) (at : ℕ) (x : Thing) → declared_leaves us (and_operation at x) ≤ declared_leaves us x + own_leaves (thing_in (slice_get us at))
gained_leaves_at us at (interface bs ks) = let h = held_more us ks at in omega arith
gained_leaves_at us at nothing = omega arith
gained_leaves_at us at (type k) = omega arith
gained_leaves_at us at (exception ms) = omega arith
gained_leaves_at us at (constant k v) = omega arith
gained_leaves_at us at (enumerator id k) = omega arith
gained_leaves_at us at (operations os k) = omega arith

gained_held_at : (us : List Thing) (at : ℕ) (x : Thing) → HasHeld us x → IsHeld us at → HasHeld us (and_operation at x)
gained_held_at us at (interface bs ks) h k = are_held_more us ks at h k
gained_held_at us at nothing h k = tt
gained_held_at us at (type t) h k = tt
gained_held_at us at (exception ms) h k = tt
gained_held_at us at (constant t v) h k = tt
gained_held_at us at (enumerator id n) h k = tt
gained_held_at us at (operations os n) h k = tt

-- the leaves of a list in which an interface gets the operation at this place, read in any list in which the same operations are
pub leaves_gained : (us xs : List Thing) (n at : ℕ) → all_leaves us (gained n at xs) ≤ all_leaves us xs + own_leaves (thing_in (slice_get us at))
leaves_gained us xs n at =
    let a = all_set us xs n (and_operation at (thing_in (slice_get xs n))) in
    let b = gained_leaves_at us at (thing_in (slice_get xs n)) in
    omega arith

pub held_in : (us xs : List Thing) (n : ℕ) (o : Option Thing) → slice_get xs n ≡ o → AllHeld us xs → HasHeld us (thing_in o)
held_in us xs n None e h = tt
held_in us xs n (Some x) e h = held_at us xs n x h e

pub held_gained : (us xs : List Thing) (n at : ℕ) → AllHeld us xs → IsHeld us at → AllHeld us (gained n at xs)
held_gained us xs n at h k =
    all_held_set us xs n (and_operation at (thing_in (slice_get xs n))) h (gained_held_at us at (thing_in (slice_get xs n)) (held_in us xs n (slice_get xs n) refl h) k)
