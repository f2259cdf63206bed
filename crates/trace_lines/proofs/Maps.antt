-- Look-ups and edits of lists of views.
use Rattle.std.proofs.Common.{◌≡◌, ℕ, suc, zero, Bool, List, [], ◌∷◌, refl, ap, ◌∙◌}
use Rattle.std.specs.Prelude.{◌==◌, ◌&&◌, max, if◌then◌else◌, map, count_by, remove, slice_set}
use Rattle.std.proofs.lemmas.List.Folds.{fold-map}
use Rattle.orb_base.proofs.Places.{position_map}
use Rattle.thread_borrowing.specs.Choice.{greatest, first_greatest}

pub remove_map : {X Y : Type 0} (f : X → Y) (xs : List X) (i : ℕ) → remove (map f xs) i ≡ map f (remove xs i)
remove_map f [] zero = refl
remove_map f [] (suc i) = refl
remove_map f (x ∷ xs) zero = refl
remove_map f (x ∷ xs) (suc i) = ap (λ ys. f x ∷ ys) (remove_map f xs i)

pub set_map : {X Y : Type 0} (f : X → Y) (xs : List X) (i : ℕ) (y : X) → slice_set (map f xs) i (f y) ≡ map f (slice_set xs i y)
set_map f [] zero y = refl
set_map f [] (suc i) y = refl
set_map f (x ∷ xs) zero y = refl
set_map f (x ∷ xs) (suc i) y = ap (λ ys. f x ∷ ys) (set_map f xs i y)

greatest_map : {X Y : Type 0} (p : Y → Bool) (w : Y → ℕ) (f : X → Y) (xs : List X) → greatest p w (map f xs) ≡ greatest (λ x. p (f x)) (λ x. w (f x)) xs
greatest_map p w f [] = refl
greatest_map p w f (x ∷ xs) = ap (λ (n : ℕ). if p (f x) then max (w (f x)) n else n) (greatest_map p w f xs)

first_map : {X Y : Type 0} (p : Y → Bool) (w : Y → ℕ) (f : X → Y) (xs : List X) → first_greatest p w (map f xs) ≡ first_greatest (λ x. p (f x)) (λ x. w (f x)) xs
first_map p w f xs =
    position_map (λ y. p y && (w y == greatest p w (map f xs))) (λ x. p (f x) && (w (f x) == greatest (λ z. p (f z)) (λ z. w (f z)) xs)) f
    (λ x. ap (λ (n : ℕ). p (f x) && (w (f x) == n)) (greatest_map p w f xs)) xs

-- the first of greatest weight is at the same place, where a view passes as what it is of
pub first_same : {X Y : Type 0} (p : Y → Bool) (w : Y → ℕ) (q : X → Bool) (f : X → Y) → ((x : X) → p (f x) ≡ q x) → (xs : List X) → first_greatest p w (map f xs) ≡ first_greatest q (λ x. w (f x)) xs
first_same {X} p w q f same xs = first_map p w f xs ∙ ap (λ (r : X → Bool). first_greatest r (λ x. w (f x)) xs) (λ i x. same x i)

pub count_same : {X Y : Type 0} (p : Y → Bool) (q : X → Bool) (f : X → Y) → ((x : X) → p (f x) ≡ q x) → (xs : List X) → count_by p (map f xs) ≡ count_by q xs
count_same {X} p q f same xs = fold-map _ f 0 xs ∙ ap (λ (r : X → Bool). count_by r xs) (λ i x. same x i)
