-- Places and tests in a list of views.
use Rattle.std.proofs.Common.{◌≡◌, ℕ, Bool, true, false, not, cond, List, [], ◌∷◌, map, Some, None, refl, ap, sym, ◌||◌}
use Rattle.std.specs.List.{position, prefix_len, list_any}
use Rattle.std.proofs.lemmas.List.{length-map}
use Rattle.std.proofs.lemmas.Option.{none-some}

-- how many at the front pass
prefix_len_map : {X Y : Type 0} (q : Y → Bool) (p : X → Bool) (f : X → Y) → ((x : X) → q (f x) ≡ p x) → (xs : List X) → prefix_len q (map f xs) ≡ prefix_len p xs
prefix_len_map q p f same [] = refl
prefix_len_map q p f same (x ∷ xs) = rw (same x, prefix_len_map q p f same xs) refl

-- the first that passes is at the same place
pub position_map : {X Y : Type 0} (q : Y → Bool) (p : X → Bool) (f : X → Y) → ((x : X) → q (f x) ≡ p x) → (xs : List X) → position q (map f xs) ≡ position p xs
position_map q p f same xs = rw (length-map xs f, prefix_len_map (λ y. not (q y)) (λ x. not (p x)) f (λ x. ap not (same x)) xs) refl

-- some view passes where something with such a view is
pub any_map : {X Y : Type 0} (p : Y → Bool) (f : X → Y) (xs : List X) → list_any p (map f xs) ≡ list_any (λ x. p (f x)) xs
any_map p f [] = refl
any_map p f (x ∷ xs) = ap (λ b. p (f x) || b) (any_map p f xs)

-- a choice between a place and none is none where its test fails
pub cond_is_none : (b : Bool) (n : ℕ) → cond b (Some n) None ≡ None → b ≡ false
cond_is_none true n e = absurd (none-some n (sym e))
cond_is_none false n e = refl
