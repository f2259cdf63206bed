-- Where halving finds a key.
use Rattle.std.proofs.Common.{◌≡◌, ℕ, zero, suc, ◌+◌, ◌<◌, ◌≤◌, Bool, true, false, List, [], ◌∷◌, length, slice_index_or, if◌then◌else◌, ap, sym, refl, ◌∙◌, arith}
use Rattle.std.specs.List.Sorted.{IsPartitionedBy, IsPartitionPoint}
use Rattle.std.specs.List.{AllWithin}
use Rattle.turn_cell.specs.Numbers.{Each}
use Rattle.name_map.specs.declared.binding.Binding.{Binding}
use Rattle.name_map.specs.Keys.{is_below, Below}
use Rattle.name_map.specs.Bindings.{Rises}
use Rattle.name_map.specs.Places.{place}
use Rattle.name_map.proofs.Order.{below_trans}

pub if_true : {A : Type 0} (b : Bool) (x y : A) → b ≡ true → (if b then x else y) ≡ x
if_true true x y e = refl
if_true false x y e = absurd (cc)

pub if_false : {A : Type 0} (b : Bool) (x y : A) → b ≡ false → (if b then x else y) ≡ y
if_false true x y e = absurd (cc)
if_false false x y e = refl

-- a fact of all elements, at an index
pub all_at : (P : Binding → Type 0) (bs : List Binding) (i : ℕ) (d : Binding) → Each P bs → i < length bs → P (slice_index_or bs i d)
all_at P [] i d h l = absurd (omega arith)
all_at P (b ∷ bs) zero d h l = h.0
all_at P (b ∷ bs) (suc i) d h l = all_at P bs i d h.1 (omega arith)

-- keys below a key come before those that aren't
pub parted : (key : List ℕ) (bs : List Binding) → Rises bs → IsPartitionedBy (λ b. is_below b.key key) bs
parted key [] r i j d l m e = absurd (omega arith)
parted key (b ∷ bs) r zero zero d l m e = e
parted key (b ∷ bs) r zero (suc j) d l m e = below_trans b.key (slice_index_or bs j d).key key (all_at (λ c. Below b.key c.key) bs j d r.0 (omega arith)) e
parted key (b ∷ bs) r (suc i) zero d l m e = absurd (omega arith)
parted key (b ∷ bs) r (suc i) (suc j) d l m e = parted key bs r.1 i j d (omega arith) (omega arith) e

-- where they part is the place of the key
pub place_is : (key : List ℕ) (bs : List Binding) (i : ℕ) → i ≤ length bs → IsPartitionPoint (λ b. is_below b.key key ≡ true) (λ b. is_below b.key key ≡ false) bs i → i ≡ place key bs
place_is key [] i l p = omega arith
place_is key (b ∷ bs) zero l p = sym (if_false (is_below b.key key) (suc (place key bs)) 0 (p.1 0 b (omega arith) (omega arith)))
place_is key (b ∷ bs) (suc i) l p = ap suc (place_is key bs i (omega arith) (λ k d a z. p.0 (suc k) d (omega arith) (omega arith), λ k d a z. p.1 (suc k) d (omega arith) (omega arith)))
    ∙ sym (if_true (is_below b.key key) (suc (place key bs)) 0 (p.0 0 b (omega arith) (omega arith)))
