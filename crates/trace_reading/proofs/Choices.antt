-- What a reading of several parts gives, and a choice by a word.
use Rattle.std.proofs.Common.{◌≡◌, ◌⊎◌, ℕ, Bool, true, false, List, [], ◌∷◌, Option, Some, None, refl, sym, subst, inl, inr}
use Rattle.std.specs.Prelude.{if◌then◌else◌, option_map}
use Rattle.std.specs.Option.{option_and_then}
use Rattle.std.specs.Str.{bytes_eq}
use Rattle.std.proofs.lemmas.Option.{none-some, same_Some}
use Rattle.std.proofs.lemmas.Slice.Eq.{bytes_eq-Decides}
use Rattle.trace_reading.specs.Choices.{option_ap, choice}

pub ap1 : {A R : Type 0} (f : A → R) (o : Option A) (y : R) → option_map f o ≡ Some y → (a : A) × (o ≡ Some a) × (f a ≡ y)
ap1 f (Some a) y e = (a, refl, same_Some (f a) y e)
ap1 f None y e = absurd (none-some y e)

pub ap2 : {A B R : Type 0} (f : A → B → R) (o : Option A) (p : Option B) (y : R) → option_ap (option_map f o) p ≡ Some y
    → (a : A) × (b : B) × (o ≡ Some a) × (p ≡ Some b) × (f a b ≡ y)
ap2 f (Some a) (Some b) y e = (a, b, refl, refl, same_Some (f a b) y e)
ap2 f (Some a) None y e = absurd (none-some y e)
ap2 f None p y e = absurd (none-some y e)

pub ap3 : {A B C R : Type 0} (f : A → B → C → R) (o : Option A) (p : Option B) (q : Option C) (y : R) → option_ap (option_ap (option_map f o) p) q ≡ Some y
    → (a : A) × (b : B) × (c : C) × (o ≡ Some a) × (p ≡ Some b) × (q ≡ Some c) × (f a b c ≡ y)
ap3 f (Some a) (Some b) (Some c) y e = (a, b, c, refl, refl, refl, same_Some (f a b c) y e)
ap3 f (Some a) (Some b) None y e = absurd (none-some y e)
ap3 f (Some a) None q y e = absurd (none-some y e)
ap3 f None p q y e = absurd (none-some y e)

pub ap4 : {A B C D R : Type 0} (f : A → B → C → D → R) (o : Option A) (p : Option B) (q : Option C) (r : Option D) (y : R)
    → option_ap (option_ap (option_ap (option_map f o) p) q) r ≡ Some y
    → (a : A) × (b : B) × (c : C) × (d : D) × (o ≡ Some a) × (p ≡ Some b) × (q ≡ Some c) × (r ≡ Some d) × (f a b c d ≡ y)
ap4 f (Some a) (Some b) (Some c) (Some d) y e = (a, b, c, d, refl, refl, refl, refl, same_Some (f a b c d) y e)
ap4 f (Some a) (Some b) (Some c) None y e = absurd (none-some y e)
ap4 f (Some a) (Some b) None r y e = absurd (none-some y e)
ap4 f (Some a) None q r y e = absurd (none-some y e)
ap4 f None p q r y e = absurd (none-some y e)

pub then_parts : {A R : Type 0} (f : A → Option R) (o : Option A) (y : R) → option_and_then f o ≡ Some y → (a : A) × (o ≡ Some a) × (f a ≡ Some y)
then_parts f (Some a) y e = (a, refl, e)
then_parts f None y e = absurd (none-some y e)

-- a fact of each row of a table
abbrev pub Each : {A : Type 0} → (List ℕ → A → Type 0) → List (List ℕ × A) → Type 0
Each P [] = Unit {0}
Each P (row ∷ rows) = P row.0 row.1 × Each P rows

pub chosen : {A : Type 0} (b : Bool) (x : A) (o : Option A) (y : A) → (if b then Some x else o) ≡ Some y → ((b ≡ true) × (x ≡ y)) ⊎ (o ≡ Some y)
chosen true x o y e = inl (refl, same_Some x y e)
chosen false x o y e = inr e

-- it holds of the word and of what is chosen by it
pub choice_was : {A : Type 0} (P : List ℕ → A → Type 0) (rows : List (List ℕ × A)) → Each P rows → (w : List ℕ) (y : A) → choice rows w ≡ Some y → P w y
choice_was P [] each w y e = absurd (none-some y e)
choice_was {A} P (row ∷ rows) each w y e = elim (chosen (bytes_eq w row.0) row.1 (choice rows w) y e) [
  | inl h ↦ subst (λ (x : A). P w x) h.1 (subst (λ (v : List ℕ). P v row.1) (sym ((bytes_eq-Decides w row.0).0 h.0)) each.0)
  | inr h ↦ choice_was P rows each.1 w y h
]

pub apf : {A R : Type 0} (o : Option (A → R)) (p : Option A) (y : R) → option_ap o p ≡ Some y → (f : A → R) × (a : A) × (o ≡ Some f) × (p ≡ Some a) × (f a ≡ y)
apf (Some f) (Some a) y e = (f, a, refl, refl, same_Some (f a) y e)
apf (Some f) None y e = absurd (none-some y e)
apf None p y e = absurd (none-some y e)
