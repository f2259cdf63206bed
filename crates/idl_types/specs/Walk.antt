-- Walks along steps from number to number, by marks.
use Rattle.std.specs.Prelude.{◌≡◌, ℕ, ◌≤◌, Bool, true, List, [], ◌∷◌}

module _ (step : ℕ → ℕ → Bool) where
  -- steps lead from the first number over the path to the other
  abbrev pub Trail : ℕ → List ℕ → ℕ → Type 0
  Trail a [] b = a ≡ b
  Trail a (x ∷ xs) b = (step a x ≡ true) × Trail x xs b

  -- there are such steps
  pub record Reached (a b : ℕ) : Type 0 where
    pub path : List ℕ
    pub trail : Trail a path b

  -- what is marked is reached, the start too, and from each marked number that is not below the other all steps were followed
  pub record Walked (start at : ℕ) (marked : ℕ → Bool) : Type 0 where
    pub starts : marked start ≡ true
    pub sound : (k : ℕ) → marked k ≡ true → Reached start k
    pub followed : (a k : ℕ) → at ≤ a → marked a ≡ true → step a k ≡ true → marked k ≡ true
