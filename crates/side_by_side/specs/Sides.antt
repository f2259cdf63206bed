-- Two lists side by side.
use Rattle.std.specs.Prelude.{List, [], ◌∷◌}

module _ {A B : Type 0} (P : A → B → Type 0) where
  -- as many of both, and each two are so
  abbrev pub Pairs : List A → List B → Type 0
  Pairs [] [] = Unit {0}
  Pairs [] (y ∷ ys) = ⊥
  Pairs (x ∷ xs) [] = ⊥
  Pairs (x ∷ xs) (y ∷ ys) = P x y × Pairs xs ys
