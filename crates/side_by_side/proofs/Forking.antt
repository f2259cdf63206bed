-- One job more.
use Rattle.std.proofs.Common.{◌≡◌, ℕ, ◌+◌, List, [], ◌∷◌, ◌++◌, subst, sym}
use Rattle.side_by_side.specs.Sides.{Pairs}

module _ {A B : Type 0} (P : A → B → Type 0) where
  pub pairs_grow : (xs : List A) (ys : List B) (x : A) (y : B) → Pairs P xs ys → P x y → Pairs P (xs ++ x ∷ []) (ys ++ y ∷ [])
  pairs_grow [] [] x y r s = (s, tt)
  pairs_grow [] (b ∷ bs) x y r s = absurd r
  pairs_grow (a ∷ as') [] x y r s = absurd r
  pairs_grow (a ∷ as') (b ∷ bs) x y r s = (r.0, pairs_grow as' bs x y r.1 s)

  pub pairs_none : (xs : List A) (ys : List B) → xs ≡ [] → ys ≡ [] → Pairs P xs ys
  pairs_none xs ys e f = subst (λ (z : List A × List B). Pairs P z.0 z.1) (λ i. (sym e i, sym f i)) tt

  pub pairs_all : (all xs : List A) (x : A) (ys : List B) → all ≡ xs ++ x ∷ [] → Pairs P (xs ++ x ∷ []) ys → Pairs P all ys
  pairs_all all xs x ys e h = subst (λ (z : List A). Pairs P z ys) (sym e) h

module _ {A B : Type 0} (P Q : A → B → Type 0) where
  -- what each two have so, they have so too
  pub pairs_map : ((x : A) (y : B) → P x y → Q x y) → (xs : List A) (ys : List B) → Pairs P xs ys → Pairs Q xs ys
  pairs_map f [] [] p = tt
  pairs_map f [] (y ∷ ys) p = absurd p
  pairs_map f (x ∷ xs) [] p = absurd p
  pairs_map f (x ∷ xs) (y ∷ ys) p = (f x y p.0, pairs_map f xs ys p.1)
