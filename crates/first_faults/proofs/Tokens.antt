-- Marks and their tokens.
use Rattle.std.proofs.Common.{◌≡◌, ◌⊎◌, List, [], ◌∷◌, ◌++◌, refl, sym, ap, ◌∙◌, inl, inr}
use Rattle.grammar.specs.Language.{Placed}
use Rattle.grammar.specs.Grammar.{Mark, took, did, tokens_of}
use Rattle.first_faults.proofs.Meets.{not_nil}

cons_both : {X : Type 0} (a b : X) (x y : List X) → a ≡ b → x ≡ y → a ∷ x ≡ b ∷ y
cons_both a b x y e f = ap (λ z. z ∷ x) e ∙ ap (λ z. b ∷ z) f

-- a token of marks was taken at one of them
pub at_token : {K L : Type 0} (ms : List (Mark K L)) (before : List (Placed K)) (u : Placed K) (us : List (Placed K)) → tokens_of ms ≡ before ++ u ∷ us
    → (y : List (Mark K L)) × (k : L) × (z : List (Mark K L)) × (ms ≡ y ++ took k u ∷ z) × (tokens_of y ≡ before)
at_token [] before u us e = absurd (not_nil before u us e)
at_token (did l ∷ ms) before u us e = let h = at_token ms before u us e in (did l ∷ h.0, h.1, h.2, cons_both (did l) (did l) ms (h.0 ++ took h.1 u ∷ h.2) refl h.3, h.4)
at_token (took l t ∷ ms) [] u us e = let f : t ≡ u = cc in ([], l, ms, ap (λ z. took l z ∷ ms) f, refl)
at_token (took l t ∷ ms) (v ∷ before) u us e =
    let f : t ≡ v = cc in
    let tail : tokens_of ms ≡ before ++ u ∷ us = cc in
    let h = at_token ms before u us tail in
    (took l t ∷ h.0, h.1, h.2, cons_both (took l t) (took l t) ms (h.0 ++ took h.1 u ∷ h.2) refl h.3, cons_both t v (tokens_of h.0) before f h.4)

-- where two lists go on with a token after the same ones, they are one up to there
pub same_up_to : {K L : Type 0} (x y : List (Mark K L)) (k l : L) (u v : Placed K) (a b : List (Mark K L)) → tokens_of x ≡ tokens_of y → x ++ took k u ∷ a ≡ y ++ took l v ∷ b → (x ≡ y) × (k ≡ l)
same_up_to [] [] k l u v a b t e = (refl, cc)
same_up_to [] (took j w ∷ y) k l u v a b t e = absurd cc
same_up_to [] (did j ∷ y) k l u v a b t e = absurd cc
same_up_to (took j w ∷ x) [] k l u v a b t e = absurd cc
same_up_to (did j ∷ x) [] k l u v a b t e = absurd cc
same_up_to (took j w ∷ x) (did i ∷ y) k l u v a b t e = absurd cc
same_up_to (did j ∷ x) (took i w ∷ y) k l u v a b t e = absurd cc
same_up_to (took j w ∷ x) (took i q ∷ y) k l u v a b t e =
    let rest : x ++ took k u ∷ a ≡ y ++ took l v ∷ b = cc in
    let head : took j w ≡ took i q = cc in
    let tail : tokens_of x ≡ tokens_of y = cc in
    let h = same_up_to x y k l u v a b tail rest in
    (cons_both (took j w) (took i q) x y head h.0, h.1)
same_up_to (did j ∷ x) (did i ∷ y) k l u v a b t e =
    let rest : x ++ took k u ∷ a ≡ y ++ took l v ∷ b = cc in
    let head : did j ≡ did i = cc in
    let h = same_up_to x y k l u v a b t rest in
    (cons_both (did j) (did i) x y head h.0, h.1)

-- what one list does without a token, the other has done before its next token
pub done_before : {K L : Type 0} (y x : List (Mark K L)) (k l : L) (u : Placed K) (a b : List (Mark K L)) → tokens_of y ≡ tokens_of x → y ++ took k u ∷ a ≡ x ++ did l ∷ b → (z : List (Mark K L)) × (y ≡ x ++ did l ∷ z)
done_before [] [] k l u a b t e = absurd cc
done_before (d ∷ y) [] k l u a b t e = let head : d ≡ did l = cc in (y, ap (λ z. z ∷ y) head)
done_before [] (took j w ∷ x) k l u a b t e = absurd cc
done_before [] (did j ∷ x) k l u a b t e = absurd cc
done_before (took j w ∷ y) (did i ∷ x) k l u a b t e = absurd cc
done_before (did j ∷ y) (took i w ∷ x) k l u a b t e = absurd cc
done_before (took j w ∷ y) (took i q ∷ x) k l u a b t e =
    let rest : y ++ took k u ∷ a ≡ x ++ did l ∷ b = cc in
    let head : took j w ≡ took i q = cc in
    let tail : tokens_of y ≡ tokens_of x = cc in
    let h = done_before y x k l u a b tail rest in
    (h.0, cons_both (took j w) (took i q) y (x ++ did l ∷ h.0) head h.1)
done_before (did j ∷ y) (did i ∷ x) k l u a b t e =
    let rest : y ++ took k u ∷ a ≡ x ++ did l ∷ b = cc in
    let head : did j ≡ did i = cc in
    let h = done_before y x k l u a b t rest in
    (h.0, cons_both (did j) (did i) y (x ++ did l ∷ h.0) head h.1)

-- of two ways to part a list one is shorter, or they are the same
pub compared : {X : Type 0} (a b c d : List X) → a ++ c ≡ b ++ d
    → ((u : X) × (us : List X) × (b ≡ a ++ u ∷ us) × (c ≡ u ∷ us ++ d)) ⊎ (((u : X) × (us : List X) × (a ≡ b ++ u ∷ us) × (d ≡ u ∷ us ++ c)) ⊎ ((a ≡ b) × (c ≡ d)))
compared [] [] c d e = inr (inr (refl, e))
compared [] (u ∷ us) c d e = inl (u, us, refl, e)
compared (u ∷ us) [] c d e = inr (inl (u, us, refl, sym e))
compared (u ∷ a) (v ∷ b) c d e =
    let head : u ≡ v = cc in
    let rest : a ++ c ≡ b ++ d = cc in
    elim (compared a b c d rest) [
      | inl h ↦ inl (h.0, h.1, cons_both v u b (a ++ h.0 ∷ h.1) (sym head) h.2, h.3)
      | inr w ↦
          elim w [
            | inl h ↦ inr (inl (h.0, h.1, cons_both u v a (b ++ h.0 ∷ h.1) head h.2, h.3))
            | inr h ↦ inr (inr (cons_both u v a b head h.0, h.1))
          ]
    ]
