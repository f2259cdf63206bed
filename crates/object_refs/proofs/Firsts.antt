-- The first byte that passes a test, and these very bytes before.
use Rattle.std.proofs.Common.{◌≡◌, ℕ, suc, ◌+◌, ◌≤◌, Bool, true, false, not, cond, ltb, List, [], ◌∷◌, ◌++◌}
use Rattle.std.proofs.Common.{length, take, drop, get_or, Option, Some, None, refl, sym, ap, subst, ◌∙◌, inl, inr}
use Rattle.std.proofs.Common.{arith}
use Rattle.std.specs.List.{position, position_or_len}
use Rattle.std.specs.Str.{bytes_eq}
use Rattle.std.proofs.lemmas.Bool.{cases_Bool, ltb-false, le-ltb, eq-eqb, cond-false}
use Rattle.std.proofs.lemmas.Grind.{common_steps}
use Rattle.std.proofs.lemmas.List.{take_at, drop_at, take-append-drop, drop_more, length-take}
use Rattle.std.proofs.lemmas.List.Folds.{prefix_len-append}
use Rattle.std.proofs.lemmas.List.Sums.{prefix_len-le-length}
use Rattle.std.proofs.lemmas.List.Quantifiers.{position-Some}
use Rattle.std.proofs.lemmas.Slice.Eq.{bytes_eq-Decides}
use Rattle.object_refs.specs.LocationReading.{behind}
use Rattle.object_refs.proofs.Steps.{passed_some}

-- ---- these very bytes

pub behind_found : (front bytes rest : List ℕ) → behind front bytes ≡ Some rest → bytes ≡ front ++ rest
unfolding behind
behind_found front bytes rest e =
    let g = passed_some (bytes_eq (take (length front) bytes) front) (drop (length front) bytes) rest e in
    let front-is : take (length front) bytes ≡ front = (bytes_eq-Decides (take (length front) bytes) front).0 g.0 in
    sym (take-append-drop (length front) bytes) ∙ ap (λ (t : List ℕ). t ++ drop (length front) bytes) front-is
    ∙ ap (λ (t : List ℕ). front ++ t) g.1

pub behind_again : (front rest : List ℕ) → behind front (front ++ rest) ≡ Some rest
unfolding behind
behind_again front rest =
    let same : bytes_eq front front ≡ true = (bytes_eq-Decides front front).1 refl in
    rw (take_at front rest (length front) refl, drop_at front rest (length front) refl, same) refl

-- ---- the first byte that passes

pub none_within : (p : ℕ → Bool) (xs : List ℕ) → position_or_len p xs ≡ length xs → position p xs ≡ None
none_within p xs e =
    let least : length xs ≤ position_or_len p xs = omega (arith, e) in
    cond-false _ _ _ (le-ltb _ _ least)

none_length : (p : ℕ → Bool) (xs : List ℕ) → position p xs ≡ None → position_or_len p xs ≡ length xs
none_length p xs e =
    let most = prefix_len-le-length (λ x. not (p x)) xs in
    let least = not_within (ltb (position_or_len p xs) (length xs)) (position_or_len p xs) e in
    omega (arith, most, ltb-false _ _ least)
  where
    not_within : (b : Bool) (n : ℕ) → ◌≡◌ {A = Option ℕ} (cond b (Some n) None) None → b ≡ false
    not_within true n e = absurd cc
    not_within false n e = refl

first_again : (p : ℕ → Bool) (xs : List ℕ) → position_or_len p (take (position_or_len p xs) xs) ≡ position_or_len p xs
first_again p [] = refl
first_again p (x ∷ xs) =
    let others = first_again p xs in
    let one_more : 1 + position_or_len p xs ≡ suc (position_or_len p xs) = omega arith in
    elim (cases_Bool (p x)) [ inl e ↦ rw e refl | inr e ↦ rw (e, one_more, e) (omega (arith, others)) ]

-- the list is what is before the first that passes, that one, and what is after it
pub record CutAt (p : ℕ → Bool) (xs : List ℕ) (n : ℕ) : Type 0 where
  pub parts : xs ≡ take n xs ++ get_or xs n 0 ∷ drop (n + 1) xs
  pub none : position p (take n xs) ≡ None
  pub passes : p (get_or xs n 0) ≡ true
  pub len : length (take n xs) ≡ n

pub cut_found : (p : ℕ → Bool) (xs : List ℕ) (n : ℕ) → position p xs ≡ Some n → CutAt p xs n
cut_found p xs n e =
    let h = position-Some p xs n 0 e in
    let at : position_or_len p xs ≡ n = grind (arith, common_steps, e) in
    let len : length (take n xs) ≡ n = omega (arith, length-take n xs, h.0) in
    let again : position_or_len p (take n xs) ≡ n =
    subst (λ (k : ℕ). position_or_len p (take k xs) ≡ k) at (first_again p xs) in
    record {
      parts = sym (take-append-drop n xs) ∙ ap (λ (rest : List ℕ). take n xs ++ rest) (drop_more xs n 0 h.0);
      none = none_within p (take n xs) (again ∙ sym len);
      passes = h.1;
      len = len;
    }

pub cut_again : (p : ℕ → Bool) (front : List ℕ) (e : ℕ) (rest : List ℕ) → position p front ≡ None → p e ≡ true
    → position p (front ++ e ∷ rest) ≡ Some (length front)
cut_again p front e rest none passes =
    let all = none_length p front none in
    let at : position_or_len p (front ++ e ∷ rest) ≡ length front =
    prefix_len-append (λ x. not (p x)) front (e ∷ rest) ∙ rw (all, eq-eqb (length front) (length front) refl, passes)
    (omega arith) in
    grind (arith, common_steps, at)
