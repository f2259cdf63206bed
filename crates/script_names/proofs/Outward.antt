-- The scopes around a path, read from its end.
use Rattle.std.proofs.Common.{◌≡◌, ◌∙◌, ℕ, ◌+◌, ◌-◌, ◌≤◌, Bool, true, false, List, [], ◌∷◌, ◌++◌, map, length, take, get_or, refl, sym, ap, arith, eq-eqb, eqb-true}
use Rattle.std.specs.Prelude.{if◌then◌else◌, reverse, ◌==◌}
use Rattle.std.proofs.lemmas.List.{map-append, reverse-append, take_all, take_more}
use Rattle.std.proofs.lemmas.Bool.{false_from_ne_true}
use Rattle.script_names.specs.Paths.{fronts, around}

abbrev Lists : Type 0
Lists = List (List ℕ)

fronts_more : (xs : List ℕ) (c : ℕ) → fronts (xs ++ c ∷ []) ≡ (if c == 47 then fronts xs ++ xs ∷ [] else fronts xs)
fronts_more [] c = refl
fronts_more (x ∷ xs) c = ap (λ (ps : Lists). if x == 47 then [] ∷ map (λ p. x ∷ p) ps else map (λ p. x ∷ p) ps) (fronts_more xs c) ∙ on (x == 47) (c == 47)
  where
    on : (a b : Bool) → (if a then [] ∷ map (λ p. x ∷ p) (if b then fronts xs ++ xs ∷ [] else fronts xs) else map (λ p. x ∷ p) (if b then fronts xs ++ xs ∷ [] else fronts xs))
        ≡ (if b then (if a then [] ∷ map (λ p. x ∷ p) (fronts xs) else map (λ p. x ∷ p) (fronts xs)) ++ (x ∷ xs) ∷ [] else (if a then [] ∷ map (λ p. x ∷ p) (fronts xs) else map (λ p. x ∷ p) (fronts xs)))
    on true true = ap (λ (ps : Lists). [] ∷ ps) (map-append (λ p. x ∷ p) (fronts xs) (xs ∷ []))
    on true false = refl
    on false true = map-append (λ p. x ∷ p) (fronts xs) (xs ∷ [])
    on false false = refl

-- a `/` at the end has a scope before it, and around that one the others
pub around_slash : (path front : List ℕ) (c : ℕ) → path ≡ front ++ c ∷ [] → c == 47 ≡ true → around path ≡ front ∷ around front
around_slash path front c is slash =
    ap around is ∙ ap reverse (fronts_more front c) ∙ ap (λ (b : Bool). reverse (if b then fronts front ++ front ∷ [] else fronts front)) slash ∙ reverse-append (fronts front) (front ∷ [])

-- another byte at the end changes nothing
pub around_other : (path front : List ℕ) (c : ℕ) → path ≡ front ++ c ∷ [] → c == 47 ≡ false → around path ≡ around front
around_other path front c is other =
    ap around is ∙ ap reverse (fronts_more front c) ∙ ap (λ (b : Bool). reverse (if b then fronts front ++ front ∷ [] else fronts front)) other

last_apart : (xs : List ℕ) → 1 ≤ length xs → xs ≡ take (length xs - 1) xs ++ get_or xs (length xs - 1) 0 ∷ []
last_apart xs some =
    let e : length xs ≡ length xs - 1 + 1 = omega arith in
    sym (take_all (length xs) xs (omega arith)) ∙ ap (λ (n : ℕ). take n xs) e ∙ take_more xs (length xs - 1) 0 (omega arith)

-- before a `/` is a scope
pub at_slash : (rest : List ℕ) → 1 ≤ length rest → get_or rest (length rest - 1) 0 ≡ 47 → around rest ≡ take (length rest - 1) rest ∷ around (take (length rest - 1) rest)
at_slash rest some is =
    around_slash rest (take (length rest - 1) rest) (get_or rest (length rest - 1) 0) (last_apart rest some) (eq-eqb (get_or rest (length rest - 1) 0) 47 is)

-- before another byte is none
pub at_other : (rest : List ℕ) → 1 ≤ length rest → (get_or rest (length rest - 1) 0 ≡ 47 → ⊥) → around rest ≡ around (take (length rest - 1) rest)
at_other rest some not =
    around_other rest (take (length rest - 1) rest) (get_or rest (length rest - 1) 0) (last_apart rest some)
    (false_from_ne_true (get_or rest (length rest - 1) 0 == 47) (λ e. not (eqb-true (get_or rest (length rest - 1) 0) 47 e)))
