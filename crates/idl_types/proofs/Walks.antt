-- Walks down steps that go to lower numbers, by marks.
use Rattle.std.proofs.Common.{◌≡◌, ℕ, ◌+◌, ◌<◌, ◌≤◌, Bool, true, false, ◌||◌, ◌↔◌, List, [], ◌∷◌, ◌++◌, inl, inr, refl, sym, ap, ◌∙◌, subst, arith}
use Rattle.std.specs.Prelude.{◌==◌}
use Rattle.std.proofs.lemmas.Bool.{cases_eq, or_cases, or_left, or_right, eqb-true, eq-eqb, both_ways}
use Rattle.idl_types.specs.Walk.{Trail, Reached, Walked}

module _ (step : ℕ → ℕ → Bool) where
  trail_on : (xs : List ℕ) (a b k : ℕ) → Trail step a xs b → step b k ≡ true → Trail step a (xs ++ k ∷ []) k
  trail_on [] a b k t s = (subst (λ (z : ℕ). step z k ≡ true) (sym t) s, refl)
  trail_on (x ∷ xs) a b k t s = (t.0, trail_on xs x b k t.1 s)

  -- a step further
  reached_on : (a b k : ℕ) → Reached step a b → step b k ≡ true → Reached step a k
  reached_on a b k r s = record { path = r.path ++ k ∷ []; trail = trail_on r.path a b k r.trail s }

  alone_at : (start : ℕ) (marked : ℕ → Bool) → ((k : ℕ) → marked k ≡ ((start == k) || false)) → (k : ℕ) → marked k ≡ true → start ≡ k
  alone_at start marked is k m = elim (or_cases (start == k) false (sym (is k) ∙ m)) [ inl e ↦ eqb-true start k e | inr e ↦ absurd (both_ways false refl e) ]

  -- where the start alone is marked
  pub walk_starts : (start : ℕ) (marked : ℕ → Bool) → ((k : ℕ) → marked k ≡ ((start == k) || false)) → Walked step start (start + 1) marked
  walk_starts start marked is = record {
    starts = is start ∙ or_left (start == start) false (eq-eqb start start refl);
    sound = λ k m. record { path = []; trail = alone_at start marked is k m };
    followed = λ a k low m s. absurd (omega (arith, alone_at start marked is a m, low));
  }

  -- where a number isn't marked, there is nothing to follow
  pub walk_past : (start at : ℕ) (marked : ℕ → Bool) → Walked step start (at + 1) marked → marked at ≡ false → Walked step start at marked
  walk_past start at marked w none = record {
    starts = w.starts;
    sound = w.sound;
    followed = λ a k low m s. elim (cases_eq a at) [
      | inl e ↦ absurd (both_ways (marked at) none (ap marked (sym e) ∙ m))
      | inr e ↦ w.followed a k (omega (arith, low, e)) m s
    ];
  }

  module _ (lower : (a k : ℕ) → step a k ≡ true → k < a) where
    below : (xs : List ℕ) (a b : ℕ) → Trail step a xs b → b ≤ a
    below [] a b t = omega (arith, t)
    below (x ∷ xs) a b t = omega (arith, lower a x t.0, below xs x b t.1)

    along : (start at to : ℕ) (marked : ℕ → Bool) → Walked step start at marked → at ≤ to + 1 → (xs : List ℕ) (a : ℕ) → marked a ≡ true → Trail step a xs to → marked to ≡ true
    along start at to marked w low [] a m t = ap marked (sym t) ∙ m
    along start at to marked w low (x ∷ xs) a m t =
        let far : at ≤ a = omega (arith, low, lower a x t.0, below xs x to t.1) in
        along start at to marked w low xs x (w.followed a x far m t.0) t.1

    -- after the walk a number is marked where it is reached
    pub walk_ends : (start at to : ℕ) (marked : ℕ → Bool) → Walked step start at marked → at ≤ to + 1 → (marked to ≡ true) ↔ Reached step start to
    walk_ends start at to marked w low = (w.sound to, λ r. along start at to marked w low r.path start w.starts r.trail)

    earlier : (start at : ℕ) (old new : ℕ → Bool) → ((k : ℕ) → new k ≡ (old k || step at k)) → (a : ℕ) → at < a → new a ≡ true → old a ≡ true
    earlier start at old new is a high m = elim (or_cases (old a) (step at a) (sym (is a) ∙ m)) [ inl e ↦ e | inr e ↦ absurd (omega (arith, high, lower at a e)) ]

    -- where a number is marked, all its steps are
    pub walk_on : (start at : ℕ) (old new : ℕ → Bool) → Walked step start (at + 1) old → old at ≡ true → ((k : ℕ) → new k ≡ (old k || step at k)) → Walked step start at new
    walk_on start at old new w here is = record {
      starts = is start ∙ or_left (old start) (step at start) w.starts;
      sound = λ k m. elim (or_cases (old k) (step at k) (sym (is k) ∙ m)) [ inl e ↦ w.sound k e | inr e ↦ reached_on start at k (w.sound at here) e ];
      followed = λ a k low m s. elim (cases_eq a at) [
        | inl e ↦ is k ∙ or_right (old k) (step at k) (ap (λ (z : ℕ). step z k) (sym e) ∙ s)
        | inr e ↦ (let high : at < a = omega (arith, low, e) in is k ∙ or_left (old k) (step at k) (w.followed a k (omega (arith, high)) (earlier start at old new is a high m) s))
      ];
    }
