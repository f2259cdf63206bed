-- Rows of rising bands, one by one.
use Rattle.std.proofs.Common.{◌≡◌, ℕ, ◌+◌, ◌<◌, ◌≤◌, ◌↔◌, Bool, true, false, nat_lt, List, [], ◌∷◌, None, IsTrue, pos, suc, arith, refl, sym, ◌∙◌, ltb-true}
use Rattle.std.proofs.lemmas.Bool.{false≢true, lt-ltb}
use Rattle.std.proofs.lemmas.Bool.Decides.{nat_tests}
use Rattle.std.specs.Bool.{⊤}
use Rattle.std.specs.List.{IsAllAdjacentAnswer, find}
use Rattle.orb_base.specs.Span.{Span}
use Rattle.priority_maps.specs.declared.row.MapRow.{MapRow}
use Rattle.priority_maps.specs.Rows.{Rises, HasBands, holds}

-- the test of neighbours decides whether the rows rise
pub rising_iff : (rows : List MapRow) (b : Bool) → IsAllAdjacentAnswer (λ x y r. r ≡ nat_lt x.band.high y.band.low) rows b → IsTrue b ↔ Rises rows
rising_iff rows true h = (λ _ k d near. ltb-true _ _ (sym (h k d near)), λ _. refl)
rising_iff rows false (k, near, h) =
    let d : MapRow = record { band = record { low = 0; high = 0 }; native = pos 0 } in
    (λ e. cc, λ all. let below = all k d near in absurd (false≢true (h d ∙ lt-ltb _ _ below)))

-- the rows are bands that rise from above a priority on
abbrev pub Behind : ℕ → List MapRow → Type 0
Behind b [] = ⊤
Behind b (r ∷ rs) = (b < r.band.low) × (r.band.low ≤ r.band.high) × Behind r.band.high rs

pub rises_on : (r : MapRow) (rs : List MapRow) → Rises (r ∷ rs) → Rises rs
rises_on r rs h = λ k d near. let on : suc k + 1 ≡ suc (k + 1) = omega arith in rw on at (h (suc k) d (omega arith))

pub bands_on : (r : MapRow) (rs : List MapRow) → HasBands (r ∷ rs) → HasBands rs
bands_on r rs h = λ k d near. h (suc k) d (omega arith)

behind_of : (r : MapRow) (rs : List MapRow) → Rises (r ∷ rs) → HasBands (r ∷ rs) → Behind r.band.high rs
behind_of r [] h e = tt
behind_of r (s ∷ rs) h e = (h 0 s (omega arith), e 1 s (omega arith), behind_of s rs (rises_on r (s ∷ rs) h) (bands_on r (s ∷ rs) e))

-- the first row is a band, and the rest is after it
pub first_of : (r : MapRow) (rs : List MapRow) → Rises (r ∷ rs) → HasBands (r ∷ rs) → (r.band.low ≤ r.band.high) × Behind r.band.high rs
first_of r rs h e = (e 0 r (omega arith), behind_of r rs h e)

pub inside : (s : Span) (p : ℕ) → holds s p ≡ true → (s.low ≤ p) × (p ≤ s.high)
inside s p h = grind (arith, nat_tests)

pub outside_below : (s : Span) (p : ℕ) → s.high < p → holds s p ≡ false
outside_below s p h = grind (arith, nat_tests)

pub outside_above : (s : Span) (p : ℕ) → p < s.low → holds s p ≡ false
outside_above s p h = grind (arith, nat_tests)

pub inside_low : (s : Span) → s.low ≤ s.high → holds s s.low ≡ true
inside_low s h = grind (arith, nat_tests)

-- rows after a priority don't hold it, nor a lesser one
pub none_behind : (b : ℕ) (rs : List MapRow) (p : ℕ) → Behind b rs → p ≤ b → find (λ row. holds row.band p) rs ≡ None
none_behind b [] p up h = refl
none_behind b (r ∷ rs) p (above, ends, rest) h = rw (outside_above r.band p (omega arith)) (none_behind r.band.high rs p rest (omega arith))
