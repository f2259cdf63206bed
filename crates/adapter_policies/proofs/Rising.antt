-- Rows that rise, each made a row of a table map.
use Rattle.std.proofs.Common.{◌≡◌, ℕ, ◌+◌, ◌<◌, ◌≤◌, zero, suc, true, false, ◌&&◌, Bool, List, [], ◌∷◌, ◌++◌, length, map, drop, sym, ◌∙◌, Option, Some, None, nat_le, get_or, subst, refl, arith}
use Rattle.std.proofs.lemmas.List.{drop_all, append-nil}
use Rattle.std.specs.List.{AllAdjacentBelow}
use borrow.Author.Tests.{ltb-true}
use Rattle.priority_maps.specs.Rows.{Rises}
use Rattle.priority_maps.specs.declared.row.MapRow.{MapRow}
use Rattle.adapter_policies.specs.MapRelations.{rows_rise, row_made}
use Rattle.adapter_policies.specs.PoolRelations.{is_above}
use Rattle.adapter_policies.specs.declared.row.RowTable.{RowTable}

-- the first row is above what is before it
first_above : (a b c : Bool) → (a && (b && c)) ≡ true → a ≡ true
first_above true b c h = refl
first_above false b c h = h

-- and the rest rises after it
rest_rises : (a b c : Bool) → (a && (b && c)) ≡ true → c ≡ true
rest_rises true true c h = h
rest_rises true false c h = absurd (cc)
rest_rises false b c h = absurd (cc)

-- one more element before
adjacent_cons : {X : Type 0} (R : X → X → Type 0) (x y : X) (xs : List X) → R x y → AllAdjacentBelow R (y ∷ xs) (length (y ∷ xs))
    → AllAdjacentBelow R (x ∷ y ∷ xs) (length (x ∷ y ∷ xs))
adjacent_cons R x y xs first rest zero d below = first
adjacent_cons R x y xs first rest (suc k) d below =
    let e : suc (k + 1) ≡ suc k + 1 = omega arith in
    subst (λ (m : ℕ). R (get_or (y ∷ xs) k d) (get_or (x ∷ y ∷ xs) m d)) e (rest k d (omega arith))

pub rises_made : (before : Option ℕ) (rows : List RowTable) → rows_rise before rows ≡ true → Rises (map row_made rows)
rises_made before [] h = λ k d below. absurd (omega arith)
rises_made before (r ∷ []) h = λ k d below. absurd (omega arith)
rises_made before (r ∷ s ∷ rows) h =
    let rest : rows_rise (Some r.high) (s ∷ rows) ≡ true = rest_rises (is_above before r.low) (nat_le r.low r.high) (rows_rise (Some r.high) (s ∷ rows)) h in
    let above : r.high < s.low = ltb-true r.high s.low (first_above (is_above (Some r.high) s.low) (nat_le s.low s.high) (rows_rise (Some s.high) rows) rest) in
    adjacent_cons (λ row next. row.band.high < next.band.low) (row_made r) (row_made s) (map row_made rows) above (rises_made (Some r.high) (s ∷ rows) rest)

-- all rows were taken, and rise
pub risen : (before : Option ℕ) (rows : List RowTable) (i : ℕ) (made : List MapRow) → length rows ≤ i
    → rows_rise before (drop i rows) ≡ rows_rise None rows → made ++ map row_made (drop i rows) ≡ map row_made rows
    → (rows_rise None rows ≡ true) × (made ≡ map row_made rows) × Rises made
risen before rows i made all same whole =
    let none : drop i rows ≡ [] = drop_all i rows all in
    let rise : rows_rise None rows ≡ true = sym same ∙ rw none refl in
    let is : made ≡ map row_made rows = rw append-nil at (rw none at whole) in
    (rise, is, subst (λ (m : List MapRow). Rises m) (sym is) (rises_made None rows rise))
