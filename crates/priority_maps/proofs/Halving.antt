-- The row that holds a priority is the first one that doesn't end below it.
use Rattle.std.proofs.Common.{◌≡◌, ℕ, ◌+◌, ◌<◌, ◌≤◌, Bool, true, false, nat_lt, nat_le, cond, List, [], ◌∷◌, Some, None, option_map, length, zero, suc, arith, refl, ltb-true, ltb-false, lt-ltb}
use Rattle.std.proofs.lemmas.Bool.Decides.{nat_tests}
use Rattle.std.specs.List.{find, slice_get, slice_index_or}
use Rattle.std.specs.List.Sorted.{IsPartitionedBy, IsPartitionPoint}
use Rattle.std.specs.Option.{option_and_then}
use Rattle.priority_maps.specs.declared.row.MapRow.{MapRow}
use Rattle.priority_maps.specs.Rows.{Rises, HasBands, holds, rows_native}
use Rattle.priority_maps.specs.Search.{IsFirstAbove, native_in}
use Rattle.priority_maps.proofs.Rising.{Behind, first_of, none_behind, outside_below, rises_on, bands_on}

-- if the first row ends below the priority, the rest decides; else it holds it or no row does
head_decides : (r : MapRow) (rs : List MapRow) (p : ℕ) (b : Bool) → holds r.band p ≡ b → Behind r.band.high rs → p ≤ r.band.high
    → option_map (λ row. row.native) (cond b (Some r) (find (λ row. holds row.band p) rs)) ≡ cond b (Some r.native) None
head_decides r rs p true is up h = refl
head_decides r rs p false is up h = rw (none_behind r.band.high rs p up h) refl

pub at_first : (rows : List MapRow) (p at : ℕ) → Rises rows → HasBands rows → IsFirstAbove rows p at
    → rows_native rows p ≡ option_and_then (native_in p) (slice_get rows at)
at_first [] p at up ends first = refl
at_first (r ∷ rs) p zero up ends first =
    head_decides r rs p (holds r.band p) refl (first_of r rs up ends).1 (first.1 0 r (omega arith) (omega arith))
at_first (r ∷ rs) p (suc at) up ends first =
    rw (outside_below r.band p (first.0 0 r (omega arith) (omega arith)))
    (at_first rs p at (rises_on r rs up) (bands_on r rs ends)
    (λ k d low high. first.0 (suc k) d (omega arith) (omega arith), λ k d low high. first.1 (suc k) d (omega arith) (omega arith)))

-- high ends rise
highs_rise : (rows : List MapRow) (i j : ℕ) (d : MapRow) → Rises rows → HasBands rows → i ≤ j → j < length rows
    → (slice_index_or rows i d).band.high ≤ (slice_index_or rows j d).band.high
highs_rise rows i zero d up ends le lt = let same : i ≡ 0 = omega arith in rw same (omega arith)
highs_rise rows i (suc j) d up ends le lt =
    elim (nat_le i j) as (λ b. nat_le i j ≡ b → (slice_index_or rows i d).band.high ≤ (slice_index_or rows (suc j) d).band.high) [
      | true ↦ λ is.
          let before = highs_rise rows i j d up ends (grind (arith, nat_tests)) (omega arith) in
          let on : j + 1 ≡ suc j = omega arith in
          let next = rw on at (up j d (omega arith)) in
          let band = ends (suc j) d lt in
          omega arith
      | false ↦ λ is. let same : i ≡ suc j = grind (arith, nat_tests) in rw same (omega arith)
    ] refl

-- the test of the search holds of the rows up to one place
pub parted : (rows : List MapRow) (p : ℕ) → Rises rows → HasBands rows → IsPartitionedBy (λ row. nat_lt row.band.high p) rows
parted rows p up ends i j d le lt h =
    let high = highs_rise rows i j d up ends le lt in
    let below = ltb-true _ _ h in
    lt-ltb _ _ (omega arith)

pub first_from_point : (rows : List MapRow) (p at : ℕ)
    → IsPartitionPoint (λ row. nat_lt row.band.high p ≡ true) (λ row. nat_lt row.band.high p ≡ false) rows at → IsFirstAbove rows p at
first_from_point rows p at point = (λ k d low high. ltb-true _ _ (point.0 k d low high), λ k d low high. ltb-false _ _ (point.1 k d low high))
