-- The low end of the first row of a native priority is the least CORBA priority of it.
use Rattle.std.proofs.Common.{◌≡◌, ℕ, ℤ, ◌<◌, Bool, true, false, cond, List, [], ◌∷◌, Option, Some, None, option_map, arith, refl, sym, ◌∙◌, ◌⊎◌, inl, inr}
use Rattle.std.specs.Option.{option_or}
use Rattle.std.proofs.lemmas.Bool.{false≢true}
use Rattle.std.proofs.lemmas.Bool.Decides.{Decides-int_eq}
use Rattle.std.specs.Ordering.{int_eq}
use Rattle.priority_maps.specs.declared.row.MapRow.{MapRow}
use Rattle.priority_maps.specs.Rows.{Rises, HasBands, holds, rows_native}
use Rattle.priority_maps.specs.Search.{first_low}
use Rattle.priority_maps.specs.Least.{FindsLeast, HasNone, IsLeast}
use Rattle.priority_maps.proofs.Rising.{Behind, first_of, inside, inside_low, outside_below, rises_on, bands_on}

row_at : (b : Bool) (r : MapRow) (rest : Option MapRow) (n : ℤ) → option_map (λ x. x.native) (cond b (Some r) rest) ≡ Some n
    → ((b ≡ true) × (r.native ≡ n)) ⊎ ((b ≡ false) × (option_map (λ x. x.native) rest ≡ Some n))
row_at true r rest n h = inl (refl, cc)
row_at false r rest n h = inr (refl, h)

-- what rows after a priority hold is above it
held_above : (b : ℕ) (rs : List MapRow) (q : ℕ) (n : ℤ) → Behind b rs → rows_native rs q ≡ Some n → b < q
held_above b [] q n up h = absurd (cc)
held_above b (r ∷ rs) q n (above, ends, rest) h =
    elim (row_at (holds r.band q) r _ n h) [
      | inl here ↦ let (low, high) = inside r.band q here.0 in omega arith
      | inr later ↦ let more : r.band.high < q = held_above r.band.high rs q n rest later.1 in omega arith
    ]

-- the first row has the native priority, or the rest decides
first_at : (b : Bool) (r : MapRow) (rest : Option ℕ) (found : Option ℕ) → option_or (cond b (Some r.band.low) None) rest ≡ found
    → ((b ≡ true) × (found ≡ Some r.band.low)) ⊎ ((b ≡ false) × (rest ≡ found))
first_at true r rest found h = inl (refl, sym h)
first_at false r rest found h = inr (refl, h)

found_at : (rows : List MapRow) (n : ℤ) (p : ℕ) → Rises rows → HasBands rows → first_low n rows ≡ Some p → IsLeast (rows_native rows) n p
found_at [] n p up ends h = absurd (cc)
found_at (r ∷ rs) n p up ends h =
    let (range, behind) = first_of r rs up ends in
    elim (first_at (int_eq r.native n) r (first_low n rs) (Some p) h) [
      | inl here ↦
          let same : r.native ≡ n = (Decides-int_eq r.native n).0 here.0 in
          let low : p ≡ r.band.low = cc in
          rw low record {
            has = rw (inside_low r.band range, same);
            least = λ q hq. elim (row_at (holds r.band q) r _ n hq) [
              | inl at ↦ (inside r.band q at.0).0
              | inr at ↦ let above : r.band.high < q = held_above r.band.high rs q n behind at.1 in omega arith
            ];
          }
      | inr later ↦
          let rest = found_at rs n p (rises_on r rs up) (bands_on r rs ends) later.1 in
          let above : r.band.high < p = held_above r.band.high rs p n behind rest.has in
          record {
            has = rw (outside_below r.band p above) rest.has;
            least = λ q hq. elim (row_at (holds r.band q) r _ n hq) [
              | inl at ↦ absurd (false≢true (sym later.0 ∙ (Decides-int_eq r.native n).1 at.1))
              | inr at ↦ rest.least q at.1
            ];
          }
    ]

missing : (rows : List MapRow) (n : ℤ) → first_low n rows ≡ None → HasNone (rows_native rows) n
missing [] n h = λ q hq. cc
missing (r ∷ rs) n h = λ q hq.
    elim (first_at (int_eq r.native n) r (first_low n rs) None h) [
      | inl here ↦ absurd (cc)
      | inr later ↦ elim (row_at (holds r.band q) r _ n hq) [
        | inl at ↦ absurd (false≢true (sym later.0 ∙ (Decides-int_eq r.native n).1 at.1))
        | inr at ↦ missing rs n later.1 q at.1
      ]
    ]

least_of : (rows : List MapRow) (n : ℤ) (found : Option ℕ) → Rises rows → HasBands rows → first_low n rows ≡ found → FindsLeast (rows_native rows) n found
least_of rows n None up ends h = missing rows n h
least_of rows n (Some p) up ends h = found_at rows n p up ends h

pub least_low : (rows : List MapRow) (n : ℤ) → Rises rows → HasBands rows → FindsLeast (rows_native rows) n (first_low n rows)
least_low rows n up ends = least_of rows n (first_low n rows) up ends refl
