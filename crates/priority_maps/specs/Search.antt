-- How a table is searched.
use Rattle.std.specs.Prelude.{◌≡◌, ◌≤◌, ◌<◌, ℕ, ℤ, List, [], ◌∷◌, Option, Some, None, if◌then◌else◌, length}
use Rattle.std.specs.Option.{option_or}
use Rattle.std.specs.List.{AllWithin}
use Rattle.std.specs.Ordering.{int_eq, int_cmp}
use Rattle.std.specs.BTreeMap.{BTreeMap, get}
use Rattle.priority_maps.specs.Rows.{holds}
use Rattle.priority_maps.specs.declared.row.MapRow.{MapRow}

-- the rows before this place end below the priority, and those from it on do not
abbrev pub IsFirstAbove : List MapRow → ℕ → ℕ → Type 0
IsFirstAbove rows p at =
    AllWithin (λ row. row.band.high < p) rows 0 at × AllWithin (λ row. p ≤ row.band.high) rows at (length rows)

-- the native priority of a row, if it holds the CORBA one
abbrev pub native_in : ℕ → MapRow → Option ℤ
native_in p row = if holds row.band p then Some row.native else None

-- the low end of a row, if it has this native priority
abbrev pub low_of : ℤ → MapRow → Option ℕ
low_of n row = if int_eq row.native n then Some row.band.low else None

-- the low end of the first row with this native priority
abbrev pub first_low : ℤ → List MapRow → Option ℕ
first_low n [] = None
first_low n (row ∷ rows) = option_or (low_of n row) (first_low n rows)

-- the tree has the low end of the first row of each native priority
abbrev pub HasLows : List MapRow → BTreeMap ℤ ℕ → Type 0
HasLows rows lows = (n : ℤ) → get int_cmp lows n ≡ first_low n rows
