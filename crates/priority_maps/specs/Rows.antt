-- Table maps: Real-time CORBA 1.2, Priority mappings. The form of a table is this project's own.
use Rattle.std.specs.Prelude.{ℕ, ℤ, ◌≤◌, ◌<◌, nat_le, ◌&&◌, Bool, List, Option, option_map, All, length}
use Rattle.std.specs.List.{find, AllAdjacentBelow}
use Rattle.orb_base.specs.Span.{Span}
use Rattle.priority_maps.specs.declared.row.MapRow.{MapRow}

-- each row's low end is above the high end of the row before it
abbrev pub Rises : List MapRow → Type 0
Rises rows = AllAdjacentBelow (λ row next. row.band.high < next.band.low) rows (length rows)

-- no row's low end is above its high end, as is so of every band
abbrev pub HasBands : List MapRow → Type 0
HasBands rows = All (λ row. row.band.low ≤ row.band.high) rows

-- whether the priority lies in the band
abbrev pub holds : Span → ℕ → Bool
holds band p = nat_le band.low p && nat_le p band.high

-- the native priority of the row that holds a CORBA priority; where no row holds it there is none
abbrev pub rows_native : List MapRow → ℕ → Option ℤ
rows_native rows p = option_map (λ row. row.native) (find (λ row. holds row.band p) rows)
