-- What contracts see of a cell and of its seats.
use Rattle.std.specs.Prelude.{ℕ, List, Option}
use Rattle.atomic_table.specs.Seated.{TableId}
use Rattle.turn_cell.specs.declared.entry.Entry.{Entry}
use Rattle.turn_cell.specs.declared.board.Gone.{Gone}
use Rattle.turn_cell.specs.declared.board.Terms.{Terms}

-- a cell: which one it is, and what it was opened with
pub record CellView (O : Type 0) : Type 0 where
  pub id : TableId
  pub terms : Terms O

-- a seat: of which cell it is, what that was opened with, its number, what it has seen, and its own calls
pub record SeatView (O C R : Type 0) : Type 0 where
  pub cell : TableId
  pub terms : Option (Terms O)
  pub number : ℕ
  pub seen : List (Entry O C R)
  pub mine : List (Entry O C R)
  pub splits : ℕ
  pub ended : List (Gone O C R)
