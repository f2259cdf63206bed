-- An open link whose seats were told apart.
use Rattle.std.specs.Prelude.{◌≡◌, ℕ, ◌+◌, List, length}
use Rattle.turn_cell.specs.Seats.{CellView}
use Rattle.client_mux.specs.Machine.{Mux, opening}
use Rattle.shared_link.specs.Link.{Sitting}
use Rattle.shared_link.specs.Turns.{AreFrom, IsFresh, MainAt}

-- a link is open for so many callers, with their seats, the writer's and the reader's
pub record IsReadyFor (callers : ℕ) (cell : CellView Mux) (root : Sitting) (seats : List Sitting) (writer reader : Sitting) : Type 0 where
  pub opened : cell.terms.opening ≡ opening callers
  pub main : MainAt cell (callers + 2) root
  pub all : length seats ≡ callers
  pub seats_are : AreFrom cell 1 seats
  pub writer_is : IsFresh cell (callers + 1) writer
  pub reader_is : IsFresh cell (callers + 2) reader
