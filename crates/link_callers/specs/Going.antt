-- Callers that make one call after another.
use Rattle.std.specs.Prelude.{◌≡◌, ℕ, true, false}
use Rattle.turn_cell.specs.Seats.{CellView}
use Rattle.client_mux.specs.Machine.{Mux}
use Rattle.client_mux.specs.Callers.{owns, has_cancel, has_await, starts}
use Rattle.shared_link.specs.Link.{Sitting}
use Rattle.shared_link.specs.Roles.{CanCall}

-- a caller of the link that hasn't left, has cancelled no call, and has awaited calls of its own alone
pub record CanGoOn (cell : CellView Mux) (seat : Sitting) : Type 0 where
  pub calls : CanCall cell (starts seat.mine) seat
  pub uncancelled : (id : ℕ) → has_cancel id seat.mine ≡ false
  pub awaits_own : (id : ℕ) → has_await id seat.mine ≡ true → owns id seat.mine ≡ true
