-- Callers that have called nothing.
use Rattle.std.proofs.Common.{◌≡◌, ◌+◌, ◌≤◌, ℕ, List, [], ◌∷◌, ◌++◌, length, ap, ◌∙◌, arith}
use Rattle.std.proofs.lemmas.List.{length-append}
use Rattle.turn_cell.specs.Seats.{CellView}
use Rattle.client_mux.specs.Machine.{Mux}
use Rattle.client_mux.specs.Callers.{starts, lefts}
use Rattle.shared_link.specs.Link.{Sitting}
use Rattle.shared_link.specs.Turns.{IsFresh}
use Rattle.link_callers.specs.Going.{CanGoOn}
use Rattle.link_callers.proofs.Going.{goes_first}

-- the last seat of some callers may call
pub first_goes : (cell : CellView Mux) (all seats : List Sitting) (seat : Sitting) → all ≡ seats ++ seat ∷ [] → length all ≤ cell.terms.opening.callers
    → IsFresh cell (1 + length seats) seat → CanGoOn cell seat
first_goes cell all seats seat e few f =
    let long : length all ≡ length seats + 1 = ap length e ∙ length-append seats (seat ∷ []) in
    let number = f.number_is in
    goes_first cell seat (record {
      in_cell = f.in_cell;
      caller = (omega arith, omega arith);
      stays = ap lefts f.unused;
      starts_are = ap starts f.unused;
    }) f.unused

pub first_starts : (cell : CellView Mux) (k : ℕ) (seat : Sitting) → IsFresh cell k seat → starts seat.mine ≡ 0
first_starts cell k seat f = ap starts f.unused

pub first_unused : (cell : CellView Mux) (k : ℕ) (seat : Sitting) → IsFresh cell k seat → seat.mine ≡ []
first_unused cell k seat f = f.unused

-- one seat less
pub one_less : (all seats : List Sitting) (seat : Sitting) → all ≡ seats ++ seat ∷ [] → length all ≡ length seats + 1
one_less all seats seat e = ap length e ∙ length-append seats (seat ∷ [])
