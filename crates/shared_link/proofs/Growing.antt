-- Fresh seats, one after another.
use Rattle.std.proofs.Common.{◌≡◌, ◌+◌, ℕ, List, [], ◌∷◌, ◌++◌, length, subst, arith}
use Rattle.turn_cell.specs.Seats.{CellView}
use Rattle.client_mux.specs.Machine.{Mux}
use Rattle.shared_link.specs.Link.{Sitting}
use Rattle.shared_link.specs.Turns.{IsFresh, AreFrom}

grows_at : (cell : CellView Mux) (first : ℕ) (ss : List Sitting) (s : Sitting) → AreFrom cell first ss → IsFresh cell (first + length ss) s → AreFrom cell first (ss ++ s ∷ [])
grows_at cell first [] s a f = (subst (λ (k : ℕ). IsFresh cell k s) (omega arith) f, tt)
grows_at cell first (x ∷ xs) s a f = (a.0, grows_at cell (first + 1) xs s a.1 (subst (λ (k : ℕ). IsFresh cell k s) (omega arith) f))

pub grows : (cell : CellView Mux) (k : ℕ) (ss : List Sitting) (s : Sitting) → AreFrom cell 1 ss → length ss ≡ k → IsFresh cell (k + 1) s → AreFrom cell 1 (ss ++ s ∷ [])
grows cell k ss s a e f = grows_at cell 1 ss s a (subst (λ (n : ℕ). IsFresh cell n s) (omega arith) f)
