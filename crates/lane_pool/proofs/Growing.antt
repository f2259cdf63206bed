-- Fresh passes, one after another.
use Rattle.std.proofs.Common.{◌≡◌, ◌+◌, ℕ, List, [], ◌∷◌, ◌++◌, length, subst, arith}
use Rattle.turn_cell.specs.Seats.{CellView}
use Rattle.lane_machine.specs.State.{State}
use Rattle.lane_pool.specs.Pass.{Pass}
use Rattle.lane_pool.specs.Passes.{IsFresh, AreFrom}

grows_at : (cell : CellView State) (first who : ℕ) (ps : List Pass) (p : Pass) → AreFrom cell first who ps → IsFresh cell (first + (who + length ps)) (who + length ps) p → AreFrom cell first who (ps ++ p ∷ [])
grows_at cell first who [] p a f = (subst (λ (k : ℕ). IsFresh cell (first + k) k p) (omega arith) f, tt)
grows_at cell first who (x ∷ xs) p a f = (a.0, grows_at cell first (who + 1) xs p a.1 (subst (λ (k : ℕ). IsFresh cell (first + k) k p) (omega arith) f))

pub grows : (cell : CellView State) (first k : ℕ) (ps : List Pass) (p : Pass) → AreFrom cell first 0 ps → length ps ≡ k → IsFresh cell (first + k) k p → AreFrom cell first 0 (ps ++ p ∷ [])
grows cell first k ps p a e f = let h : k ≡ 0 + length ps = omega arith in grows_at cell first 0 ps p a (subst (λ (j : ℕ). IsFresh cell (first + j) j p) h f)
