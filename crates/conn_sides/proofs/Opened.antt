-- An open pool is that of its setup.
use Rattle.std.proofs.Common.{◌≡◌, ℕ, List, ap}
use Rattle.turn_cell.specs.Seats.{CellView}
use Rattle.orb_base.specs.Pool.{Pool}
use Rattle.lane_machine.specs.State.{State}
use Rattle.lane_pool.specs.Pass.{Pass, Sitting}
use Rattle.lane_pool.specs.Passes.{IsOpen}

pub pool_there : (slots per_slot : ℕ) (cell : CellView State) (pool : Pool) (root : Sitting) (readers workers : List Pass) → IsOpen pool slots per_slot cell root readers workers → cell.terms.opening.pool ≡ pool
pool_there slots per_slot cell pool root readers workers o = ap (λ (s : State). s.pool) o.opened
