use Rattle.std.proofs.Common.{ℕ, subst, sym}
use Rattle.std.specs.Prelude.{IfOk}
use Rattle.orb_base.specs.Pool.{Pool, IsWellFormed}
use Rattle.lane_pool.specs.Passes.{IsOpen}
use Rattle.lane_machine.specs.State.{CanOpen}
use Rattle.orb_server.proofs.prepare.open_pool.Goals as goal

pub open-requires : goal.open-requires
open-requires c = record { can = subst (λ (n : ℕ). CanOpen c.pool.result.now c.slots.result n) (sym c.per_slot.ensures.value) (record { well_formed = c.pool.ensures.well_formed; slots = c.slots.ensures.open }) }

pub returns-clause-opened : goal.returns-clause-opened
returns-clause-opened c = subst (λ (z : Pool × ℕ × ℕ). IfOk c.open.result (λ o. IsOpen z.0 z.1 z.2 o.pool.cell o.root o.slots.items o.workers.items)) (λ i. (c.pool.ensures.value i, c.slots.ensures.value i, c.per_slot.ensures.value i)) c.open.ensures.opened

pub returns-clause-well_formed : goal.returns-clause-well_formed
returns-clause-well_formed c = subst IsWellFormed c.pool.ensures.value c.pool.ensures.well_formed
