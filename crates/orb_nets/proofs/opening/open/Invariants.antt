-- So many slots are open, those after them are left, and there is room for all acceptors.
use Rattle.std.proofs.Common.{◌≡◌, ◌≤◌, Some, drop}
use Rattle.std.specs.Vec.{vec_capacity}
use Rattle.orb_nets.specs.MemNets.{slot_pairs}
use Rattle.orb_nets.specs.Nets.{Opens}
use Rattle.orb_nets.proofs.opening.open.Given as goal

abbrev pub invariant-loop-nth : goal.invariant-loop-nth
invariant-loop-nth g l =
    Opens g.A.Acceptor.state l._nth l.each (Some (slot_pairs l.fn.slots)) l.all.items
    × (slot_pairs l.slots ≡ drop l._nth (slot_pairs l.fn.slots))
    × (l.n ≤ vec_capacity l.all)
