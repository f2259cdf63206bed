-- So many shares are there, and there is room for all.
use Rattle.std.proofs.Common.{◌≡◌, ◌≤◌, All, length}
use Rattle.std.specs.Vec.{vec_capacity}
use Rattle.system_devices.proofs.std_net.StdNet.shares.Given as goal

abbrev pub invariant-loop-nth : goal.invariant-loop-nth
invariant-loop-nth g l = (length l.all.items ≡ l._nth) × All (λ a. (a.faults ≡ 0) × (a.ends ≡ 0)) l.all.items × (l.slots ≤ vec_capacity l.all)
