use Rattle.std.proofs.Common.{◌≡◌, take, drop, []}
use Rattle.adapter_policies.specs.Found.{first_clash}
use Rattle.adapter_policies.proofs.clashes.first_clash.Given as goal

abbrev pub invariant-loop-n : goal.invariant-loop-n
invariant-loop-n g l = first_clash g.T.Clashing.clash (take l.n l.things) l.n (drop l.n l.things) ≡ first_clash g.T.Clashing.clash [] 0 l.things
