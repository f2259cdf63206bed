use Rattle.std.proofs.Common.{◌≡◌, ◌++◌, drop, map}
use Rattle.adapter_policies.specs.SetupData.{adapter_made}
use Rattle.adapter_policies.proofs.making.adapters_made.Given as goal

abbrev pub invariant-loop-adapter : goal.invariant-loop-adapter
invariant-loop-adapter l = l.made.items ++ map adapter_made (drop l.adapter-index l.adapters) ≡ map adapter_made l.adapters
