use Rattle.std.proofs.Common.{◌≡◌, ◌++◌, drop, map}
use Rattle.adapter_policies.specs.SetupData.{object_made}
use Rattle.adapter_policies.proofs.making.objects_made.Given as goal

abbrev pub invariant-loop-object : goal.invariant-loop-object
invariant-loop-object l = l.made.items ++ map (object_made l.adapters) (drop l.object-index l.objects) ≡ map (object_made l.adapters) l.objects
