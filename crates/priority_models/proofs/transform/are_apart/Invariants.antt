use Rattle.std.proofs.Common.{◌≡◌, drop}
use Rattle.orb_base.specs.Apart.{are_apart}
use Rattle.priority_models.specs.Transforms.{bands}
use Rattle.priority_models.proofs.transform.are_apart.Given as goal

abbrev pub invariant-loop-at : goal.invariant-loop-at
invariant-loop-at l = are_apart (bands (drop l.at l.rows)) ≡ are_apart (bands l.rows)
