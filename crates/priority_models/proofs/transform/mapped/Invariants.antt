use Rattle.std.proofs.Common.{◌≡◌, drop}
use Rattle.priority_models.specs.Transforms.{mapped}
use Rattle.priority_models.proofs.transform.mapped.Given as goal

abbrev pub invariant-loop-row : goal.invariant-loop-row
invariant-loop-row l = mapped (drop l.row-index l.rows) l.p ≡ mapped l.rows l.p
