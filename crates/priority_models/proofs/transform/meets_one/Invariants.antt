use Rattle.std.proofs.Common.{◌≡◌, drop}
use Rattle.std.specs.List.{list_any}
use Rattle.orb_base.specs.Apart.{overlap}
use Rattle.priority_models.specs.Transforms.{bands}
use Rattle.priority_models.proofs.transform.meets_one.Given as goal

abbrev pub invariant-loop-row : goal.invariant-loop-row
invariant-loop-row l = list_any (overlap l.band) (bands (drop l.row-index l.rows)) ≡ list_any (overlap l.band) (bands l.rows)
