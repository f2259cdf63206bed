use Rattle.std.specs.Int.{w128}
use Rattle.std.proofs.lemmas.Int.{to_z-of_z}
use Rattle.value_json.proofs.Data.{never_else}
use Rattle.value_json.proofs.numerals.small_json.Goals as goal

pub returns-in-None : goal.returns-in-None
returns-in-None c = never_else c.args.z _ _ (to_z-of_z w128 c.args.z c.ranges.z) c.requires c.in-None.ensures
