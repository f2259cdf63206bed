use Rattle.std.specs.Int.{w128}
use Rattle.std.proofs.lemmas.Int.{to_z-of_z}
use Rattle.serde_json.specs.View.{view}
use Rattle.value_json.proofs.Data.{none_map}
use Rattle.value_json.proofs.reading.number_from.Goals as goal

pub returns-in-None : goal.returns-in-None
returns-in-None c =
    none_map c.args.low c.args.high _ _ (view c.args.json.now) (to_z-of_z w128 c.args.low c.ranges.low) (to_z-of_z w128 c.args.high c.ranges.high) c.in-None.ensures
