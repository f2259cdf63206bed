use Rattle.std.proofs.Common.{◌≡◌, drop, map}
use Rattle.serde_json.specs.View.{view}
use Rattle.value_json.specs.Shown.{ahead}
use Rattle.value_json.proofs.Answering.{coming}
use Rattle.value_json.proofs.results.outs_json.Given as goal

abbrev pub invariant-loop-param : goal.invariant-loop-param
invariant-loop-param l = ahead (map view l.list.items) (coming (drop l.param-index l.params) l.rest) ≡ ahead (map view l.fn.before.items) (coming l.params l.values)
