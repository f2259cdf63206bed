use Rattle.value_json.proofs.Loops.{found_member}
use Rattle.value_json.proofs.objects.found.Goals as goal

pub returns : goal.returns
returns c = found_member c.get.result c.args.key.now c.args.object.now.entries c.get.ensures.value
