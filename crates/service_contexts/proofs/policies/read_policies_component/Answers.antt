use Rattle.std.proofs.Common.{◌≡◌, IfOk, rules}
use Rattle.std.specs.Option.{option_map}
use Rattle.cdr_core.specs.Cursor.{AreBytes}
use Rattle.service_contexts.specs.Moves.{items_of}
use Rattle.service_contexts.specs.Policies.{policies_at}
use Rattle.service_contexts.specs.Reading.{carried}
use Rattle.service_contexts.proofs.Published.{policies_exactly}
use Rattle.service_contexts.proofs.policies.read_policies_component.Goals as goal

pub returns-in-Ok-clause-carries : goal.returns-in-Ok-clause-carries
unfolding carried
returns-in-Ok-clause-carries c =
    let fits : AreBytes c.args.bytes.now = search rules in
    let same : IfOk c.take_policies.result (λ policies. option_map items_of policies ≡ carried policies_at c.args.bytes.now) =
    search rules in
    policies_exactly c.take_policies.result c.args.bytes.now fits same
