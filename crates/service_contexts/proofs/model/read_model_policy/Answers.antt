use Rattle.std.proofs.Common.{◌≡◌, rules}
use Rattle.cdr_core.specs.Cursor.{AreBytes}
use Rattle.service_contexts.specs.Layout.{ModelValue, IsModelValue, model_fields}
use Rattle.service_contexts.specs.Reading.{model_at, carried}
use Rattle.service_contexts.proofs.Carried.{exactly, model_law}
use Rattle.service_contexts.proofs.model.read_model_policy.Goals as goal

pub returns-clause-carries : goal.returns-clause-carries
unfolding carried
returns-clause-carries c =
    let fits : AreBytes c.args.bytes.now = search rules in
    let same : c.take_model.result ≡ carried model_at c.args.bytes.now = search rules in
    exactly ModelValue IsModelValue model_fields model_at model_law c.take_model.result c.args.bytes.now fits same
