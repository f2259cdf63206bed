use Rattle.std.proofs.Common.{◌≡◌, ℕ, rules}
use Rattle.cdr_core.specs.Cursor.{AreBytes}
use Rattle.service_contexts.specs.Layout.{IsPriority, priority_fields}
use Rattle.service_contexts.specs.Reading.{priority_at, carried}
use Rattle.service_contexts.proofs.Carried.{exactly, priority_law}
use Rattle.service_contexts.proofs.read.read_priority.Goals as goal

pub returns-clause-carries : goal.returns-clause-carries
unfolding carried
returns-clause-carries c =
    let fits : AreBytes c.args.bytes.now = search rules in
    let same : c.take_priority.result ≡ carried priority_at c.args.bytes.now = search rules in
    exactly ℕ IsPriority priority_fields priority_at priority_law c.take_priority.result c.args.bytes.now fits same
