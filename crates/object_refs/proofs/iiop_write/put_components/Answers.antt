use Rattle.cdr_core.proofs.CallerLemmas.{written_none}
use Rattle.object_refs.proofs.iiop_write.put_components.Goals as goal

pub returns-else-present : goal.returns-else-present
returns-else-present c = rw c.if-present.false (written_none c.args.into.now)
