use Rattle.cdr_core.proofs.CallerLemmas.{written_none}
use Rattle.giop_messages.proofs.write.put_fields.Goals as goal

pub returns-in-Close : goal.returns-in-Close
returns-in-Close c = rw c.in-Close.is (written_none c.args.into.now)

pub returns-in-Error : goal.returns-in-Error
returns-in-Error c = rw c.in-Error.is (written_none c.args.into.now)
