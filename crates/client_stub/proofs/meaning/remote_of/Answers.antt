use Rattle.client_stub.proofs.Texts.{only_of}
use Rattle.client_stub.proofs.meaning.remote_of.Goals as goal

pub returns-clause-only : goal.returns-clause-only
returns-clause-only c = only_of c.meant.result c.args.text.now c.meant.ensures.exact
