use Rattle.giop_messages.proofs.WholeAgain.{only_so}
use Rattle.giop_messages.proofs.HeaderFault.{fails_so}
use Rattle.giop_messages.proofs.RefusalAgain.{told_so}
use Rattle.giop_messages.proofs.copying.read_message.Goals as goal

pub returns-clause-only : goal.returns-clause-only
returns-clause-only c = only_so c.copied_whole.result c.args.whole.now c.requires c.copied_whole.ensures.octets c.copied_whole.ensures.exact

pub returns-clause-fails : goal.returns-clause-fails
returns-clause-fails c = fails_so c.copied_whole.result c.args.whole.now c.copied_whole.ensures.octets c.copied_whole.ensures.exact

pub returns-clause-told : goal.returns-clause-told
returns-clause-told c = told_so c.copied_whole.result c.args.whole.now c.copied_whole.ensures.exact
