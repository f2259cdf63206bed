use Rattle.giop_messages.proofs.PartsWhole.{parts_only, parts_told}
use Rattle.giop_messages.proofs.read.read_parts.Goals as goal

pub returns-clause-only : goal.returns-clause-only
returns-clause-only c = parts_only c.behind_header.result c.args.whole.now c.requires c.behind_header.ensures.octets c.behind_header.ensures.exact

pub returns-clause-told : goal.returns-clause-told
returns-clause-told c = parts_told c.behind_header.result c.args.whole.now c.behind_header.ensures.exact
