use Rattle.giop_dump.proofs.Growing.{text_grows, refusal_stays}
use Rattle.giop_dump.proofs.laws.dumps_go_on.Goals as goal

pub returns : goal.returns
returns c = record { text = text_grows; refusal = refusal_stays }
