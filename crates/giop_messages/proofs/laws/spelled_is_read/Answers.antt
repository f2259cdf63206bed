use Rattle.giop_messages.proofs.ReadingLaws.{spelled_reads}
use Rattle.giop_messages.proofs.laws.spelled_is_read.Goals as goal

pub returns : goal.returns
returns c = spelled_reads
