use Rattle.giop_dump.proofs.WrittenLaws.{shows_written}
use Rattle.giop_dump.proofs.laws.written_is_shown.Goals as goal

pub returns : goal.returns
returns c = shows_written
