use Rattle.giop_messages.proofs.Written.{streams_written, reads_written, uncut_written}
use Rattle.giop_messages.proofs.laws.written_is_read.Goals as goal

pub returns-clause-stream : goal.returns-clause-stream
returns-clause-stream c = streams_written

pub returns-clause-read : goal.returns-clause-read
returns-clause-read c = reads_written

pub returns-clause-uncut : goal.returns-clause-uncut
returns-clause-uncut c = uncut_written
