use Rattle.trace_reading.proofs.Printed.{reads_back, were_written}
use Rattle.trace_reading.proofs.laws.lines_read_back.Goals as goal

pub returns : goal.returns
returns c = record { back = reads_back; written = were_written }
