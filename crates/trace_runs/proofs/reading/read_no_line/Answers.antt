use Rattle.std.proofs.Common.{sym}
use Rattle.trace_runs.proofs.RunsRead.{lacking_all}
use Rattle.trace_runs.proofs.reading.read_no_line.Goals as goal

pub returns-else-is_nothing : goal.returns-else-is_nothing
returns-else-is_nothing c = lacking_all c.args.text.now c.requires (sym c.if-is_nothing.ensures)
