use Rattle.config_tables.proofs.Reading.{Reads}
use Rattle.config_tables.proofs.entries.read_entries.Given as goal

abbrev pub invariant-loop-value : goal.invariant-loop-value
invariant-loop-value g l = Reads g.E.Entry.fault g.E.Entry.Means l.path l.list l.value-index l.entries.items
