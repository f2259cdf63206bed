use Rattle.config_tables.proofs.Reading.{each_read}
use Rattle.config_tables.proofs.entries.read_entries.Goals as goal

pub returns-clause-value : goal.returns-clause-value
returns-clause-value g c = each_read g.E.Entry.fault g.E.Entry.Means c.args.path.now c.args.list.now c.loop-value.value-index _ c.loop-value-test.false c.loop-value.invariant
