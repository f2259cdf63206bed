use Rattle.config_tables.proofs.Known.{unknown_at}
use Rattle.config_tables.proofs.members.known_keys.Goals as goal

pub returns-in-None : goal.returns-in-None
returns-in-None c =
    let found = unknown_at c.unknown_key.result c.args.known.now c.args.table.now.entries c.unknown_key.ensures in
    rw (rw c.in-None.is at found)

pub returns-in-Some : goal.returns-in-Some
returns-in-Some c =
    let found = unknown_at c.unknown_key.result c.args.known.now c.args.table.now.entries c.unknown_key.ensures in
    rw (rw c.in-Some.is at found) (rw c.as_str.ensures.value at c.refuse_key.ensures)
