use Rattle.std.proofs.Common.{refl}
use Rattle.idl_types.specs.Names.{names_in}
use Rattle.idl_types.proofs.Holding.{ok_puts, ok_sets}
use Rattle.idl_types.proofs.repository.take_in.Goals as goal

pub returns-clause-names : goal.returns-clause-names
returns-clause-names c =
    ok_puts c.insert_behind.result (names_in c.args.folded.now.keys) c.args.low.items (names_in c.put_behind.new.names.keys) (c.insert_behind.ensures.room c.in_ok-reserve.ensures.ok) c.in_ok-put_behind.ensures

pub returns-clause-free : goal.returns-clause-free
returns-clause-free c = ok_sets c.insert_behind.result c.args.free.now c.args.left c.args.left (c.insert_behind.ensures.room c.in_ok-reserve.ensures.ok) refl
