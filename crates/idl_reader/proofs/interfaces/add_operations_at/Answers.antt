use Rattle.std.proofs.Common.{length, map, sym}
use Rattle.std.proofs.lemmas.Bool.{ltb-false}
use Rattle.std.proofs.lemmas.Option.{slice_get_past}
use Rattle.idl_types.specs.Views.{operation_of}
use Rattle.idl_reader.proofs.OneMore.{none_given}
use Rattle.idl_reader.proofs.interfaces.add_operations_at.Goals as goal

pub returns-in-None : goal.returns-in-None
returns-in-None c =
    let ts = c.args.things.now in
    none_given (map operation_of c.args.found.now.items) ts c.args.at (slice_get_past ts c.args.at (ltb-false c.args.at (length ts) (sym c.in-None.ensures.lookup.0)))
