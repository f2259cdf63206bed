use Rattle.std.proofs.Common.{◌≡◌, drop, []}
use Rattle.idl_types.specs.Names.{names_in, with_names}
use Rattle.idl_types.proofs.inheritance.each_once.Given as goal

abbrev pub invariant-loop-id : goal.invariant-loop-id
invariant-loop-id l = with_names (names_in l.known.keys) (drop l.id-index l.ids) ≡ with_names [] l.ids
