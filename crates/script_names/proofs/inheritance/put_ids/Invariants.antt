use Rattle.std.proofs.Common.{◌≡◌, drop}
use Rattle.idl_types.specs.Names.{names_in, with_names}
use Rattle.script_names.proofs.inheritance.put_ids.Given as goal

abbrev pub invariant-loop-id : goal.invariant-loop-id
invariant-loop-id l = with_names (names_in l.ids.keys) (names_in (drop l.id-index l.more)) ≡ with_names (names_in l.initial.ids.keys) (names_in l.more)
