use Rattle.std.proofs.Common.{◌≡◌, map, take}
use Rattle.idl_scopes.specs.Ids.{id_of}
use Rattle.idl_scopes.specs.Views.{table_of}
use Rattle.idl_reader.proofs.interfaces.ids_of.Given as goal

abbrev pub invariant-loop-place : goal.invariant-loop-place
invariant-loop-place l = l.ids.items ≡ map (id_of (table_of l.scopes)) (take l.place-index l.places)
