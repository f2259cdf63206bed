use Rattle.std.proofs.Common.{◌≡◌, drop, map}
use Rattle.idl_names.specs.Interfaces.{leaves_from}
use Rattle.idl_names.specs.Views.{thing_of}
use Rattle.idl_names.proofs.inheritance.leaves_in.Given as goal

abbrev pub invariant-loop-place : goal.invariant-loop-place
invariant-loop-place l = leaves_from (map thing_of l.things) l.total (drop l.place-index l.places) ≡ leaves_from (map thing_of l.things) 0 l.places
