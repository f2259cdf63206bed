use Rattle.std.proofs.Common.{◌≡◌, take}
use Rattle.cdr_values.specs.Trees.{Name}
use Rattle.idl_types.specs.Contents.{things_of}
use Rattle.script_names.specs.Inherited.{bases_of}
use Rattle.script_names.specs.Views.{listed}
use Rattle.script_names.proofs.building.bases_in.Given as goal

abbrev pub invariant-loop-place : goal.invariant-loop-place
invariant-loop-place l = (id : Name) → listed l.index.entries id ≡ bases_of (take l.place (things_of l.repository)) id
