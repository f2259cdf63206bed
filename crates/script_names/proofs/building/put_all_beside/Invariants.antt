use Rattle.std.proofs.Common.{◌≡◌, drop}
use Rattle.idl_types.specs.Contents.{things_of}
use Rattle.script_names.specs.Meanings.{beside}
use Rattle.script_names.specs.Views.{pairs_of, with_pairs}
use Rattle.script_names.proofs.building.put_all_beside.Given as goal

abbrev pub invariant-loop-place : goal.invariant-loop-place
invariant-loop-place l = with_pairs (pairs_of l.index.entries) (beside l.place (drop l.place (things_of l.repository)))
    ≡ with_pairs (pairs_of l.initial.index.entries) (beside 0 (things_of l.repository))
