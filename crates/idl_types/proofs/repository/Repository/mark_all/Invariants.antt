use Rattle.std.proofs.Common.{◌≡◌, ℕ, ◌||◌, drop}
use Rattle.std.specs.List.{list_any}
use Rattle.idl_types.specs.Bases.{is_place}
use Rattle.idl_types.specs.Contents.{things_of}
use Rattle.idl_types.specs.Marked.{is_marked}
use Rattle.idl_types.proofs.repository.Repository.mark_all.Given as goal

abbrev pub invariant-loop-id : goal.invariant-loop-id
invariant-loop-id l = (k : ℕ) → (is_marked l.marks.words k || list_any (is_place (things_of l.self) k) (drop l.id-index l.ids))
    ≡ (is_marked l.initial.marks.words k || list_any (is_place (things_of l.self) k) l.ids)
