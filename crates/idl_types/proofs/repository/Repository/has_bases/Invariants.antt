use Rattle.std.proofs.Common.{◌≡◌, drop}
use Rattle.std.specs.List.{list_all}
use Rattle.idl_types.specs.Finding.{is_interface}
use Rattle.idl_types.specs.Contents.{things_of}
use Rattle.idl_types.proofs.repository.Repository.has_bases.Given as goal

abbrev pub invariant-loop-base : goal.invariant-loop-base
invariant-loop-base l = list_all (is_interface (things_of l.self)) (drop l.base-index l.bases) ≡ list_all (is_interface (things_of l.self)) l.bases
