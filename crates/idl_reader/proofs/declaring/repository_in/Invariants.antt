use Rattle.std.proofs.Common.{◌≡◌, ◌++◌, drop, map}
use Rattle.idl_scopes.specs.Views.{table_of}
use Rattle.idl_types.specs.Contents.{things_of}
use Rattle.idl_names.specs.Views.{thing_of}
use Rattle.idl_reader.specs.Declared.{declared_from}
use Rattle.idl_reader.proofs.declaring.repository_in.Given as goal

abbrev pub invariant-loop-at : goal.invariant-loop-at
invariant-loop-at l =
    let all = map thing_of l.things in
    let table = table_of l.scopes in
    things_of l.repository ++ declared_from table all l.at (drop l.at all) ≡ declared_from table all 0 all
