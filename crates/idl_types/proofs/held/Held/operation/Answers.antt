use Rattle.std.proofs.Common.{◌∙◌, sym, ap, List}
use Rattle.std.specs.Prelude.{slice_get}
use Rattle.idl_types.specs.Things.{OperationView, operations_of}
use Rattle.idl_types.specs.Views.{thing_of}
use Rattle.idl_types.specs.Finding.{has_name}
use Rattle.idl_types.proofs.Places.{found_at, not_found, place_by_name}
use Rattle.idl_types.proofs.held.Held.operation.Goals as goal

pub returns-in-Some : goal.returns-in-Some
returns-in-Some c =
    let h = c.args.self.now in
    let os = operations_of (thing_of h.declaration) in
    c.operation_at.ensures
    ∙ ap (λ (xs : List OperationView). slice_get xs c.in-Some.at) c.operations.ensures
    ∙ sym (found_at (has_name c.args.name.now) os c.in-Some.at (sym (place_by_name c.args.name.now h.names.keys os h.indexed) ∙ sym c.in-Some.ensures.index))

pub returns-in-None : goal.returns-in-None
returns-in-None c =
    let h = c.args.self.now in
    let os = operations_of (thing_of h.declaration) in
    sym (not_found (has_name c.args.name.now) os (sym (place_by_name c.args.name.now h.names.keys os h.indexed) ∙ sym c.in-None.ensures.index))
