use Rattle.std.proofs.Common.{◌≡◌, Some, sym, rules}
use Rattle.idl_types.specs.Things.{interface}
use Rattle.idl_types.specs.Views.{interface_of}
use Rattle.idl_types.specs.Inherited.{inherits_in}
use Rattle.idl_types.specs.Finding.{has_id, thing_named}
use Rattle.idl_types.specs.Contents.{things_of}
use Rattle.idl_types.proofs.Inheriting.{found_passes}
use Rattle.idl_types.proofs.repository.Repository.interface.Goals as goal

pub returns-in-Some-Interface-clause-inherited : goal.returns-in-Some-Interface-clause-inherited
returns-in-Some-Interface-clause-inherited c =
    let s = c.args.self.now in
    let i = interface (interface_of c.in-Some-Interface.interface) in
    let at : Some i ≡ thing_named (things_of s) c.args.id.now = search rules in
    found_passes (has_id c.args.id.now) (inherits_in (things_of s)) (things_of s) i (sym at) s.inherited
