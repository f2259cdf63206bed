use Rattle.std.proofs.Common.{◌∙◌, ap}
use Rattle.idl_types.specs.Names.{names_in, with_name}
use Rattle.idl_types.proofs.EachOnce as each
use Rattle.script_names.proofs.inheritance.put_id.Goals as goal

pub returns : goal.returns
returns c =
    let ns = c.args.ids.now.keys in
    ap names_in c.in_ok-insert.ensures.keys ∙ each.put_once ns c.in_ok-id.id ∙ ap (with_name (names_in ns)) c.in_ok-id.ensures.items
