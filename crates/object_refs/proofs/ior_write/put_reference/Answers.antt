use Rattle.std.proofs.lemmas.Result.{err_from_is_err_and}
use Rattle.cdr_core.specs.Field.{string_fields}
use Rattle.cdr_core.proofs.CallerLemmas.{puts_then, puts_first}
use Rattle.cdr_core.specs.Lists.{list_fields, tagged_fields}
use Rattle.object_refs.proofs.ior_write.put_reference.Goals as goal

pub returns-in_err-put_string : goal.returns-in_err-put_string
returns-in_err-put_string c =
    let p = err_from_is_err_and c.from_residual.result c.from_residual.ensures.1 in
    rw (p.1, ← c.ior.view_is)
    (puts_first c.args.into.now c.put_string.new.self (string_fields c.ior.inside.type_id)
    (list_fields tagged_fields c.ior.inside.profiles.items) c.in_err-put_string.ensures)

pub returns : goal.returns
returns c =
    rw (← c.ior.view_is)
    (puts_then c.put_list.result c.args.into.now c.put_string.new.self c.put_list.new.into
    (string_fields c.ior.inside.type_id) (list_fields tagged_fields c.ior.inside.profiles.items)
    c.in_ok-put_string.ensures (rw c.as_slice.ensures at c.put_list.ensures))
