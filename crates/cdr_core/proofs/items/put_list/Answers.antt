use Rattle.std.proofs.Common.{◌∷◌, [], length}
use Rattle.std.proofs.lemmas.Result.{err_from_is_err_and}
use Rattle.std.specs.Int.{w32}
use Rattle.std.specs.List.{flat_map}
use Rattle.cdr_core.specs.Field.{number}
use Rattle.cdr_core.specs.Lists.{item_fields}
use Rattle.cdr_core.proofs.Pages.{puts_then, puts_first}
use Rattle.cdr_core.proofs.items.put_list.Goals as goal

pub returns-in_err-put_u32 : goal.returns-in_err-put_u32
returns-in_err-put_u32 g c =
    let p = err_from_is_err_and c.from_residual.result c.from_residual.ensures.1 in
    rw p.1 (puts_first c.args.into.now c.put_u32.new.self (number w32 (length c.args.list.now) ∷ [])
    (flat_map (λ x. item_fields (g.T.Item.item x)) c.args.list.now) c.in_err-put_u32.ensures)

pub returns : goal.returns
returns g c =
    puts_then c.put_each.result c.args.into.now c.put_u32.new.self c.put_each.new.into
    (number w32 (length c.args.list.now) ∷ []) (flat_map (λ x. item_fields (g.T.Item.item x)) c.args.list.now)
    c.in_ok-put_u32.ensures c.put_each.ensures
