use Rattle.std.proofs.Common.{◌∷◌, []}
use Rattle.std.proofs.lemmas.Result.{err_from_is_err_and}
use Rattle.std.specs.Int.{w32}
use Rattle.cdr_core.specs.Field.{number}
use Rattle.cdr_core.proofs.CallerLemmas.{puts_then, puts_first}
use Rattle.giop_messages.proofs.write.put_located.Goals as goal

pub returns-in_err-put_u32 : goal.returns-in_err-put_u32
returns-in_err-put_u32 c =
    let p = err_from_is_err_and c.from_residual.result c.from_residual.ensures.1 in
    rw p.1 (puts_first c.args.into.now c.put_u32.new.self (number w32 c.args.located.id ∷ []) (number w32 c.args.located.status ∷ []) c.in_err-put_u32.ensures)

pub returns : goal.returns
returns c = puts_then c.put_u32-2.result c.args.into.now c.put_u32.new.self c.put_u32-2.new.self (number w32 c.args.located.id ∷ []) (number w32 c.args.located.status ∷ []) c.in_ok-put_u32.ensures c.put_u32-2.ensures
