use Rattle.std.proofs.Common.{◌∷◌, []}
use Rattle.std.proofs.lemmas.Result.{err_from_is_err_and}
use Rattle.std.specs.Int.{w8, w32}
use Rattle.cdr_core.specs.Field.{number, run}
use Rattle.cdr_core.proofs.CallerLemmas.{written_both, front_then, puts_then, puts_first}
use Rattle.request_writer.proofs.request.put_request_head.Goals as goal

pub returns-in_err-put_u32 : goal.returns-in_err-put_u32
returns-in_err-put_u32 c =
    let p = err_from_is_err_and c.from_residual.result c.from_residual.ensures.1 in
    rw p.1 (puts_first c.args.into.now c.put_u32.new.self (number w32 c.args.id ∷ []) (number w8 c.args.flags ∷ run 1 (0 ∷ 0 ∷ 0 ∷ []) ∷ []) c.in_err-put_u32.ensures)

pub returns-in_err-put_u8 : goal.returns-in_err-put_u8
returns-in_err-put_u8 c =
    let p = err_from_is_err_and c.from_residual-in_err-put_u8.result c.from_residual-in_err-put_u8.ensures.1 in
    rw p.1 (front_then p.0 c.args.into.now c.put_u32.new.self c.put_u8.new.self (number w32 c.args.id ∷ []) (number w8 c.args.flags ∷ []) (run 1 (0 ∷ 0 ∷ 0 ∷ []) ∷ []) c.in_ok-put_u32.ensures c.in_err-put_u8.ensures)

pub returns : goal.returns
returns c =
    puts_then c.put_run.result c.args.into.now c.put_u8.new.self c.put_run.new.self (number w32 c.args.id ∷ number w8 c.args.flags ∷ []) (run 1 (0 ∷ 0 ∷ 0 ∷ []) ∷ [])
    (written_both c.args.into.now c.put_u32.new.self c.put_u8.new.self (number w32 c.args.id ∷ []) (number w8 c.args.flags ∷ []) c.in_ok-put_u32.ensures c.in_ok-put_u8.ensures) c.put_run.ensures
