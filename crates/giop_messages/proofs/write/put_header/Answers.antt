use Rattle.std.proofs.Common.{◌∷◌, ◌++◌, []}
use Rattle.std.proofs.lemmas.Result.{err_from_is_err_and}
use Rattle.std.specs.Int.{w32}
use Rattle.cdr_core.specs.Field.{number, run}
use Rattle.cdr_core.proofs.CallerLemmas.{puts_then, puts_first}
use Rattle.giop_frames.specs.Headers.{magic}
use Rattle.cdr_core.specs.Encapsulation.{order_byte}
use Rattle.giop_messages.proofs.write.put_header.Goals as goal

pub returns-in_err-put_run : goal.returns-in_err-put_run
returns-in_err-put_run c =
    let p = err_from_is_err_and c.from_residual.result c.from_residual.ensures.1 in
    rw p.1 (puts_first c.args.into.now c.put_run.new.self (run 1 (magic ++ 1 ∷ 2 ∷ order_byte c.args.order ∷ c.args.kind ∷ []) ∷ []) (number w32 c.args.size ∷ []) (rw c.header_start-head.ensures at c.in_err-put_run.ensures))

pub returns : goal.returns
returns c = puts_then c.put_u32.result c.args.into.now c.put_run.new.self c.put_u32.new.self (run 1 (magic ++ 1 ∷ 2 ∷ order_byte c.args.order ∷ c.args.kind ∷ []) ∷ []) (number w32 c.args.size ∷ []) (rw c.header_start-head.ensures at c.in_ok-put_run.ensures) c.put_u32.ensures
