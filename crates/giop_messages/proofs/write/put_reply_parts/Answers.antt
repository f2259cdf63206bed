use Rattle.std.proofs.Common.{◌∷◌, ◌++◌, []}
use Rattle.std.proofs.lemmas.Result.{err_from_is_err_and}
use Rattle.std.specs.Int.{w32}
use Rattle.cdr_core.specs.Field.{number}
use Rattle.cdr_core.proofs.CallerLemmas.{written_both, front_then, puts_then, puts_first}
use Rattle.giop_messages.specs.Layout.{contexts_fields, body_fields}
use Rattle.giop_messages.proofs.PutLaws.{room_between}
use Rattle.giop_messages.proofs.write.put_reply_parts.Goals as goal

pub returns-in_err-put_u32 : goal.returns-in_err-put_u32
returns-in_err-put_u32 c =
    let p = err_from_is_err_and c.from_residual.result c.from_residual.ensures.1 in
    rw p.1 (puts_first c.args.into.now c.put_u32.new.self (number w32 c.args.id ∷ []) (number w32 c.args.status ∷ contexts_fields c.args.contexts.now ++ body_fields c.args.body.now) c.in_err-put_u32.ensures)

pub returns-in_err-put_u32-2 : goal.returns-in_err-put_u32-2
returns-in_err-put_u32-2 c =
    let p = err_from_is_err_and c.from_residual-in_err-put_u32-2.result c.from_residual-in_err-put_u32-2.ensures.1 in
    rw p.1 (front_then p.0 c.args.into.now c.put_u32.new.self c.put_u32-2.new.self (number w32 c.args.id ∷ []) (number w32 c.args.status ∷ []) (contexts_fields c.args.contexts.now ++ body_fields c.args.body.now) c.in_ok-put_u32.ensures c.in_err-put_u32-2.ensures)

pub put_contexts-requires : goal.put_contexts-requires
put_contexts-requires c =
    (room_between c.args.into.now c.put_u32-2.new.self (number w32 c.args.id ∷ number w32 c.args.status ∷ []) (contexts_fields c.args.contexts.now) (body_fields c.args.body.now) (written_both c.args.into.now c.put_u32.new.self c.put_u32-2.new.self (number w32 c.args.id ∷ []) (number w32 c.args.status ∷ []) c.in_ok-put_u32.ensures c.in_ok-put_u32-2.ensures) c.requires)

pub returns-in_err-put_contexts : goal.returns-in_err-put_contexts
returns-in_err-put_contexts c =
    let p = err_from_is_err_and c.from_residual-in_err-put_contexts.result c.from_residual-in_err-put_contexts.ensures.1 in
    rw p.1 (front_then p.0 c.args.into.now c.put_u32-2.new.self c.put_contexts.new.into (number w32 c.args.id ∷ number w32 c.args.status ∷ []) (contexts_fields c.args.contexts.now) (body_fields c.args.body.now) (written_both c.args.into.now c.put_u32.new.self c.put_u32-2.new.self (number w32 c.args.id ∷ []) (number w32 c.args.status ∷ []) c.in_ok-put_u32.ensures c.in_ok-put_u32-2.ensures) c.in_err-put_contexts.ensures)

pub returns : goal.returns
returns c =
    (puts_then c.put_body.result c.args.into.now c.put_contexts.new.into c.put_body.new.into (number w32 c.args.id ∷ number w32 c.args.status ∷ contexts_fields c.args.contexts.now) (body_fields c.args.body.now) (written_both c.args.into.now c.put_u32-2.new.self c.put_contexts.new.into (number w32 c.args.id ∷ number w32 c.args.status ∷ []) (contexts_fields c.args.contexts.now) (written_both c.args.into.now c.put_u32.new.self c.put_u32-2.new.self (number w32 c.args.id ∷ []) (number w32 c.args.status ∷ []) c.in_ok-put_u32.ensures c.in_ok-put_u32-2.ensures) c.in_ok-put_contexts.ensures) c.put_body.ensures)
