use Rattle.std.proofs.Common.{◌∷◌, [], Err}
use Rattle.std.proofs.lemmas.Result.{err_from_is_err_and}
use Rattle.std.specs.Int.{w32}
use Rattle.cdr_core.specs.Field.{number}
use Rattle.cdr_core.proofs.CallerLemmas.{puts_then, puts_first}
use Rattle.giop_messages.specs.Layout.{target_fields}
use Rattle.giop_messages.specs.TargetView.{target_of}
use Rattle.giop_messages.proofs.PutLaws.{room_first, room_then, puts_nil}
use Rattle.giop_messages.proofs.write.put_locate.Goals as goal

pub returns-in_err-put_u32 : goal.returns-in_err-put_u32
returns-in_err-put_u32 c =
    let p = err_from_is_err_and c.from_residual.result c.from_residual.ensures.1 in
    rw (p.1, ← c.locate.view_is) (puts_nil (Err p.0) c.args.into.now c.put_u32.new.self (number w32 c.locate.inside.id ∷ target_fields (target_of c.locate.inside.target)) (puts_first c.args.into.now c.put_u32.new.self (number w32 c.locate.inside.id ∷ []) (target_fields (target_of c.locate.inside.target)) c.in_err-put_u32.ensures))

pub put_target-requires : goal.put_target-requires
put_target-requires c =
    let room = rw (← c.locate.view_is) at c.requires in
    room_then c.args.into.now c.put_u32.new.self (number w32 c.locate.inside.id ∷ []) (target_fields (target_of c.locate.inside.target)) c.in_ok-put_u32.ensures (room_first c.args.into.now.place (number w32 c.locate.inside.id ∷ target_fields (target_of c.locate.inside.target)) [] room)

pub returns : goal.returns
returns c =
    rw (← c.locate.view_is) (puts_nil c.put_target.result c.args.into.now c.put_target.new.into (number w32 c.locate.inside.id ∷ target_fields (target_of c.locate.inside.target))
    (puts_then c.put_target.result c.args.into.now c.put_u32.new.self c.put_target.new.into (number w32 c.locate.inside.id ∷ []) (target_fields (target_of c.locate.inside.target)) c.in_ok-put_u32.ensures c.put_target.ensures))
