use Rattle.std.proofs.Common.{◌∷◌, []}
use Rattle.std.proofs.lemmas.Result.{err_from_is_err_and}
use Rattle.std.specs.Int.{w16}
use Rattle.cdr_core.specs.Field.{number}
use Rattle.cdr_core.proofs.CallerLemmas.{puts_then, puts_first}
use Rattle.cdr_core.specs.Lists.{tagged_fields}
use Rattle.giop_messages.proofs.PutLaws.{room_then}
use Rattle.request_writer.proofs.part.put_profile.Goals as goal

pub returns-in_err-put_u16 : goal.returns-in_err-put_u16
returns-in_err-put_u16 c =
    let p = err_from_is_err_and c.from_residual.result c.from_residual.ensures.1 in
    rw p.1 (puts_first c.args.into.now c.put_u16.new.self (number w16 1 ∷ []) (tagged_fields c.args.tagged.now) c.in_err-put_u16.ensures)

pub put_tagged-requires : goal.put_tagged-requires
put_tagged-requires c = room_then c.args.into.now c.put_u16.new.self (number w16 1 ∷ []) (tagged_fields c.args.tagged.now) c.in_ok-put_u16.ensures c.requires

pub returns : goal.returns
returns c = puts_then c.put_tagged.result c.args.into.now c.put_u16.new.self c.put_tagged.new.into (number w16 1 ∷ []) (tagged_fields c.args.tagged.now) c.in_ok-put_u16.ensures c.put_tagged.ensures
