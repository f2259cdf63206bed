use Rattle.std.proofs.Common.{◌∷◌, []}
use Rattle.std.proofs.lemmas.Result.{err_from_is_err_and}
use Rattle.std.specs.Int.{w16}
use Rattle.cdr_core.specs.Field.{number, octets_fields}
use Rattle.cdr_core.proofs.CallerLemmas.{puts_then, puts_first}
use Rattle.request_writer.proofs.part.put_key.Goals as goal

pub returns-in_err-put_u16 : goal.returns-in_err-put_u16
returns-in_err-put_u16 c =
    let p = err_from_is_err_and c.from_residual.result c.from_residual.ensures.1 in
    rw p.1 (puts_first c.args.into.now c.put_u16.new.self (number w16 0 ∷ []) (octets_fields c.args.bytes.now) c.in_err-put_u16.ensures)

pub returns : goal.returns
returns c = puts_then c.put_octets.result c.args.into.now c.put_u16.new.self c.put_octets.new.self (number w16 0 ∷ []) (octets_fields c.args.bytes.now) c.in_ok-put_u16.ensures c.put_octets.ensures
