use Rattle.std.proofs.Common.{◌∷◌, []}
use Rattle.std.proofs.lemmas.Result.{err_from_is_err_and}
use Rattle.std.specs.Int.{w32}
use Rattle.cdr_core.specs.Field.{number, octets_fields}
use Rattle.cdr_core.proofs.Pages.{puts_then, puts_first}
use Rattle.cdr_core.proofs.writer.Writer.put_item.Goals as goal

pub returns-in_err-put_u32 : goal.returns-in_err-put_u32
returns-in_err-put_u32 c =
    let p = err_from_is_err_and c.from_residual.result c.from_residual.ensures.1 in
    rw p.1 (puts_first c.args.self.now c.put_u32.new.self (number w32 c.args.number ∷ []) (octets_fields c.args.bytes.now) c.in_err-put_u32.ensures)

pub returns : goal.returns
returns c = puts_then c.put_octets.result c.args.self.now c.put_u32.new.self c.put_octets.new.self (number w32 c.args.number ∷ []) (octets_fields c.args.bytes.now) c.in_ok-put_u32.ensures c.put_octets.ensures
