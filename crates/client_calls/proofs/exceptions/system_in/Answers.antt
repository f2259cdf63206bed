use Rattle.std.proofs.Common.{◌≡◌, Ok, subst}
use Rattle.std.proofs.lemmas.Result.{err_from_is_err_and}
use Rattle.cdr_values.specs.Gives.{Refuses}
use Rattle.cdr_values.specs.declared.fault.DecodeFault.TheVariants.{Cdr}
use Rattle.cdr_core.specs.Cursor.{Cursor, cursor}
use Rattle.cdr_core.specs.Reading.{string_at}
use Rattle.client_calls.proofs.Readings.{system_taken, no_id, no_minor, no_completed}
use Rattle.client_calls.proofs.exceptions.system_in.Goals as goal

pub returns-in_err-id : goal.returns-in_err-id
returns-in_err-id c =
    let p = err_from_is_err_and c.from_residual.result c.from_residual.ensures.1 in
    let at = subst (λ (r : Cursor). Refuses c.in_err-id.field-0.0 (string_at r)) c.new-reader.ensures c.in_err-id.ensures in
    rw (p.1, p.2) (no_id c.in_err-id.field-0.0 (cursor c.args.order 0 c.args.body.now) at)

pub returns-in_err-minor : goal.returns-in_err-minor
returns-in_err-minor c =
    let p = err_from_is_err_and c.from_residual-in_err-minor.result c.from_residual-in_err-minor.ensures.1 in
    let one = subst (λ (r : Cursor). string_at r ≡ Ok (c.in_ok-id.id, c.take_text.new.reader)) c.new-reader.ensures c.in_ok-id.ensures in
    rw (p.1, p.2) (no_minor (Cdr c.in_err-minor.field-0.0) (cursor c.args.order 0 c.args.body.now) c.take_text.new.reader c.in_ok-id.id one c.in_err-minor.ensures.exact.0)

pub returns-in_err-completed : goal.returns-in_err-completed
returns-in_err-completed c =
    let p = err_from_is_err_and c.from_residual-in_err-completed.result c.from_residual-in_err-completed.ensures.1 in
    let one = subst (λ (r : Cursor). string_at r ≡ Ok (c.in_ok-id.id, c.take_text.new.reader)) c.new-reader.ensures c.in_ok-id.ensures in
    rw (p.1, p.2) (no_completed (Cdr c.in_err-completed.field-0.0) (cursor c.args.order 0 c.args.body.now) c.take_text.new.reader c.take_u32.new.self c.in_ok-id.id c.in_ok-minor.minor one c.in_ok-minor.ensures.exact
    c.in_err-completed.ensures.exact.0)

pub returns : goal.returns
returns c =
    let one = subst (λ (r : Cursor). string_at r ≡ Ok (c.in_ok-id.id, c.take_text.new.reader)) c.new-reader.ensures c.in_ok-id.ensures in (
      c.take_u32-2.new.self,
      system_taken (cursor c.args.order 0 c.args.body.now) c.take_text.new.reader c.take_u32.new.self c.take_u32-2.new.self c.in_ok-id.id c.in_ok-minor.minor c.in_ok-completed.completed
          one c.in_ok-minor.ensures.exact c.in_ok-completed.ensures.exact,
    )
