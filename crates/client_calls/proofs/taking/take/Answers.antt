use Rattle.std.proofs.Common.{◌≡◌, ℕ, ◌+◌, ◌%◌, List, Ok, sym, subst, drop}
use Rattle.std.proofs.lemmas.Result.{err_from_is_err_and}
use Rattle.cdr_core.specs.Cursor.{cursor}
use Rattle.cdr_values.specs.Kinds.{kind_of}
use Rattle.cdr_values.specs.Values.{value_of}
use Rattle.client_calls.specs.Bodies.{cursor_of}
use Rattle.client_calls.specs.Replies.{value_at}
use Rattle.client_calls.proofs.Readings.{value_taken, value_untaken}
use Rattle.client_calls.proofs.taking.take.Goals as goal

pub returns-in_err-value : goal.returns-in_err-value
returns-in_err-value c =
    let p = err_from_is_err_and c.from_residual.result c.from_residual.ensures.1 in
    rw (p.1, p.2) (value_untaken c.in_err-value.field-0.0 (kind_of c.args.kind.now) (cursor_of c.args.body.now) c.in_err-value.ensures.exact)

pub returns : goal.returns
returns c =
    let b = c.args.body.now in
    let n = c.in_ok-value.len in
    let taken = value_taken (kind_of c.args.kind.now) (cursor_of b) (value_of c.in_ok-value.value) (cursor b.order (b.place + n) (drop n b.rest.now)) c.in_ok-value.ensures.exact in
    subst (λ (rest : List ℕ). value_at (kind_of c.args.kind.now) (cursor_of b) ≡ Ok (value_of c.in_ok-value.value, cursor b.order ((b.place + n) % 8) rest)) (sym c.split_at.ensures.back) taken
