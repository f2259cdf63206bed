use Rattle.std.proofs.Common.{refl}
use Rattle.std.proofs.lemmas.Result.{err_from_is_err_and}
use Rattle.cdr_values.specs.Kinds.{kind_of}
use Rattle.cdr_values.specs.Values.{value_of}
use Rattle.dynamic_servants.proofs.Beginnings.{taken, untaken}
use Rattle.dynamic_servants.proofs.arguments.take.Goals as goal

pub returns-in_err-value : goal.returns-in_err-value
returns-in_err-value c = λ d at.
    let p = err_from_is_err_and c.from_residual.result c.from_residual.ensures.1 in
    rw (p.1, p.2) (untaken c.in_err-value.field-0.0 (kind_of c.args.kind.now) c.args.body.now d at c.in_err-value.ensures.exact)

pub returns : goal.returns
returns c = λ d at.
    taken (value_of c.in_ok-value.value) c.in_ok-value.len (kind_of c.args.kind.now) c.args.body.now _ d at c.in_ok-value.ensures.exact refl refl c.split_at.ensures.back
