use Rattle.std.proofs.Common.{Ok, sym, subst}
use Rattle.std.proofs.lemmas.Result.{err_from_is_err_and}
use Rattle.object_refs.specs.declared.fault.RefError.{RefError}
use Rattle.object_refs.specs.Reference.{Location}
use Rattle.object_refs.specs.Answers.{Fails}
use Rattle.reference_lines.proofs.TextForms.{names_none}
use Rattle.reference_lines.proofs.refs.location_lines.Goals as goal

pub returns-in_err-location-clause-refused : goal.returns-in_err-location-clause-refused
returns-in_err-location-clause-refused c =
    let p = err_from_is_err_and c.from_residual.result c.from_residual.ensures.1 in
    rw p.1 (names_none p.0 c.args.text.now (λ l is. subst (λ (e : RefError). Fails {Y = Location} e (Ok l)) (sym p.2)
    (c.in_err-location.ensures.only l is)))
