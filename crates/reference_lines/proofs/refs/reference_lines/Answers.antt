use Rattle.std.proofs.Common.{Ok, sym, subst}
use Rattle.std.proofs.lemmas.Result.{err_from_is_err_and}
use Rattle.object_refs.specs.declared.fault.RefError.{RefError}
use Rattle.object_refs.specs.Reference.{Reference, Profile}
use Rattle.object_refs.specs.Answers.{Fails}
use Rattle.reference_lines.proofs.TextForms.{means_none, nowhere}
use Rattle.reference_lines.proofs.refs.reference_lines.Goals as goal

pub returns-in_err-ior-clause-refused : goal.returns-in_err-ior-clause-refused
returns-in_err-ior-clause-refused c =
    let p = err_from_is_err_and c.from_residual.result c.from_residual.ensures.1 in
    rw p.1 (means_none p.0 c.args.text.now (λ r is. subst (λ (e : RefError). Fails {Y = Reference} e (Ok r)) (sym p.2)
    (c.in_err-ior.ensures.only r is)))

pub returns-in_err-profile-clause-refused : goal.returns-in_err-profile-clause-refused
returns-in_err-profile-clause-refused c =
    let p = err_from_is_err_and c.from_residual-in_err-profile.result c.from_residual-in_err-profile.ensures.1 in
    rw p.1 (nowhere p.0 c.args.text.now c.in_ok-ior.ior c.in_ok-ior.ensures.found
    (λ q is. subst (λ (e : RefError). Fails {Y = Profile} e (Ok q)) (sym p.2) (c.in_err-profile.ensures.only q is)))
