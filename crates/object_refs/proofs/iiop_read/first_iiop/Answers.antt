use Rattle.std.proofs.Common.{◌≡◌, ℕ, List, Some, Err, subst, rules}
use Rattle.std.specs.Prelude.{IfErr, IfSome}
use Rattle.object_refs.specs.declared.fault.RefFault.{RefFault}
use Rattle.object_refs.specs.Answers.{Answers, fault_of}
use Rattle.object_refs.specs.Profiles.{first_of}
use Rattle.object_refs.specs.Reference.{Profile}
use Rattle.object_refs.specs.Refusing.{RefusesProfile}
use Rattle.object_refs.proofs.Refused.{first_fails, first_told}
use Rattle.object_refs.proofs.iiop_read.first_iiop.Goals as goal

pub returns-in-Some-clause-fails : goal.returns-in-Some-clause-fails
returns-in-Some-clause-fails c =
    let first : first_of c.args.ior.now.profiles ≡ Some c.in-Some.tagged.now = search rules in
    let bytes : c.as_slice-in-Some.result.now ≡ c.in-Some.tagged.now.bytes = search rules in
    first_fails c.args.ior.now c.in-Some.tagged.now c.meant.result first
    (subst (λ (b : List ℕ). IfErr c.meant.result (λ e. IfSome (fault_of e) (RefusesProfile b))) bytes c.meant.ensures.fails)

pub returns-in-Some-clause-told : goal.returns-in-Some-clause-told
returns-in-Some-clause-told c =
    let first : first_of c.args.ior.now.profiles ≡ Some c.in-Some.tagged.now = search rules in
    let bytes : c.as_slice-in-Some.result.now ≡ c.in-Some.tagged.now.bytes = search rules in
    first_told c.args.ior.now c.in-Some.tagged.now c.meant.result first
    (subst (λ (b : List ℕ). (f : RefFault) → RefusesProfile b f → Answers {Y = Profile} (λ p. p) c.meant.result (Err f)) bytes
    c.meant.ensures.told)
