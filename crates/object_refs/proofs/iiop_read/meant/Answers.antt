use Rattle.std.proofs.Common.{rules}
use Rattle.cdr_core.specs.Cursor.{AreBytes}
use Rattle.object_refs.specs.Profiles.{IsProfile}
use Rattle.object_refs.specs.ProfileReading.{profile_of}
use Rattle.object_refs.specs.Reference.{Profile}
use Rattle.object_refs.proofs.Steps.{found_so, only_so, fails_so, told_so}
use Rattle.object_refs.specs.Refusing.{RefusesProfile}
use Rattle.object_refs.proofs.Refused.{profiles_refuse}
use Rattle.object_refs.proofs.Wholes.{profiles_exact}
use Rattle.object_refs.proofs.iiop_read.meant.Goals as goal

pub returns-clause-found : goal.returns-clause-found
returns-clause-found c =
    let bytes = c.args.bytes.now in
    let fits : AreBytes bytes = search rules in
    found_so {X = Profile} (λ p. p) c.profile_of.result (profile_of bytes) (λ p. IsProfile p bytes)
    (profiles_exact bytes fits) c.profile_of.ensures

pub returns-clause-only : goal.returns-clause-only
returns-clause-only c =
    let bytes = c.args.bytes.now in
    let fits : AreBytes bytes = search rules in
    only_so {X = Profile} (λ p. p) c.profile_of.result (profile_of bytes) (λ p. IsProfile p bytes)
    (profiles_exact bytes fits) c.profile_of.ensures

pub returns-clause-fails : goal.returns-clause-fails
returns-clause-fails c =
    let bytes = c.args.bytes.now in
    let fits : AreBytes bytes = search rules in
    fails_so {X = Profile} (λ p. p) c.profile_of.result (profile_of bytes) (RefusesProfile bytes)
    (profiles_refuse bytes fits) c.profile_of.ensures

pub returns-clause-told : goal.returns-clause-told
returns-clause-told c =
    let bytes = c.args.bytes.now in
    let fits : AreBytes bytes = search rules in
    told_so {X = Profile} (λ p. p) c.profile_of.result (profile_of bytes) (RefusesProfile bytes)
    (profiles_refuse bytes fits) c.profile_of.ensures
