use Rattle.object_refs.specs.Reference.{Reference}
use Rattle.object_refs.specs.References.{IsReference, reference_of}
use Rattle.object_refs.proofs.Steps.{found_so, only_so, fails_so, told_so}
use Rattle.object_refs.specs.RefusingTexts.{RefusesReference}
use Rattle.object_refs.proofs.RefusedTexts.{references_refuse}
use Rattle.object_refs.proofs.Texts.{references_exact}
use Rattle.object_refs.proofs.ior_read.parse_ior.Goals as goal

pub returns-clause-found : goal.returns-clause-found
returns-clause-found c =
    let text = c.args.text.now in
    found_so {X = Reference} (λ r. r) c.reference_of.result (reference_of text) (λ r. IsReference r text)
    (references_exact text) c.reference_of.ensures

pub returns-clause-only : goal.returns-clause-only
returns-clause-only c =
    let text = c.args.text.now in
    only_so {X = Reference} (λ r. r) c.reference_of.result (reference_of text) (λ r. IsReference r text)
    (references_exact text) c.reference_of.ensures

pub returns-clause-fails : goal.returns-clause-fails
returns-clause-fails c =
    let text = c.args.text.now in
    fails_so {X = Reference} (λ r. r) c.reference_of.result (reference_of text) (RefusesReference text) (references_refuse text) c.reference_of.ensures

pub returns-clause-told : goal.returns-clause-told
returns-clause-told c =
    let text = c.args.text.now in
    told_so {X = Reference} (λ r. r) c.reference_of.result (reference_of text) (RefusesReference text) (references_refuse text) c.reference_of.ensures
