-- Where memory ran out for the piece that came, it counts among what was given.
use Rattle.std.proofs.Common.{◌+◌, ◌≤◌, ◌∙◌, length, arith}
use Rattle.std.proofs.lemmas.Grind.{common_steps}
use Rattle.text_streams.proofs.CallerLemmas.{gave_last}
use Rattle.trace_audit.specs.declared.input.TheConstants.{MAX_AUDITED}
use Rattle.trace_audit.proofs.Taking.{wants}
use Rattle.trace_audit.proofs.input.take_input.Goals as goal

pub returns-in_err-append-in-Bytes : goal.returns-in_err-append-in-Bytes
returns-in_err-append-in-Bytes g c =
    let few : c.in-Bytes.n + length c.loop-piece.bytes.items ≤ MAX_AUDITED = grind (arith, common_steps, c.in-Bytes.ensures.bytes.1, c.read.auto.into) in
    wants c.from_residual.result _ _ c.from_residual.ensures.0
    (gave_last _ _ _ _ _ _ _ c.loop-piece.invariant.gave few c.in-Bytes.ensures.bytes.2 c.in-Bytes.ensures.bytes.3)
    (c.in-Bytes.ensures.end ∙ c.loop-piece.invariant.ends) (c.in-Bytes.ensures.fault ∙ c.loop-piece.invariant.faults)
