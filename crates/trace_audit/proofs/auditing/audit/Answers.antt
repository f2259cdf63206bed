-- An input that was not read to its end.
use Rattle.std.proofs.Common.{ℕ, List, subst}
use Rattle.std.specs.Prelude.{IfOk}
use Rattle.trace_audit.specs.Audit.{IsFaultInPart}
use Rattle.trace_audit.proofs.Faults.{full_says, failed_says}
use Rattle.trace_audit.proofs.auditing.audit.Goals as goal

pub returns-in-Ok-Full-clause-audits : goal.returns-in-Ok-Full-clause-audits
returns-in-Ok-Full-clause-audits g c =
    let found = c.fault_in_part-found.result in
    let is = subst (λ (z : List ℕ). IfOk found (IsFaultInPart z)) c.as_slice-in-Ok-Full.ensures c.fault_in_part-found.ensures in
    let took = rw c.in-Ok-Full.field-0-is at c.in-Ok-Full.ensures in
    rw c.why_in_part.ensures (full_says found c.in-Ok-Full.bytes.items _ _ is took.0 took.1 took.2 took.3)

pub returns-in-Ok-Failed-clause-audits : goal.returns-in-Ok-Failed-clause-audits
returns-in-Ok-Failed-clause-audits g c =
    let found = c.fault_in_part-found-in-Ok-Failed.result in
    let is = subst (λ (z : List ℕ). IfOk found (IsFaultInPart z)) c.as_slice-in-Ok-Failed.ensures c.fault_in_part-found-in-Ok-Failed.ensures in
    let took = rw c.in-Ok-Failed.field-0-is at c.in-Ok-Failed.ensures in
    rw c.why_in_part-in-Ok-Failed.ensures (failed_says found c.in-Ok-Failed.bytes.items _ _ is took.0 took.1 took.2 took.3)
