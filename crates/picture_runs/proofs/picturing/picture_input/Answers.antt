-- An input that was not read to its end.
use Rattle.std.proofs.Common.{◌<◌, ℕ, List, length, subst}
use Rattle.std.specs.Prelude.{IfOk, OnErr}
use Rattle.trace_audit.specs.Audit.{IsFaultInPart}
use Rattle.picture_runs.proofs.Ending.{full_answers, failed_answers}
use Rattle.picture_runs.proofs.picturing.picture_input.Goals as goal

pub returns-in-Ok-Full : goal.returns-in-Ok-Full
returns-in-Ok-Full g c =
    let found = c.fault_in_part-found.result in
    let is = subst (λ (z : List ℕ). IfOk found (IsFaultInPart z)) c.as_slice-in-Ok-Full.ensures c.fault_in_part-found.ensures.fault in
    let took = rw c.in-Ok-Full.field-0-is at c.in-Ok-Full.ensures in
    rw c.note_of.ensures (full_answers c.args.asked c.in-Ok-Full.bytes.items _ _ _ took.1 took.2 found is took.0 took.3)

pub returns-in-Ok-Failed : goal.returns-in-Ok-Failed
returns-in-Ok-Failed g c =
    let found = c.fault_in_part-found-in-Ok-Failed.result in
    let is = subst (λ (z : List ℕ). IfOk found (IsFaultInPart z)) c.as_slice-in-Ok-Failed.ensures c.fault_in_part-found-in-Ok-Failed.ensures.fault in
    let some = subst (λ (z : List ℕ). OnErr found (0 < length z)) c.as_slice-in-Ok-Failed.ensures c.fault_in_part-found-in-Ok-Failed.ensures.memory in
    let took = rw c.in-Ok-Failed.field-0-is at c.in-Ok-Failed.ensures in
    rw c.note_of-in-Ok-Failed.ensures (failed_answers c.args.asked c.in-Ok-Failed.bytes.items _ _ _ took.1 took.2 found is some took.0 took.3)
