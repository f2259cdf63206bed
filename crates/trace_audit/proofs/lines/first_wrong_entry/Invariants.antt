use Rattle.std.proofs.Common.{◌≡◌, None, take}
use Rattle.trace_audit.specs.Lines.{wrong_from}
use Rattle.trace_audit.proofs.lines.first_wrong_entry.Given as goal

abbrev pub invariant-loop-n : goal.invariant-loop-n
invariant-loop-n l = wrong_from 0 (take l.n l.verdicts) ≡ None
