use Rattle.std.proofs.Common.{◌≡◌, take, string_bytes}
use Rattle.trace_audit.specs.Lines.{lines_from}
use Rattle.trace_audit.proofs.lines.audit_lines.Given as goal

abbrev pub invariant-loop-n : goal.invariant-loop-n
invariant-loop-n l = string_bytes l.text ≡ lines_from 0 (take l.n l.verdicts)
