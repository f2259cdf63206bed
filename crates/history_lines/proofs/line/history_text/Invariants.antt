use Rattle.std.proofs.Common.{◌≡◌, take, string_bytes}
use Rattle.history_lines.specs.Lines.{history_text}
use Rattle.history_lines.proofs.line.history_text.Given as goal

abbrev pub invariant-loop-entry : goal.invariant-loop-entry
invariant-loop-entry l = string_bytes l.text ≡ history_text (take l.entry-index l.history)
