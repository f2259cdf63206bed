-- A text that declares things has no fault.
use Rattle.idl_lines.proofs.texts.read_bytes.Goals as goal

pub returns-in-Err-Refused-clause-only : goal.returns-in-Err-Refused-clause-only
returns-in-Err-Refused-clause-only c = rw c.in-Err-Refused.field-0-is at c.in-Err-Refused.ensures.only
