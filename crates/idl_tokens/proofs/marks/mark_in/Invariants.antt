use Rattle.std.proofs.Common.{◌≡◌, map, drop}
use Rattle.idl_tokens.specs.Spellings.{spelling_of}
use Rattle.idl_tokens.specs.Words as Table
use Rattle.idl_tokens.proofs.marks.mark_in.Given as goal

abbrev pub invariant-loop-spelling : goal.invariant-loop-spelling
invariant-loop-spelling l = Table.mark_at (map spelling_of (drop l.spelling-index l.table)) l.z ≡ Table.mark_at (map spelling_of l.table) l.z
