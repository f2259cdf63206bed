use Rattle.std.proofs.Common.{◌≡◌, map, drop}
use Rattle.idl_tokens.specs.Spellings.{spelling_of}
use Rattle.idl_tokens.specs.Words as Table
use Rattle.idl_tokens.proofs.words.kind_in.Given as goal

abbrev pub invariant-loop-spelling : goal.invariant-loop-spelling
invariant-loop-spelling l = Table.word_kind (map spelling_of (drop l.spelling-index l.table)) l.word ≡ Table.word_kind (map spelling_of l.table) l.word
