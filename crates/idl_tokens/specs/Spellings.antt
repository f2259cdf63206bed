-- Rows of the tables of words and marks.
use Rattle.std.specs.Prelude.{ℕ, List}
use Rattle.idl_tokens.specs.declared.kind.Kind.{Kind}
use Rattle.idl_tokens.specs.declared.spelling.Spelling.{Spelling}

-- a row without where it lies in memory
abbrev pub spelling_of : Spelling → List ℕ × Kind
spelling_of s = (s.text.now, s.kind)
