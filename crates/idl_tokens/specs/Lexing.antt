-- What is at a place of a text: CORBA 3.0.3, section 3.2.
use Rattle.std.specs.Prelude.{ℕ, ◌+◌, ◌==◌, ◌&&◌, Bool, List, [], ◌∷◌, Option, Some, None, length, take, unwrap_or, slice_get, if◌then◌else◌}
use Rattle.std.specs.Char.{is_ascii_alphabetic, is_ascii_digit, is_ascii_hexdigit}
use Rattle.idl_tokens.specs.declared.kind.Kind.{Kind}
use Rattle.idl_tokens.specs.declared.kind.Kind.TheVariants as kind
use Rattle.idl_tokens.specs.declared.dialect.Dialect.{Dialect}
pub use Rattle.idl_tokens.specs.Runs.{text_len, comment_end}
use Rattle.idl_tokens.specs.Runs.{is_blank, is_name_byte, is_octal, is_of_line, run_len}
use Rattle.idl_tokens.specs.Words.{words_of, marks_of, word_kind, mark_at}

-- Each says, of the byte at the front and those after it, the kind of the token, and how many bytes of it are after the first.

-- the byte at this place, or 0
abbrev pub byte_at : List ℕ → ℕ → ℕ
byte_at z n = unwrap_or (slice_get z n) 0

-- a name or a word
abbrev pub named : Dialect → ℕ → List ℕ → Kind × ℕ
named d b z = let n = run_len is_name_byte z in (word_kind (words_of d) (b ∷ take n z), n)

-- `_`, with the name after it if there is one
abbrev pub underscored : List ℕ → Kind × ℕ
underscored z = if is_ascii_alphabetic (byte_at z 0) then (kind.Underscored, run_len is_name_byte z) else (kind.NotInProfile, 0)

-- how many bytes of a hexadecimal number are after its 0: none where no digit is after the `x`
abbrev pub hex_tail : List ℕ → ℕ
hex_tail [] = 0
hex_tail (b ∷ z) = if b == 120 then (let n = run_len is_ascii_hexdigit z in if n == 0 then 0 else n + 1) else 0

-- a number: after a 0 hexadecimal with an `x` and else octal, and decimal after every other digit
abbrev pub numbered : ℕ → List ℕ → Kind × ℕ
numbered b z =
    (kind.Integer, (if b == 48 then (let n = hex_tail z in if n == 0 then run_len is_octal z else n) else run_len is_ascii_digit z))

-- a text, if it is closed
abbrev pub quoted : Option ℕ → Kind × ℕ
quoted (Some n) = (kind.Quoted, n)
quoted None = (kind.Bad, 0)

-- one byte that is no line feed, with a `'` after it
abbrev pub character : List ℕ → Kind × ℕ
character [] = (kind.Bad, 0)
character (b ∷ z) = if is_of_line b && (byte_at z 0 == 39) then (kind.Character, 2) else (kind.Bad, 0)

-- a comment up to `*/`, if it is closed
abbrev pub comment : Option ℕ → Kind × ℕ
comment (Some n) = (kind.Blank, n + 1)
comment None = (kind.Bad, 0)

-- a comment to the end of its line or up to `*/`, or a mark
abbrev pub slashed : Dialect → List ℕ → Kind × ℕ
slashed d [] = mark_at (marks_of d) (47 ∷ [])
slashed d (b ∷ z) =
    if b == 47 then (kind.Blank, run_len is_of_line z + 1)
    else (if b == 42 then comment (comment_end 0 z) else mark_at (marks_of d) (47 ∷ b ∷ z))

-- what is at the front
unfoldable pub lex : Dialect → ℕ → List ℕ → Kind × ℕ
lex d b z =
    if is_blank b then (kind.Blank, 0)
    else (if is_ascii_alphabetic b then named d b z
    else (if is_ascii_digit b then numbered b z
    else (if b == 95 then underscored z
    else (if b == 34 then quoted (text_len z)
    else (if b == 39 then character z
    else (if b == 47 then slashed d z
    else mark_at (marks_of d) (b ∷ z)))))))

-- the same of a text that isn't empty
abbrev pub lex_at : Dialect → List ℕ → Kind × ℕ
lex_at d [] = (kind.End, 0)
lex_at d (b ∷ z) = lex d b z
