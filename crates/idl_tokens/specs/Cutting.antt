-- The tokens of a whole text.
use Rattle.std.specs.Prelude.{ℕ, zero, suc, ◌+◌, ◌==◌, List, [], ◌∷◌, ◌++◌, take, if◌then◌else◌}
use Rattle.idl_tokens.specs.declared.kind.Kind.{Kind}
use Rattle.idl_tokens.specs.declared.kind.Kind.TheVariants as kind
use Rattle.idl_tokens.specs.declared.dialect.Dialect.{Dialect}
use Rattle.idl_tokens.specs.Placed.{Placed, same_kind}
use Rattle.idl_tokens.specs.Stream.{Stream, stream}
use Rattle.idl_tokens.specs.Lexing.{lex}

-- the line after a byte; lines count from 1
abbrev pub line_after : ℕ → ℕ → ℕ
line_after b line = if b == 10 then line + 1 else line

-- the column after a byte; columns count bytes from 1
abbrev pub column_after : ℕ → ℕ → ℕ
column_after b column = if b == 10 then 1 else column + 1

-- where the byte after these is
abbrev pub place_after : ℕ → ℕ → List ℕ → ℕ × ℕ
place_after line column [] = (line, column)
place_after line column (b ∷ bytes) = place_after (line_after b line) (column_after b column) bytes

-- a token before others: blanks are left out, and what begins no token ends all
abbrev pub with_token : Kind → Placed Kind → Stream Kind → Stream Kind
with_token k t s = if same_kind k kind.Bad then stream [] t else (if same_kind k kind.Blank then s else stream (t ∷ s.tokens) s.end)

-- the tokens with one more after, if it isn't blank
abbrev pub kept : List (Placed Kind) → Placed Kind → List (Placed Kind)
kept ts t = if same_kind t.kind kind.Blank then ts else ts ++ t ∷ []

-- the end of a text
abbrev pub ending : ℕ → ℕ → Placed Kind
ending line column = record { kind = kind.End; text = []; line = line; column = column }

-- the tokens of bytes of which so many, the first ones, belong to the token before
unfoldable pub cut : Dialect → ℕ → ℕ → ℕ → List ℕ → Stream Kind
cut d left line column [] = stream [] (ending line column)
cut d (suc left) line column (b ∷ z) = cut d left (line_after b line) (column_after b column) z
cut d zero line column (b ∷ z) =
    let k = lex d b z in
    with_token k.0 (record { kind = k.0; text = take (k.1 + 1) (b ∷ z); line = line; column = column }) (cut d k.1 (line_after b line) (column_after b column) z)

-- the tokens of a text, whose first byte is line 1, column 1
abbrev pub text_tokens : Dialect → List ℕ → Stream Kind
text_tokens d text = cut d 0 1 1 text
