-- The words and the marks of IDL (CORBA 3.0.3, section 3.2) and of the scripts of servants (own profile).
use Rattle.std.specs.Prelude.{ℕ, ◌-◌, ◌==◌, List, [], ◌∷◌, length, codes, if◌then◌else◌}
use Rattle.std.specs.Str.{bytes_eq}
use Rattle.std.specs.List.{starts_with}
use Rattle.idl_tokens.specs.declared.kind.Kind.{Kind}
use Rattle.idl_tokens.specs.declared.kind.Kind.TheVariants as kind
use Rattle.idl_tokens.specs.declared.dialect.Dialect.{Dialect}
use Rattle.idl_tokens.specs.declared.dialect.Dialect.TheVariants.{Idl, Script}

-- spellings, each with its kind
abbrev pub Table : Type 0
Table = List (List ℕ × Kind)

-- the kind of a word, which is a name where the table hasn't got it
abbrev pub word_kind : Table → List ℕ → Kind
word_kind [] word = kind.Name
word_kind (w ∷ ws) word = if bytes_eq word w.0 then w.1 else word_kind ws word

-- the first mark of a table that is at the front: its kind, and how many bytes of it are after the first
abbrev pub mark_at : Table → List ℕ → Kind × ℕ
mark_at [] z = (kind.Bad, 0)
mark_at (m ∷ ms) z = if starts_with (λ a b. a == b) z m.0 then (m.1, length m.0 - 1) else mark_at ms z

-- the words of IDL in this profile, and those that aren't in it
abbrev pub idl_words : Table
idl_words =
    (codes "module", kind.Module) ∷ (codes "interface", kind.Interface) ∷ (codes "typedef", kind.Typedef)
    ∷ (codes "struct", kind.Struct) ∷ (codes "union", kind.Union) ∷ (codes "switch", kind.Switch)
    ∷ (codes "case", kind.Case) ∷ (codes "default", kind.Default) ∷ (codes "enum", kind.Enum)
    ∷ (codes "const", kind.Const) ∷ (codes "exception", kind.Exception) ∷ (codes "readonly", kind.ReadOnly)
    ∷ (codes "attribute", kind.Attribute) ∷ (codes "oneway", kind.OneWay) ∷ (codes "void", kind.Void)
    ∷ (codes "raises", kind.Raises) ∷ (codes "in", kind.In) ∷ (codes "out", kind.Out) ∷ (codes "inout", kind.InOut)
    ∷ (codes "sequence", kind.Sequence) ∷ (codes "boolean", kind.Boolean) ∷ (codes "octet", kind.Octet)
    ∷ (codes "char", kind.Char) ∷ (codes "unsigned", kind.Unsigned) ∷ (codes "short", kind.Short)
    ∷ (codes "long", kind.Long) ∷ (codes "string", kind.String) ∷ (codes "TRUE", kind.True)
    ∷ (codes "FALSE", kind.False)
    ∷ (codes "float", kind.NotInProfile) ∷ (codes "double", kind.NotInProfile) ∷ (codes "fixed", kind.NotInProfile)
    ∷ (codes "any", kind.NotInProfile) ∷ (codes "wchar", kind.NotInProfile) ∷ (codes "wstring", kind.NotInProfile)
    ∷ (codes "Object", kind.NotInProfile) ∷ (codes "valuetype", kind.NotInProfile)
    ∷ (codes "abstract", kind.NotInProfile) ∷ (codes "local", kind.NotInProfile)
    ∷ (codes "native", kind.NotInProfile) ∷ (codes "context", kind.NotInProfile) ∷ []

-- the words of scripts
abbrev pub script_words : Table
script_words =
    (codes "servant", kind.Servant) ∷ (codes "op", kind.Op) ∷ (codes "let", kind.Let) ∷ (codes "set", kind.Set)
    ∷ (codes "if", kind.If) ∷ (codes "else", kind.Else) ∷ (codes "return", kind.Return)
    ∷ (codes "raise", kind.Raise) ∷ (codes "new", kind.New) ∷ (codes "len", kind.Len)
    ∷ (codes "priority", kind.Priority) ∷ (codes "TRUE", kind.True) ∷ (codes "FALSE", kind.False) ∷ []

-- the marks of IDL
abbrev pub idl_marks : Table
idl_marks =
    (codes "::", kind.DoubleColon) ∷ (codes "{", kind.LeftBrace) ∷ (codes "}", kind.RightBrace)
    ∷ (codes "(", kind.LeftParenthesis) ∷ (codes ")", kind.RightParenthesis) ∷ (codes "[", kind.LeftBracket)
    ∷ (codes "]", kind.RightBracket) ∷ (codes "<", kind.Less) ∷ (codes ">", kind.Greater)
    ∷ (codes ";", kind.Semicolon) ∷ (codes ",", kind.Comma) ∷ (codes ":", kind.Colon) ∷ (codes "=", kind.Equals)
    ∷ (codes "+", kind.Plus) ∷ (codes "-", kind.Minus) ∷ (codes "#", kind.NotInProfile) ∷ []

-- the marks of scripts: the longer ones first
abbrev pub script_marks : Table
script_marks =
    (codes "::", kind.DoubleColon) ∷ (codes "||", kind.Or) ∷ (codes "&&", kind.And) ∷ (codes "==", kind.Same)
    ∷ (codes "!=", kind.Differs) ∷ (codes "<=", kind.AtMost) ∷ (codes ">=", kind.AtLeast)
    ∷ (codes "{", kind.LeftBrace) ∷ (codes "}", kind.RightBrace) ∷ (codes "(", kind.LeftParenthesis)
    ∷ (codes ")", kind.RightParenthesis) ∷ (codes "[", kind.LeftBracket) ∷ (codes "]", kind.RightBracket)
    ∷ (codes "<", kind.Less) ∷ (codes ">", kind.Greater) ∷ (codes ";", kind.Semicolon) ∷ (codes ",", kind.Comma)
    ∷ (codes ":", kind.Colon) ∷ (codes "=", kind.Equals) ∷ (codes "+", kind.Plus) ∷ (codes "-", kind.Minus)
    ∷ (codes ".", kind.Dot) ∷ (codes "*", kind.Star) ∷ (codes "/", kind.Slash) ∷ (codes "%", kind.Percent)
    ∷ (codes "!", kind.Exclamation) ∷ []

-- the words of a language
abbrev pub words_of : Dialect → Table
words_of Idl = idl_words
words_of Script = script_words

-- the marks of a language
abbrev pub marks_of : Dialect → Table
marks_of Idl = idl_marks
marks_of Script = script_marks
