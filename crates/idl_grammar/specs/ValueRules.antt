-- The grammar of names, values and types: CORBA 3.0.3, chapter 3. Each rule is below its published line, where what is
-- in quotes is a word or a mark, [ ] is once or not at all, and { } any number of times.
use Rattle.std.specs.Prelude.{true, false}
use Rattle.grammar.specs.Rules.{Rule, one, does, ◌then◌, ◌or◌, maybe, chained, nested}
use Rattle.idl_tokens.specs.declared.kind.Kind.{Kind}
use Rattle.idl_tokens.specs.declared.kind.Kind.TheVariants as token
use Rattle.idl_grammar.specs.declared.fault.IdlCause.TheVariants as cause
use Rattle.idl_grammar.specs.declared.label.Inner.{Inner}
use Rattle.idl_grammar.specs.declared.label.Inner.TheVariants as inner
use Rattle.idl_grammar.specs.declared.label.IdlLabel.{IdlLabel}
use Rattle.idl_grammar.specs.declared.label.IdlLabel.TheVariants as l
use Rattle.idl_grammar.specs.declared.label.Basic.TheVariants as basic

-- a rule of IDL
abbrev pub IdlRule : Type 0
IdlRule = Rule Kind IdlLabel Inner

-- a word or a mark at which nothing is done
abbrev pub word : Kind → IdlRule
word kind = one kind l.Skip

-- rule { "," rule }
abbrev pub listed : IdlRule → IdlRule
listed r = chained r (word token.Comma) l.Skip

-- scoped = [ "::" ] name { "::" name }
abbrev pub scoped : IdlRule
scoped = maybe (one token.DoubleColon l.Rooted) then chained (one token.Name l.NamePart) (word token.DoubleColon) l.Skip

-- value = [ "-" | "+" ] integer | character | text | "TRUE" | "FALSE" | scoped
abbrev pub signed : IdlRule
signed = (one token.Minus l.Sign then one token.Integer l.Minus) or (one token.Plus l.Sign then one token.Integer l.Plus)

-- a value that is no name
abbrev pub literal : IdlRule
literal =
    one token.Integer l.Number or (signed or (one token.Character l.Character or (one token.Quoted l.Text
    or (one token.True (l.Truth true) or one token.False (l.Truth false)))))

-- a literal, or the name of a constant or of an enumerator
abbrev pub value : IdlRule
value = literal or (scoped then does l.UseConst)

-- plain = "boolean" | "octet" | "char" | [ "unsigned" ] ( "short" | "long" [ "long" ] ) | "string" [ "<" value ">" ] | scoped
abbrev pub signed_type : IdlRule
signed_type = one token.Short (l.Basic basic.Short) or (one token.Long (l.Basic basic.Long) then maybe (one token.Long (l.Basic basic.LongLong)))

-- "unsigned" ( "short" | "long" [ "long" ] )
abbrev pub unsigned_type : IdlRule
unsigned_type =
    word token.Unsigned
    then (one token.Short (l.Basic basic.UShort) or (one token.Long (l.Basic basic.ULong) then maybe (one token.Long (l.Basic basic.ULongLong))))

-- of these, the types by which a union may switch; of the named ones the name tells
abbrev pub switch_type : IdlRule
switch_type =
    one token.Boolean (l.Basic basic.Boolean) or (one token.Char (l.Basic basic.Char)
    or (signed_type or (unsigned_type or (scoped then does l.UseType))))

-- "string" [ "<" value ">" ]
abbrev pub text_type : IdlRule
text_type = one token.String l.AnyText then maybe (nested token.Less l.Skip inner.TextBound token.Greater l.BoundedText)

-- all of them
abbrev pub plain : IdlRule
plain = one token.Octet (l.Basic basic.Octet) or (text_type or switch_type)

-- type = plain | "sequence" "<" type [ "," value ] ">"
abbrev pub any_type : IdlRule
any_type = plain or (word token.Sequence then nested token.Less l.Skip inner.Element token.Greater l.Sequence)

-- the word of a type that may not be here
abbrev pub refused_type : Kind → IdlRule
refused_type kind = one kind (l.Refuse cause.WrongKind)

-- type [ "," value ]
abbrev pub element : IdlRule
element = any_type then maybe (word token.Comma then (value then does l.Bound))
