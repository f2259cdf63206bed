-- The grammar of declarations of types and constants: CORBA 3.0.3, chapter 3. Each rule is below its published line.
use Rattle.grammar.specs.Rules.{one, does, ◌then◌, ◌or◌, many, nested}
use Rattle.idl_tokens.specs.declared.kind.Kind.TheVariants as token
use Rattle.idl_grammar.specs.declared.label.Inner.TheVariants as inner
use Rattle.idl_grammar.specs.declared.label.IdlLabel.{IdlLabel}
use Rattle.idl_grammar.specs.declared.label.IdlLabel.TheVariants as l
use Rattle.idl_grammar.specs.ValueRules.{IdlRule, word, listed, value, plain, switch_type, any_type, refused_type}

-- declarator = name { "[" value "]" }, and what is done at its end
abbrev pub declarator : IdlLabel → IdlRule
declarator end = one token.Name l.Declare then (many (nested token.LeftBracket l.Skip inner.ArrayLength token.RightBracket l.Skip) then does end)

-- typedef = "typedef" type declarator { "," declarator }
abbrev pub typedef : IdlRule
typedef = word token.Typedef then (any_type then listed (declarator l.Typedef))

-- member = type declarator { "," declarator } ";"
abbrev pub member : IdlRule
member = any_type then (listed (declarator l.Member) then word token.Semicolon)

-- struct = "struct" name "{" member { member } "}"
abbrev pub struct_rule : IdlRule
struct_rule = word token.Struct then (one token.Name l.Open then nested token.LeftBrace l.Skip inner.StructBody token.RightBrace l.EndStruct)

-- exception = "exception" name "{" { member } "}"
abbrev pub exception_rule : IdlRule
exception_rule = word token.Exception then (one token.Name l.Open then nested token.LeftBrace l.Skip inner.ExceptionBody token.RightBrace l.EndException)

-- label = "case" value ":" | "default" ":"
abbrev pub case_label : IdlRule
case_label = (word token.Case then (value then (does l.CaseLabel then word token.Colon))) or (one token.Default l.DefaultLabel then word token.Colon)

-- case = label { label } type declarator ";"
abbrev pub union_case : IdlRule
union_case = case_label then (many case_label then (any_type then (declarator l.CaseMember then word token.Semicolon)))

-- union = "union" name "switch" "(" type ")" "{" case { case } "}"
abbrev pub union_rule : IdlRule
union_rule =
    word token.Union then (one token.Name l.Open then (word token.Switch
    then (nested token.LeftParenthesis l.Skip inner.UnionType token.RightParenthesis l.Skip
    then nested token.LeftBrace l.Skip inner.UnionBody token.RightBrace l.EndUnion)))

-- the type of a union's discriminator: an octet, a string or a sequence is refused at its first token
abbrev pub union_type : IdlRule
union_type = (switch_type then does l.Switch) or (refused_type token.Octet or (refused_type token.String or refused_type token.Sequence))

-- enum = "enum" name "{" name { "," name } "}"
abbrev pub enum_rule : IdlRule
enum_rule = word token.Enum then (one token.Name l.Open then nested token.LeftBrace l.Skip inner.EnumBody token.RightBrace l.EndEnum)

-- const = "const" type name "=" value, where a sequence is refused at its first token
abbrev pub const_rule : IdlRule
const_rule =
    word token.Const then (((plain then does l.ConstType) or refused_type token.Sequence)
    then (one token.Name l.Declare then (word token.Equals then (value then does l.EndConst))))

-- typedef | struct | union | enum | exception | const
abbrev pub type_declaration : IdlRule
type_declaration = typedef or (struct_rule or (union_rule or (enum_rule or (exception_rule or const_rule))))
