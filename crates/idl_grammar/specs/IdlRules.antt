-- The grammar of interfaces, modules and files: CORBA 3.0.3, chapter 3. Each rule is below its published line.
use Rattle.grammar.specs.Rules.{one, does, ◌then◌, ◌or◌, maybe, many, nested}
use Rattle.idl_tokens.specs.declared.kind.Kind.TheVariants as token
use Rattle.idl_grammar.specs.declared.fault.IdlCause.TheVariants as cause
use Rattle.idl_grammar.specs.declared.label.Inner.{Inner}
use Rattle.idl_grammar.specs.declared.label.Inner.TheVariants as inner
use Rattle.idl_grammar.specs.declared.label.IdlLabel.TheVariants as l
use Rattle.idl_grammar.specs.ValueRules.{IdlRule, word, listed, scoped, value, plain, element}
use Rattle.idl_grammar.specs.DeclarationRules.{member, union_case, union_type, type_declaration}

-- attribute = [ "readonly" ] "attribute" plain name { "," name }, and raises after it is refused
abbrev pub attribute : IdlRule
attribute =
    maybe (one token.ReadOnly l.ReadOnly) then (word token.Attribute then (plain then (listed (one token.Name l.Attribute)
    then (does l.EndAttribute then maybe (one token.Raises (l.Refuse cause.NotInProfile))))))

-- param = ( "in" | "out" | "inout" ) plain name
abbrev pub parameter : IdlRule
parameter = (one token.In l.In or (one token.Out l.Out or one token.InOut l.InOut)) then (plain then one token.Name l.Param)

-- "raises" "(" scoped { "," scoped } ")"
abbrev pub raises : IdlRule
raises = one token.Raises l.Raises then nested token.LeftParenthesis l.Skip inner.Raised token.RightParenthesis l.Skip

-- A result after "oneway" is refused at its first token, whatever goes on there; of a name the faults of the name itself
-- go before, where it has one part.
abbrev pub word_result : IdlRule
word_result =
    one token.Boolean (l.Refuse cause.BadOneway) or (one token.Octet (l.Refuse cause.BadOneway) or (one token.Char (l.Refuse cause.BadOneway)
    or (one token.Short (l.Refuse cause.BadOneway) or (one token.Long (l.Refuse cause.BadOneway) or (one token.Unsigned (l.Refuse cause.BadOneway)
    or (one token.String (l.Refuse cause.BadOneway) or one token.DoubleColon (l.Refuse cause.BadOneway)))))))

-- a result after "oneway" that begins with a name
abbrev pub name_result : IdlRule
name_result = one token.Name l.NamePart then (maybe (one token.DoubleColon l.LongResultName) then does l.ResultName)

-- [ "oneway" ] ( "void" | plain )
abbrev pub result : IdlRule
result = (one token.OneWay l.OneWay then (word token.Void or (word_result or name_result))) or (word token.Void or (plain then does l.Result))

-- operation = [ "oneway" ] ( "void" | plain ) name "(" [ param { "," param } ] ")" [ raises ]
abbrev pub operation : IdlRule
operation =
    result then (one token.Name l.Open then (nested token.LeftParenthesis l.Skip inner.Parameters token.RightParenthesis l.Skip
    then (maybe raises then does l.EndOperation)))

-- export = ( typedef | struct | union | enum | exception | const | attribute | operation ) ";"
abbrev pub export : IdlRule
export = (type_declaration or (attribute or operation)) then word token.Semicolon

-- [ ":" scoped { "," scoped } ]
abbrev pub bases : IdlRule
bases = maybe (word token.Colon then listed (scoped then does l.Base)) then does l.Inherit

-- interface = "interface" name [ ":" scoped { "," scoped } ] "{" { export } "}", and a forward one is refused at its ";"
abbrev pub interface : IdlRule
interface =
    word token.Interface then (one token.Name l.Interface
    then ((bases then nested token.LeftBrace l.OpenInterface inner.InterfaceBody token.RightBrace l.EndInterface)
    or one token.Semicolon (l.Refuse cause.NotInProfile)))

-- module = "module" name "{" definition { definition } "}"
abbrev pub module_rule : IdlRule
module_rule = word token.Module then (one token.Name l.Module then nested token.LeftBrace l.Skip inner.ModuleBody token.RightBrace l.EndModule)

-- definition = ( module | interface | typedef | struct | union | enum | exception | const ) ";"
abbrev pub definition : IdlRule
definition = (module_rule or (interface or type_declaration)) then word token.Semicolon

-- file = { definition }
abbrev pub file : IdlRule
file = many definition

-- the rules in brackets
abbrev pub inside : Inner → IdlRule
inside inner.ModuleBody = definition then many definition
inside inner.InterfaceBody = many export
inside inner.StructBody = member then many member
inside inner.ExceptionBody = many member
inside inner.UnionType = union_type
inside inner.UnionBody = union_case then many union_case
inside inner.EnumBody = listed (one token.Name l.Enumerator)
inside inner.Parameters = maybe (listed parameter)
inside inner.Raised = listed (scoped then does l.Raised)
inside inner.Element = element
inside inner.TextBound = value then does l.Bound
inside inner.ArrayLength = value then does l.Length
