-- The grammar of servant scripts: own profile. Each rule is below its published line, where what is in quotes is a word
-- or a mark, [ ] is once or not at all, and { } any number of times.
use Rattle.std.specs.Prelude.{true, false}
use Rattle.grammar.specs.Rules.{Rule, one, does, ◌then◌, ◌or◌, maybe, many, chained, nested}
use Rattle.idl_tokens.specs.declared.kind.Kind.{Kind}
use Rattle.idl_tokens.specs.declared.kind.Kind.TheVariants as token
use Rattle.script_grammar.specs.declared.operator.Unary.{Unary}
use Rattle.script_grammar.specs.declared.operator.Unary.TheVariants as u
use Rattle.script_grammar.specs.declared.operator.Binary.{Binary}
use Rattle.script_grammar.specs.declared.operator.Binary.TheVariants as b
use Rattle.script_grammar.specs.declared.label.Inner.{Inner}
use Rattle.script_grammar.specs.declared.label.Inner.TheVariants as inner
use Rattle.script_grammar.specs.declared.label.ScriptLabel.{ScriptLabel}
use Rattle.script_grammar.specs.declared.label.ScriptLabel.TheVariants as l

-- a rule of scripts
abbrev pub ScriptRule : Type 0
ScriptRule = Rule Kind ScriptLabel Inner

-- a word or a mark at which nothing is done
abbrev pub word : Kind → ScriptRule
word kind = one kind l.Skip

-- a sign or a word before an operand
abbrev pub before : Kind → Unary → ScriptRule
before kind operator = one kind (l.Unary operator)

-- a mark between two operands
abbrev pub between : Kind → Binary → ScriptRule
between kind operator = one kind (l.Binary operator)

-- rule { "," rule }
abbrev pub listed : ScriptRule → ScriptRule
listed r = chained r (word token.Comma) l.Skip

-- "{" rule "}"
abbrev pub braced : ScriptLabel → Inner → ScriptLabel → ScriptRule
braced first r last = nested token.LeftBrace first r token.RightBrace last

-- "(" rule ")"
abbrev pub bracketed : ScriptLabel → Inner → ScriptLabel → ScriptRule
bracketed first r last = nested token.LeftParenthesis first r token.RightParenthesis last

-- "[" rule "]"
abbrev pub squared : ScriptLabel → Inner → ScriptLabel → ScriptRule
squared first r last = nested token.LeftBracket first r token.RightBracket last

-- scoped = [ "::" ] name { "::" name }
abbrev pub scoped : ScriptRule
scoped =
    ((one token.DoubleColon l.Rooted then one token.Name l.NamePart) or one token.Name l.FirstPart)
    then many (word token.DoubleColon then one token.Name l.NamePart)

-- integer | text | "TRUE" | "FALSE"
abbrev pub literal : ScriptRule
literal =
    one token.Integer l.Number or (one token.Quoted l.Text
    or (one token.True (l.Truth true) or one token.False (l.Truth false)))

-- "priority" "(" ")" | "len" "(" expr ")"
abbrev pub called : ScriptRule
called =
    (one token.Priority l.Priority then bracketed l.Skip inner.Nothing l.Skip)
    or (before token.Len u.Len then bracketed l.Skip inner.Expression l.Wrap)

-- "new" scoped "{" fields "}"
abbrev pub made : ScriptRule
made = one token.New l.Place then (scoped then braced l.OpenFields inner.FieldList l.New)

-- atom = integer | text | "TRUE" | "FALSE" | "priority" "(" ")" | "len" "(" expr ")" | scoped
--      | "new" scoped "{" fields "}" | "[" [ expr { "," expr } ] "]" | "(" expr ")"
abbrev pub atom : ScriptRule
atom =
    literal or (called or ((scoped then does l.UseName) or (made
    or (squared l.OpenList inner.ListItems l.EndList or bracketed (l.Unary u.Group) inner.Expression l.Wrap))))

-- post = atom { "." name | "[" expr "]" }
abbrev pub post : ScriptRule
post = atom then many ((word token.Dot then one token.Name l.Member) or squared (l.Binary b.Index) inner.Expression l.Join)

-- unary = [ "-" | "!" ] post
abbrev pub unary : ScriptRule
unary = ((before token.Minus u.Negate or before token.Exclamation u.Not) then (post then does l.Wrap)) or post

-- term = unary { ( "*" | "/" | "%" ) unary }
abbrev pub term : ScriptRule
term = chained unary (between token.Star b.Multiply or (between token.Slash b.Divide or between token.Percent b.Remainder)) l.Join

-- sum = term { ( "+" | "-" ) term }
abbrev pub sum : ScriptRule
sum = chained term (between token.Plus b.Add or between token.Minus b.Subtract) l.Join

-- "==" | "!=" | "<" | "<=" | ">" | ">="
abbrev pub compared : ScriptRule
compared =
    between token.Same b.Same or (between token.Differs b.Differs or (between token.Less b.Less
    or (between token.AtMost b.AtMost or (between token.Greater b.Greater or between token.AtLeast b.AtLeast))))

-- cmp = sum [ ( "==" | "!=" | "<" | "<=" | ">" | ">=" ) sum ]
abbrev pub comparison : ScriptRule
comparison = sum then maybe (compared then (sum then does l.Join))

-- and = cmp { "&&" cmp }
abbrev pub both : ScriptRule
both = chained comparison (between token.And b.And) l.Join

-- expr = and { "||" and }
abbrev pub expression : ScriptRule
expression = chained both (between token.Or b.Or) l.Join

-- fields = name "=" expr { "," name "=" expr }
abbrev pub fields : ScriptRule
fields = listed (one token.Name l.Named then (word token.Equals then (expression then does l.Field)))

-- "let" name "=" expr ";" | "set" name "=" expr ";"
abbrev pub given : ScriptRule
given =
    (one token.Let l.Place then (one token.Name l.Named then (word token.Equals then (expression then one token.Semicolon l.Let))))
    or (word token.Set then (one token.Name l.Named then (word token.Equals then (expression then one token.Semicolon l.Set))))

-- "if" expr block [ "else" block ]: after the first block that of `else` is open, which stays empty where there is none
abbrev pub choice : ScriptRule
choice =
    word token.If then (expression then (braced l.OpenBlock inner.Statements l.OpenBlock
    then (maybe (word token.Else then braced l.Skip inner.Statements l.Skip) then does l.If)))

-- "return" [ expr ] ";"
abbrev pub returned : ScriptRule
returned = one token.Return l.Place then ((expression then one token.Semicolon l.Return) or one token.Semicolon l.Leave)

-- "raise" scoped "{" [ fields ] "}" ";"
abbrev pub raised : ScriptRule
raised = word token.Raise then (scoped then (braced l.OpenFields inner.MaybeFields l.Raise then word token.Semicolon))

-- stmt = given | choice | returned | raised
abbrev pub statement : ScriptRule
statement = given or (choice or (returned or raised))

-- method = "op" name "(" [ name { "," name } ] ")" block, where block = "{" { stmt } "}", and the name may begin with one `_`
abbrev pub method : ScriptRule
method =
    word token.Op then ((one token.Name l.Named or one token.Underscored l.Named)
    then (bracketed l.OpenNames inner.Names l.Place then braced l.OpenBlock inner.Statements l.Method))

-- "servant" scoped "{" { method } "}"
abbrev pub servant : ScriptRule
servant = one token.Servant l.Place then (scoped then braced l.Skip inner.ServantBody l.Servant)

-- file = { servant }
abbrev pub file : ScriptRule
file = many servant

-- the rules in brackets
abbrev pub inside : Inner → ScriptRule
inside inner.ServantBody = many method
inside inner.Names = maybe (listed (one token.Name l.NamePart))
inside inner.Statements = many statement
inside inner.FieldList = fields
inside inner.MaybeFields = maybe fields
inside inner.Expression = expression
inside inner.Nothing = does l.Skip
inside inner.ListItems = maybe (listed (expression then does l.Item))
