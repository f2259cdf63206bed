-- The plain trees that the program's trees stand for.
use Rattle.std.specs.Prelude.{List, [], ◌∷◌, map}
use Rattle.std.specs.declared.vec.Vec.{Vec}
use Rattle.std.specs.declared.alloc.Global.{Global}
use Rattle.script_grammar.specs.declared.operator.Binary.{Binary}
use Rattle.servant_scripts.specs.declared.phrase.Part.{Part}
use Rattle.servant_scripts.specs.declared.phrase.ScopedName.{ScopedName}
use Rattle.servant_scripts.specs.declared.phrase.Phrase.{Phrase}
use Rattle.servant_scripts.specs.declared.phrase.Form.{Form}
use Rattle.servant_scripts.specs.declared.phrase.Link.{Link}
use Rattle.servant_scripts.specs.declared.phrase.Field.{Field}
use Rattle.servant_scripts.specs.declared.phrase.Form.TheFolds.{fold-Form, fold-Phrase, fold-Link, fold-Field}
use Rattle.servant_scripts.specs.declared.phrase.Form.TheOpen.{Form-F, Phrase-F, Link-F, Field-F}
use Rattle.servant_scripts.specs.declared.line.Line.{Line}
use Rattle.servant_scripts.specs.declared.line.Line.TheFolds.{fold-Line}
use Rattle.servant_scripts.specs.declared.line.Line.TheOpen.{Line-F}
use Rattle.servant_scripts.specs.declared.line.Method.{Method}
use Rattle.servant_scripts.specs.declared.line.Servant.{Servant}
use Rattle.servant_scripts.specs.declared.line.Script.{Script}
use Rattle.servant_scripts.specs.Trees.{Scoped, Said, said, Shape, say_number, say_truth, say_text, say_priority, say_name, say_unary, say_binary, say_member, say_new, say_list, fields_of, saids_of, place_of, Say, say_let, say_set, say_if, say_leave, say_return, say_raise, says_of, MethodSaid, ServantSaid}

-- a scoped name
abbrev pub scoped_of : ScopedName → Scoped
scoped_of n = record { at = n.at; rooted = n.rooted; parts = n.parts.items }

-- what is done to the expression before: an operator with its second operand, or a member
pub data Joint : Type 0 where
  operator : Binary → Said → Joint
  member : Part → Joint

-- an expression with one more done to it; it begins where it began
abbrev pub joint : Said → Joint → Said
joint s (operator o t) = said (place_of s) (say_binary o s t)
joint s (member p) = said (place_of s) (say_member s p)

-- an expression with these done to it, from left to right
abbrev pub spine : Said → List Joint → Said
spine s [] = s
spine s (j ∷ js) = spine (joint s j) js

-- the first part of an expression, of whose parts these are the trees
abbrev pub form_step : Form-F Shape Joint (Part × Said) Said → Shape
form_step (Form-F.Number z) = say_number z
form_step (Form-F.Truth b) = say_truth b
form_step (Form-F.Text t) = say_text t
form_step Form-F.Priority = say_priority
form_step (Form-F.Name n) = say_name (scoped_of n)
form_step (Form-F.Unary o p) = say_unary o p.value
form_step (Form-F.New n fs at) = say_new (scoped_of n) (fields_of fs.items) at
form_step (Form-F.List ps) = say_list (saids_of ps.items)

-- what is done to an expression
abbrev pub link_step : Link-F Shape Joint (Part × Said) Said → Joint
link_step (Link-F.Binary o p) = operator o p
link_step (Link-F.Member p) = member p

-- a member with its value
abbrev pub field_step : Field-F Shape Joint (Part × Said) Said → Part × Said
field_step f = (f.name, f.value)

-- a whole expression
abbrev pub phrase_step : Phrase-F Shape Joint (Part × Said) Said → Said
phrase_step p = spine (said p.at p.form) p.links.items

-- the tree of an expression's first part
abbrev pub shape_of : Form → Shape
shape_of = fold-Form Shape Joint (Part × Said) Said form_step link_step field_step phrase_step

-- the tree of an expression
abbrev pub said_of : Phrase → Said
said_of = fold-Phrase Shape Joint (Part × Said) Said form_step link_step field_step phrase_step

-- what a link does
abbrev pub joint_of : Link → Joint
joint_of = fold-Link Shape Joint (Part × Said) Said form_step link_step field_step phrase_step

-- a member with the tree of its value
abbrev pub entry_of : Field → Part × Said
entry_of = fold-Field Shape Joint (Part × Said) Said form_step link_step field_step phrase_step

-- expressions
abbrev pub saids_view : Vec Phrase Global → List Said
saids_view v = map said_of v.items

-- members with their values
abbrev pub entries_view : Vec Field Global → List (Part × Said)
entries_view v = map entry_of v.items

-- a statement, of whose statements these are the trees
abbrev pub line_step : Line-F Say → Say
line_step (Line-F.Let at name p) = say_let at name (said_of p)
line_step (Line-F.Set name p) = say_set name (said_of p)
line_step (Line-F.If p taken other) = say_if (said_of p) (says_of taken.items) (says_of other.items)
line_step (Line-F.Leave at) = say_leave at
line_step (Line-F.Return at p) = say_return at (said_of p)
line_step (Line-F.Raise name fs at) = say_raise (scoped_of name) (fields_of (entries_view fs)) at

-- the tree of a statement
abbrev pub say_of : Line → Say
say_of = fold-Line Say line_step

-- statements
abbrev pub says_view : Vec Line Global → List Say
says_view v = map say_of v.items

-- a method
abbrev pub method_of : Method → MethodSaid
method_of m = record { name = m.name; parameters = m.parameters.items; close = m.close; body = says_of (says_view m.body); end = m.end }

-- a servant
abbrev pub servant_of : Servant → ServantSaid
servant_of s = record { at = s.at; name = scoped_of s.name; methods = map method_of s.methods.items }

-- a whole script
abbrev pub script_of : Script → List ServantSaid
script_of s = map servant_of s.servants.items
