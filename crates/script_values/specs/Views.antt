-- The plain trees that the program's trees stand for, by the repository in which their references stand for types.
use Rattle.std.specs.Prelude.{List, map}
use Rattle.cdr_values.specs.Trees.{Value}
use Rattle.cdr_values.specs.Values.{value_of}
use Rattle.idl_types.specs.Things.{Thing}
use Rattle.idl_types.specs.References.{kind_at}
use Rattle.script_values.specs.declared.seen.Seen.{Seen}
use Rattle.script_values.specs.declared.seen.Seen.TheVariants.{Here, Made}
use Rattle.script_values.specs.declared.tree.Expr.{Expr}
use Rattle.script_values.specs.declared.tree.Form.{Form}
use Rattle.script_values.specs.declared.tree.Link.{Link}
use Rattle.script_values.specs.declared.tree.Element.{Element}
use Rattle.script_values.specs.declared.tree.Form.TheFolds.{fold-Form, fold-Expr, fold-Link, fold-Element}
use Rattle.script_values.specs.declared.tree.Form.TheOpen.{Form-F, Expr-F, Link-F, Element-F}
use Rattle.script_values.specs.declared.tree.Stmt.{Stmt}
use Rattle.script_values.specs.declared.tree.Stmt.TheFolds.{fold-Stmt}
use Rattle.script_values.specs.declared.tree.Stmt.TheOpen.{Stmt-F}
use Rattle.script_values.specs.Trees.{Term, literal, priority, slot, unary, build, Part, terms_of, Joint, operand, member_at, spine, Step, let_be, set, branch, leave, give, raise, steps_of}

-- a value that is somewhere, or one that was made
abbrev pub seen_of : Seen → Value
seen_of (Here v) = value_of v.now
seen_of (Made v) = value_of v

-- the first part of an expression, of whose parts these are the trees
abbrev pub form_step : Form-F Term Joint Part Term → Term
form_step (Form-F.Literal v) = literal (value_of v)
form_step Form-F.Priority = priority
form_step (Form-F.Slot n) = slot n
form_step (Form-F.Unary o e) = unary o e.value
form_step (Form-F.Build es) = build (terms_of es.items)

-- what is done to an expression
abbrev pub link_step : Link-F Term Joint Part Term → Joint
link_step (Link-F.Binary o e) = operand o e
link_step (Link-F.Member n) = member_at n

-- one of what is built
abbrev pub element_step : List Thing → Element-F Term Joint Part Term → Part
element_step ts e = (e.place, kind_at ts e.due, e.value)

-- a whole expression
abbrev pub expr_step : Expr-F Term Joint Part Term → Term
expr_step e = spine e.form e.links.items

-- the tree of an expression's first part
abbrev pub first_of : List Thing → Form → Term
first_of ts = fold-Form Term Joint Part Term form_step link_step (element_step ts) expr_step

-- the tree of an expression
abbrev pub term_of : List Thing → Expr → Term
term_of ts = fold-Expr Term Joint Part Term form_step link_step (element_step ts) expr_step

-- what a link does
abbrev pub joint_of : List Thing → Link → Joint
joint_of ts = fold-Link Term Joint Part Term form_step link_step (element_step ts) expr_step

-- one of what is built
abbrev pub part_of : List Thing → Element → Part
part_of ts = fold-Element Term Joint Part Term form_step link_step (element_step ts) expr_step

-- what is done to an expression, in order
abbrev pub joints_view : List Thing → List Link → List Joint
joints_view ts = map (joint_of ts)

-- what is built
abbrev pub parts_view : List Thing → List Element → List Part
parts_view ts = map (part_of ts)

-- a statement, of whose statements these are the trees
abbrev pub stmt_step : List Thing → Stmt-F Step → Step
stmt_step ts (Stmt-F.Let n e) = let_be n (term_of ts e)
stmt_step ts (Stmt-F.Set n due e) = set n (kind_at ts due) (term_of ts e)
stmt_step ts (Stmt-F.If e taken other) = branch (term_of ts e) (steps_of taken.items) (steps_of other.items)
stmt_step ts Stmt-F.Leave = leave
stmt_step ts (Stmt-F.Return due e) = give (kind_at ts due) (term_of ts e)
stmt_step ts (Stmt-F.Raise n es) = raise n (terms_of (parts_view ts es.items))

-- the tree of a statement
abbrev pub step_of : List Thing → Stmt → Step
step_of ts = fold-Stmt Step (stmt_step ts)

-- statements
abbrev pub steps_view : List Thing → List Stmt → List Step
steps_view ts = map (step_of ts)
