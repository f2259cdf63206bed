-- Scripts as plain trees: what the grammar spells, with the place of each token that a check may name. What is between
-- two operands is grouped to the left.
use Rattle.std.specs.Prelude.{ℕ, ℤ, Bool, List, [], ◌∷◌}
use Rattle.script_grammar.specs.declared.operator.Unary.{Unary}
use Rattle.script_grammar.specs.declared.operator.Binary.{Binary}
use Rattle.servant_scripts.specs.declared.phrase.At.{At}
use Rattle.servant_scripts.specs.declared.phrase.Part.{Part}

-- a scoped name: its first token, whether it begins at the file's scope, and its parts
pub record Scoped : Type 0 where
  pub at : At
  pub rooted : Bool
  pub parts : List Part

mutual
  -- an expression, and its first token
  pub data Said : Type 0 where
    said : At → Shape → Said

  -- what an expression is
  pub data Shape : Type 0 where
    say_number : ℤ → Shape
    say_truth : Bool → Shape
    say_text : List ℕ → Shape
    say_priority : Shape
    say_name : Scoped → Shape
    say_unary : Unary → Said → Shape
    say_binary : Binary → Said → Said → Shape
    say_member : Said → Part → Shape
    -- with the place of the closing brace
    say_new : Scoped → Fields → At → Shape
    say_list : Saids → Shape

  -- members with their values
  pub data Fields : Type 0 where
    no_fields : Fields
    field : Part → Said → Fields → Fields

  -- expressions
  pub data Saids : Type 0 where
    no_saids : Saids
    one_said : Said → Saids → Saids

-- members with their values, from a list
abbrev pub fields_of : List (Part × Said) → Fields
fields_of [] = no_fields
fields_of (f ∷ fs) = field f.0 f.1 (fields_of fs)

-- expressions, from a list
abbrev pub saids_of : List Said → Saids
saids_of [] = no_saids
saids_of (s ∷ ss) = one_said s (saids_of ss)

-- where an expression begins
abbrev pub place_of : Said → At
place_of (said at shape) = at

mutual
  -- a statement; `let` and `return` with the place of that word, `raise` with that of the closing brace
  pub data Say : Type 0 where
    say_let : At → Part → Said → Say
    say_set : Part → Said → Say
    -- what is done where the expression is true, and what otherwise: nothing without an `else`
    say_if : Said → Says → Says → Say
    say_leave : At → Say
    say_return : At → Said → Say
    say_raise : Scoped → Fields → At → Say

  -- statements
  pub data Says : Type 0 where
    no_says : Says
    one_say : Say → Says → Says

-- statements, from a list
abbrev pub says_of : List Say → Says
says_of [] = no_says
says_of (s ∷ ss) = one_say s (says_of ss)

-- a method: its name, its parameters with the place of the `)` after them, and its statements with that of the `}`
pub record MethodSaid : Type 0 where
  pub name : Part
  pub parameters : List Part
  pub close : At
  pub body : Says
  pub end : At

-- a servant: the place of the word, its interface, and its methods
pub record ServantSaid : Type 0 where
  pub at : At
  pub name : Scoped
  pub methods : List MethodSaid
