-- Expressions and statements as plain trees, in which a reference to a type is that type. What is between operands is
-- grouped to the left.
use Rattle.std.specs.Prelude.{ℕ, List, [], ◌∷◌, Option}
use Rattle.cdr_values.specs.Trees.{Kind, Value}
use Rattle.script_grammar.specs.declared.operator.Unary.{Unary}
use Rattle.script_grammar.specs.declared.operator.Binary.{Binary}

mutual
  -- an expression: a variable is the number of its slot, a member its index
  pub data Term : Type 0 where
    literal : Value → Term
    priority : Term
    slot : ℕ → Term
    unary : Unary → Term → Term
    binary : Binary → Term → Term → Term
    member_of : Term → ℕ → Term
    build : Terms → Term

  -- what is built: the index of each member or element, the type that it must fit, and what gives it
  pub data Terms : Type 0 where
    no_terms : Terms
    term : ℕ → Option Kind → Term → Terms → Terms

-- one of what is built
abbrev pub Part : Type 0
Part = ℕ × Option Kind × Term

-- what is built, from a list
abbrev pub terms_of : List Part → Terms
terms_of [] = no_terms
terms_of (p ∷ ps) = term p.0 p.1 p.2 (terms_of ps)

-- what is done to the expression before: an operator with its second operand, or a member
pub data Joint : Type 0 where
  operand : Binary → Term → Joint
  member_at : ℕ → Joint

-- an expression with one more done to it
abbrev pub joint : Term → Joint → Term
joint t (operand o u) = binary o t u
joint t (member_at n) = member_of t n

-- an expression with these done to it, from left to right
abbrev pub spine : Term → List Joint → Term
spine t [] = t
spine t (j ∷ js) = spine (joint t j) js

mutual
  -- a statement
  pub data Step : Type 0 where
    let_be : ℕ → Term → Step
    -- with the type that the value must fit, as `give` has it
    set : ℕ → Option Kind → Term → Step
    -- what is done where the expression is true, and what otherwise
    branch : Term → Steps → Steps → Step
    leave : Step
    give : Option Kind → Term → Step
    -- the exception by its index, with its members
    raise : ℕ → Terms → Step

  -- statements
  pub data Steps : Type 0 where
    no_steps : Steps
    step : Step → Steps → Steps

-- statements, from a list
abbrev pub steps_of : List Step → Steps
steps_of [] = no_steps
steps_of (s ∷ ss) = step s (steps_of ss)
