-- Values of constants: CORBA 3.0.3, chapter 3, constant declarations.
use Rattle.std.specs.Prelude.{ℕ, ℤ, pos, Bool, true, false, List}

-- a number, a char by its code, a text, a truth value, an enumerator by the id of its enum and its number
pub data Value : Type 0 where
  number : ℤ → Value
  character : ℕ → Value
  text : List ℕ → Value
  truth : Bool → Value
  choice : List ℕ → ℕ → Value

-- the number by which a case of a union is given
abbrev pub label_of : Value → ℤ
label_of (number z) = z
label_of (character c) = pos c
label_of (text t) = pos 0
label_of (truth true) = pos 1
label_of (truth false) = pos 0
label_of (choice enum n) = pos n
