-- Values of constants as values of their types: CORBA 3.0.3, chapter 3, constant declarations.
use Rattle.cdr_values.specs.Trees as trees
use Rattle.idl_constants.specs.ConstValues.{Value, number, character, text, truth, choice}

-- the value that a constant's literal or name stands for
abbrev pub constant_value : Value → trees.Value
constant_value (number z) = trees.number z
constant_value (character c) = trees.letter c
constant_value (text t) = trees.text t
constant_value (truth b) = trees.truth b
constant_value (choice enum n) = trees.label n
