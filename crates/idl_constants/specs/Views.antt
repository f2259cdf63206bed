-- What the values of the program stand for.
use Rattle.idl_constants.specs.ConstValues.{Value, number, character, text, truth, choice}
use Rattle.idl_constants.specs.declared.value.ConstValue.{ConstValue}
use Rattle.idl_constants.specs.declared.value.ConstValue.TheVariants as v

-- a value of the program
abbrev pub value_of : ConstValue → Value
value_of (v.Number z) = number z
value_of (v.Character c) = character c
value_of (v.Text t) = text t
value_of (v.Truth b) = truth b
value_of (v.Choice enum n) = choice enum n
