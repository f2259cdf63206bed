-- The plain trees that values stand for.
use Rattle.std.specs.Prelude.{ℕ, List, map, Option, Some, None}
use Rattle.cdr_values.specs.Trees.{Value, truth, number, letter, text, items, chosen, label, Values, no_values, value, values_of}
use Rattle.cdr_values.specs.declared.value.IdlValue.{IdlValue}
use Rattle.cdr_values.specs.declared.value.IdlValue.TheFolds.{fold-IdlValue}
use Rattle.cdr_values.specs.declared.value.IdlValue.TheOpen.{IdlValue-F}

-- one layer, whose children are trees already
abbrev pub value_step : IdlValue-F Value → Value
value_step (IdlValue-F.Boolean b) = truth b
value_step (IdlValue-F.Number n) = number n
value_step (IdlValue-F.Char c) = letter c
value_step (IdlValue-F.Words t) = text t
value_step (IdlValue-F.Items v) = items (values_of v.items)
value_step (IdlValue-F.Chosen n None) = chosen n no_values
value_step (IdlValue-F.Chosen n (Some v)) = chosen n (value v.value no_values)
value_step (IdlValue-F.Label n) = label n

-- the tree of a value
abbrev pub value_of : IdlValue → Value
value_of = fold-IdlValue Value value_step

-- values in order
abbrev pub values_view : List IdlValue → List Value
values_view = map value_of

-- a union's member, where there is one
abbrev pub member_view : Option IdlValue → Values
member_view None = no_values
member_view (Some v) = value (value_of v) no_values
