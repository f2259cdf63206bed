-- The arguments of an operation as a JSON text, and its results: own profile. Both are an array of one value for each
-- parameter that goes this way, in order; the results begin with the result, where there is one.
use Rattle.std.specs.Prelude.{ℕ, Bool, true, false, ◌&&◌, List, [], ◌∷◌, map, filter, Option, Some, None}
use Rattle.std.specs.Option.{option_and_then}
use Rattle.serde_json.specs.Data.{Data, Items, no_items, item}
use Rattle.serde_json.specs.Data as json
use Rattle.serde_json.specs.Find.{as_array}
use Rattle.serde_json.specs.Read.{read}
use Rattle.serde_json.specs.Written.{compact_text}
use Rattle.idl_types.specs.declared.way.Way.{Way}
use Rattle.idl_types.specs.declared.way.Way.TheVariants.{Input, Output, Both}
use Rattle.idl_types.specs.Things.{ParamView, OperationView}
use Rattle.cdr_values.specs.Fitting.{is_of}
use Rattle.cdr_values.specs.Trees.{Kind, Value}
use Rattle.value_json.specs.Meant.{meant, with_first}
use Rattle.value_json.specs.Shown.{shown}

-- a parameter of this way goes to the servant: `in` and `inout` do
abbrev pub goes_in : Way → Bool
goes_in Input = true
goes_in Output = false
goes_in Both = true

-- a parameter of this way comes back: `out` and `inout` do
abbrev pub goes_out : Way → Bool
goes_out Input = false
goes_out Output = true
goes_out Both = true

-- the types of the parameters that go to the servant, in order
abbrev pub kinds_in : List ParamView → List Kind
kinds_in params = map (λ p. p.kind) (filter (λ p. goes_in p.way) params)

-- the types of those that come back
abbrev pub kinds_back : List ParamView → List Kind
kinds_back params = map (λ p. p.kind) (filter (λ p. goes_out p.way) params)

-- one type more, where there is a result
abbrev pub with_result : Option Kind → List Kind → List Kind
with_result None kinds = kinds
with_result (Some k) kinds = k ∷ kinds

-- the types of the results of an operation
abbrev pub kinds_out : OperationView → List Kind
kinds_out operation = with_result operation.result (kinds_back operation.params)

-- whether the values are of these types, one of each
abbrev pub are_of : List Kind → List Value → Bool
are_of [] [] = true
are_of [] (v ∷ vs) = false
are_of (k ∷ ks) [] = false
are_of (k ∷ ks) (v ∷ vs) = is_of v k && are_of ks vs

-- the values that items mean, one of each type
unfoldable pub meant_of_each : List Kind → Items → Option (List Value)
meant_of_each [] no_items = Some []
meant_of_each [] (item d ds) = None
meant_of_each (k ∷ ks) no_items = None
meant_of_each (k ∷ ks) (item d ds) = with_first (meant k d) (meant_of_each ks ds)

-- the values that a text means: a JSON array of as many items, one of each type
abbrev pub arguments_in : List Kind → List ℕ → Option (List Value)
arguments_in ks text = option_and_then (meant_of_each ks) (option_and_then as_array (read text))

-- values as items, one of each type
unfoldable pub shown_of_each : List Kind → List Value → Items
shown_of_each [] vs = no_items
shown_of_each (k ∷ ks) [] = no_items
shown_of_each (k ∷ ks) (v ∷ vs) = item (shown v k) (shown_of_each ks vs)

-- the text of values: a JSON array without spaces
abbrev pub results_text : List Kind → List Value → List ℕ
results_text ks vs = compact_text (json.array (shown_of_each ks vs))
