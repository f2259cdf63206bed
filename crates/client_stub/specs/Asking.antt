-- What is asked of a remote object, and what a call of it carries as its body: CORBA 3.0.3, sections 15.3 and 15.4.2.
use Rattle.std.specs.Prelude.{ℕ, Bool, List, [], ◌∷◌, Option, Some, None, option_map}
use Rattle.orb_base.specs.Span.{Span}
use Rattle.orb_base.specs.declared.order.Order.TheVariants.{Big}
use Rattle.cdr_core.specs.Field.{Field}
use Rattle.cdr_core.specs.Spelling.{fields_bytes}
use Rattle.cdr_values.specs.Trees.{Kind, Value}
use Rattle.cdr_values.specs.Spelling.{fields_of, both}
use Rattle.cdr_values.specs.Values.{values_view}
use Rattle.idl_types.specs.Things.{OperationView}
use Rattle.idl_types.specs.Views.{operation_of}
use Rattle.value_json.specs.Operations.{kinds_in, are_of}
use Rattle.client_stub.specs.declared.asked.Asked.{Asked as Given}
use Rattle.client_stub.specs.Remotes.{Remote}

-- a call of an operation: its arguments are the values of the `in` and `inout` parameters in order; it has a priority or
-- none, and a band that is bound before it or none
pub record Asked : Type 0 where
  pub remote : Remote
  pub operation : OperationView
  pub arguments : List Value
  pub priority : Option ℕ
  pub band : Option Span

-- what is in the parts of a call
abbrev pub asked_of : Given → Asked
asked_of a = record {
  remote = a.remote.now;
  operation = operation_of a.operation.now;
  arguments = values_view a.arguments.now.items;
  priority = a.priority;
  band = a.band;
}

-- whether there is one argument for each parameter that goes to the servant, of its type
abbrev pub arguments_fit : Asked → Bool
arguments_fit asked = are_of (kinds_in asked.operation.params) asked.arguments

-- the fields of values, one value after the other; None where they aren't one of each type
abbrev pub fields_of_all : List Kind → List Value → Option (List Field)
fields_of_all [] [] = Some []
fields_of_all [] (v ∷ vs) = None
fields_of_all (k ∷ ks) [] = None
fields_of_all (k ∷ ks) (v ∷ vs) = both (fields_of v k) (fields_of_all ks vs)

-- the fields of the arguments
abbrev pub argument_fields : Asked → Option (List Field)
argument_fields asked = fields_of_all (kinds_in asked.operation.params) asked.arguments

-- the body of a call. It begins at a multiple of 8 of the message, so that its places may be counted from 0
abbrev pub call_body : Asked → Option (List ℕ)
call_body asked = option_map (fields_bytes Big 0) (argument_fields asked)
