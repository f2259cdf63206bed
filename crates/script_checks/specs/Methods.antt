-- The check of the methods of a servant, in the order of the text (own profile).
use Rattle.std.specs.Prelude.{ℕ, ◌+◌, ◌==◌, ◌||◌, Bool, true, false, List, [], ◌∷◌, ◌++◌, length, Ok, Option, Some, None, if◌then◌else◌}
use Rattle.std.specs.Option.{option_map}
use Rattle.std.specs.Str.{bytes_eq}
use Rattle.cdr_values.specs.Trees.{Name}
use Rattle.idl_types.specs.declared.type_ref.TypeRef.{TypeRef}
use Rattle.idl_types.specs.declared.way.Way.{Way}
use Rattle.idl_types.specs.declared.way.Way.TheVariants.{Input, Output, Both}
use Rattle.idl_types.specs.Things.{ParamView, OperationView, InterfaceView}
use Rattle.servant_scripts.specs.declared.phrase.At.{At}
use Rattle.servant_scripts.specs.declared.phrase.Part.{Part}
use Rattle.servant_scripts.specs.Trees.{MethodSaid}
use Rattle.script_values.specs.Trees.{Steps, steps_of}
use Rattle.script_checks.specs.declared.fault.CheckCause.TheVariants as cause
use Rattle.script_checks.specs.Scene.{Scene, Var, Checks, ◌>>=◌, refused, or_refused, if_holds}
use Rattle.script_checks.specs.Dues.{result_due, param_due}
use Rattle.script_checks.specs.Blocks.{Due, lines, ends}

-- a method that was checked: the index of its operation, how many `let` it has, and what is run
pub record MethodView : Type 0 where
  pub operation : ℕ
  pub lets : ℕ
  pub body : Steps

-- a parameter that comes out may be set
abbrev pub param_set : Way → TypeRef → Option TypeRef
param_set Input due = None
param_set Output due = Some due
param_set Both due = Some due

-- a parameter as the variable at an index
abbrev pub param_var : ℕ → ℕ → ℕ → ParamView → Var
param_var place o n p = record { name = p.name; kind = p.kind; due = param_set p.way (param_due place o n) }

-- the parameters as variables, after those so far
abbrev pub params_behind : ℕ → ℕ → List Var → List ParamView → List Var
params_behind place o vs [] = vs
params_behind place o vs (p ∷ ps) = params_behind place o (vs ++ param_var place o (length vs) p ∷ []) ps

-- a parameter has this name
abbrev pub is_named : Option ParamView → Part → Bool
is_named None p = false
is_named (Some k) p = bytes_eq k.name p.name

-- the names of the parameters are those of the IDL, in order: the first that differs is at fault, or the `)` where some are missing
abbrev pub same_names : List ParamView → List Part → At → Checks (Unit {0})
same_names [] [] close = Ok tt
same_names [] (p ∷ ps) close = refused cause.ParameterNames p.at
same_names (k ∷ ks) [] close = refused cause.ParameterNames close
same_names (k ∷ ks) (p ∷ ps) close = if bytes_eq k.name p.name then same_names ks ps close else refused cause.ParameterNames p.at

-- the operation of a name, with its index
abbrev pub find_operation : ℕ → List OperationView → Name → Option (ℕ × OperationView)
find_operation n [] name = None
find_operation n (o ∷ os) name = if bytes_eq o.name name then Some (n, o) else find_operation (n + 1) os name

-- an operation has a method
abbrev pub has_method : List MethodView → ℕ → Bool
has_method [] o = false
has_method (m ∷ ms) o = (m.operation == o) || has_method ms o

-- the operation of a method's name, which has no method before this one
abbrev pub new_method : List MethodView → InterfaceView → Part → Checks (ℕ × OperationView)
new_method done i p =
    or_refused cause.UnknownOperation p.at (find_operation 0 i.operations p.name)
    >>= λ o. if_holds (if has_method done o.0 then false else true) cause.Twice p.at o

-- where a result is due, every path ends, or the `}` is at fault
abbrev pub ends_well : Option TypeRef → Bool → At → Checks (Unit {0})
ends_well None all at = Ok tt
ends_well (Some due) all at = if_holds all cause.MissingReturn at tt

-- what an operation of the interface at a place gives
abbrev pub due_of : ℕ → ℕ → OperationView → Due
due_of place o op = record { result = option_map (λ k. result_due place o) op.result; raises = op.raises }

-- a method of an operation
abbrev pub method_for : Scene → ℕ → ℕ → OperationView → MethodSaid → Checks MethodView
method_for s place o op m =
    same_names op.params m.parameters m.close
    >>= λ u. lines s (due_of place o op) (params_behind place o [] op.params) 0 m.body []
    >>= λ x. ends_well (due_of place o op).result (ends m.body) m.end
    >>= λ u. Ok (record { operation = o; lets = x.1; body = steps_of x.0 })

-- one method after those before it
abbrev pub method : Scene → ℕ → InterfaceView → List MethodView → MethodSaid → Checks MethodView
method s place i done m = new_method done i m.name >>= λ o. method_for s place o.0 o.1 m

-- all methods after those before them
abbrev pub methods : Scene → ℕ → InterfaceView → List MethodView → List MethodSaid → Checks (List MethodView)
methods s place i done [] = Ok done
methods s place i done (m ∷ ms) = method s place i done m >>= λ x. methods s place i (done ++ x ∷ []) ms
