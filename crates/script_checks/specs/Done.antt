-- What checked statements, methods and servants stand for.
use Rattle.std.specs.Prelude.{ℕ, List, map, Option}
use Rattle.std.specs.Option.{option_map}
use Rattle.idl_types.specs.Things.{Thing, OperationView, InterfaceView}
use Rattle.idl_types.specs.Views.{operation_of, interface_of}
use Rattle.script_values.specs.Trees.{Step, steps_of}
use Rattle.script_values.specs.Views.{step_of, steps_view}
use Rattle.script_checks.specs.declared.done.Done.{Done}
use Rattle.script_checks.specs.declared.done.Block.{Block}
use Rattle.script_checks.specs.declared.done.Goal.{Goal}
use Rattle.script_checks.specs.declared.done.Found.{Found}
use Rattle.script_checks.specs.declared.done.Served.{Served}
use Rattle.script_checks.specs.declared.checked.CheckedMethod.{CheckedMethod}
use Rattle.script_checks.specs.declared.checked.CheckedServant.{CheckedServant}
use Rattle.script_checks.specs.declared.checked.CheckedScript.{CheckedScript}
use Rattle.script_checks.specs.Scene.{Var}
use Rattle.script_checks.specs.Views.{var_of}
use Rattle.script_checks.specs.Blocks.{Due}
use Rattle.script_checks.specs.Methods.{MethodView}
use Rattle.script_checks.specs.Servants.{ServantView}

-- what a method gives
abbrev pub goal_of : Goal → Due
goal_of g = record { result = g.result; raises = g.raises.now }

-- a statement, the variable that it brings, and the number of `let` so far
abbrev pub done_of : List Thing → Done → Step × Option Var × ℕ
done_of ts d = (step_of ts d.stmt, option_map var_of d.new, d.lets)

-- statements, and the number of `let` after them
abbrev pub block_of : List Thing → Block → List Step × ℕ
block_of ts b = (steps_view ts b.stmts.items, b.lets)

-- an operation, with its index
abbrev pub found_of : Found → ℕ × OperationView
found_of f = (f.at, operation_of f.operation.now)

-- an interface, with its place
abbrev pub served_of : Served → ℕ × InterfaceView
served_of v = (v.place, interface_of v.interface.now)

-- a method
abbrev pub method_view : List Thing → CheckedMethod → MethodView
method_view ts m = record { operation = m.operation; lets = m.lets; body = steps_of (steps_view ts m.body.items) }

-- a servant
abbrev pub servant_view : List Thing → CheckedServant → ServantView
servant_view ts v = record { interface = v.interface; methods = map (method_view ts) v.methods.items }

-- a whole script
abbrev pub servants_in : List Thing → CheckedScript → List ServantView
servants_in ts c = map (servant_view ts) c.servants.items
