-- What servants serve, as plain data.
use Rattle.std.specs.Prelude.{ℕ, List, map, ◌++◌, Ok}
use Rattle.idl_types.specs.Contents.{things_of}
use Rattle.idl_types.specs.Finding.{place_named}
use Rattle.idl_types.specs.Sound.{ping_id}
use Rattle.idl_types.specs.Things.{Thing, OperationView}
use Rattle.idl_types.specs.Views.{interface_of, operation_of}
use Rattle.servant_scripts.specs.Trees.{ServantSaid}
use Rattle.script_values.specs.Trees.{steps_of}
use Rattle.script_values.specs.Views.{steps_view}
use Rattle.script_checks.specs.Done.{servant_view}
use Rattle.script_checks.specs.Scene.{Checks, ◌>>=◌}
use Rattle.script_checks.specs.Servants.{checked}
use Rattle.dynamic_servants.specs.Outcome as Spec
use Rattle.dynamic_servants.specs.BuiltInServant.{built_in}
use Rattle.dynamic_servants.specs.declared.servants.Servants.{Servants}
use Rattle.dynamic_servants.specs.declared.target.Target.{Target}
use Rattle.dynamic_servants.specs.declared.target.Asked.{Asked}
use Rattle.dynamic_servants.specs.declared.target.Work.{Work}

-- the things of the repository, and the servants of its interfaces
abbrev pub served_of : Servants → Spec.Served
served_of s = record { things = things_of s.repository; servants = map (servant_view (things_of s.repository)) s.servants.items }

-- what a script serves over things: the servant of the built-in interface, and after it the script's
abbrev pub served_by : List Thing → List ServantSaid → Checks Spec.Served
served_by ts script = checked ts script >>= λ vs. Ok (record { things = ts; servants = built_in ts (place_named ts ping_id) ++ vs })

-- an interface with its servant
abbrev pub target_view : List Thing → Target → Spec.Target
target_view ts t = (interface_of t.interface.now, servant_view ts t.servant.now)

-- an operation, with its index
abbrev pub asked_view : Asked → ℕ × OperationView
asked_view a = (a.at, operation_of a.operation.now)

-- what a method runs
abbrev pub work_view : List Thing → Work → Spec.Work
work_view ts w = (w.lets, steps_of (steps_view ts w.body.now))
