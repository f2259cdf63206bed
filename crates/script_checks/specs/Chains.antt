-- Chains: what is after an expression is checked with what was checked so far.
use Rattle.std.specs.Prelude.{List, [], ◌∷◌, map, Ok, Option, None}
use Rattle.idl_types.specs.declared.type_ref.TypeRef.{TypeRef}
use Rattle.servant_scripts.specs.declared.phrase.At.{At}
use Rattle.servant_scripts.specs.declared.phrase.Link.{Link}
use Rattle.servant_scripts.specs.Views.{Joint, operator, member, joint_of}
use Rattle.script_values.specs.Trees.{binary}
use Rattle.script_checks.specs.Scene.{Scene, Var, Typed, Checks, ◌>>=◌}
use Rattle.script_checks.specs.Operators.{asks, with_member}
use Rattle.script_checks.specs.Checking.{of_kind}

-- one more done to an expression that begins there
abbrev pub linked : Scene → List Var → At → Joint → Typed → Checks Typed
linked s vs at (operator o b) x = asks o at x >>= λ k. of_kind s vs k.0 b >>= λ y. Ok (binary o x.0 y, k.1)
linked s vs at (member p) x = with_member at p x

-- these, one after the other
abbrev pub chained : Scene → List Var → At → List Joint → Typed → Checks Typed
chained s vs at [] x = Ok x
chained s vs at (j ∷ js) x = linked s vs at j x >>= chained s vs at js

-- the type that is due is asked of the first part only where nothing is after it
abbrev pub want_first : Option TypeRef → List Joint → Option TypeRef
want_first want [] = want
want_first want (j ∷ js) = None

-- what is done to an expression, in order
abbrev pub joints_view : List Link → List Joint
joints_view = map joint_of
