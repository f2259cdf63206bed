-- The servant of the built-in interface (own profile): `current` returns the priority of its request, `echo` its argument, and
-- `note` does nothing.
use Rattle.std.specs.Prelude.{ℕ, List, [], ◌∷◌, Option, Some, None}
use Rattle.idl_types.specs.Things.{Thing}
use Rattle.idl_types.specs.References.{kind_at}
use Rattle.script_values.specs.Trees.{Term, priority, slot, no_steps, step, give}
use Rattle.script_checks.specs.Dues.{result_due}
use Rattle.script_checks.specs.Methods.{MethodView}
use Rattle.script_checks.specs.Servants.{ServantView}

-- a method that returns a value
abbrev pub returns_at_once : List Thing → ℕ → ℕ → Term → MethodView
returns_at_once ts place o t = record { operation = o; lets = 0; body = step (give (kind_at ts (result_due place o)) t) no_steps }

-- a method that does nothing
abbrev pub does_nothing : ℕ → MethodView
does_nothing o = record { operation = o; lets = 0; body = no_steps }

-- the servant, where the interface is at a place
abbrev pub ping_servant : List Thing → ℕ → ServantView
ping_servant ts place = record {
  interface = place;
  methods = returns_at_once ts place 0 priority ∷ returns_at_once ts place 1 (slot 0) ∷ does_nothing 2 ∷ [];
}

-- the servant, where there is the interface
abbrev pub built_in : List Thing → Option ℕ → List ServantView
built_in ts None = []
built_in ts (Some place) = ping_servant ts place ∷ []
