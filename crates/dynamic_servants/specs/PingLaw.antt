-- What an object of the built-in interface answers to `current` (own profile): the priority of its request, as a short.
use Rattle.std.specs.Prelude.{◌≡◌, ◌<◌, ◌^◌, ℕ, List, ◌∷◌, length, Ok, Some, None, slice_get, codes}
use Rattle.std.specs.Int.{w16}
use Rattle.orb_base.specs.JobRecord.{JobRecord}
use Rattle.orb_base.specs.declared.outcome.Outcome.TheVariants.{Returned}
use Rattle.cdr_core.specs.Field.{number_bytes}
use Rattle.idl_types.specs.Finding.{place_named}
use Rattle.idl_types.specs.Sound.{ping_id}
use Rattle.idl_types.specs.BuiltIn.{ping, with_ping}
use Rattle.idl_types.specs.Things.{Thing}
use Rattle.servant_scripts.specs.Trees.{ServantSaid}
use Rattle.script_checks.specs.Servants.{ServantView}
use Rattle.dynamic_servants.specs.BuiltInServant.{ping_servant}
use Rattle.dynamic_servants.specs.Outcome.{Served, outcome_of}
use Rattle.dynamic_servants.specs.Served.{served_by}

-- the built-in interface is at a place that references count, and its servant is the first
pub record ServesPing (s : Served) : Type 0 where
  pub place : ℕ
  pub near : place < 2 ^ 32
  pub placed : place_named s.things ping_id ≡ Some place
  pub thing : slice_get s.things place ≡ Some ping
  pub others : List ServantView
  pub first : s.servants ≡ ping_servant s.things place ∷ others

-- then `current` returns the priority of its request in the request's byte order
abbrev pub CurrentTellsPriority : Type 0
CurrentTellsPriority =
    (s : Served) → ServesPing s → (job : JobRecord) → job.operation ≡ codes "current" → job.priority < 2 ^ 15
    → outcome_of s ping_id job ≡ Returned (number_bytes job.order w16 job.priority)

-- whatever a file declares beside the built-in module, and whatever its script does, the built-in interface is served so
abbrev pub PingIsServed : Type 0
PingIsServed =
    (ts : List Thing) (script : List ServantSaid) (s : Served) → place_named ts ping_id ≡ None → length ts < 2 ^ 32
    → served_by (with_ping ts) script ≡ Ok s → ServesPing s
