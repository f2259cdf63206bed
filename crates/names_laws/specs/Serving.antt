-- Servants among which one is of the interface of a name service: own profile.
use Rattle.std.specs.Prelude.{◌≡◌, ℕ, List, Some, None, slice_get}
use Rattle.idl_types.specs.BuiltIn.{names, with_names}
use Rattle.idl_types.specs.Finding.{place_named}
use Rattle.idl_types.specs.Sound.{names_id}
use Rattle.idl_types.specs.Things.{Thing}
use Rattle.script_checks.specs.Servants.{ServantView}
use Rattle.dynamic_servants.specs.Outcome.{Served, servant_at}

-- the interface of a name service is declared, and it has a servant; the methods of the servant are any
pub record ServesNames (s : Served) : Type 0 where
  pub place : ℕ
  pub placed : place_named s.things names_id ≡ Some place
  pub thing : slice_get s.things place ≡ Some names
  pub servant : ServantView
  pub serves : servant_at s.servants place ≡ Some servant

-- the interface is declared wherever it was added to what a file declares, and so it is served where the servants have
-- one for its place
abbrev pub NamesAreServed : Type 0
NamesAreServed =
    (ts : List Thing) (servants : List ServantView) (place : ℕ) (servant : ServantView) → place_named ts names_id ≡ None
    → place_named (with_names ts) names_id ≡ Some place → servant_at servants place ≡ Some servant
    → ServesNames (record { things = with_names ts; servants = servants })
