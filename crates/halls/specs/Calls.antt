-- How many of some calls were made: own profile.
use Rattle.std.specs.Prelude.{◌≡◌, ◌<◌, ℕ, List, [], ◌∷◌, ◌++◌}
use Rattle.orb_base.specs.JobRecord.{JobRecord}
use Rattle.halls.specs.Hands.{HandState}
use Rattle.halls.specs.Steps.{Step, calls_of, Making, MakesAll, StopsAtLast}
use Rattle.halls.specs.declared.call.HallCall.{HallCall}
use Rattle.halls.specs.declared.call.HallCall.TheVariants.{Post, Invoke}
use Rattle.halls.specs.declared.ends.Took.{Took}
use Rattle.halls.specs.declared.ends.Took.TheVariants.{All, RunClosed, Stopped}

-- the steps are those of all calls; or of those before an invocation for which the hand had none left; or of a prefix of them
abbrev pub CallsBy : Took → List HallCall → List Step → HandState → Type 0
CallsBy All calls steps new = calls ≡ calls_of steps
CallsBy RunClosed calls steps new =
    (job : JobRecord) × (rest : List HallCall) × (calls ≡ calls_of steps ++ Invoke job ∷ rest) × (new.spare ≡ 0)
CallsBy Stopped calls steps new = (rest : List HallCall) × (calls ≡ calls_of steps ++ rest)

-- the steps were made whole, or up to a failed write
abbrev pub MadeBy : Took → List Step → Making → Making → Type 0
MadeBy All steps old new = MakesAll steps old new
MadeBy RunClosed steps old new = MakesAll steps old new
MadeBy Stopped steps old new = StopsAtLast steps old new

-- what was made of some calls
pub record Takes (end : Took) (calls : List HallCall) (old new : Making) : Type 0 where
  pub steps : List Step
  pub calls_by : CallsBy end calls steps new.hand
  pub made : MadeBy end steps old new

-- the call is for an object that is there, of so many
abbrev pub IsThere : ℕ → HallCall → Type 0
IsThere objects (Post notice) = Unit {0}
IsThere objects (Invoke job) = job.target < objects

-- so is each of the calls
abbrev pub AreThere : ℕ → List HallCall → Type 0
AreThere objects [] = Unit {0}
AreThere objects (c ∷ cs) = IsThere objects c × AreThere objects cs
