-- What was done from the opening of a setup on, where it is known only which servants give it. Own profile.
use Rattle.std.specs.Prelude.{◌≡◌, ℕ, List, [], ◌∷◌, ◌++◌}
use Rattle.orb_base.specs.JobRecord.{JobRecord}
use Rattle.orb_base.specs.declared.outcome.Outcome.{Outcome}
use Rattle.lane_machine.specs.declared.call.How.{How}
use Rattle.lane_machine.specs.declared.call.LaneCall.{LaneCall}
use Rattle.lane_machine.specs.State.{CanOpen, opening}
use Rattle.lane_machine.specs.Histories.{History, IsLegal}
use Rattle.adapter_policies.specs.SetupData.{SetupData}
use Rattle.pipe_laws.specs.Setup.{pipe_conn}
use Rattle.pipe_laws.specs.Piped.{answer_of, piped}
use Rattle.pipe_laws.specs.Legality.{AreHeardCalls}
use Rattle.pipe_laws.specs.Lacking.{Agrees, HasAnswers, served, Lacking}
use Rattle.pipe_laws.specs.Serials.{RisesFrom}

-- the entries are before the others
abbrev pub IsFront : History → History → Type 0
IsFront [] h = Unit {0}
IsFront (e ∷ es) [] = ⊥
IsFront (e ∷ es) (first ∷ h) = (e ≡ first) × IsFront es h

-- where the servants of a run of the pipe give the answers of a prefix of the entries, its history begins with that prefix
abbrev pub BeginsPiped : SetupData → (List ℕ → JobRecord → Outcome) → ℕ → List LaneCall → How → History → Type 0
BeginsPiped setup outcome batch calls how entries =
    (lacks : List ℕ) (front : History) → IsFront front entries → Agrees (answer_of setup outcome lacks) front
    → (more : History) × ((piped setup outcome batch calls how lacks).history ≡ front ++ more)

-- such entries, legal and with answers, tell the serials for which memory was wanting, where the serials of the calls rise
abbrev pub BegunTellsLacks : Type 0
BegunTellsLacks = (setup : SetupData) (outcome : List ℕ → JobRecord → Outcome) (batch : ℕ) (calls : List LaneCall) (how : How)
    (n : ℕ) (entries : History)
    → CanOpen setup.pool setup.slots setup.per_slot → AreHeardCalls setup.pool pipe_conn calls → RisesFrom n calls
    → IsLegal (opening setup.pool setup.slots setup.per_slot) entries → HasAnswers (served setup outcome) entries
    → BeginsPiped setup outcome batch calls how entries → Lacking setup outcome entries
