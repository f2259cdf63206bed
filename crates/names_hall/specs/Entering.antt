-- How the invocations of a slot are tied to its entries in the history of the map: own profile.
use Rattle.std.specs.Prelude.{◌≡◌, ◌⊎◌, ℕ, List, [], ◌∷◌, ◌++◌}
use Rattle.orb_base.specs.JobRecord.{JobRecord}
use Rattle.orb_base.specs.Outcomes.{no_memory}
use Rattle.orb_base.specs.declared.answer.Answer.{Answer}
use Rattle.orb_base.specs.declared.order.Order.{Order}
use Rattle.orb_base.specs.declared.outcome.Outcome.{Outcome}
use Rattle.turn_cell.specs.Good.{entry}
use Rattle.name_map.specs.declared.call.NamesReply.{NamesReply}
use Rattle.name_map.specs.Callers.{History}
use Rattle.name_calls.specs.Answers.{answer}
use Rattle.name_calls.specs.Meanings.{meaning}
use Rattle.name_calls.specs.declared.meaning.Meaning.{Meaning}
use Rattle.name_calls.specs.declared.meaning.Meaning.TheVariants.{Asks, Tells}

-- what a job's request means to the service
abbrev pub meaning_of : JobRecord → Meaning
meaning_of job = meaning job.order job.operation job.body

-- the outcome, or else NO_MEMORY
abbrev pub ComesTo : Outcome → Outcome → Type 0
ComesTo well outcome = (outcome ≡ well) ⊎ (outcome ≡ no_memory)

-- a seat's entries by one invocation. One that asks the map has its call entered once, and comes to the map's reply or, where that can't
-- be spelled, to NO_MEMORY; out of memory before the call it comes to NO_MEMORY, without an entry. One that has an answer of its own
-- comes to that, or to NO_MEMORY, without an entry
abbrev pub EntersBy : ℕ → Order → Meaning → Outcome → History → Type 0
EntersBy seat order (Asks ask) outcome entries =
    ((reply : NamesReply) × (entries ≡ entry seat ask reply ∷ []) × ComesTo (answer order reply) outcome)
    ⊎ ((entries ≡ []) × (outcome ≡ no_memory))
EntersBy seat order (Tells own) outcome entries = (entries ≡ []) × ComesTo own outcome

-- the same of a job with its outcome
abbrev pub Enters : ℕ → Answer → History → Type 0
Enters seat done entries = EntersBy seat done.job.order (meaning_of done.job) done.outcome entries

-- a seat's entries by some invocations: those of each, one invocation after another, and no others
pub data AreEntered (seat : ℕ) : List Answer → History → Type 0 where
  none : AreEntered seat [] []
  one : (done : List Answer) (mine : History) (last : Answer) (entries : History) → AreEntered seat done mine → Enters seat last entries
      → AreEntered seat (done ++ last ∷ []) (mine ++ entries)
