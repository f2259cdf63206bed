-- Laws of the invocations of a name service.
use Rattle.std.specs.Prelude.{◌≡◌, ◌⊎◌, ℕ, List, [], ◌∷◌, ◌++◌}
use Rattle.orb_base.specs.Outcomes.{no_memory}
use Rattle.orb_base.specs.declared.answer.Answer.{Answer}
use Rattle.orb_base.specs.declared.order.Order.{Order}
use Rattle.orb_base.specs.declared.outcome.Outcome.{Outcome}
use Rattle.turn_cell.specs.Good.{entry}
use Rattle.turn_cell.specs.History.{of, replay}
use Rattle.turn_cell.specs.Numbers.{Each}
use Rattle.name_map.specs.declared.call.NamesCall.{NamesCall}
use Rattle.name_map.specs.declared.call.NamesReply.{NamesReply}
use Rattle.name_map.specs.Callers.{History}
use Rattle.name_map.specs.Machine.{step}
use Rattle.name_calls.specs.Answers.{answer}
use Rattle.name_calls.specs.declared.meaning.Meaning.{Meaning}
use Rattle.name_calls.specs.declared.meaning.Meaning.TheVariants.{Asks, Tells}
use Rattle.names_hall.specs.Closing.{IsLawful}
use Rattle.names_hall.specs.Entering.{meaning_of, ComesTo, AreEntered}

-- what the map replies to a call after the calls of a history
abbrev pub reply_after : History → NamesCall → NamesReply
reply_after before ask = (step (replay step [] before) ask).1

-- the call is in the history, and its invocation came to what the map answers after the calls before it, or to NO_MEMORY
pub record IsAnswered (h : History) (seat : ℕ) (order : Order) (ask : NamesCall) (outcome : Outcome) : Type 0 where
  pub before : History
  pub after : History
  pub there : h ≡ before ++ entry seat ask (reply_after before ask) ∷ after
  pub comes : ComesTo (answer order (reply_after before ask)) outcome

-- what a client is answered: what the map answers, or what the request has for an answer of its own, or NO_MEMORY
abbrev pub IsToldBy : History → ℕ → Order → Meaning → Outcome → Type 0
IsToldBy h seat order (Asks ask) outcome = IsAnswered h seat order ask outcome ⊎ (outcome ≡ no_memory)
IsToldBy h seat order (Tells own) outcome = ComesTo own outcome

-- each invocation of a slot is answered so, where the history is legal and has the slot's entries
abbrev pub TellsTruly : Type 0
TellsTruly = (h : History) (seat : ℕ) (done : List Answer) → IsLawful h → AreEntered seat done (of seat h)
    → Each (λ a. IsToldBy h seat a.job.order (meaning_of a.job) a.outcome) done
