-- The serials for which memory was wanting are there.
use Rattle.std.proofs.Common.{◌≡◌, ℕ, Bool, false, ◌||◌, ◌==◌, List, [], ◌∷◌, inl, inr, refl, sym, ap, ◌∙◌, eq-eqb, ne_eqb}
use Rattle.std.specs.Prelude.{◌⊎◌, if◌then◌else◌}
use Rattle.std.specs.List.{list_any}
use Rattle.orb_base.specs.JobRecord.{JobRecord}
use Rattle.orb_base.specs.Outcomes.{no_memory}
use Rattle.orb_base.specs.declared.answer.Answer.{Answer}
use Rattle.orb_base.specs.declared.outcome.Outcome.{Outcome}
use Rattle.lane_machine.specs.declared.call.LaneCall.{LaneCall}
use Rattle.lane_machine.specs.declared.call.LaneCall.TheVariants.{Finish}
use Rattle.lane_machine.specs.Histories.{History}
use Rattle.adapter_policies.specs.SetupData.{SetupData}
use Rattle.pipe_laws.specs.Piped.{answer_of}
use Rattle.pipe_laws.specs.Lacking.{agrees_at, Agrees, CameOf, came_at, served, apart_at, Apart, once_at, Lacking, LacksAreThere}

-- one serial more changes no answer to a job of another serial
more_at : (setup : SetupData) (outcome : List ℕ → JobRecord → Outcome) (n : ℕ) (lacks : List ℕ) (call : LaneCall) → apart_at n call
    → agrees_at (answer_of setup outcome lacks) call → agrees_at (answer_of setup outcome (n ∷ lacks)) call
more_at setup outcome n lacks (Finish t answer) apart agrees =
    ap (λ (b : Bool). if (b || list_any (λ serial. serial == answer.job.serial) lacks) then no_memory else served setup outcome answer.job)
    (ne_eqb n answer.job.serial (λ same. apart (sym same))) ∙ agrees
more_at setup outcome n lacks call apart agrees = tt

more_all : (setup : SetupData) (outcome : List ℕ → JobRecord → Outcome) (n : ℕ) (lacks : List ℕ) (h : History) → Apart n h
    → Agrees (answer_of setup outcome lacks) h → Agrees (answer_of setup outcome (n ∷ lacks)) h
more_all setup outcome n lacks [] apart agrees = tt
more_all setup outcome n lacks (e ∷ es) (here, apart) (first, agrees) =
    (more_at setup outcome n lacks e.call here first, more_all setup outcome n lacks es apart agrees)

-- a call before
record InFront (setup : SetupData) (outcome : List ℕ → JobRecord → Outcome) (call : LaneCall) (es : History) : Type 0 where
  lacks : List ℕ
  only : (n : ℕ) → apart_at n call → Apart n es → list_any (λ serial. serial == n) lacks ≡ false
  first : agrees_at (answer_of setup outcome lacks) call
  agrees : Agrees (answer_of setup outcome lacks) es

finish_front : (setup : SetupData) (outcome : List ℕ → JobRecord → Outcome) (t : ℕ) (answer : Answer) (es : History)
    → CameOf (served setup outcome) answer.job answer.outcome
    → Apart answer.job.serial es → Lacking setup outcome es → InFront setup outcome (Finish t answer) es
finish_front setup outcome t answer es (inl is) once others = record {
  lacks = others.lacks;
  only = λ n here apart. others.only n apart;
  first = ap (λ (b : Bool). if b then no_memory else served setup outcome answer.job) (others.only answer.job.serial once) ∙ sym is;
  agrees = others.agrees;
}
finish_front setup outcome t answer es (inr (is, _)) once others = record {
  lacks = answer.job.serial ∷ others.lacks;
  only = λ n here apart. ap (λ (b : Bool). b || list_any (λ serial. serial == n) others.lacks) (ne_eqb answer.job.serial n here)
      ∙ others.only n apart;
  first = ap (λ (b : Bool). if (b || list_any (λ serial. serial == answer.job.serial) others.lacks) then no_memory
      else served setup outcome answer.job) (eq-eqb answer.job.serial answer.job.serial refl) ∙ sym is;
  agrees = more_all setup outcome answer.job.serial others.lacks es once others.agrees;
}

other_front : (setup : SetupData) (outcome : List ℕ → JobRecord → Outcome) (call : LaneCall) (es : History)
    → ((lacks : List ℕ) → agrees_at (answer_of setup outcome lacks) call) → Lacking setup outcome es → InFront setup outcome call es
other_front setup outcome call es agrees others =
    record { lacks = others.lacks; only = λ n here apart. others.only n apart; first = agrees others.lacks; agrees = others.agrees }

in_front : (setup : SetupData) (outcome : List ℕ → JobRecord → Outcome) (call : LaneCall) (es : History)
    → came_at (served setup outcome) call → once_at call es → Lacking setup outcome es → InFront setup outcome call es
in_front setup outcome (Finish t answer) es came once others = finish_front setup outcome t answer es came once others
in_front setup outcome call es came once others = other_front setup outcome call es (λ lacks. tt) others

pub lacks_are_there : LacksAreThere
lacks_are_there setup outcome [] answers once = record { lacks = []; only = λ n apart. refl; agrees = tt; came = tt }
lacks_are_there setup outcome (e ∷ es) (came, answers) (first, once) =
    let x = in_front setup outcome e.call es came first (lacks_are_there setup outcome es answers once) in
    record { lacks = x.lacks; only = λ n apart. x.only n apart.0 apart.1; agrees = (x.first, x.agrees); came = (came, answers) }
