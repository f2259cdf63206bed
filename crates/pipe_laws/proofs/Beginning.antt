-- What was done from the opening on tells the serials for which memory was wanting: no serial is finished twice in a prefix of it,
-- so that the serials of that prefix are there, and it begins a run of the pipe; so none is finished twice by one entry more.
use Rattle.std.proofs.Common.{◌≡◌, ℕ, List, [], ◌∷◌, ◌++◌, inl, inr, refl, sym, ap, ◌∙◌, subst, append_assoc, append-nil}
use Rattle.std.specs.Prelude.{◌⊎◌}
use Rattle.orb_base.specs.JobRecord.{JobRecord}
use Rattle.orb_base.specs.declared.conn_id.ConnId.{ConnId}
use Rattle.orb_base.specs.declared.outcome.Outcome.{Outcome}
use Rattle.lane_machine.specs.declared.call.How.{How}
use Rattle.lane_machine.specs.declared.call.LaneCall.{LaneCall}
use Rattle.lane_machine.specs.declared.call.LaneCall.TheVariants.{Finish, Offer}
use Rattle.lane_machine.specs.State.{State, CanOpen, opening}
use Rattle.lane_machine.specs.Machine.{step}
use Rattle.lane_machine.specs.Histories.{History, IsLegal}
use Rattle.lane_machine.specs.Entries.{One}
use Rattle.adapter_policies.specs.SetupData.{SetupData}
use Rattle.pipe_laws.specs.Setup.{pipe_conn}
use Rattle.pipe_laws.specs.Legality.{AreHeardCalls}
use Rattle.pipe_laws.specs.Lacking.{HasAnswers, served, apart_at, Apart, once_at, FinishesOnce}
use Rattle.pipe_laws.specs.Serials.{OffersOther, NeverOffers, OffersNew, OffersOnce, heard_of, RisesFrom}
use Rattle.pipe_laws.specs.Begun.{IsFront, BeginsPiped, BegunTellsLacks}
use Rattle.pipe_laws.proofs.Lacks.{lacks_are_there}
use Rattle.pipe_laws.proofs.Making.{heard_more, piped_makes_calls}
use Rattle.pipe_laws.proofs.Rising.{rising_offers_once}
use Rattle.pipe_laws.proofs.Once.{offered_finishes_once}
use Rattle.pipe_laws.proofs.Standing.{opens_so}

-- ---- fronts

pub front_self : (a b : History) → IsFront a (a ++ b)
front_self [] b = tt
front_self (e ∷ es) b = (refl, front_self es b)

legal_first : (s : State) (a b : History) → IsLegal s (a ++ b) → IsLegal s a
legal_first s [] b legal = tt
legal_first s (e ∷ es) b (ready, sound, answered, legal) = (ready, sound, answered, legal_first (step s e.call).0 es b legal)

answers_first : (outcome : JobRecord → Outcome) (a b : History) → HasAnswers outcome (a ++ b) → HasAnswers outcome a
answers_first outcome [] b answers = tt
answers_first outcome (e ∷ es) b (here, answers) = (here, answers_first outcome es b answers)

-- ---- one entry more

never_push : (n : ℕ) (h : History) (e : One) → NeverOffers n h → OffersOther n e.call → NeverOffers n (h ++ e ∷ [])
never_push n [] e never other = (other, tt)
never_push n (first ∷ es) e (here, never) other = (here, never_push n es e never other)

new_push : (conn : ConnId) (call : LaneCall) (es : History) (e : One) → OffersNew conn call es → ((n : ℕ) → OffersOther n e.call)
    → OffersNew conn call (es ++ e ∷ [])
new_push conn (Offer job) es e (mine, never) other = (mine, never_push job.serial es e never (other job.serial))
new_push conn call es e new other = tt

offers_push : (conn : ConnId) (h : History) (e : One) → OffersOnce conn h → ((n : ℕ) → OffersOther n e.call) → OffersNew conn e.call []
    → OffersOnce conn (h ++ e ∷ [])
offers_push conn [] e once other new = (new, tt)
offers_push conn (first ∷ es) e (here, once) other new =
    (new_push conn first.call es e here other, offers_push conn es e once other new)

apart_push : (n : ℕ) (h : History) (e : One) → Apart n h → apart_at n e.call → Apart n (h ++ e ∷ [])
apart_push n [] e apart other = (other, tt)
apart_push n (first ∷ es) e (here, apart) other = (here, apart_push n es e apart other)

once_push : (call : LaneCall) (es : History) (e : One) → once_at call es → ((n : ℕ) → apart_at n e.call) → once_at call (es ++ e ∷ [])
once_push (Finish t answer) es e apart other = apart_push answer.job.serial es e apart (other answer.job.serial)
once_push call es e once other = tt

finishes_push : (h : History) (e : One) → FinishesOnce h → ((n : ℕ) → apart_at n e.call) → once_at e.call [] → FinishesOnce (h ++ e ∷ [])
finishes_push [] e once other new = (new, tt)
finishes_push (first ∷ es) e (here, once) other new = (once_push first.call es e here other, finishes_push es e once other new)

-- a call finishes nothing, or offers nothing
abbrev OffersNothing : LaneCall → Type 0
OffersNothing call = ((n : ℕ) → OffersOther n call) × ((conn : ConnId) → OffersNew conn call [])

abbrev FinishesNothing : LaneCall → Type 0
FinishesNothing call = ((n : ℕ) → apart_at n call) × once_at call []

either_none : (call : LaneCall) → OffersNothing call ⊎ FinishesNothing call
either_none (Finish t answer) = inl (λ n. tt, λ conn. tt)
either_none call = inr (λ n. tt, tt)

one_more : (h : History) (e : One) → ((conn : ConnId) → OffersOnce conn (h ++ e ∷ []) → FinishesOnce (h ++ e ∷ []))
    → OffersOnce pipe_conn h → FinishesOnce h → FinishesOnce (h ++ e ∷ [])
one_more h e law offers once = elim (either_none e.call) [
  | inl none ↦ law pipe_conn (offers_push pipe_conn h e offers none.0 (none.1 pipe_conn))
  | inr none ↦ finishes_push h e once none.0 none.1
]

-- ---- front by front

-- what was done
record Begun (setup : SetupData) (outcome : List ℕ → JobRecord → Outcome) (batch : ℕ) (calls : List LaneCall) (how : How) (n : ℕ)
    (entries : History) : Type 0 where
  can : CanOpen setup.pool setup.slots setup.per_slot
  heard : AreHeardCalls setup.pool pipe_conn calls
  rises : RisesFrom n calls
  legal : IsLegal (opening setup.pool setup.slots setup.per_slot) entries
  answers : HasAnswers (served setup outcome) entries
  begins : BeginsPiped setup outcome batch calls how entries

-- a prefix that finishes no serial twice offers none twice
front_offers : (setup : SetupData) (outcome : List ℕ → JobRecord → Outcome) (batch : ℕ) (calls : List LaneCall) (how : How) (n : ℕ)
    (front others : History) → Begun setup outcome batch calls how n (front ++ others) → FinishesOnce front → OffersOnce pipe_conn front
front_offers setup outcome batch calls how n front others x once =
    let lacking = lacks_are_there setup outcome front (answers_first (served setup outcome) front others x.answers) once in
    let begins = x.begins lacking.lacks front (front_self front others) lacking.agrees in
    let makes = piped_makes_calls setup outcome batch calls how lacking.lacks x.heard in
    let all : heard_of front ++ (heard_of begins.0 ++ makes.rest) ≡ calls =
    sym (append_assoc (heard_of front) (heard_of begins.0) makes.rest)
    ∙ ap (λ (before : List LaneCall). before ++ makes.rest) (sym (heard_more front begins.0))
    ∙ ap (λ (h : History). heard_of h ++ makes.rest) (sym begins.1) ∙ makes.front in
    rising_offers_once setup.pool pipe_conn n calls (heard_of begins.0 ++ makes.rest) front x.heard x.rises all

all_fronts : (setup : SetupData) (outcome : List ℕ → JobRecord → Outcome) (batch : ℕ) (calls : List LaneCall) (how : How) (n : ℕ)
    (entries : History) → Begun setup outcome batch calls how n entries
    → (front others : History) → front ++ others ≡ entries → FinishesOnce front → FinishesOnce entries
all_fronts setup outcome batch calls how n entries x front [] is once = subst FinishesOnce (sym (append-nil front) ∙ is) once
all_fronts setup outcome batch calls how n entries x front (e ∷ es) is once =
    let s = opening setup.pool setup.slots setup.per_slot in
    let here = subst (Begun setup outcome batch calls how n) (sym is) x in
    let longer : (front ++ e ∷ []) ++ es ≡ entries = append_assoc front (e ∷ []) es ∙ is in
    let legal = legal_first s (front ++ e ∷ []) es (subst (IsLegal s) (sym longer) x.legal) in
    all_fronts setup outcome batch calls how n entries x (front ++ e ∷ []) es longer
    (one_more front e (λ conn offers. offered_finishes_once conn s (front ++ e ∷ []) (opens_so setup x.can) legal offers)
    (front_offers setup outcome batch calls how n front (e ∷ es) here once) once)

pub begun_tells_lacks : BegunTellsLacks
begun_tells_lacks setup outcome batch calls how n entries can heard rises legal answers begins =
    let x : Begun setup outcome batch calls how n entries =
    record { can = can; heard = heard; rises = rises; legal = legal; answers = answers; begins = begins } in
    lacks_are_there setup outcome entries answers (all_fronts setup outcome batch calls how n entries x [] entries refl tt)
