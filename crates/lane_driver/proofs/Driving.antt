-- How what drivers did is put together.
use Rattle.std.proofs.Common.{◌≡◌, ℕ, true, List, [], ◌∷◌, ◌++◌, Option, Some, None, refl, sym, ap, ◌∙◌, subst, arith, append-nil, append_assoc, inl, inr}
use Rattle.std.specs.Prelude.{option_map, slice_get, ◌⊎◌}
use Rattle.orb_base.specs.Outcomes.{no_memory, bad_operation}
use Rattle.std.proofs.lemmas.Grind.{flat_map-append}
use Rattle.orb_base.specs.JobRecord.{JobRecord}
use Rattle.orb_base.specs.declared.conn_id.ConnId.{ConnId}
use Rattle.orb_base.specs.declared.outcome.Outcome.{Outcome}
use Rattle.orb_base.specs.declared.outcome.Outcome.TheVariants.{System}
use Rattle.orb_base.specs.declared.system.SysName.{SysName}
use Rattle.orb_base.specs.declared.system.SysName.TheVariants.{NoMemory, BadOperation}
use Rattle.orb_base.specs.declared.answer.Answer.{Answer}
use Rattle.lane_machine.specs.declared.call.LaneCall.{LaneCall}
use Rattle.lane_machine.specs.declared.call.LaneCall.TheVariants.{Take, Finish}
use Rattle.lane_machine.specs.declared.call.LaneReply.{LaneReply}
use Rattle.lane_machine.specs.declared.call.LaneReply.TheVariants.{Given, Finished}
use Rattle.lane_machine.specs.State.{State}
use Rattle.lane_machine.specs.Machine.{step}
use Rattle.lane_machine.specs.Readiness.{is_ready, IsSound, IsBusyWith}
use Rattle.lane_machine.specs.Histories.{History, replay, IsLegal}
use Rattle.pipe_laws.specs.Setup.{pipe_conn}
use Rattle.pipe_laws.specs.Said.{said, call_bytes}
use Rattle.pipe_laws.specs.Piped.{Run, applied, rested, first_given, in_hand}
use Rattle.pipe_laws.specs.Reached.{IsReached}
use Rattle.lane_driver.specs.Driving.{Leads, Servant, Doer, run_at, entry, Goes, Does, Began, Logged, IsApplied, IsBetween, Stays}
use Rattle.pipe_laws.specs.Lacking.{Agrees, CameOf, HasAnswers}
use Rattle.lane_driver.proofs.Fronts.{agrees_first, agrees_then, Grows, BeginsAll, begins_nothing, begins_none, begins_two, begins_then, begins_first, begins_both}
use Rattle.lane_driver.proofs.Grow.{grows_applied, grows_rested, behind_both}
use Rattle.pipe_laws.specs.Calm.{NoneBusy}
use Rattle.lane_driver.specs.Turning.{IsAnswer, Turns, TurnsOnce, RunsToRest}
use Rattle.lane_machine.specs.Changes.{changes, marks}
use Rattle.pipe_laws.proofs.Reached.{legal_push, replay_push}
use Rattle.pipe_laws.proofs.OneTurn.{Turning, turning, takes, take_ready, take_sound, busy_at, done_at, finishes, finish_sound, busy_sound, turn_hands, turn_calm}
use Rattle.pipe_laws.proofs.Rests.{answer_by, rest_turns, rest_stays}

-- ---- what came of a job

abbrev name_of : Outcome → SysName
name_of (System sys) = sys.name
name_of _ = BadOperation

-- a servant that says out of memory has the operation
pub came_or_wanting : (due came : Outcome) → (came ≡ due) ⊎ (came ≡ no_memory) → (due ≡ bad_operation → came ≡ bad_operation)
    → (came ≡ due) ⊎ ((came ≡ no_memory) × ¬ (due ≡ bad_operation))
came_or_wanting due came (inl is) only = inl is
came_or_wanting due came (inr wanting) only =
    inr (wanting, λ bad. let never : NoMemory ≡ BadOperation = ap name_of (sym wanting ∙ only bad) in absurd cc)

-- ---- entries behind entries

pub answers_both : (outcome : Servant) (a b : History) → HasAnswers outcome a → HasAnswers outcome b → HasAnswers outcome (a ++ b)
answers_both outcome [] b first then = then
answers_both outcome (e ∷ a) b (here, first) then = (here, answers_both outcome a b first then)

pub said_both : (conn : ConnId) (a b : History) → said conn (a ++ b) ≡ said conn a ++ said conn b
said_both conn a b = flat_map-append (λ e. call_bytes conn e.call e.reply) a b

logged_pair : (a b : History) (o : Option History) → option_map (λ h. h ++ b) (option_map (λ h. h ++ a) o) ≡ option_map (λ h. h ++ (a ++ b)) o
logged_pair a b (Some h) = ap Some (append_assoc h a b)
logged_pair a b None = refl

pub logged_both : (a b : History) (log mid log' : Option History) → Logged a log mid → Logged b mid log' → Logged (a ++ b) log log'
logged_both a b log mid log' first then = then ∙ ap (option_map (λ h. h ++ b)) first ∙ logged_pair a b log

pub logged_none : (log : Option History) → Logged [] log log
logged_none (Some h) = ap Some (sym (append-nil h))
logged_none None = refl

legal_both : (s : State) (h k : History) → IsLegal s h → IsLegal (replay s h) k → IsLegal s (h ++ k)
legal_both s [] k p q = q
legal_both s (e ∷ h) k (ready, sound, answered, p) q = (ready, sound, answered, legal_both (step s e.call).0 h k p q)

replay_both : (s : State) (h k : History) → replay s (h ++ k) ≡ replay (replay s h) k
replay_both s [] k = refl
replay_both s (e ∷ h) k = replay_both (step s e.call).0 h k

pub leads_none : (s : State) → Leads s s []
leads_none s = record { legal = tt; leads = refl }

pub legal_then : {s m : State} {a : History} (b : History) → Leads s m a → IsLegal m b → IsLegal s (a ++ b)
legal_then {s = s} {a = a} b first legal = legal_both s a b first.legal (subst (λ (z : State). IsLegal z b) first.leads legal)

pub leads_both : {s m s' : State} {a b : History} → Leads s m a → Leads m s' b → Leads s s' (a ++ b)
leads_both {s = s} {a = a} {b = b} first next = record {
  legal = legal_then b first next.legal;
  leads = next.leads ∙ ap (λ (z : State). replay z b) first.leads ∙ sym (replay_both s a b);
}

pub leads_one : {s s' : State} {call : LaneCall} {log log' : Option History} {r : LaneReply} → IsApplied s call s' log log' r → Leads s s' (entry call r ∷ [])
leads_one applies = record { legal = (applies.ready, applies.sound, applies.reply, tt); leads = applies.state }

-- ---- what was done behind what was done

pub goes_none : (does : Doer) (outcome : Servant) (s : State) → Grows does → Goes does outcome s s []
goes_none does outcome s grows = record {
  leads = leads_none s;
  answers = tt;
  goes = λ servant agrees h. ap (λ (k : History). does servant (run_at s k)) (sym (append-nil h));
  begins = begins_none does s (begins_nothing does s grows);
}

pub goes_both : {does : Doer} {outcome : Servant} {s m s' : State} {a b : History} → Goes does outcome s m a → Goes does outcome m s' b → Goes does outcome s s' (a ++ b)
goes_both {does = does} {outcome = outcome} {s = s} {s' = s'} {a = a} {b = b} first then = record {
  leads = leads_both first.leads then.leads;
  answers = answers_both outcome a b first.answers then.answers;
  goes = λ servant agrees h.
      first.goes servant (agrees_first servant a b agrees) h ∙ then.goes servant (agrees_then servant a b agrees) (h ++ a)
      ∙ ap (λ (k : History). does servant (run_at s' k)) (append_assoc h a b);
  begins = begins_then does s a b first.begins (λ servant agrees rest is later h. (
      let g = then.begins servant rest is later (h ++ a) in (g.0, ap (λ (r : Run). r.history) (first.goes servant agrees h) ∙ g.1)
      ));
}

pub goes_done : {does : Doer} {outcome : Servant} {s s' : State} {a : History} → Goes does outcome s s' a
    → ((servant : Servant) (h : History) → does servant (run_at s' h) ≡ run_at s' h) → Does does outcome s s' a
goes_done {a = a} goes over = record {
  leads = goes.leads;
  answers = goes.answers;
  done = λ servant agrees h. goes.goes servant agrees h ∙ over servant (h ++ a);
  begins = goes.begins;
}

pub goes_began : {does : Doer} {outcome : Servant} {s s' : State} {a : History} → Goes does outcome s s' a → Began does outcome s a
goes_began goes = record { legal = goes.leads.legal; answers = goes.answers; begins = goes.begins }

pub does_both : {first then : Doer} {outcome : Servant} {s m s' : State} {a b : History} → Grows then → Does first outcome s m a
    → Does then outcome m s' b → Does (λ servant run. then servant (first servant run)) outcome s s' (a ++ b)
does_both {first = first} {then = then} {outcome = outcome} {s = s} {m = m} {s' = s'} {a = a} {b = b} grows one other = record {
  leads = leads_both one.leads other.leads;
  answers = answers_both outcome a b one.answers other.answers;
  done = λ servant agrees h.
      ap (then servant) (one.done servant (agrees_first servant a b agrees) h) ∙ other.done servant (agrees_then servant a b agrees) (h ++ a)
      ∙ ap (run_at s') (append_assoc h a b);
  begins = begins_both first then s m a b grows one.begins one.done other.begins;
}

pub does_began : {first then : Doer} {outcome : Servant} {s m : State} {a b : History} → Grows then → Does first outcome s m a
    → Began then outcome m b → Began (λ servant run. then servant (first servant run)) outcome s (a ++ b)
does_began {first = first} {then = then} {outcome = outcome} {s = s} {m = m} {a = a} {b = b} grows one other = record {
  legal = legal_then b one.leads other.legal;
  answers = answers_both outcome a b one.answers other.answers;
  begins = begins_both first then s m a b grows one.begins one.done other.begins;
}

pub began_first : {first : Doer} (then : Doer) {outcome : Servant} {s : State} {a : History} → Grows then → Began first outcome s a
    → Began (λ servant run. then servant (first servant run)) outcome s a
began_first {first = first} then {s = s} {a = a} grows one =
    record { legal = one.legal; answers = one.answers; begins = begins_first first then s a grows one.begins }

-- ---- one call

pub applied_is : (s s' : State) (call : LaneCall) (r : LaneReply) (h : History) → s' ≡ (step s call).0 → r ≡ (step s call).1 → applied (run_at s h) call ≡ run_at s' (h ++ entry call r ∷ [])
applied_is s s' call r h state reply =
    ap (λ (z : State). run_at z (h ++ entry call (step s call).1 ∷ [])) (sym state) ∙ ap (λ (q : LaneReply). run_at s' (h ++ entry call q ∷ [])) (sym reply)

pub reached_applied : (s s' : State) (call : LaneCall) → IsReached s → is_ready s call ≡ true → IsSound s call → s' ≡ (step s call).0 → IsReached s'
reached_applied s s' call reached ready sound is =
    let now = subst (λ (z : State). is_ready z call ≡ true) reached.leads ready in
    let kept = subst (λ (z : State). IsSound z call) reached.leads sound in
    record {
      first = reached.first;
      history = reached.history ++ entry call (step (replay reached.first reached.history) call).1 ∷ [];
      opens = reached.opens;
      legal = legal_push reached.first reached.history call reached.legal now kept;
      leads = is ∙ ap (λ (z : State). (step z call).0) reached.leads ∙ sym (replay_push reached.first reached.history call);
    }

-- ---- one turn

abbrev with_outcome : JobRecord → Outcome → Answer
with_outcome job outcome = record { job = job; outcome = outcome }

came_of : (outcome : Servant) (job : JobRecord) (answer : Answer) → IsAnswer outcome job answer → CameOf outcome answer.job answer.outcome
came_of outcome job answer is = elim is.came [ inl e ↦ inl (e ∙ ap outcome (sym is.same_job)) | inr e ↦ inr (e.0, λ bad. e.1 (ap outcome (sym is.same_job) ∙ bad)) ]

pub grows_resting : Grows rested
grows_resting servant run = grows_rested servant (in_hand run.state) run

abbrev GoesAll : State → State → History → Type 0
GoesAll s s' entries = (servant : Servant) → Agrees servant entries → (h : History)
    → rested servant (run_at s h) ≡ rested servant (run_at s' (h ++ entries))

goes_all : (s s' : State) (entries : History) → GoesAll s s' entries → BeginsAll rested s entries
goes_all s s' entries goes servant agrees h =
    let g = grows_resting servant (run_at s' (h ++ entries)) in (g.0, ap (λ (r : Run). r.history) (goes servant agrees h) ∙ g.1)

-- a run to rest begins with the Take of its first turn, whatever the servant answers
begins_take : (s m : State) (t : ℕ) (x : Turning s t) (job : JobRecord) → m ≡ (step s (Take t)).0 → Given job ≡ (step s (Take t)).1
    → first_given s ≡ Some t → BeginsAll rested s (entry (Take t) (Given job) ∷ [])
begins_take s m t x job state reply given servant agrees h =
    let run = applied (run_at s h) (Take t) in
    let call = Finish t (answer_by servant x.job) in
    let behind = behind_both run (applied run call) (rested servant (applied run call)) (grows_applied run call)
    (grows_resting servant (applied run call)) in (
      behind.0,
      ap (λ (r : Run). r.history) (rest_turns servant (run_at s h) t x given) ∙ behind.1
          ∙ ap (λ (r : Run). r.history ++ behind.0) (applied_is s m (Take t) (Given job) h state reply),
    )

pub turns_once : (outcome : Servant) (s m s' : State) (log mid log' : Option History) (t : ℕ) (job : JobRecord) (answer : Answer) → IsBetween s → first_given s ≡ Some t
    → IsApplied s (Take t) m log mid (Given job) → IsAnswer outcome job answer → IsApplied m (Finish t answer) s' mid log' Finished → TurnsOnce outcome s s' log log'
turns_once outcome s m s' log mid log' t job answer between given take is finish =
    let x = turning s t given in
    let is_busy : m ≡ busy_at s t x = take.state ∙ ap (λ (p : State × LaneReply). p.0) (takes s t x) in
    let gave : ◌≡◌ {A = LaneReply} (Given job) (Given x.job) = take.reply ∙ ap (λ (p : State × LaneReply). p.1) (takes s t x) in
    let its_job : answer.job ≡ x.job = is.same_job ∙ cc in
    let is_done : s' ≡ done_at s t x answer =
    finish.state ∙ ap (λ (z : State). (step z (Finish t answer)).0) is_busy ∙ ap (λ (p : State × LaneReply). p.0) (finishes s t x answer) in
    let sound : IsSound m (Finish t answer) = subst (λ (z : State). IsSound z (Finish t answer)) (sym is_busy) (finish_sound s t x answer its_job is.short) in
    let mid_reached = reached_applied s m (Take t) between.reached (take_ready s t x) (take_sound s t x) take.state in
    let mid_pool = (changes s (Take t)).0 in
    let mid_ended = (marks s (Take t)).0 in
    let entries : History = entry (Take t) (Given job) ∷ entry (Finish t answer) Finished ∷ [] in
    let goes_so : GoesAll s s' entries = λ servant agrees h. (
    let its_answer : answer_by servant x.job ≡ answer =
    ap (answer_by servant) (sym its_job) ∙ ap (with_outcome answer.job) agrees.1.0 in
    let first = applied_is s m (Take t) (Given job) h take.state take.reply in
    let then = applied_is m s' (Finish t answer) Finished (h ++ entry (Take t) (Given job) ∷ []) finish.state finish.reply in
    rest_turns servant (run_at s h) t x given
    ∙ ap (λ (a : Answer). rested servant (applied (applied (run_at s h) (Take t)) (Finish t a))) its_answer
    ∙ ap (λ (r : Run). rested servant (applied r (Finish t answer))) first
    ∙ ap (rested servant) then
    ∙ ap (λ (k : History). rested servant (run_at s' k)) (append_assoc h (entry (Take t) (Given job) ∷ []) (entry (Finish t answer) Finished ∷ []))
    ) in
    let goes : Goes rested outcome s s' entries = record {
      leads = leads_both (leads_one take) (leads_one finish);
      answers = (tt, (came_of outcome job answer is, tt));
      goes = goes_so;
      begins = begins_two rested s (entry (Take t) (Given job)) (entry (Finish t answer) Finished) grows_resting
          (begins_take s m t x job take.state take.reply given) (goes_all s s' entries goes_so);
    } in
    record {
      turns = record {
        entries = entries;
        goes_so = goes;
        silent = refl;
        logged = logged_both (entry (Take t) (Given job) ∷ []) (entry (Finish t answer) Finished ∷ []) log mid log' take.logged finish.logged;
        stays = record {
          between = record {
            reached = reached_applied m s' (Finish t answer) mid_reached refl sound finish.state;
            calm = subst (λ (z : State). NoneBusy z.threads) (sym is_done) (turn_calm s t x answer between.calm);
          };
          pool = ap (λ (z : State). z.pool) finish.state ∙ (changes m (Finish t answer)).0 ∙ ap (λ (z : State). z.pool) take.state ∙ mid_pool;
          ended = ap (λ (z : State). z.ended) finish.state ∙ (marks m (Finish t answer)).0 ∙ ap (λ (z : State). z.ended) take.state ∙ mid_ended;
        };
      };
      fewer = let hands = turn_hands s t x answer in let behind : in_hand s' ≡ in_hand (done_at s t x answer) = ap in_hand is_done in omega arith;
    }

-- ---- turns

pub stays_self : (s : State) → IsBetween s → Stays s s
stays_self s between = record { between = between; pool = refl; ended = refl }

pub stays_both : {s m s' : State} → Stays s m → Stays m s' → Stays s s'
stays_both first then = record { between = then.between; pool = then.pool ∙ first.pool; ended = then.ended ∙ first.ended }

pub turns_none : (outcome : Servant) (s : State) (log : Option History) → IsBetween s → Turns outcome s s log log
turns_none outcome s log between = record { entries = []; goes_so = goes_none rested outcome s grows_resting; silent = refl; logged = logged_none log; stays = stays_self s between }

pub turns_more : (outcome : Servant) (s m s' : State) (log mid log' : Option History) → Turns outcome s m log mid → TurnsOnce outcome m s' mid log' → Turns outcome s s' log log'
turns_more outcome s m s' log mid log' first then = record {
  entries = first.entries ++ then.turns.entries;
  goes_so = goes_both first.goes_so then.turns.goes_so;
  silent = said_both pipe_conn first.entries then.turns.entries ∙ ap (λ (b : List ℕ). b ++ said pipe_conn then.turns.entries) first.silent ∙ then.turns.silent;
  logged = logged_both first.entries then.turns.entries log mid log' first.logged then.turns.logged;
  stays = stays_both first.stays then.turns.stays;
}

pub turns_done : (outcome : Servant) (s s' : State) (log log' : Option History) → Turns outcome s s' log log' → first_given s' ≡ None → RunsToRest outcome s s' log log'
turns_done outcome s s' log log' turns none = record {
  entries = turns.entries;
  does_so = goes_done turns.goes_so (λ servant h. rest_stays servant (in_hand s') (run_at s' h) none);
  silent = turns.silent;
  logged = turns.logged;
  stays = turns.stays;
  none = none;
}

-- ---- for the goals of `take`

pub given_reply : (s : State) (t : ℕ) (r : LaneReply) → first_given s ≡ Some t → r ≡ (step s (Take t)).1 → (job : JobRecord) × (r ≡ Given job)
given_reply s t r given is = let x = turning s t given in (x.job, is ∙ ap (λ (p : State × LaneReply). p.1) (takes s t x))

pub may_take : (s : State) (t : ℕ) → first_given s ≡ Some t → is_ready s (Take t) ≡ true
may_take s t given = take_ready s t (turning s t given)

pub can_take_it : (s : State) (t : ℕ) → first_given s ≡ Some t → IsSound s (Take t)
can_take_it s t given = take_sound s t (turning s t given)

pub is_busy_with : (s m : State) (t : ℕ) (job : JobRecord) (answer : Answer) → first_given s ≡ Some t → m ≡ (step s (Take t)).0 → Given job ≡ (step s (Take t)).1 → answer.job ≡ job
    → IsBusyWith answer (slice_get m.threads t)
is_busy_with s m t job answer given state reply same =
    let x = turning s t given in
    let gave : ◌≡◌ {A = LaneReply} (Given job) (Given x.job) = reply ∙ ap (λ (p : State × LaneReply). p.1) (takes s t x) in
    let now : m ≡ busy_at s t x = state ∙ ap (λ (p : State × LaneReply). p.0) (takes s t x) in
    subst (λ (z : State). IsBusyWith answer (slice_get z.threads t)) (sym now) (busy_sound s t x answer (same ∙ cc))
