-- Runs of turns and of collects, from any state.
use Rattle.std.proofs.Common.{◌≡◌, ℕ, ◌+◌, ◌≤◌, suc, zero, true, ◌||◌, ◌&&◌, ◌==◌, Option, Some, None, length, refl, sym, ap, ◌∙◌, subst, arith}
use Rattle.std.specs.Prelude.{slice_get, remove, is_some}
use Rattle.std.proofs.lemmas.Option.{slice_get_within}
use Rattle.std.proofs.lemmas.List.Edits.{length-remove}
use Rattle.orb_base.specs.JobRecord.{JobRecord}
use Rattle.orb_base.specs.declared.conn_id.ConnId.{ConnId}
use Rattle.orb_base.specs.declared.outcome.Outcome.{Outcome}
use Rattle.orb_base.specs.declared.answer.Answer.{Answer}
use Rattle.orb_base.specs.declared.item.Item.{Item}
use Rattle.lane_machine.specs.declared.call.LaneCall.TheVariants.{Take, Finish, Collect}
use Rattle.lane_machine.specs.declared.call.LaneReply.{LaneReply}
use Rattle.lane_machine.specs.declared.call.LaneReply.TheVariants as reply
use Rattle.lane_machine.specs.State.{State}
use Rattle.lane_machine.specs.Machine.{step, item_place, item_conn, handed, collected as taken_out, end_of}
use Rattle.orb_base.specs.Conn.{same_conn}
use Rattle.lane_machine.specs.Readiness.{is_ready, owed}
use Rattle.pipe_laws.specs.Piped.{Run, first_given, in_hand, applied, finished_by, turned, rested_after, rested, collected, emptied_after, emptied}
use Rattle.thread_borrowing.proofs.Places.{at_place}
use Rattle.pipe_laws.proofs.OneTurn.{Turning, turning, takes, busy_at, done_at, finishes, turn_hands, none_in_hand}

-- ---- turns

abbrev pub answer_by : (JobRecord → Outcome) → JobRecord → Answer
answer_by servant job = record { job = job; outcome = servant job }

abbrev pub turn_run : (JobRecord → Outcome) → (run : Run) (t : ℕ) → Turning run.state t → Run
turn_run servant run t x = applied (applied run (Take t)) (Finish t (answer_by servant x.job))

pub turned_is : (servant : JobRecord → Outcome) (run : Run) (t : ℕ) (x : Turning run.state t) → turned servant run (Some t) ≡ turn_run servant run t x
turned_is servant run t x = ap (λ (p : State × LaneReply). finished_by servant (applied run (Take t)) t p.1) (takes run.state t x)

pub took_state : (run : Run) (t : ℕ) (x : Turning run.state t) → (applied run (Take t)).state ≡ busy_at run.state t x
took_state run t x = ap (λ (p : State × LaneReply). p.0) (takes run.state t x)

pub turn_state : (servant : JobRecord → Outcome) (run : Run) (t : ℕ) (x : Turning run.state t) → (turn_run servant run t x).state ≡ done_at run.state t x (answer_by servant x.job)
turn_state servant run t x =
    ap (λ (z : State). (step z (Finish t (answer_by servant x.job))).0) (took_state run t x)
    ∙ ap (λ (p : State × LaneReply). p.0) (finishes run.state t x (answer_by servant x.job))

-- where no task is given, nothing is done
pub rest_stays : (servant : JobRecord → Outcome) (turns : ℕ) (run : Run) → first_given run.state ≡ None → rested_after servant turns run ≡ run
rest_stays servant zero run none = refl
rest_stays servant (suc turns) run none = ap (λ (o : Option ℕ). rested_after servant turns (turned servant run o)) none ∙ rest_stays servant turns run none

-- a turn is the first of them
pub rest_turns : (servant : JobRecord → Outcome) (run : Run) (t : ℕ) (x : Turning run.state t) → first_given run.state ≡ Some t → rested servant run ≡ rested servant (turn_run servant run t x)
rest_turns servant run t x given =
    let hands = turn_hands run.state t x (answer_by servant x.job) in
    let behind : in_hand (turn_run servant run t x).state ≡ in_hand (done_at run.state t x (answer_by servant x.job)) = ap in_hand (turn_state servant run t x) in
    let count : in_hand run.state ≡ suc (in_hand (turn_run servant run t x).state) = omega arith in
    ap (λ (n : ℕ). rested_after servant n run) count
    ∙ ap (λ (o : Option ℕ). rested_after servant (in_hand (turn_run servant run t x).state) (turned servant run o)) given
    ∙ ap (rested_after servant (in_hand (turn_run servant run t x).state)) (turned_is servant run t x)

rest_one : (servant : JobRecord → Outcome) (turns : ℕ) (run : Run) (o : Option ℕ) → first_given run.state ≡ o → in_hand run.state ≤ suc turns
    → ((next : Run) → in_hand next.state ≤ turns → first_given (rested_after servant turns next).state ≡ None) → first_given (rested_after servant turns (turned servant run o)).state ≡ None
rest_one servant turns run None none few rests = ap (λ (r : Run). first_given r.state) (rest_stays servant turns run none) ∙ none
rest_one servant turns run (Some t) given few rests =
    let x = turning run.state t given in
    let hands = turn_hands run.state t x (answer_by servant x.job) in
    let behind : in_hand (turn_run servant run t x).state ≡ in_hand (done_at run.state t x (answer_by servant x.job)) = ap in_hand (turn_state servant run t x) in
    subst (λ (r : Run). first_given (rested_after servant turns r).state ≡ None) (sym (turned_is servant run t x)) (rests (turn_run servant run t x) (omega arith))

rest_ends : (servant : JobRecord → Outcome) (turns : ℕ) (run : Run) → in_hand run.state ≤ turns → first_given (rested_after servant turns run).state ≡ None
rest_ends servant zero run few = none_in_hand run.state (omega arith) (first_given run.state) refl
rest_ends servant (suc turns) run few = rest_one servant turns run (first_given run.state) refl few (rest_ends servant turns)

-- after as many turns as requests are in hand no task is given
pub rests : (servant : JobRecord → Outcome) (run : Run) → first_given (rested servant run).state ≡ None
rests servant run = rest_ends servant (in_hand run.state) run (omega arith)

-- ---- collects

pub record Handing (s : State) (conn : ConnId) : Type 0 where
  pub at : ℕ
  pub item : Item
  pub place : item_place s conn ≡ Some at
  pub there : slice_get s.out at ≡ Some item

pub handing : (s : State) (conn : ConnId) (at : ℕ) → item_place s conn ≡ Some at → Handing s conn
handing s conn at place = let a = at_place (λ i. same_conn (item_conn i) conn) s.out at place in record { at = at; item = a.0; place = place; there = a.1 }

abbrev pub without : (s : State) (conn : ConnId) → Handing s conn → State
without s conn x = record s { out = remove s.out x.at }

pub hands_over : (s : State) (conn : ConnId) (x : Handing s conn) → step s (Collect conn) ≡ (without s conn x, reply.Handed x.item)
hands_over s conn x = ap (taken_out s conn) x.place ∙ ap (handed s x.at) x.there

pub collect_ready : (s : State) (conn : ConnId) → Handing s conn → is_ready s (Collect conn) ≡ true
collect_ready s conn x = ap (λ (o : Option ℕ). is_some o || ((owed s conn == 0) && (is_some (end_of s conn) || s.closing))) x.place

pub collected_state : (run : Run) (conn : ConnId) (x : Handing run.state conn) → (applied run (Collect conn)).state ≡ without run.state conn x
collected_state run conn x = ap (λ (p : State × LaneReply). p.0) (hands_over run.state conn x)

pub one_item_less : (s : State) (conn : ConnId) (x : Handing s conn) → length (without s conn x).out + 1 ≡ length s.out
one_item_less s conn x = length-remove s.out x.at (slice_get_within s.out x.at x.item x.there)

pub empty_stays : (conn : ConnId) (items : ℕ) (run : Run) → item_place run.state conn ≡ None → emptied_after conn items run ≡ run
empty_stays conn zero run none = refl
empty_stays conn (suc items) run none = ap (λ (o : Option ℕ). emptied_after conn items (collected conn run o)) none ∙ empty_stays conn items run none

pub empty_collects : (conn : ConnId) (run : Run) (x : Handing run.state conn) → emptied conn run ≡ emptied conn (applied run (Collect conn))
empty_collects conn run x =
    let less = one_item_less run.state conn x in
    let behind : length (applied run (Collect conn)).state.out ≡ length (without run.state conn x).out = ap (λ (z : State). length z.out) (collected_state run conn x) in
    let count : length run.state.out ≡ suc (length (applied run (Collect conn)).state.out) = omega arith in
    ap (λ (n : ℕ). emptied_after conn n run) count
    ∙ ap (λ (o : Option ℕ). emptied_after conn (length (applied run (Collect conn)).state.out) (collected conn run o)) x.place

no_items : (s : State) (conn : ConnId) → length s.out ≤ 0 → (o : Option ℕ) → item_place s conn ≡ o → o ≡ None
no_items s conn none None e = refl
no_items s conn none (Some at) e = let x = handing s conn at e in absurd (let w = slice_get_within s.out x.at x.item x.there in omega arith)

empty_one : (conn : ConnId) (items : ℕ) (run : Run) (o : Option ℕ) → item_place run.state conn ≡ o → length run.state.out ≤ suc items
    → ((next : Run) → length next.state.out ≤ items → item_place (emptied_after conn items next).state conn ≡ None) → item_place (emptied_after conn items (collected conn run o)).state conn ≡ None
empty_one conn items run None none few empties = ap (λ (r : Run). item_place r.state conn) (empty_stays conn items run none) ∙ none
empty_one conn items run (Some at) place few empties =
    let x = handing run.state conn at place in
    let less = one_item_less run.state conn x in
    let behind : length (applied run (Collect conn)).state.out ≡ length (without run.state conn x).out = ap (λ (z : State). length z.out) (collected_state run conn x) in
    empties (applied run (Collect conn)) (omega arith)

empty_ends : (conn : ConnId) (items : ℕ) (run : Run) → length run.state.out ≤ items → item_place (emptied_after conn items run).state conn ≡ None
empty_ends conn zero run few = no_items run.state conn few (item_place run.state conn) refl
empty_ends conn (suc items) run few = empty_one conn items run (item_place run.state conn) refl few (empty_ends conn items)

-- after as many collects as there are items none is left
pub empties : (conn : ConnId) (run : Run) → item_place (emptied conn run).state conn ≡ None
empties conn run = empty_ends conn (length run.state.out) run (omega arith)
