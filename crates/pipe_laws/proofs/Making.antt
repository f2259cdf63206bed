-- A run of the pipe makes its calls in order.
use Rattle.std.proofs.Common.{◌≡◌, ℕ, zero, suc, Bool, true, false, ◌&&◌, ◌||◌, ◌==◌, List, [], ◌∷◌, ◌++◌, Option, Some, None, length, inl, inr, refl, sym, ap, ◌∙◌, subst, append_assoc, append-nil}
use Rattle.std.specs.Prelude.{if◌then◌else◌, position, slice_get}
use Rattle.std.proofs.lemmas.Bool.{cases_Bool, both_ways, or_left, or_right}
use Rattle.orb_base.specs.JobRecord.{JobRecord}
use Rattle.orb_base.specs.Pool.{Pool}
use Rattle.orb_base.specs.Conn.{same_conn}
use Rattle.orb_base.specs.declared.answer.Answer.{Answer}
use Rattle.orb_base.specs.declared.conn_id.ConnId.{ConnId}
use Rattle.orb_base.specs.declared.outcome.Outcome.{Outcome}
use Rattle.orb_base.specs.declared.item.Item.{Item}
use Rattle.orb_base.specs.declared.item.Item.TheVariants.{Noticed}
use Rattle.thread_borrowing.specs.declared.doing.Doing.{Doing}
use Rattle.thread_borrowing.specs.declared.doing.Doing.TheVariants.{Free, Given, Busy}
use Rattle.thread_borrowing.specs.ThreadList.{Thread}
use Rattle.thread_borrowing.specs.Choice.{chosen_thread}
use Rattle.request_buffer.specs.Kept.{may_cancel}
use Rattle.request_buffer.specs.Next.{next_job}
use Rattle.lane_machine.specs.declared.call.How.{How}
use Rattle.lane_machine.specs.declared.call.How.TheVariants.{Quiet, Bad, Shut}
use Rattle.lane_machine.specs.declared.call.LaneCall.{LaneCall}
use Rattle.lane_machine.specs.declared.call.LaneCall.TheVariants.{Offer, Post, Cancel, Take, Finish, Collect, End, Leave}
use Rattle.lane_machine.specs.declared.call.LaneReply.{LaneReply}
use Rattle.lane_machine.specs.declared.call.LaneReply.TheVariants as reply
use Rattle.lane_machine.specs.State.{State, opening}
use Rattle.lane_machine.specs.Machine.{step, item_place, end_of, was_told, is_over, heard, placed, run_by, kept_or_full, may_wait, offered, posted, cancelled, withdrawn, begun, taken, answered, handed_on, freed, finished, handed, collected as taken_out, over, shut}
use Rattle.lane_machine.specs.Readiness.{is_ready}
use Rattle.lane_machine.specs.Histories.{History}
use Rattle.lane_machine.specs.Entries.{One}
use Rattle.lane_machine.specs.Callers.{is_heard, is_closing, was_closed}
use Rattle.pipe_laws.specs.Setup.{pipe_conn}
use Rattle.pipe_laws.specs.Piped.{Run, applied, first_given, finished_by, turned, rested_after, rested, in_hand, collected, emptied_after, settled, before_call, room_behind, behind_call, closed_by, answer_of, piped}
use Rattle.pipe_laws.specs.Groups.{Group, called, folded}
use Rattle.pipe_laws.specs.Legality.{IsHeardCall, AreHeardCalls}
use Rattle.pipe_laws.specs.Serials.{in_front, heard_of, StopsAtClosing, PipedMakesCalls}
use Rattle.lane_laws.proofs.Marks.{closed_push, same_self}
use Rattle.lane_laws.proofs.Quieting.{begun_closing, taken_closing, handed_on_closing, freed_closing, finished_closing, handed_closing, shut_closing}
use Rattle.pipe_laws.proofs.Folds.{closing_stays, groups_are_folded}

-- ---- the calls of a history

front_more : (call : LaneCall) (calls more : List LaneCall) → in_front call calls ++ more ≡ in_front call (calls ++ more)
front_more (Offer job) calls more = refl
front_more (Post notice) calls more = refl
front_more (Cancel conn id) calls more = refl
front_more call calls more = refl

pub heard_more : (h more : History) → heard_of (h ++ more) ≡ heard_of h ++ heard_of more
heard_more [] more = refl
heard_more (e ∷ es) more = ap (in_front e.call) (heard_more es more) ∙ sym (front_more e.call (heard_of es) (heard_of more))

-- ---- calls of threads and of the writing side, and an end: nothing is heard, and the run is closing as it was

abbrev IsSilent : LaneCall → Type 0
IsSilent (Offer job) = ⊥
IsSilent (Post notice) = ⊥
IsSilent (Cancel conn id) = ⊥
IsSilent call = Unit {0}

silent_front : (call : LaneCall) → IsSilent call → (calls : List LaneCall) → in_front call calls ≡ calls
silent_front (Offer job) silent calls = absurd silent
silent_front (Post notice) silent calls = absurd silent
silent_front (Cancel conn id) silent calls = absurd silent
silent_front call silent calls = refl

silent_heard : (conn : ConnId) (call : LaneCall) → IsSilent call → is_heard conn call ≡ false
silent_heard conn (Offer job) silent = absurd silent
silent_heard conn (Post notice) silent = absurd silent
silent_heard conn (Cancel c id) silent = absurd silent
silent_heard conn call silent = refl

over_closing : (s : State) (conn : ConnId) (o : Option How) → (over s conn o).0.closing ≡ s.closing
over_closing s conn (Some Quiet) = refl
over_closing s conn (Some Bad) = refl
over_closing s conn (Some Shut) = refl
over_closing s conn None = shut_closing s conn (was_told s conn)

collected_closing : (s : State) (conn : ConnId) (o : Option ℕ) → (taken_out s conn o).0.closing ≡ s.closing
collected_closing s conn (Some at) = handed_closing s at (slice_get s.out at)
collected_closing s conn None = over_closing s conn (end_of s conn)

silent_closing : (s : State) (call : LaneCall) → IsSilent call → (step s call).0.closing ≡ s.closing
silent_closing s (Offer job) silent = absurd silent
silent_closing s (Post notice) silent = absurd silent
silent_closing s (Cancel conn id) silent = absurd silent
silent_closing s (Take t) silent = taken_closing s t (slice_get s.threads t)
silent_closing s (Finish t answer) silent = finished_closing s t answer (slice_get s.threads t)
silent_closing s (Collect conn) silent = collected_closing s conn (item_place s conn)
silent_closing s (End conn how) silent = refl
silent_closing s (Leave slot) silent = refl

-- ---- one more entry

or_none : (b : Bool) → (b || false) ≡ b
or_none true = refl
or_none false = refl

stops_push : (conn : ConnId) (h : History) (e : One) → StopsAtClosing conn h → (was_closed conn h ≡ true → in_front e.call [] ≡ [])
    → StopsAtClosing conn (h ++ e ∷ [])
stops_push conn [] e stops none = (λ told. refl, tt)
stops_push conn (first ∷ es) e (here, stops) none =
    let told = is_heard conn first.call && is_closing first.reply in (
      λ is. heard_more es (e ∷ []) ∙ ap (λ (calls : List LaneCall). calls ++ in_front e.call []) (here is)
          ∙ none (or_left told (was_closed conn es) is),
      stops_push conn es e stops (λ is. none (or_right told (was_closed conn es) is)),
    )

-- ---- so it is with the turns and collects of a group's end

record Quiets (run run' : Run) : Type 0 where
  heard : heard_of run'.history ≡ heard_of run.history
  closing : run'.state.closing ≡ run.state.closing
  told : was_closed pipe_conn run'.history ≡ was_closed pipe_conn run.history
  stops : StopsAtClosing pipe_conn run.history → StopsAtClosing pipe_conn run'.history

quiet_same : (run : Run) → Quiets run run
quiet_same run = record { heard = refl; closing = refl; told = refl; stops = λ stops. stops }

quiet_then : (a b c : Run) → Quiets a b → Quiets b c → Quiets a c
quiet_then a b c one other = record {
  heard = other.heard ∙ one.heard;
  closing = other.closing ∙ one.closing;
  told = other.told ∙ one.told;
  stops = λ stops. other.stops (one.stops stops);
}

quiet_either : (b : Bool) (run one other : Run) → Quiets run one → Quiets run other → Quiets run (if b then one else other)
quiet_either true run one other is are = is
quiet_either false run one other is are = are

quiet_applied : (run : Run) (call : LaneCall) → IsSilent call → Quiets run (applied run call)
quiet_applied run call silent =
    let e : One = record { caller = 0; call = call; reply = (step run.state call).1 } in
    record {
      heard = heard_more run.history (e ∷ []) ∙ ap (λ (calls : List LaneCall). heard_of run.history ++ calls) (silent_front call silent [])
          ∙ append-nil (heard_of run.history);
      closing = silent_closing run.state call silent;
      told = closed_push pipe_conn run.history e
          ∙ ap (λ (b : Bool). was_closed pipe_conn run.history || (b && is_closing e.reply || false)) (silent_heard pipe_conn call silent)
          ∙ or_none (was_closed pipe_conn run.history);
      stops = λ stops. stops_push pipe_conn run.history e stops (λ told. silent_front call silent []);
    }

quiet_finished : (servant : JobRecord → Outcome) (run : Run) (t : ℕ) (r : LaneReply) → Quiets run (finished_by servant run t r)
quiet_finished servant run t (reply.Given job) = quiet_applied run (Finish t (record { job = job; outcome = servant job })) tt
quiet_finished servant run t r = quiet_same run

quiet_turned : (servant : JobRecord → Outcome) (run : Run) (o : Option ℕ) → Quiets run (turned servant run o)
quiet_turned servant run (Some t) =
    quiet_then run (applied run (Take t)) (turned servant run (Some t)) (quiet_applied run (Take t) tt)
    (quiet_finished servant (applied run (Take t)) t (step run.state (Take t)).1)
quiet_turned servant run None = quiet_same run

quiet_rested : (servant : JobRecord → Outcome) (turns : ℕ) (run : Run) → Quiets run (rested_after servant turns run)
quiet_rested servant zero run = quiet_same run
quiet_rested servant (suc turns) run =
    let next = turned servant run (first_given run.state) in
    quiet_then run next (rested_after servant turns next) (quiet_turned servant run (first_given run.state))
    (quiet_rested servant turns next)

quiet_collected : (conn : ConnId) (run : Run) (o : Option ℕ) → Quiets run (collected conn run o)
quiet_collected conn run (Some at) = quiet_applied run (Collect conn) tt
quiet_collected conn run None = quiet_same run

quiet_emptied : (conn : ConnId) (items : ℕ) (run : Run) → Quiets run (emptied_after conn items run)
quiet_emptied conn zero run = quiet_same run
quiet_emptied conn (suc items) run =
    let next = collected conn run (item_place run.state conn) in
    quiet_then run next (emptied_after conn items next) (quiet_collected conn run (item_place run.state conn))
    (quiet_emptied conn items next)

quiet_settled : (servant : JobRecord → Outcome) (run : Run) → Quiets run (settled servant run)
quiet_settled servant run =
    quiet_then run (rested servant run) (settled servant run) (quiet_rested servant (in_hand run.state) run)
    (quiet_emptied pipe_conn (length (rested servant run).state.out) (rested servant run))

quiet_closed : (servant : JobRecord → Outcome) (how : How) (run : Run) → Quiets run (closed_by servant how run)
quiet_closed servant how run =
    let last = End pipe_conn (if run.state.closing then Shut else how) in
    let ended = applied run last in
    quiet_then run ended (closed_by servant how run) (quiet_applied run last tt)
    (quiet_then ended (settled servant ended) (closed_by servant how run) (quiet_settled servant ended)
    (quiet_applied (settled servant ended) (Collect pipe_conn) tt))

-- ---- a heard call: the run is closing behind it where it was, or where the call is answered so

abbrev Closes : State → State × LaneReply → Type 0
Closes s next = next.0.closing ≡ (s.closing || is_closing next.1)

run_closes : (s : State) (job : JobRecord) (t : ℕ) (o : Option Thread) → Closes s (run_by s job t o)
run_closes s job t (Some thread) = sym (or_none s.closing)
run_closes s job t None = sym (or_none s.closing)

kept_closes : (s : State) (job : JobRecord) (room : Bool) → Closes s (kept_or_full s job room)
kept_closes s job true = sym (or_none s.closing)
kept_closes s job false = sym (or_none s.closing)

placed_closes : (s : State) (job : JobRecord) (o : Option ℕ) → Closes s (placed s job o)
placed_closes s job (Some t) = run_closes s job t (slice_get s.threads t)
placed_closes s job None = kept_closes s job (may_wait s.pool s.waiting job)

offered_closes : (s : State) (job : JobRecord) (over : Bool) → Closes s (offered s job over)
offered_closes s job true = sym (or_right s.closing true refl)
offered_closes s job false = placed_closes (heard s job.size) job (chosen_thread s.pool.borrowing job.lane s.threads)

posted_closes : (s : State) (i : Item) (over : Bool) → Closes s (posted s i over)
posted_closes s i true = sym (or_right s.closing true refl)
posted_closes s i false = sym (or_none s.closing)

withdrawn_closes : (s : State) (o : Option ℕ) → Closes s (withdrawn s o)
withdrawn_closes s (Some at) = sym (or_none s.closing)
withdrawn_closes s None = sym (or_none s.closing)

cancelled_closes : (s : State) (conn : ConnId) (id : ℕ) (over : Bool) → Closes s (cancelled s conn id over)
cancelled_closes s conn id true = sym (or_right s.closing true refl)
cancelled_closes s conn id false = withdrawn_closes (heard s 0) (position (may_cancel conn id) s.waiting)

heard_closes : (s : State) (pool : Pool) (conn : ConnId) (call : LaneCall) → IsHeardCall pool conn call → Closes s (step s call)
heard_closes s pool conn (Offer job) is = offered_closes s job (is_over s job.size)
heard_closes s pool conn (Post notice) is = posted_closes s (Noticed notice) (is_over s 0)
heard_closes s pool conn (Cancel c id) is = cancelled_closes s c id (is_over s 0)
heard_closes s pool conn call is = absurd is

heard_is : (pool : Pool) (conn : ConnId) (call : LaneCall) → IsHeardCall pool conn call → is_heard conn call ≡ true
heard_is pool conn (Offer job) is = ap (λ (c : ConnId). same_conn c conn) is.0 ∙ same_self conn
heard_is pool conn (Post notice) is = ap (λ (c : ConnId). same_conn c conn) is ∙ same_self conn
heard_is pool conn (Cancel c id) is = ap (λ (z : ConnId). same_conn z conn) is ∙ same_self conn
heard_is pool conn call is = absurd is

heard_front : (pool : Pool) (conn : ConnId) (call : LaneCall) → IsHeardCall pool conn call → in_front call [] ≡ call ∷ []
heard_front pool conn (Offer job) is = refl
heard_front pool conn (Post notice) is = refl
heard_front pool conn (Cancel c id) is = refl
heard_front pool conn call is = absurd is

-- ---- the run is closing exactly where a call of its connection was answered so

abbrev Tells : Run → Type 0
Tells run = run.state.closing ≡ was_closed pipe_conn run.history

tells_quiet : (run run' : Run) → Quiets run run' → Tells run → Tells run'
tells_quiet run run' quiet tells = quiet.closing ∙ tells ∙ sym quiet.told

tells_heard : (pool : Pool) (run : Run) (call : LaneCall) → IsHeardCall pool pipe_conn call → Tells run → Tells (applied run call)
tells_heard pool run call is tells =
    let r = (step run.state call).1 in
    let e : One = record { caller = 0; call = call; reply = r } in
    let here : (is_heard pipe_conn call && is_closing r || false) ≡ is_closing r =
    ap (λ (b : Bool). b && is_closing r || false) (heard_is pool pipe_conn call is) ∙ or_none (is_closing r) in
    heard_closes run.state pool pipe_conn call is ∙ ap (λ (b : Bool). b || is_closing r) tells
    ∙ ap (λ (b : Bool). was_closed pipe_conn run.history || b) (sym here) ∙ sym (closed_push pipe_conn run.history e)

-- ---- the calls in their groups

record Makes (run run' : Run) (calls : List LaneCall) : Type 0 where
  rest : List LaneCall
  made : heard_of run'.history ++ rest ≡ heard_of run.history ++ calls
  all : run'.state.closing ≡ false → rest ≡ []
  stops : StopsAtClosing pipe_conn run.history → StopsAtClosing pipe_conn run'.history
  tells : Tells run'

record Called (run run' : Run) (call : LaneCall) : Type 0 where
  heard : heard_of run'.history ≡ heard_of run.history ++ call ∷ []
  stops : StopsAtClosing pipe_conn run.history → StopsAtClosing pipe_conn run'.history
  tells : Tells run'

call_made : (pool : Pool) (servant : JobRecord → Outcome) (batch : ℕ) (g : Group) (call : LaneCall)
    → IsHeardCall pool pipe_conn call → g.run.state.closing ≡ false → Tells g.run → Called g.run (called servant batch g call).run call
call_made pool servant batch g call is goes tells =
    let ready = before_call servant g.run call in
    let before : Quiets g.run ready =
    quiet_either (is_ready g.run.state call) g.run g.run (settled servant g.run) (quiet_same g.run) (quiet_settled servant g.run) in
    let made = applied ready call in
    let e : One = record { caller = 0; call = call; reply = (step ready.state call).1 } in
    let left = room_behind batch g.room g.run call in
    let behind : Quiets made (behind_call servant left made) =
    quiet_either (left == 0) made (settled servant made) made (quiet_settled servant made) (quiet_same made) in
    record {
      heard = behind.heard ∙ heard_more ready.history (e ∷ []) ∙ ap (λ (calls : List LaneCall). calls ++ in_front call []) before.heard
          ∙ ap (λ (calls : List LaneCall). heard_of g.run.history ++ calls) (heard_front pool pipe_conn call is);
      stops = λ stops. behind.stops (stops_push pipe_conn ready.history e (before.stops stops)
          (λ told. absurd (both_ways (was_closed pipe_conn ready.history) (before.told ∙ sym tells ∙ goes) told)));
      tells = tells_quiet made (behind_call servant left made) behind
          (tells_heard pool ready call is (tells_quiet g.run ready before tells));
    }

makes_folded : (pool : Pool) (servant : JobRecord → Outcome) (batch : ℕ) (g : Group) (calls : List LaneCall)
    → AreHeardCalls pool pipe_conn calls → Tells g.run → Makes g.run (folded servant batch g calls).run calls
makes_folded pool servant batch g [] are tells =
    record { rest = []; made = refl; all = λ goes. refl; stops = λ stops. stops; tells = tells }
makes_folded pool servant batch g (call ∷ calls) (is, are) tells = elim (cases_Bool g.run.state.closing) [
  | inl closing ↦ subst (λ (z : Group). Makes g.run z.run (call ∷ calls)) (sym (closing_stays servant batch g (call ∷ calls) closing))
      (record {
        rest = call ∷ calls;
        made = refl;
        all = λ goes. absurd (both_ways g.run.state.closing goes closing);
        stops = λ stops. stops;
        tells = tells;
      })
  | inr goes ↦ (
      let one = call_made pool servant batch g call is goes tells in
      let next = called servant batch g call in
      let others = makes_folded pool servant batch next calls are one.tells in
      subst (λ (b : Bool). Makes g.run (folded servant batch (if b then g else next) calls).run (call ∷ calls)) (sym goes)
      (record {
        rest = others.rest;
        made = others.made ∙ ap (λ (before : List LaneCall). before ++ calls) one.heard
            ∙ append_assoc (heard_of g.run.history) (call ∷ []) calls;
        all = others.all;
        stops = λ stops. others.stops (one.stops stops);
        tells = others.tells;
      }))
]

pub piped_makes_calls : PipedMakesCalls
piped_makes_calls setup outcome batch calls how lacks are =
    let servant = answer_of setup outcome lacks in
    let begin : Run = record { state = opening setup.pool setup.slots setup.per_slot; history = [] } in
    let g : Group = record { run = begin; room = batch } in
    let last = (folded servant batch g calls).run in
    let x = makes_folded setup.pool servant batch g calls are refl in
    let quiet : Quiets last (piped setup outcome batch calls how lacks) =
    subst (λ (run : Run). Quiets last (closed_by servant how run)) (sym (groups_are_folded servant batch batch begin calls))
    (quiet_then last (settled servant last) (closed_by servant how (settled servant last)) (quiet_settled servant last)
    (quiet_closed servant how (settled servant last))) in
    record {
      rest = x.rest;
      front = ap (λ (before : List LaneCall). before ++ x.rest) quiet.heard ∙ x.made;
      all = λ untold. x.all (x.tells ∙ sym quiet.told ∙ untold);
      stops = quiet.stops (x.stops tt);
    }
