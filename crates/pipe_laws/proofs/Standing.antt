-- A run of the pipe stays legal: each call that it makes is ready and sound.
use Rattle.std.proofs.Common.{◌≡◌, ℕ, ◌+◌, ◌≤◌, suc, zero, Bool, true, false, cond, ◌||◌, ◌&&◌, ◌==◌, List, [], ◌∷◌, ◌++◌, Option, Some, None, length, refl, sym, ap, ◌∙◌, subst, arith, lit≤}
use Rattle.std.specs.Prelude.{slice_get, is_some, count_by, nat_le, if◌then◌else◌, option_map, find, position}
use Rattle.std.specs.List.{list_any}
use Rattle.std.proofs.lemmas.Bool.{or_right}
use Rattle.std.proofs.lemmas.Option.{none-some, same_Some}
use Rattle.std.proofs.lemmas.List.Sums.{sum_by-cons}
use Rattle.orb_base.specs.JobRecord.{JobRecord}
use Rattle.orb_base.specs.Outcomes.{no_memory, body_len}
use Rattle.orb_base.specs.Pool.{Pool}
use Rattle.orb_base.specs.declared.conn_id.ConnId.{ConnId}
use Rattle.orb_base.specs.declared.limits.TheConstants.{MAX_BODY, MAX_OWED}
use Rattle.orb_base.specs.declared.outcome.Outcome.{Outcome}
use Rattle.lane_machine.specs.declared.call.How.{How}
use Rattle.lane_machine.specs.declared.call.How.TheVariants.{Quiet, Bad, Shut}
use Rattle.lane_machine.specs.declared.call.LaneCall.{LaneCall}
use Rattle.lane_machine.specs.declared.call.LaneCall.TheVariants.{Offer, Post, Cancel, Take, Finish, Collect, End, Leave}
use Rattle.thread_borrowing.specs.declared.doing.Doing.{Doing}
use Rattle.thread_borrowing.specs.declared.doing.Doing.TheVariants.{Free, Given, Busy}
use Rattle.lane_machine.specs.State.{State, Opens, CanOpen, opening}
use Rattle.thread_borrowing.specs.ThreadList.{Thread, is_free, is_given, works_for, given, some_threads, pool_threads}
use Rattle.orb_base.specs.declared.lane_spec.LaneSpec.{LaneSpec}
use Rattle.thread_borrowing.specs.Choice.{chosen_thread}
use Rattle.request_buffer.specs.Kept.{may_cancel}
use Rattle.lane_machine.specs.Machine.{step, item_place, item_conn, end_of, is_over, heard, placed, run_by, kept_or_full, may_wait, offered, posted, cancelled, withdrawn, over, collected as taken_out}
use Rattle.orb_base.specs.Conn.{same_conn}
use Rattle.lane_machine.specs.Readiness.{is_ready, IsSound, owed}
use Rattle.lane_machine.specs.Histories.{replay, IsLegal}
use Rattle.adapter_policies.specs.SetupData.{SetupData}
use Rattle.pipe_laws.specs.Setup.{pipe_conn, interface_of}
use Rattle.pipe_laws.specs.Piped.{Run, first_given, in_hand, applied, turned, rested_after, rested, collected, emptied_after, settled, before_call, room_behind, closed_by, answer_of, piped}
use Rattle.pipe_laws.specs.Reached.{IsReached}
use Rattle.orb_base.specs.declared.item.Item.{Item}
use Rattle.orb_base.specs.declared.item.Item.TheVariants.{Noticed}
use Rattle.lane_laws.proofs.Served.{nothing_waits}
use Rattle.lane_laws.proofs.Done.{done_where_free}
use Rattle.pipe_laws.specs.Calm.{is_busy, NoneBusy}
use Rattle.pipe_laws.specs.Groups.{Group, after_call, called, folded}
use Rattle.pipe_laws.specs.Legality.{IsHeardCall, AreHeardCalls, HasShortBodies, PipedIsLegal, PipedOwesNothing, PipedIsDone}
use Rattle.thread_borrowing.proofs.Places.{no_place}
use Rattle.lane_machine.specs.Changes.{changes, marks}
use Rattle.pipe_laws.proofs.Reached.{reached_idles, reached_served, legal_push, replay_push}
use Rattle.pipe_laws.proofs.OneTurn.{Turning, turning, take_ready, take_sound, finish_sound, turn_calm, calm_set}
use Rattle.pipe_laws.proofs.Rests.{answer_by, turn_run, turned_is, took_state, turn_state, rests, Handing, handing, collect_ready, collected_state, empties}
use Rattle.pipe_laws.proofs.Folds.{groups_are_folded}

-- ---- a legal run between two turns

pub record Stands (s : State) (ended : List (ConnId × How)) (run : Run) : Type 0 where
  pub legal : IsLegal s run.history
  pub leads : run.state ≡ replay s run.history
  pub pool : run.state.pool ≡ s.pool
  pub ends : run.state.ended ≡ ended
  pub calm : NoneBusy run.state.threads

pub reached : (s : State) (ended : List (ConnId × How)) (run : Run) → Opens s → Stands s ended run → IsReached run.state
reached s ended run opens stands = record { first = s; history = run.history; opens = opens; legal = stands.legal; leads = stands.leads }

abbrev Both : State → Run → Type 0
Both s run = IsLegal s run.history × (run.state ≡ replay s run.history)

both_applied : (s : State) (run : Run) (call : LaneCall) → Both s run → is_ready run.state call ≡ true → IsSound run.state call → Both s (applied run call)
both_applied s run call (legal, leads) = subst (λ (z : State). is_ready z call ≡ true → IsSound z call → Both s (record { state = (step z call).0; history = run.history ++ record { caller = 0; call = call; reply = (step z call).1 } ∷ [] })) (sym leads)
    (λ ready sound. (legal_push s run.history call legal ready sound, sym (replay_push s run.history call)))

-- a call that leaves no thread busy
pub stands_applied : (s : State) (ended ended' : List (ConnId × How)) (run : Run) (call : LaneCall) → Stands s ended run → is_ready run.state call ≡ true → IsSound run.state call
    → (step run.state call).0.ended ≡ ended' → NoneBusy (step run.state call).0.threads → Stands s ended' (applied run call)
stands_applied s ended ended' run call stands ready sound ends calm =
    let both = both_applied s run call (stands.legal, stands.leads) ready sound in
    record { legal = both.0; leads = both.1; pool = (changes run.state call).0 ∙ stands.pool; ends = ends; calm = calm }

-- ---- turns

stands_turn : (s : State) (ended : List (ConnId × How)) (servant : JobRecord → Outcome) (run : Run) (t : ℕ) (x : Turning run.state t) → ((job : JobRecord) → body_len (servant job) ≤ MAX_BODY)
    → Stands s ended run → Stands s ended (turn_run servant run t x)
stands_turn s ended servant run t x short stands =
    let answer = answer_by servant x.job in
    let first = both_applied s run (Take t) (stands.legal, stands.leads) (take_ready run.state t x) (take_sound run.state t x) in
    let sound : IsSound (applied run (Take t)).state (Finish t answer) = subst (λ (z : State). IsSound z (Finish t answer)) (sym (took_state run t x)) (finish_sound run.state t x answer refl (short x.job)) in
    let both = both_applied s (applied run (Take t)) (Finish t answer) first refl sound in
    record {
      legal = both.0;
      leads = both.1;
      pool = (changes (applied run (Take t)).state (Finish t answer)).0 ∙ (changes run.state (Take t)).0 ∙ stands.pool;
      ends = (marks (applied run (Take t)).state (Finish t answer)).0 ∙ (marks run.state (Take t)).0 ∙ stands.ends;
      calm = subst (λ (z : State). NoneBusy z.threads) (sym (turn_state servant run t x)) (turn_calm run.state t x answer stands.calm);
    }

stands_turned : (s : State) (ended : List (ConnId × How)) (servant : JobRecord → Outcome) (run : Run) (o : Option ℕ) → ((job : JobRecord) → body_len (servant job) ≤ MAX_BODY)
    → first_given run.state ≡ o → Stands s ended run → Stands s ended (turned servant run o)
stands_turned s ended servant run None short given stands = stands
stands_turned s ended servant run (Some t) short given stands =
    let x = turning run.state t given in
    subst (Stands s ended) (sym (turned_is servant run t x)) (stands_turn s ended servant run t x short stands)

stands_rested : (s : State) (ended : List (ConnId × How)) (servant : JobRecord → Outcome) (turns : ℕ) (run : Run) → ((job : JobRecord) → body_len (servant job) ≤ MAX_BODY)
    → Stands s ended run → Stands s ended (rested_after servant turns run)
stands_rested s ended servant zero run short stands = stands
stands_rested s ended servant (suc turns) run short stands =
    stands_rested s ended servant turns (turned servant run (first_given run.state)) short (stands_turned s ended servant run (first_given run.state) short refl stands)

-- ---- collects: they leave the threads and what waits as they were

pub stands_collect : (s : State) (ended : List (ConnId × How)) (conn : ConnId) (run : Run) (x : Handing run.state conn) → Stands s ended run → Stands s ended (applied run (Collect conn))
stands_collect s ended conn run x stands =
    stands_applied s ended ended run (Collect conn) stands (collect_ready run.state conn x) tt
    ((marks run.state (Collect conn)).0 ∙ stands.ends)
    (subst (λ (z : State). NoneBusy z.threads) (sym (collected_state run conn x)) stands.calm)

given_collect : (conn : ConnId) (run : Run) (x : Handing run.state conn) → first_given run.state ≡ None → first_given (applied run (Collect conn)).state ≡ None
given_collect conn run x none = subst (λ (z : State). first_given z ≡ None) (sym (collected_state run conn x)) none

abbrev Rests : State → List (ConnId × How) → Run → Type 0
Rests s ended run = Stands s ended run × (first_given run.state ≡ None)

rests_collected : (s : State) (ended : List (ConnId × How)) (conn : ConnId) (run : Run) (o : Option ℕ) → item_place run.state conn ≡ o → Rests s ended run → Rests s ended (collected conn run o)
rests_collected s ended conn run None place rests = rests
rests_collected s ended conn run (Some at) place (stands, none) = let x = handing run.state conn at place in (stands_collect s ended conn run x stands, given_collect conn run x none)

rests_emptied : (s : State) (ended : List (ConnId × How)) (conn : ConnId) (items : ℕ) (run : Run) → Rests s ended run → Rests s ended (emptied_after conn items run)
rests_emptied s ended conn zero run rests = rests
rests_emptied s ended conn (suc items) run rests =
    rests_emptied s ended conn items (collected conn run (item_place run.state conn)) (rests_collected s ended conn run (item_place run.state conn) refl rests)

-- ---- where no task is given, none is run, and no item is left, nothing is owed

free_of : (d : Doing) → is_given d ≡ false → is_busy d ≡ false → is_free d ≡ true
free_of Free given busy = refl
free_of (Given job) given busy = absurd cc
free_of (Busy job) given busy = absurd cc

pub all_free : (s : State) → NoneBusy s.threads → first_given s ≡ None → (t : ℕ) (thread : Thread) → slice_get s.threads t ≡ Some thread → is_free thread.doing ≡ true
all_free s calm none t thread there = free_of thread.doing (no_place (λ x. is_given x.doing) s.threads t thread none there) (calm t thread there)

none_waits : (s : State) → IsReached s → NoneBusy s.threads → first_given s ≡ None → (waiting : List JobRecord) → s.waiting ≡ waiting → waiting ≡ []
none_waits s reached calm none [] is = refl
none_waits s reached calm none (job ∷ jobs) is =
    absurd (nothing_waits reached.first s (reached_served s reached) (reached_idles s reached) (all_free s calm none) 0 job (ap (λ (w : List JobRecord). slice_get w 0) is))

module _ {X : Type 0} where
  count_none : (p : X → Bool) (xs : List X) → ((k : ℕ) (x : X) → slice_get xs k ≡ Some x → p x ≡ false) → count_by p xs ≡ 0
  count_none p [] none = refl
  count_none p (x ∷ xs) none =
      let here : ◌≡◌ {A = ℕ} (cond (p x) 1 0) 0 = ap (λ (b : Bool). cond {A = ℕ} b 1 0) (none 0 x refl) in
      let later = count_none p xs (λ k y g. none (suc k) y g) in
      sum_by-cons (λ (y : X). cond (p y) 1 0) x xs ∙ omega arith

free_works : (conn : ConnId) (d : Doing) → is_free d ≡ true → works_for conn d ≡ false
free_works conn Free free = refl
free_works conn (Given job) free = absurd cc
free_works conn (Busy job) free = absurd cc

pub owes_none : (s : State) (conn : ConnId) → IsReached s → NoneBusy s.threads → first_given s ≡ None → item_place s conn ≡ None → owed s conn ≡ 0
unfolding owed
owes_none s conn reached calm none empty =
    let waits : count_by (λ job. same_conn job.conn conn) s.waiting ≡ 0 = ap (λ (w : List JobRecord). count_by (λ job. same_conn job.conn conn) w) (none_waits s reached calm none s.waiting refl) in
    let works = count_none (λ thread. works_for conn thread.doing) s.threads (λ k thread g. free_works conn thread.doing (all_free s calm none k thread g)) in
    let items = count_none (λ i. same_conn (item_conn i) conn) s.out (λ k i g. no_place (λ i. same_conn (item_conn i) conn) s.out k i empty g) in
    omega arith

-- the end of a group
pub record Settles (s : State) (ended : List (ConnId × How)) (run : Run) : Type 0 where
  pub stands : Stands s ended run
  pub given : first_given run.state ≡ None
  pub empty : item_place run.state pipe_conn ≡ None
  pub owes : owed run.state pipe_conn ≡ 0

pub settles : (s : State) (ended : List (ConnId × How)) (servant : JobRecord → Outcome) (run : Run) → Opens s → ((job : JobRecord) → body_len (servant job) ≤ MAX_BODY)
    → Stands s ended run → Settles s ended (settled servant run)
settles s ended servant run opens short stands =
    let still = stands_rested s ended servant (in_hand run.state) run short stands in
    let all = rests_emptied s ended pipe_conn (length (rested servant run).state.out) (rested servant run) (still, rests servant run) in
    let empty = empties pipe_conn (rested servant run) in
    record { stands = all.0; given = all.1; empty = empty; owes = owes_none (settled servant run).state pipe_conn (reached s ended (settled servant run) opens all.0) all.0.calm all.1 empty }

-- ---- the calls

pub heard_sound : (s : State) (conn : ConnId) (call : LaneCall) → IsHeardCall s.pool conn call → IsSound s call
heard_sound s conn (Offer job) heard = heard.1
heard_sound s conn (Post notice) heard = tt
heard_sound s conn (Cancel c id) heard = tt
heard_sound s conn (Take t) heard = absurd heard
heard_sound s conn (Finish t answer) heard = absurd heard
heard_sound s conn (Collect c) heard = absurd heard
heard_sound s conn (End c how) heard = absurd heard
heard_sound s conn (Leave slot) heard = absurd heard

pub heard_ready : (s : State) (conn : ConnId) (call : LaneCall) → IsHeardCall s.pool conn call → owed s conn ≡ 0 → is_ready s call ≡ true
heard_ready s conn (Offer job) heard none =
    or_right s.closing (nat_le (owed s job.conn) MAX_OWED) (ap (λ (c : ConnId). nat_le (owed s c) MAX_OWED) heard.0 ∙ ap (λ (n : ℕ). nat_le n MAX_OWED) none)
heard_ready s conn (Post notice) heard none =
    or_right s.closing (nat_le (owed s notice.conn) MAX_OWED) (ap (λ (c : ConnId). nat_le (owed s c) MAX_OWED) heard ∙ ap (λ (n : ℕ). nat_le n MAX_OWED) none)
heard_ready s conn (Cancel c id) heard none = refl
heard_ready s conn (Take t) heard none = absurd heard
heard_ready s conn (Finish t answer) heard none = absurd heard
heard_ready s conn (Collect c) heard none = absurd heard
heard_ready s conn (End c how) heard none = absurd heard
heard_ready s conn (Leave slot) heard none = absurd heard

calm_run : (s : State) (job : JobRecord) (t : ℕ) (o : Option Thread) → slice_get s.threads t ≡ o → NoneBusy s.threads → NoneBusy (run_by s job t o).0.threads
calm_run s job t (Some thread) there calm = calm_set s.threads t thread (given job thread) there refl (λ k other d g. calm k other g)
calm_run s job t None there calm = calm

calm_kept : (s : State) (job : JobRecord) (room : Bool) → NoneBusy s.threads → NoneBusy (kept_or_full s job room).0.threads
calm_kept s job true calm = calm
calm_kept s job false calm = calm

calm_placed : (s : State) (job : JobRecord) (o : Option ℕ) → NoneBusy s.threads → NoneBusy (placed s job o).0.threads
calm_placed s job (Some t) calm = calm_run s job t (slice_get s.threads t) refl calm
calm_placed s job None calm = calm_kept s job (may_wait s.pool s.waiting job) calm

calm_offered : (s : State) (job : JobRecord) (over : Bool) → NoneBusy s.threads → NoneBusy (offered s job over).0.threads
calm_offered s job true calm = calm
calm_offered s job false calm = calm_placed (heard s job.size) job (chosen_thread s.pool.borrowing job.lane s.threads) calm

calm_posted : (s : State) (i : Item) (over : Bool) → NoneBusy s.threads → NoneBusy (posted s i over).0.threads
calm_posted s i true calm = calm
calm_posted s i false calm = calm

calm_withdrawn : (s : State) (o : Option ℕ) → NoneBusy s.threads → NoneBusy (withdrawn s o).0.threads
calm_withdrawn s (Some at) calm = calm
calm_withdrawn s None calm = calm

calm_cancelled : (s : State) (conn : ConnId) (id : ℕ) (over : Bool) → NoneBusy s.threads → NoneBusy (cancelled s conn id over).0.threads
calm_cancelled s conn id true calm = calm
calm_cancelled s conn id false calm = calm_withdrawn (heard s 0) (position (may_cancel conn id) s.waiting) calm

pub heard_calm : (s : State) (conn : ConnId) (call : LaneCall) → IsHeardCall s.pool conn call → NoneBusy s.threads → NoneBusy (step s call).0.threads
heard_calm s conn (Offer job) heard calm = calm_offered s job (is_over s job.size) calm
heard_calm s conn (Post notice) heard calm = calm_posted s (Noticed notice) (is_over s 0) calm
heard_calm s conn (Cancel c id) heard calm = calm_cancelled s c id (is_over s 0) calm
heard_calm s conn (Take t) heard calm = absurd heard
heard_calm s conn (Finish t answer) heard calm = absurd heard
heard_calm s conn (Collect c) heard calm = absurd heard
heard_calm s conn (End c how) heard calm = absurd heard
heard_calm s conn (Leave slot) heard calm = absurd heard

pub heard_ends : (s : State) (conn : ConnId) (call : LaneCall) → IsHeardCall s.pool conn call → (step s call).0.ended ≡ s.ended
heard_ends s conn (Offer job) heard = (marks s (Offer job)).0
heard_ends s conn (Post notice) heard = (marks s (Post notice)).0
heard_ends s conn (Cancel c id) heard = (marks s (Cancel c id)).0
heard_ends s conn (Take t) heard = absurd heard
heard_ends s conn (Finish t answer) heard = absurd heard
heard_ends s conn (Collect c) heard = absurd heard
heard_ends s conn (End c how) heard = absurd heard
heard_ends s conn (Leave slot) heard = absurd heard

pub stands_heard : (s : State) (ended : List (ConnId × How)) (run : Run) (call : LaneCall) → IsHeardCall s.pool pipe_conn call → is_ready run.state call ≡ true → Stands s ended run → Stands s ended (applied run call)
stands_heard s ended run call is ready stands =
    let here : IsHeardCall run.state.pool pipe_conn call = subst (λ (p : Pool). IsHeardCall p pipe_conn call) (sym stands.pool) is in
    stands_applied s ended ended run call stands ready (heard_sound run.state pipe_conn call here)
    (heard_ends run.state pipe_conn call here ∙ stands.ends) (heard_calm run.state pipe_conn call here stands.calm)

-- before a call that isn't ready the group ends, and then it is
abbrev Ready : State → List (ConnId × How) → LaneCall → Run → Type 0
Ready s ended call run = Stands s ended run × (is_ready run.state call ≡ true)

before_ready : (s : State) (ended : List (ConnId × How)) (servant : JobRecord → Outcome) (run : Run) (call : LaneCall) (b : Bool) → Opens s → ((job : JobRecord) → body_len (servant job) ≤ MAX_BODY)
    → IsHeardCall s.pool pipe_conn call → is_ready run.state call ≡ b → Stands s ended run → Ready s ended call (if b then run else settled servant run)
before_ready s ended servant run call true opens short is ready stands = (stands, ready)
before_ready s ended servant run call false opens short is ready stands =
    let x = settles s ended servant run opens short stands in
    (x.stands, heard_ready (settled servant run).state pipe_conn call (subst (λ (p : Pool). IsHeardCall p pipe_conn call) (sym x.stands.pool) is) x.owes)

stands_either : (s : State) (ended : List (ConnId × How)) (b : Bool) (one other : Run) → Stands s ended one → Stands s ended other → Stands s ended (if b then one else other)
stands_either s ended true one other is are = is
stands_either s ended false one other is are = are

stands_called : (s : State) (ended : List (ConnId × How)) (servant : JobRecord → Outcome) (batch : ℕ) (g : Group) (call : LaneCall) → Opens s → ((job : JobRecord) → body_len (servant job) ≤ MAX_BODY)
    → IsHeardCall s.pool pipe_conn call → Stands s ended g.run → Stands s ended (called servant batch g call).run
stands_called s ended servant batch g call opens short is stands =
    let before : Ready s ended call (before_call servant g.run call) = before_ready s ended servant g.run call (is_ready g.run.state call) opens short is refl stands in
    let made = stands_heard s ended (before_call servant g.run call) call is before.1 before.0 in
    let run = applied (before_call servant g.run call) call in
    stands_either s ended (room_behind batch g.room g.run call == 0) (settled servant run) run (settles s ended servant run opens short made).stands made

stands_after : (s : State) (ended : List (ConnId × How)) (servant : JobRecord → Outcome) (batch : ℕ) (g : Group) (call : LaneCall) (closing : Bool) → Stands s ended g.run
    → Stands s ended (called servant batch g call).run → Stands s ended (if closing then g else called servant batch g call).run
stands_after s ended servant batch g call true is are = is
stands_after s ended servant batch g call false is are = are

pub stands_folded : (s : State) (ended : List (ConnId × How)) (servant : JobRecord → Outcome) (batch : ℕ) (g : Group) (calls : List LaneCall) → Opens s → ((job : JobRecord) → body_len (servant job) ≤ MAX_BODY)
    → AreHeardCalls s.pool pipe_conn calls → Stands s ended g.run → Stands s ended (folded servant batch g calls).run
stands_folded s ended servant batch g [] opens short are stands = stands
stands_folded s ended servant batch g (call ∷ calls) opens short (is, are) stands =
    stands_folded s ended servant batch (after_call servant batch g call) calls opens short are
    (stands_after s ended servant batch g call g.run.state.closing stands (stands_called s ended servant batch g call opens short is stands))

-- ---- the end

end_found : (s : State) (how : How) → s.ended ≡ (pipe_conn, how) ∷ [] → end_of s pipe_conn ≡ Some how
end_found s how is = ap (λ (es : List (ConnId × How)). option_map (λ e. e.1) (find (λ e. same_conn e.0 pipe_conn) es)) is

pub last_ready : (s : State) (how : How) → s.ended ≡ (pipe_conn, how) ∷ [] → owed s pipe_conn ≡ 0 → is_ready s (Collect pipe_conn) ≡ true
last_ready s how ended none =
    or_right (is_some (item_place s pipe_conn)) ((owed s pipe_conn == 0) && (is_some (end_of s pipe_conn) || s.closing))
    (ap (λ (n : ℕ). (n == 0) && (is_some (end_of s pipe_conn) || s.closing)) none ∙ ap (λ (o : Option How). is_some o || s.closing) (end_found s how ended))

over_same : (s : State) (conn : ConnId) (how : How) → (over s conn (Some how)).0 ≡ s
over_same s conn Quiet = refl
over_same s conn Bad = refl
over_same s conn Shut = refl

last_same : (s : State) (how : How) → s.ended ≡ (pipe_conn, how) ∷ [] → item_place s pipe_conn ≡ None → (step s (Collect pipe_conn)).0 ≡ s
last_same s how ended empty =
    ap (λ (o : Option ℕ). (taken_out s pipe_conn o).0) empty ∙ ap (λ (o : Option How). (over s pipe_conn o).0) (end_found s how ended) ∙ over_same s pipe_conn how

-- what is after the end: a legal history, nothing owed, and each thread free
pub record Closed (s : State) (run : Run) : Type 0 where
  pub legal : IsLegal s run.history
  pub leads : run.state ≡ replay s run.history
  pub owes : owed run.state pipe_conn ≡ 0
  pub free : (t : ℕ) (thread : Thread) → slice_get run.state.threads t ≡ Some thread → is_free thread.doing ≡ true

pub stands_closed : (s : State) (servant : JobRecord → Outcome) (how : How) (run : Run) → Opens s → ((job : JobRecord) → body_len (servant job) ≤ MAX_BODY) → Stands s [] run
    → Closed s (closed_by servant how run)
stands_closed s servant how run opens short stands =
    let last = if run.state.closing then Shut else how in
    let sound : IsSound run.state (End pipe_conn last) = ap (λ (es : List (ConnId × How)). option_map (λ e. e.1) (find (λ e. same_conn e.0 pipe_conn) es)) stands.ends in
    let ended : (applied run (End pipe_conn last)).state.ended ≡ (pipe_conn, last) ∷ [] = ap (λ (es : List (ConnId × How)). es ++ (pipe_conn, last) ∷ []) stands.ends in
    let over = stands_applied s [] ((pipe_conn, last) ∷ []) run (End pipe_conn last) stands refl sound ended stands.calm in
    let x = settles s ((pipe_conn, last) ∷ []) servant (applied run (End pipe_conn last)) opens short over in
    let behind = settled servant (applied run (End pipe_conn last)) in
    let done = both_applied s behind (Collect pipe_conn) (x.stands.legal, x.stands.leads) (last_ready behind.state last x.stands.ends x.owes) tt in
    let same = last_same behind.state last x.stands.ends x.empty in
    record {
      legal = done.0;
      leads = done.1;
      owes = ap (λ (z : State). owed z pipe_conn) same ∙ x.owes;
      free = subst (λ (z : State). (t : ℕ) (thread : Thread) → slice_get z.threads t ≡ Some thread → is_free thread.doing ≡ true) (sym same) (all_free behind.state x.stands.calm x.given);
    }

-- ---- the pipe

answer_short : (setup : SetupData) (outcome : List ℕ → JobRecord → Outcome) (job : JobRecord) (b : Bool) → HasShortBodies outcome → body_len (if b then no_memory else outcome (interface_of setup job.target) job) ≤ MAX_BODY
answer_short setup outcome job true short = lit≤ tt
answer_short setup outcome job false short = short (interface_of setup job.target) job

pub opens_so : (setup : SetupData) → CanOpen setup.pool setup.slots setup.per_slot → Opens (opening setup.pool setup.slots setup.per_slot)
opens_so setup can = record { can = can; fresh = refl }

calm_append : (xs ys : List Thread) → NoneBusy xs → NoneBusy ys → NoneBusy (xs ++ ys)
calm_append [] ys one other t thread there = other t thread there
calm_append (x ∷ xs) ys one other zero thread there = one 0 thread there
calm_append (x ∷ xs) ys one other (suc t) thread there = calm_append xs ys (λ k y g. one (suc k) y g) other t thread there

calm_some : (lane : ℕ) (kind : Bool) (count : ℕ) → NoneBusy (some_threads lane kind count)
calm_some lane kind zero t thread there = absurd (none-some thread there)
calm_some lane kind (suc count) zero thread there = ap (λ (x : Thread). is_busy x.doing) (sym (same_Some (record { lane = lane; is_static = kind; started = kind; doing = Free }) thread there))
calm_some lane kind (suc count) (suc t) thread there = calm_some lane kind count t thread there

calm_pool : (lane : ℕ) (lanes : List LaneSpec) → NoneBusy (pool_threads lane lanes)
calm_pool lane [] t thread there = absurd (none-some thread there)
calm_pool lane (spec ∷ specs) t thread there =
    calm_append (some_threads lane true spec.statics ++ some_threads lane false spec.dynamics) (pool_threads (lane + 1) specs)
    (calm_append (some_threads lane true spec.statics) (some_threads lane false spec.dynamics) (calm_some lane true spec.statics) (calm_some lane false spec.dynamics))
    (calm_pool (lane + 1) specs) t thread there

pub stands_first : (s : State) → Opens s → Stands s [] (record { state = s; history = [] })
stands_first s opens = subst (λ (z : State). Stands z [] (record { state = z; history = [] })) (sym opens.fresh)
    (record { legal = tt; leads = refl; pool = refl; ends = refl; calm = calm_pool 0 s.pool.lanes })

pub piped_closed : (setup : SetupData) (outcome : List ℕ → JobRecord → Outcome) (batch : ℕ) (calls : List LaneCall) (how : How) (lacks : List ℕ)
    → CanOpen setup.pool setup.slots setup.per_slot → HasShortBodies outcome → AreHeardCalls setup.pool pipe_conn calls
    → Closed (opening setup.pool setup.slots setup.per_slot) (piped setup outcome batch calls how lacks)
piped_closed setup outcome batch calls how lacks can bodies heard =
    let s = opening setup.pool setup.slots setup.per_slot in
    let servant = answer_of setup outcome lacks in
    let short : (job : JobRecord) → body_len (servant job) ≤ MAX_BODY = λ job. answer_short setup outcome job (list_any (λ serial. serial == job.serial) lacks) bodies in
    let opens = opens_so setup can in
    let begin : Run = record { state = s; history = [] } in
    let g : Group = record { run = begin; room = batch } in
    let stands = stands_folded s [] servant batch g calls opens short heard (stands_first s opens) in
    let run = (folded servant batch g calls).run in
    let x = settles s [] servant run opens short stands in
    let done = stands_closed s servant how (settled servant run) opens short x.stands in
    subst (λ (r : Run). Closed s (closed_by servant how r)) (sym (groups_are_folded servant batch batch begin calls)) done

pub piped_is_legal : PipedIsLegal
piped_is_legal setup outcome batch calls how lacks can bodies heard = (piped_closed setup outcome batch calls how lacks can bodies heard).legal

pub piped_owes_nothing : PipedOwesNothing
piped_owes_nothing setup outcome batch calls how lacks can bodies heard = (piped_closed setup outcome batch calls how lacks can bodies heard).owes

pub piped_is_done : PipedIsDone
piped_is_done setup outcome batch calls how lacks can bodies heard conn serial =
    let s = opening setup.pool setup.slots setup.per_slot in
    let run = piped setup outcome batch calls how lacks in
    let x = piped_closed setup outcome batch calls how lacks can bodies heard in
    done_where_free s run.history (opens_so setup can) x.legal
    (subst (λ (z : State). (t : ℕ) (thread : Thread) → slice_get z.threads t ≡ Some thread → is_free thread.doing ≡ true) x.leads x.free) conn serial
