-- All passes came back, and the one history says what each did.
use Rattle.std.proofs.Common.{◌≡◌, ℕ, zero, suc, ◌+◌, ◌*◌, ◌<◌, ◌≤◌, Bool, List, [], ◌∷◌, ◌++◌, length, map, Some, None, refl, sym, ap, subst, ◌∙◌, arith}
use Rattle.std.specs.List.{flat_map}
use Rattle.std.proofs.lemmas.List.{length-append}
use Rattle.orb_base.specs.JobRecord.{JobRecord}
use Rattle.orb_base.specs.Links.{AcceptorState}
use Rattle.orb_base.specs.Outside.{SourceState, SinkState}
use Rattle.orb_base.specs.declared.conn_id.ConnId.{ConnId}
use Rattle.orb_base.specs.declared.outcome.Outcome.{Outcome}
use Rattle.thread_borrowing.specs.ThreadList.{pool_threads}
use Rattle.turn_cell.specs.Numbers.{Each}
use Rattle.turn_cell.specs.Seats.{CellView}
use Rattle.lane_machine.specs.Callers.{of, latest, worker_seat, AreFit}
use Rattle.lane_machine.specs.Entries.{latest_push}
use Rattle.lane_machine.specs.Fates.{admitted, taken, finished, removed, waiting_of, given_of, busy_of}
use Rattle.lane_machine.specs.Histories.{History, IsLegal, replay}
use Rattle.lane_machine.specs.State.{State, Opens}
use Rattle.lane_machine.specs.declared.call.LaneReply.TheVariants.{Ended}
use Rattle.adapter_policies.specs.SetupData.{SetupData}
use Rattle.conn_sides.specs.Working.{take_entry}
use Rattle.lane_pool.specs.Pass.{Pass, Sitting, Leaving}
use Rattle.lane_pool.specs.Passes.{MainAt}
use Rattle.lane_pool.specs.Returned.{AllHome, AllAlone}
use Rattle.lane_pool.specs.Returning.{AreIn, left_by, AllBack, IsHistory}
use Rattle.lane_pool.proofs.Returned.{all_back, home_in, alone_in}
use Rattle.orb_server.specs.Connections.{Conn, AreWritten, writers_left}
use Rattle.orb_server.specs.Fates.{RunsOnce, RunsInLanes, RunsAdmitted}
use Rattle.orb_server.specs.Giving.{passes_of, given_back, conns_of, ends_of}
use Rattle.orb_server.specs.Runs.{opening_of, IsLawful, Slot, SlotsRan, AllSlotsRan, WorkersRan}
use Rattle.link_slots.specs.SlotEnds.{HasCause}
use Rattle.orb_server.specs.Threads.{IsPoolOf, AreDone, HaveWorked, WorkedOff}
use Rattle.orb_server.proofs.Admitting.{runs_admitted}
use Rattle.orb_server.proofs.Lanes.{runs_in_lanes}
use Rattle.orb_server.specs.Jobs.{PoolDone}
use Rattle.orb_server.specs.declared.run.ConnLog.{ConnLog}
use Rattle.link_slots.specs.declared.slot_end.SlotEnd.{SlotEnd}
use Rattle.link_slots.specs.declared.slot_end.SlotEnd.TheVariants.{Done, Served, Closed, AcceptFault}

abbrev Own : History → Leaving → Type 0
Own h d = d.calls ≡ of d.number h

each_cut : (h : History) (xs ys : List Leaving) → Each (Own h) (xs ++ ys) → Each (Own h) xs × Each (Own h) ys
each_cut h [] ys e = (tt, e)
each_cut h (x ∷ xs) ys e = let r = each_cut h xs ys e.1 in ((e.0, r.0), r.1)

written_of : {I O : Type 0} (h : History) (slot nth : ℕ) (cs : List (Conn I O)) → Each (Own h) (writers_left slot nth cs) → AreWritten h slot nth cs
written_of h slot nth [] e = tt
written_of h slot nth (c ∷ cs) e = (e.0, written_of h slot (nth + 1) cs e.1)

pub count_few : {I O : Type 0} (end : SlotEnd) (most count : ℕ) (closed : Bool) (old new : AcceptorState I O) → HasCause end most count closed old new → count ≤ most
count_few Done most count closed old new c = let a = c.0 in omega arith
count_few Served most count closed old new c = let a = c.0 in omega arith
count_few Closed most count closed old new c = c.0
count_few AcceptFault most count closed old new c = let a = c.0 in omega arith

module _ {A I O : Type 0} (state : A → AcceptorState I O) (source : I → SourceState) (sink : O → SinkState) (setup : SetupData) (cell : CellView State) where
  home_of : (slot : ℕ) (before : List A) (ds : List (PoolDone A I O)) → AreDone state source sink setup cell slot before ds → AllHome cell slot (passes_of ds)
  home_of slot [] [] a = tt
  home_of slot [] (d ∷ ds) a = absurd a
  home_of slot (x ∷ xs) [] a = absurd a
  home_of slot (x ∷ xs) (d ∷ ds) a = (a.0.knows.home, home_of (slot + 1) xs ds a.1)

  pub all_home : (before : List A) (ds : List (PoolDone A I O)) → AreDone state source sink setup cell 0 before ds → AllHome cell 0 (passes_of ds)
  all_home before ds a = home_of 0 before ds a

  -- no slot has more connections than it may
  few_from : (slot : ℕ) (before : List A) (ds : List (PoolDone A I O)) → AreDone state source sink setup cell slot before ds → length (conns_of ds) ≤ length ds * setup.per_slot
  few_from slot [] [] a = omega arith
  few_from slot [] (d ∷ ds) a = absurd a
  few_from slot (x ∷ xs) [] a = absurd a
  few_from slot (x ∷ xs) (d ∷ ds) a =
      let n = length-append d.logs.items (conns_of ds) in
      let m = few_from (slot + 1) xs ds a.1 in
      let k = count_few d.end setup.per_slot (length d.logs.items) _ (state x) (state d.acceptor) a.0.cause in omega arith

  pub few_conns : (before : List A) (ds : List (PoolDone A I O)) (n : ℕ) → AreDone state source sink setup cell 0 before ds → length ds ≡ n → length (conns_of ds) ≤ n * setup.per_slot
  few_conns before ds n a e = subst (λ (k : ℕ). length (conns_of ds) ≤ k * setup.per_slot) e (few_from 0 before ds a)

  -- the slots, each with its acceptor before and after the run
  abbrev slots_of : List A → List (PoolDone A I O) → List (Slot A I O)
  slots_of [] ds = []
  slots_of (x ∷ xs) [] = []
  slots_of (x ∷ xs) (d ∷ ds) = record { before = x; behind = d.acceptor; conns = d.logs.items; end = d.end } ∷ slots_of xs ds

  same_count : (slot : ℕ) (xs : List A) (ds : List (PoolDone A I O)) → AreDone state source sink setup cell slot xs ds → length (slots_of xs ds) ≡ length ds
  same_count slot [] [] a = refl
  same_count slot [] (d ∷ ds) a = absurd a
  same_count slot (x ∷ xs) [] a = absurd a
  same_count slot (x ∷ xs) (d ∷ ds) a = let n = same_count (slot + 1) xs ds a.1 in omega arith

  same_before : (slot : ℕ) (xs : List A) (ds : List (PoolDone A I O)) → AreDone state source sink setup cell slot xs ds → xs ≡ map (λ (s : Slot A I O). s.before) (slots_of xs ds)
  same_before slot [] [] a = refl
  same_before slot [] (d ∷ ds) a = absurd a
  same_before slot (x ∷ xs) [] a = absurd a
  same_before slot (x ∷ xs) (d ∷ ds) a = ap (λ (z : List A). x ∷ z) (same_before (slot + 1) xs ds a.1)

  same_behind : (slot : ℕ) (xs : List A) (ds : List (PoolDone A I O)) → AreDone state source sink setup cell slot xs ds → given_back ds ≡ map (λ (s : Slot A I O). s.behind) (slots_of xs ds)
  same_behind slot [] [] a = refl
  same_behind slot [] (d ∷ ds) a = absurd a
  same_behind slot (x ∷ xs) [] a = absurd a
  same_behind slot (x ∷ xs) (d ∷ ds) a = ap (λ (z : List A). d.acceptor ∷ z) (same_behind (slot + 1) xs ds a.1)

  same_conns : (slot : ℕ) (xs : List A) (ds : List (PoolDone A I O)) → AreDone state source sink setup cell slot xs ds → conns_of ds ≡ flat_map (λ (s : Slot A I O). s.conns) (slots_of xs ds)
  same_conns slot [] [] a = refl
  same_conns slot [] (d ∷ ds) a = absurd a
  same_conns slot (x ∷ xs) [] a = absurd a
  same_conns slot (x ∷ xs) (d ∷ ds) a = ap (λ (z : List (ConnLog I O)). d.logs.items ++ z) (same_conns (slot + 1) xs ds a.1)

  same_ends : (slot : ℕ) (xs : List A) (ds : List (PoolDone A I O)) → AreDone state source sink setup cell slot xs ds → ends_of ds ≡ map (λ (s : Slot A I O). s.end) (slots_of xs ds)
  same_ends slot [] [] a = refl
  same_ends slot [] (d ∷ ds) a = absurd a
  same_ends slot (x ∷ xs) [] a = absurd a
  same_ends slot (x ∷ xs) (d ∷ ds) a = ap (λ (z : List SlotEnd). d.end ∷ z) (same_ends (slot + 1) xs ds a.1)

  slots_ran : (h : History) (slot : ℕ) (xs : List A) (ds : List (PoolDone A I O)) → AreDone state source sink setup cell slot xs ds → Each (Own h) (left_by (passes_of ds)) → SlotsRan state source sink setup h slot (slots_of xs ds)
  slots_ran h slot [] [] a o = tt
  slots_ran h slot [] (d ∷ ds) a o = absurd a
  slots_ran h slot (x ∷ xs) [] a o = absurd a
  slots_ran h slot (x ∷ xs) (d ∷ ds) a o =
      let parts = each_cut h d.place.seat.ended (left_by (passes_of ds)) o.1 in (
        record {
          cs = a.0.cs;
          serves = a.0.serves;
          read = ap (λ (n : ℕ). of n h) (sym a.0.knows.home.number) ∙ (sym o.0 ∙ a.0.knows.read);
          written = written_of h slot 0 a.0.cs (subst (Each (Own h)) a.0.knows.written parts.0);
          cause = a.0.cause;
        },
        slots_ran h (slot + 1) xs ds a.1 parts.1,
      )

  pub all_slots : (h : History) (ws : List Pass) (left : List Leaving) (before behind : List A) (ds : List (PoolDone A I O)) (conns : List (ConnLog I O)) (ends : List SlotEnd)
      → Each (Own h) left → left ≡ left_by (passes_of ds) ++ left_by ws → AreDone state source sink setup cell 0 before ds → length ds ≡ setup.slots
      → behind ≡ given_back ds → conns ≡ conns_of ds → ends ≡ ends_of ds → AllSlotsRan state source sink setup h before behind conns ends
  all_slots h ws left before behind ds conns ends o l a n b c e = record {
    slots = slots_of before ds;
    count = same_count 0 before ds a ∙ n;
    before_are = same_before 0 before ds a;
    behind_are = b ∙ same_behind 0 before ds a;
    conns_are = c ∙ same_conns 0 before ds a;
    ends_are = e ∙ same_ends 0 before ds a;
    ran = slots_ran h 0 before ds a (each_cut h (left_by (passes_of ds)) (left_by ws) (subst (Each (Own h)) l o)).0;
  }

module _ (setup : SetupData) (outcome : List ℕ → JobRecord → Outcome) (cell : CellView State) where
  alone_from : (first who : ℕ) (ps : List Pass) → HaveWorked setup outcome cell first who ps → AllAlone cell (first + who) ps
  alone_from first who [] w = tt
  alone_from first who (p ∷ ps) w = (w.0.alone, subst (λ (n : ℕ). AllAlone cell n ps) (omega arith) (alone_from first (who + 1) ps w.1))

  pub all_alone : (first : ℕ) (ps : List Pass) → HaveWorked setup outcome cell first 0 ps → AllAlone cell first ps
  all_alone first ps w = subst (λ (n : ℕ). AllAlone cell n ps) (omega arith) (alone_from first 0 ps w)

  off_from : (h : History) (first who : ℕ) (ps : List Pass) → HaveWorked setup outcome cell first who ps → Each (Own h) (left_by ps) → (t : ℕ) → t < length ps
      → WorkedOff setup outcome (first + (who + t)) (who + t) (of (first + (who + t)) h)
  off_from h first who [] w o t l = absurd (omega arith)
  off_from h first who (p ∷ ps) w o zero l =
      let here : WorkedOff setup outcome (first + who) who (of (first + who) h) = subst (WorkedOff setup outcome (first + who) who) (o.0 ∙ ap (λ (n : ℕ). of n h) w.0.alone.number_is) w.0.off in
      subst (λ (n : ℕ). WorkedOff setup outcome (first + n) n (of (first + n) h)) (omega arith) here
  off_from h first who (p ∷ ps) w o (suc t) l =
      subst (λ (n : ℕ). WorkedOff setup outcome (first + n) n (of (first + n) h)) (omega arith)
      (off_from h first (who + 1) ps w.1 (each_cut h p.seat.ended (left_by ps) o.1).1 t (omega arith))

  pub all_workers : (h : History) (ss ps : List Pass) (left : List Leaving) → Each (Own h) left → left ≡ left_by ss ++ left_by ps → HaveWorked setup outcome cell (setup.slots + 1) 0 ps
      → length ps ≡ length (pool_threads 0 setup.pool.lanes) → WorkersRan setup outcome h
  all_workers h ss ps left o l w n t lt =
      let own = (each_cut h (left_by ss) (left_by ps) (subst (Each (Own h)) l o)).1 in
      subst (λ (k : ℕ). WorkedOff setup outcome (setup.slots + 1 + k) k (of (setup.slots + 1 + k) h)) (omega arith) (off_from h (setup.slots + 1) 0 ps w own t (omega arith))

pub lawful : (setup : SetupData) (cell : CellView State) (root : Sitting) (left : List Leaving) (h : History) → IsPoolOf setup cell → IsHistory cell root left h → IsLawful setup h
lawful setup cell root left h o i = record {
  opens = subst Opens o.opened i.good.0;
  legal = subst (λ (s : State). IsLegal s h) o.opened i.good.1;
  fit = subst (λ (s : State). AreFit s h) o.opened i.good.2;
}

-- each worker heard that all has ended
pub ended_last : (setup : SetupData) (outcome : List ℕ → JobRecord → Outcome) (h : History) → WorkersRan setup outcome h → (t : ℕ) → t < length (pool_threads 0 setup.pool.lanes) → latest None (of (worker_seat setup.slots t) h) ≡ Some Ended
ended_last setup outcome h w t l = let k = w t l in ap (latest None) k.parts ∙ latest_push None k.tasks (take_entry (worker_seat setup.slots t) t Ended)

pub runs_once : (setup : SetupData) (outcome : List ℕ → JobRecord → Outcome) (cell : CellView State) (root : Sitting) (left : List Leaving) (h : History) → IsPoolOf setup cell → IsHistory cell root left h → WorkersRan setup outcome h
    → ((s : State) (h : History) → Opens s → IsLegal s h → AreFit s h → ((t : ℕ) → t < length s.threads → latest None (of (worker_seat s.slots t) h) ≡ Some Ended) → (conn : ConnId) (serial : ℕ) → finished conn serial h + removed conn serial s h ≡ admitted conn serial h)
    → ((conn : ConnId) (serial : ℕ) (s : State) (h : History) → Opens s → IsLegal s h
    → waiting_of conn serial (replay s h) + given_of conn serial (replay s h) + busy_of conn serial (replay s h) + finished conn serial h + removed conn serial s h ≡ admitted conn serial h)
    → ((conn : ConnId) (serial : ℕ) (s : State) (h : History) → Opens s → IsLegal s h → busy_of conn serial (replay s h) + finished conn serial h ≡ taken conn serial h)
    → ((conn : ConnId) (serial : ℕ) (s : State) (h : History) → Opens s → IsLegal s h → AreFit s h → admitted conn serial h ≤ 1)
    → RunsOnce (opening_of setup) h
runs_once setup outcome cell root left h o i w done place took once =
    let s = opening_of setup in
    let law = lawful setup cell root left h o i in
    let opens = law.opens in
    let ends = done s h opens law.legal law.fit (ended_last setup outcome h w) in
    record {
      once = λ conn serial. once conn serial s h opens law.legal law.fit;
      settled = ends;
      ran = λ conn serial. (let a = place conn serial s h opens law.legal in let b = took conn serial s h opens law.legal in let c = ends conn serial in omega arith);
    }

pub own_lanes : (setup : SetupData) (cell : CellView State) (root : Sitting) (left : List Leaving) (h : History) → IsPoolOf setup cell → IsHistory cell root left h → RunsInLanes (opening_of setup) h
own_lanes setup cell root left h o i = runs_in_lanes setup.pool setup.slots setup.per_slot h (lawful setup cell root left h o i).legal

pub back : (setup : SetupData) (cell : CellView State) (root : Sitting) (n : ℕ) (homes alones : List Pass) → MainAt cell (setup.slots + n) root → AllHome cell 0 homes → length homes ≡ setup.slots
    → AllAlone cell (setup.slots + 1) alones → length alones ≡ n → AllBack root (left_by homes ++ left_by alones)
back setup cell root n homes alones m h a b c =
    let k = m.splits_is in
    all_back cell root homes alones (omega arith) h (subst (λ (z : ℕ). AllAlone cell (z + 1) alones) (sym a) b)

pub own_admitted : (setup : SetupData) (cell : CellView State) (root : Sitting) (left : List Leaving) (h : History) → IsPoolOf setup cell → IsHistory cell root left h → RunsAdmitted [] h
own_admitted setup cell root left h o i = runs_admitted setup.pool setup.slots setup.per_slot h (lawful setup cell root left h o i).legal

pub closing_in : (cell : CellView State) (n : ℕ) (ss ws passes workers : List Pass) → ss ≡ passes → ws ≡ workers → AllHome cell 0 passes → AllAlone cell n workers → AreIn cell ss × AreIn cell ws
closing_in cell n ss ws passes workers e f h a = (subst (AreIn cell) (sym e) (home_in cell 0 passes h), subst (AreIn cell) (sym f) (alone_in cell n workers a))

pub left_as : (ss ws passes workers : List Pass) → ss ≡ passes → ws ≡ workers → left_by ss ++ left_by ws ≡ left_by passes ++ left_by workers
left_as ss ws passes workers e f = λ i. left_by (e i) ++ left_by (f i)

pub closing_back : (setup : SetupData) (cell : CellView State) (root : Sitting) (n : ℕ) (ss ws passes workers : List Pass) → ss ≡ passes → ws ≡ workers → MainAt cell (setup.slots + n) root → AllHome cell 0 passes → length passes ≡ setup.slots
    → AllAlone cell (setup.slots + 1) workers → length workers ≡ n → AllBack root (left_by ss ++ left_by ws)
closing_back setup cell root n ss ws passes workers e f m h a w b = subst (AllBack root) (sym (left_as ss ws passes workers e f)) (back setup cell root n passes workers m h a w b)
