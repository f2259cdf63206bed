-- All hands came back, and the one history says what each did.
use Rattle.std.proofs.Common.{◌≡◌, ℕ, ◌+◌, ◌*◌, ◌<◌, ◌≤◌, Bool, List, [], ◌∷◌, ◌++◌, length, map, refl, sym, ap, subst, ◌∙◌, arith}
use Rattle.std.specs.List.{flat_map, All}
use Rattle.std.proofs.lemmas.List.{length-append, length-map}
use Rattle.std.proofs.lemmas.List.Elements.{All-nil, All-cons}
use Rattle.orb_base.specs.Links.{AcceptorState}
use Rattle.orb_base.specs.Outside.{SourceState, SinkState}
use Rattle.orb_base.specs.declared.answer.Answer.{Answer}
use Rattle.adapter_policies.specs.SetupData.{SetupData}
use Rattle.side_by_side.specs.Sides.{Pairs}
use Rattle.link_slots.specs.SlotEnds.{HasCause}
use Rattle.link_slots.specs.declared.slot_end.SlotEnd.{SlotEnd}
use Rattle.link_slots.specs.declared.slot_end.SlotEnd.TheVariants.{Done, Served, Closed, AcceptFault}
use Rattle.halls.specs.Hands.{HandState}
use Rattle.halls.specs.Served.{IsJob, LeavesSlot}
use Rattle.halls.specs.declared.host.LinkLog.{LinkLog}
use Rattle.halls.proofs.Kept.{slot_keeps}
use Rattle.name_map.specs.Callers.{History}
use Rattle.name_map.specs.declared.limits.TheConstants.{MAX_CALLERS, MAX_CALLS}
use Rattle.names_hall.specs.Hands.{Cell, Hand, held}
use Rattle.names_hall.specs.Seats.{IsHandOf, IsFresh, AreHands}
use Rattle.names_hall.specs.Closing.{done_by, told_in, AreKept}
use Rattle.names_runs.specs.Giving.{hands_of, given_back, conns_of, ends_of}
use Rattle.names_runs.specs.Jobs.{NamesJob, NamesDone}
use Rattle.names_runs.specs.Runs.{first_hand, Slot, SlotRan, SlotsRan, AllSlotsRan}
use Rattle.names_runs.specs.Starting.{BeginsAt, AreJobs, acceptors_of, IsDone, AreDone, IsBack}
use Rattle.names_runs.specs.declared.run.NamesRun.{NamesRun}

count_few : {I O : Type 0} (end : SlotEnd) (most count : ℕ) (closed : Bool) (old new : AcceptorState I O) → HasCause end most count closed old new → count ≤ most
count_few Done most count closed old new c = let a = c.0 in omega arith
count_few Served most count closed old new c = let a = c.0 in omega arith
count_few Closed most count closed old new c = c.0
count_few AcceptFault most count closed old new c = let a = c.0 in omega arith

-- a hand by which nothing was done
begun : (cell : Cell) (slot : ℕ) (hand : Hand) → IsFresh cell slot hand → held hand ≡ first_hand slot
begun cell slot hand f =
    let at : hand.slot ≡ slot = f.at.at in
    let none : hand.done ≡ [] = f.unused in
    let empty : length hand.done ≡ 0 = ap length none in
    let all = f.at.of.share in
    let spare : hand.spare ≡ MAX_CALLS = omega arith in
    λ i. record { slot = at i; done = none i; spare = spare i }

module _ {A I O : Type 0} (setup : SetupData) (cell : Cell) where
  jobs_from : (slot : ℕ) (js : List (NamesJob A I O)) (most : ℕ) → setup.per_slot ≡ most → AreJobs setup cell slot js → All (IsJob (IsHandOf cell) most) js
  jobs_from slot [] most e a = All-nil (IsJob (IsHandOf cell) most)
  jobs_from slot (j ∷ js) most e a = All-cons (IsJob (IsHandOf cell) most) j js
      (record { of = a.0.fresh.at.of; room = record { empty = a.0.empty; room = let r = a.0.room in omega arith } })
      (jobs_from (slot + 1) js most e a.1)

  pub all_jobs : (js : List (NamesJob A I O)) (most : ℕ) → setup.per_slot ≡ most → AreJobs setup cell 0 js → All (IsJob (IsHandOf cell) most) js
  all_jobs js most e a = jobs_from 0 js most e a

module _ {A I O : Type 0} (state : A → AcceptorState I O) (source : I → SourceState) (sink : O → SinkState) (setup : SetupData) (cell : Cell) where
  abbrev Leaves : ℕ → NamesJob A I O → NamesDone A I O → Type 0
  Leaves most job done = LeavesSlot source sink setup held (IsHandOf cell) state most job done

  is_done : (slot most : ℕ) (job : NamesJob A I O) (done : NamesDone A I O) → most ≡ setup.per_slot → BeginsAt setup cell slot job → Leaves most job done
      → IsDone state source sink setup cell slot job.acceptor done
  is_done slot most job done e b l =
      let kept = slot_keeps source sink held setup job.place done.place l.ran.serves.links done.logs.items l.ran.closed l.ran.serves.served in record {
        first = job.place;
        fresh = b.fresh;
        closed = l.ran.closed;
        serves = l.ran.serves;
        cause = subst (λ (m : ℕ). HasCause done.end m (length done.logs.items) l.ran.closed (state job.acceptor) (state done.acceptor)) e l.ran.cause;
        at = record { of = l.of; at = kept.2.slot_is ∙ b.fresh.at.at };
      }

  done_from : (slot most : ℕ) (jobs : List (NamesJob A I O)) (ds : List (NamesDone A I O)) → most ≡ setup.per_slot → AreJobs setup cell slot jobs → Pairs (Leaves most) jobs ds
      → AreDone state source sink setup cell slot (acceptors_of jobs) ds
  done_from slot most [] [] e a p = tt
  done_from slot most [] (d ∷ ds) e a p = absurd p
  done_from slot most (j ∷ js) [] e a p = absurd p
  done_from slot most (j ∷ js) (d ∷ ds) e a p = (is_done slot most j d e a.0 p.0, done_from (slot + 1) most js ds e a.1 p.1)

  pub all_done : (most : ℕ) (jobs : List (NamesJob A I O)) (ds : List (NamesDone A I O)) → most ≡ setup.per_slot → AreJobs setup cell 0 jobs → Pairs (Leaves most) jobs ds
      → AreDone state source sink setup cell 0 (acceptors_of jobs) ds
  all_done most jobs ds e a p = done_from 0 most jobs ds e a p

  hands_from : (slot : ℕ) (before : List A) (ds : List (NamesDone A I O)) → AreDone state source sink setup cell slot before ds → AreHands cell slot (hands_of ds)
  hands_from slot [] [] a = tt
  hands_from slot [] (d ∷ ds) a = absurd a
  hands_from slot (x ∷ xs) [] a = absurd a
  hands_from slot (x ∷ xs) (d ∷ ds) a = (a.0.at, hands_from (slot + 1) xs ds a.1)

  pub all_hands : (ds : List (NamesDone A I O)) → IsBack state source sink setup cell ds → AreHands cell 0 (hands_of ds)
  all_hands ds b = hands_from 0 b.before ds b.are

  -- no slot has more connections than it may
  few_from : (slot : ℕ) (before : List A) (ds : List (NamesDone A I O)) → AreDone state source sink setup cell slot before ds → length (conns_of ds) ≤ length ds * setup.per_slot
  few_from slot [] [] a = omega arith
  few_from slot [] (d ∷ ds) a = absurd a
  few_from slot (x ∷ xs) [] a = absurd a
  few_from slot (x ∷ xs) (d ∷ ds) a =
      let n = length-append d.logs.items (conns_of ds) in
      let m = few_from (slot + 1) xs ds a.1 in
      let k = count_few d.end setup.per_slot (length d.logs.items) a.0.closed (state x) (state d.acceptor) a.0.cause in omega arith

  pub few_conns : (ds : List (NamesDone A I O)) → IsBack state source sink setup cell ds → length (conns_of ds) ≤ MAX_CALLERS * setup.per_slot
  few_conns ds b = subst (λ (k : ℕ). length (conns_of ds) ≤ k * setup.per_slot) b.all (few_from 0 b.before ds b.are)

  -- the slots, each with its acceptor before and after the run
  abbrev slots_of : List A → List (NamesDone A I O) → List (Slot A I O)
  slots_of [] ds = []
  slots_of (x ∷ xs) [] = []
  slots_of (x ∷ xs) (d ∷ ds) = record { before = x; after = d.acceptor; done = d.place.done; conns = d.logs.items; end = d.end } ∷ slots_of xs ds

  same_count : (slot : ℕ) (xs : List A) (ds : List (NamesDone A I O)) → AreDone state source sink setup cell slot xs ds → length (slots_of xs ds) ≡ length ds
  same_count slot [] [] a = refl
  same_count slot [] (d ∷ ds) a = absurd a
  same_count slot (x ∷ xs) [] a = absurd a
  same_count slot (x ∷ xs) (d ∷ ds) a = let n = same_count (slot + 1) xs ds a.1 in omega arith

  same_before : (slot : ℕ) (xs : List A) (ds : List (NamesDone A I O)) → AreDone state source sink setup cell slot xs ds → xs ≡ map (λ (s : Slot A I O). s.before) (slots_of xs ds)
  same_before slot [] [] a = refl
  same_before slot [] (d ∷ ds) a = absurd a
  same_before slot (x ∷ xs) [] a = absurd a
  same_before slot (x ∷ xs) (d ∷ ds) a = ap (λ (z : List A). x ∷ z) (same_before (slot + 1) xs ds a.1)

  same_after : (slot : ℕ) (xs : List A) (ds : List (NamesDone A I O)) → AreDone state source sink setup cell slot xs ds → given_back ds ≡ map (λ (s : Slot A I O). s.after) (slots_of xs ds)
  same_after slot [] [] a = refl
  same_after slot [] (d ∷ ds) a = absurd a
  same_after slot (x ∷ xs) [] a = absurd a
  same_after slot (x ∷ xs) (d ∷ ds) a = ap (λ (z : List A). d.acceptor ∷ z) (same_after (slot + 1) xs ds a.1)

  same_done : (slot : ℕ) (xs : List A) (ds : List (NamesDone A I O)) → AreDone state source sink setup cell slot xs ds → done_by (hands_of ds) ≡ map (λ (s : Slot A I O). s.done) (slots_of xs ds)
  same_done slot [] [] a = refl
  same_done slot [] (d ∷ ds) a = absurd a
  same_done slot (x ∷ xs) [] a = absurd a
  same_done slot (x ∷ xs) (d ∷ ds) a = ap (λ (z : List (List Answer)). d.place.done ∷ z) (same_done (slot + 1) xs ds a.1)

  same_conns : (slot : ℕ) (xs : List A) (ds : List (NamesDone A I O)) → AreDone state source sink setup cell slot xs ds → conns_of ds ≡ flat_map (λ (s : Slot A I O). s.conns) (slots_of xs ds)
  same_conns slot [] [] a = refl
  same_conns slot [] (d ∷ ds) a = absurd a
  same_conns slot (x ∷ xs) [] a = absurd a
  same_conns slot (x ∷ xs) (d ∷ ds) a = ap (λ (z : List (LinkLog I O)). d.logs.items ++ z) (same_conns (slot + 1) xs ds a.1)

  same_ends : (slot : ℕ) (xs : List A) (ds : List (NamesDone A I O)) → AreDone state source sink setup cell slot xs ds → ends_of ds ≡ map (λ (s : Slot A I O). s.end) (slots_of xs ds)
  same_ends slot [] [] a = refl
  same_ends slot [] (d ∷ ds) a = absurd a
  same_ends slot (x ∷ xs) [] a = absurd a
  same_ends slot (x ∷ xs) (d ∷ ds) a = ap (λ (z : List SlotEnd). d.end ∷ z) (same_ends (slot + 1) xs ds a.1)

  slots_ran : (h : History) (slot : ℕ) (xs : List A) (ds : List (NamesDone A I O)) → AreDone state source sink setup cell slot xs ds → AreKept h slot (done_by (hands_of ds))
      → SlotsRan state source sink setup h slot (slots_of xs ds)
  slots_ran h slot [] [] a k = tt
  slots_ran h slot [] (d ∷ ds) a k = absurd a
  slots_ran h slot (x ∷ xs) [] a k = absurd a
  slots_ran h slot (x ∷ xs) (d ∷ ds) a k = (
    record {
      first = a.0.first;
      last = d.place;
      begins = begun cell slot a.0.first a.0.fresh;
      did = refl;
      closed = a.0.closed;
      serves = a.0.serves;
      cause = a.0.cause;
      entered = k.0;
    },
    slots_ran h (slot + 1) xs ds a.1 k.1,
  )

  pub all_slots : (run : NamesRun I O) (before after : List A) (ds : List (NamesDone A I O)) → AreDone state source sink setup cell 0 before ds
      → length ds ≡ MAX_CALLERS → AreKept run.history.items 0 (done_by (hands_of ds)) → after ≡ given_back ds → told_in run.done.items ≡ done_by (hands_of ds)
      → run.conns.items ≡ conns_of ds → run.slots.items ≡ ends_of ds → AllSlotsRan state source sink setup run before after
  all_slots run before after ds a n k after_is done_is conns_are ends_are = record {
    slots = slots_of before ds;
    count = same_count 0 before ds a ∙ n;
    before_are = same_before 0 before ds a;
    after_are = after_is ∙ same_after 0 before ds a;
    done_are = done_is ∙ same_done 0 before ds a;
    conns_are = conns_are ∙ same_conns 0 before ds a;
    ends_are = ends_are ∙ same_ends 0 before ds a;
    ran = slots_ran run.history.items 0 before ds a k;
  }
