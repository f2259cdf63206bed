-- What slots begin with, from the last one on.
use Rattle.std.proofs.Common.{◌≡◌, ℕ, ◌+◌, ◌≤◌, List, [], ◌∷◌, ◌++◌, length, sym, ap, subst, ◌∙◌, arith, vec_capacity}
use Rattle.std.proofs.lemmas.List.{length-append, map-append}
use Rattle.orb_base.specs.Pool.{IsWellFormed}
use Rattle.turn_cell.specs.Seats.{CellView}
use Rattle.lane_machine.specs.State.{State}
use Rattle.adapter_policies.specs.SetupData.{SetupData}
use Rattle.lane_pool.specs.Pass.{Pass, Sitting}
use Rattle.lane_pool.specs.Passes.{IsFresh, AreFrom, IsOpen}
use Rattle.lane_pool.specs.Turns.{Rests, AllRest, AllIdle}
use Rattle.orb_server.specs.Threads.{IsPoolOf, AreResting, IsStart, AreStarts, IsJob, AreJobs, acceptors_of, AreIdle}
use Rattle.orb_server.specs.Jobs.{PoolJob}
use Rattle.orb_server.specs.declared.job.SlotStart.{SlotStart}

pub pool_of : (setup : SetupData) (cell : CellView State) (root : Sitting) (readers workers : List Pass) → IsOpen setup.pool setup.slots setup.per_slot cell root readers workers → IsWellFormed setup.pool → IsPoolOf setup cell
pool_of setup cell root readers workers o w = record { opened = o.opened; well_formed = w }

resting_from : (cell : CellView State) (slot : ℕ) (ps : List Pass) → AllRest cell slot ps → AreFrom cell 1 slot ps → AreResting cell slot ps
resting_from cell slot [] r a = tt
resting_from cell slot (p ∷ ps) r a = ((r.0.0, a.0), resting_from cell (slot + 1) ps r.1 a.1)

pub all_resting : (cell : CellView State) (ps : List Pass) → AllRest cell 0 ps → AreFrom cell 1 0 ps → AreResting cell 0 ps
all_resting cell ps r a = resting_from cell 0 ps r a

idle_from : (cell : CellView State) (first who : ℕ) (ps : List Pass) → AllIdle cell who ps → AreFrom cell first who ps → AreIdle cell first who ps
idle_from cell first who [] r a = tt
idle_from cell first who (p ∷ ps) r a = (record { idle = r.0.0; fresh = a.0 }, idle_from cell first (who + 1) ps r.1 a.1)

pub all_idle : (cell : CellView State) (first : ℕ) (ps : List Pass) → AllIdle cell 0 ps → AreFrom cell first 0 ps → AreIdle cell first 0 ps
all_idle cell first ps r a = idle_from cell first 0 ps r a

cut_resting : (cell : CellView State) (slot : ℕ) (xs : List Pass) (x : Pass) → AreResting cell slot (xs ++ x ∷ []) → AreResting cell slot xs × (Rests cell x × IsFresh cell (1 + (slot + length xs)) (slot + length xs) x)
cut_resting cell slot [] x a = (tt, subst (λ (k : ℕ). Rests cell x × IsFresh cell (1 + k) k x) (omega arith) a.0)
cut_resting cell slot (y ∷ ys) x a = let r = cut_resting cell (slot + 1) ys x a.1 in ((a.0, r.0), subst (λ (k : ℕ). Rests cell x × IsFresh cell (1 + k) k x) (omega arith) r.1)

pub resting_front : (cell : CellView State) (all xs : List Pass) (x : Pass) → AreResting cell 0 all → all ≡ xs ++ x ∷ [] → AreResting cell 0 xs
resting_front cell all xs x a e = (cut_resting cell 0 xs x (subst (AreResting cell 0) e a)).0

pub resting_last : (cell : CellView State) (all xs : List Pass) (x : Pass) → AreResting cell 0 all → all ≡ xs ++ x ∷ [] → Rests cell x × IsFresh cell (1 + length xs) (length xs) x
resting_last cell all xs x a e = subst (λ (k : ℕ). Rests cell x × IsFresh cell (1 + k) k x) (omega arith) (cut_resting cell 0 xs x (subst (AreResting cell 0) e a)).1

module _ {I O : Type 0} (setup : SetupData) (cell : CellView State) where
  pub starts_none : (ss : List (SlotStart I O)) → ss ≡ [] → AreStarts setup cell 0 ss
  starts_none ss e = subst (AreStarts setup cell 0) (sym e) tt

  grow : (slot : ℕ) (ss : List (SlotStart I O)) (s : SlotStart I O) → AreStarts setup cell slot ss → IsStart setup cell (slot + length ss) s → AreStarts setup cell slot (ss ++ s ∷ [])
  grow slot [] s a i = (subst (λ (k : ℕ). IsStart setup cell k s) (omega arith) i, tt)
  grow slot (x ∷ xs) s a i = (a.0, grow (slot + 1) xs s a.1 (subst (λ (k : ℕ). IsStart setup cell k s) (omega arith) i))

  pub starts_grow : (k : ℕ) (ss : List (SlotStart I O)) (s : SlotStart I O) → AreStarts setup cell 0 ss → length ss ≡ k → Rests cell s.pass → IsFresh cell (1 + k) k s.pass → s.logs.items ≡ [] → setup.per_slot ≤ vec_capacity s.logs
      → AreStarts setup cell 0 (ss ++ s ∷ [])
  starts_grow k ss s a e r f n m =
      let h : k ≡ 0 + length ss = omega arith in
      grow 0 ss s a (subst (λ (j : ℕ). IsStart setup cell j s) h (record { rests = r; fresh = f; empty = n; room = m }))

  pub starts_more : (k : ℕ) (ss all : List (SlotStart I O)) (s : SlotStart I O) → AreStarts setup cell 0 ss → length ss ≡ k → Rests cell s.pass → IsFresh cell (1 + k) k s.pass → s.logs.items ≡ []
      → setup.per_slot ≤ vec_capacity s.logs → all ≡ ss ++ s ∷ [] → AreStarts setup cell 0 all
  starts_more k ss all s a e r f n m is = subst (AreStarts setup cell 0) (sym is) (starts_grow k ss s a e r f n m)

  cut_starts : (slot : ℕ) (xs : List (SlotStart I O)) (x : SlotStart I O) → AreStarts setup cell slot (xs ++ x ∷ []) → AreStarts setup cell slot xs × IsStart setup cell (slot + length xs) x
  cut_starts slot [] x a = (tt, subst (λ (k : ℕ). IsStart setup cell k x) (omega arith) a.0)
  cut_starts slot (y ∷ ys) x a = let r = cut_starts (slot + 1) ys x a.1 in ((a.0, r.0), subst (λ (k : ℕ). IsStart setup cell k x) (omega arith) r.1)

  pub starts_front : (all xs : List (SlotStart I O)) (x : SlotStart I O) → AreStarts setup cell 0 all → all ≡ xs ++ x ∷ [] → AreStarts setup cell 0 xs
  starts_front all xs x a e = (cut_starts 0 xs x (subst (AreStarts setup cell 0) e a)).0

  pub starts_last : (all xs : List (SlotStart I O)) (x : SlotStart I O) → AreStarts setup cell 0 all → all ≡ xs ++ x ∷ [] → IsStart setup cell (length xs) x
  starts_last all xs x a e = subst (λ (k : ℕ). IsStart setup cell k x) (omega arith) (cut_starts 0 xs x (subst (AreStarts setup cell 0) e a)).1

module _ {A I O : Type 0} (setup : SetupData) (cell : CellView State) where
  pub jobs_none : (js : List (PoolJob A I O)) → js ≡ [] → AreJobs setup cell 0 js
  jobs_none js e = subst (AreJobs setup cell 0) (sym e) tt

  grow_jobs : (slot : ℕ) (js : List (PoolJob A I O)) (j : PoolJob A I O) → AreJobs setup cell slot js → IsJob setup cell (slot + length js) j → AreJobs setup cell slot (js ++ j ∷ [])
  grow_jobs slot [] j a i = (subst (λ (k : ℕ). IsJob setup cell k j) (omega arith) i, tt)
  grow_jobs slot (x ∷ xs) j a i = (a.0, grow_jobs (slot + 1) xs j a.1 (subst (λ (k : ℕ). IsJob setup cell k j) (omega arith) i))

  pub jobs_grow : (k : ℕ) (js : List (PoolJob A I O)) (a : A) (s : SlotStart I O) → AreJobs setup cell 0 js → length js ≡ k → IsStart setup cell k s → AreJobs setup cell 0 (js ++ record { place = s.pass; acceptor = a; logs = s.logs } ∷ [])
  jobs_grow k js a s js_are e i =
      let h : k ≡ 0 + length js = omega arith in
      let job : PoolJob A I O = record { place = s.pass; acceptor = a; logs = s.logs } in
      grow_jobs 0 js job js_are (subst (λ (j : ℕ). IsJob setup cell j job) h (record { rests = i.rests; fresh = i.fresh; empty = i.empty; room = i.room }))

  pub jobs_more : (k : ℕ) (js all : List (PoolJob A I O)) (a : A) (s : SlotStart I O) → AreJobs setup cell 0 js → length js ≡ k → IsStart setup cell k s → all ≡ js ++ record { place = s.pass; acceptor = a; logs = s.logs } ∷ []
      → AreJobs setup cell 0 all
  jobs_more k js all a s are e i is = subst (AreJobs setup cell 0) (sym is) (jobs_grow k js a s are e i)

module _ {A I O : Type 0} (setup : SetupData) (cell : CellView State) where
  cut_jobs : (slot : ℕ) (xs : List (PoolJob A I O)) (x : PoolJob A I O) → AreJobs setup cell slot (xs ++ x ∷ []) → AreJobs setup cell slot xs × Rests cell x.place
  cut_jobs slot [] x a = (tt, a.0.rests)
  cut_jobs slot (y ∷ ys) x a = let r = cut_jobs (slot + 1) ys x a.1 in ((a.0, r.0), r.1)

  pub jobs_front : (all xs : List (PoolJob A I O)) (x : PoolJob A I O) → AreJobs setup cell 0 all → all ≡ xs ++ x ∷ [] → AreJobs setup cell 0 xs
  jobs_front all xs x a e = (cut_jobs 0 xs x (subst (AreJobs setup cell 0) e a)).0

  pub last_rests : (all xs : List (PoolJob A I O)) (x : PoolJob A I O) → AreJobs setup cell 0 all → all ≡ xs ++ x ∷ [] → Rests cell x.place
  last_rests all xs x a e = (cut_jobs 0 xs x (subst (AreJobs setup cell 0) e a)).1

pub given_none : {A I O : Type 0} (js : List (PoolJob A I O)) (given : List A) → js ≡ [] → given ≡ [] → given ≡ acceptors_of js
given_none js given e f = f ∙ sym (ap acceptors_of e)

pub given_more : {A I O : Type 0} (all js : List (PoolJob A I O)) (j : PoolJob A I O) (given every : List A) → all ≡ js ++ j ∷ [] → given ≡ acceptors_of js → every ≡ given ++ j.acceptor ∷ [] → every ≡ acceptors_of all
given_more all js j given every e g f = f ∙ (ap (λ (z : List _). z ++ j.acceptor ∷ []) g ∙ (sym (map-append (λ (x : PoolJob _ _ _). x.acceptor) js (j ∷ [])) ∙ sym (ap acceptors_of e)))

pub same_lengths : {X Y : Type 0} (all xs : List X) (x : X) (every ys : List Y) (y : Y) → all ≡ xs ++ x ∷ [] → every ≡ ys ++ y ∷ [] → length all ≡ length every → length xs ≡ length ys
same_lengths all xs x every ys y e f n =
    let a : length all ≡ length xs + 1 = ap length e ∙ length-append xs (x ∷ []) in
    let b : length every ≡ length ys + 1 = ap length f ∙ length-append ys (y ∷ []) in omega arith

pub acceptors_grow : {A I O : Type 0} (js : List (PoolJob A I O)) (j : PoolJob A I O) (every ys : List A) → acceptors_of js ≡ ys → every ≡ ys ++ j.acceptor ∷ [] → acceptors_of (js ++ j ∷ []) ≡ every
acceptors_grow js j every ys e f = map-append (λ (x : PoolJob _ _ _). x.acceptor) js (j ∷ []) ∙ (ap (λ (z : List _). z ++ j.acceptor ∷ []) e ∙ sym f)
