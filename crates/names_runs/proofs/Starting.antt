-- What slots begin with, from the last one on.
use Rattle.std.proofs.Common.{◌≡◌, ℕ, ◌+◌, ◌≤◌, List, [], ◌∷◌, ◌++◌, length, sym, ap, subst, ◌∙◌, arith, vec_capacity}
use Rattle.std.proofs.lemmas.List.{length-append, map-append}
use Rattle.adapter_policies.specs.SetupData.{SetupData}
use Rattle.names_hall.specs.Hands.{Cell, Hand}
use Rattle.names_hall.specs.Seats.{IsFresh, AreFresh}
use Rattle.names_runs.specs.Jobs.{NamesJob}
use Rattle.names_runs.specs.Starting.{IsStart, AreStarts, BeginsAt, AreJobs, acceptors_of}
use Rattle.names_runs.specs.declared.job.SlotStart.{SlotStart}

cut_fresh : (cell : Cell) (slot : ℕ) (xs : List Hand) (x : Hand) → AreFresh cell slot (xs ++ x ∷ []) → AreFresh cell slot xs × IsFresh cell (slot + length xs) x
cut_fresh cell slot [] x a = (tt, subst (λ (k : ℕ). IsFresh cell k x) (omega arith) a.0)
cut_fresh cell slot (y ∷ ys) x a = let r = cut_fresh cell (slot + 1) ys x a.1 in ((a.0, r.0), subst (λ (k : ℕ). IsFresh cell k x) (omega arith) r.1)

pub fresh_front : (cell : Cell) (all xs : List Hand) (x : Hand) → AreFresh cell 0 all → all ≡ xs ++ x ∷ [] → AreFresh cell 0 xs
fresh_front cell all xs x a e = (cut_fresh cell 0 xs x (subst (AreFresh cell 0) e a)).0

pub fresh_last : (cell : Cell) (all xs : List Hand) (x : Hand) → AreFresh cell 0 all → all ≡ xs ++ x ∷ [] → IsFresh cell (length xs) x
fresh_last cell all xs x a e = subst (λ (k : ℕ). IsFresh cell k x) (omega arith) (cut_fresh cell 0 xs x (subst (AreFresh cell 0) e a)).1

module _ {I O : Type 0} (setup : SetupData) (cell : Cell) where
  pub starts_none : (ss : List (SlotStart I O)) → ss ≡ [] → AreStarts setup cell 0 ss
  starts_none ss e = subst (AreStarts setup cell 0) (sym e) tt

  grow : (slot : ℕ) (ss : List (SlotStart I O)) (s : SlotStart I O) → AreStarts setup cell slot ss → IsStart setup cell (slot + length ss) s → AreStarts setup cell slot (ss ++ s ∷ [])
  grow slot [] s a i = (subst (λ (k : ℕ). IsStart setup cell k s) (omega arith) i, tt)
  grow slot (x ∷ xs) s a i = (a.0, grow (slot + 1) xs s a.1 (subst (λ (k : ℕ). IsStart setup cell k s) (omega arith) i))

  pub starts_more : (k : ℕ) (ss all : List (SlotStart I O)) (s : SlotStart I O) → AreStarts setup cell 0 ss → length ss ≡ k → IsFresh cell k s.hand → s.logs.items ≡ []
      → setup.per_slot ≤ vec_capacity s.logs → all ≡ ss ++ s ∷ [] → AreStarts setup cell 0 all
  starts_more k ss all s a e f n m is =
      let h : k ≡ 0 + length ss = omega arith in
      subst (AreStarts setup cell 0) (sym is) (grow 0 ss s a (subst (λ (j : ℕ). IsStart setup cell j s) h (record { fresh = f; empty = n; room = m })))

  cut_starts : (slot : ℕ) (xs : List (SlotStart I O)) (x : SlotStart I O) → AreStarts setup cell slot (xs ++ x ∷ []) → AreStarts setup cell slot xs × IsStart setup cell (slot + length xs) x
  cut_starts slot [] x a = (tt, subst (λ (k : ℕ). IsStart setup cell k x) (omega arith) a.0)
  cut_starts slot (y ∷ ys) x a = let r = cut_starts (slot + 1) ys x a.1 in ((a.0, r.0), subst (λ (k : ℕ). IsStart setup cell k x) (omega arith) r.1)

  pub starts_front : (all xs : List (SlotStart I O)) (x : SlotStart I O) → AreStarts setup cell 0 all → all ≡ xs ++ x ∷ [] → AreStarts setup cell 0 xs
  starts_front all xs x a e = (cut_starts 0 xs x (subst (AreStarts setup cell 0) e a)).0

  pub starts_last : (all xs : List (SlotStart I O)) (x : SlotStart I O) → AreStarts setup cell 0 all → all ≡ xs ++ x ∷ [] → IsStart setup cell (length xs) x
  starts_last all xs x a e = subst (λ (k : ℕ). IsStart setup cell k x) (omega arith) (cut_starts 0 xs x (subst (AreStarts setup cell 0) e a)).1

module _ {A I O : Type 0} (setup : SetupData) (cell : Cell) where
  pub jobs_none : (js : List (NamesJob A I O)) → js ≡ [] → AreJobs setup cell 0 js
  jobs_none js e = subst (AreJobs setup cell 0) (sym e) tt

  grow_jobs : (slot : ℕ) (js : List (NamesJob A I O)) (j : NamesJob A I O) → AreJobs setup cell slot js → BeginsAt setup cell (slot + length js) j → AreJobs setup cell slot (js ++ j ∷ [])
  grow_jobs slot [] j a i = (subst (λ (k : ℕ). BeginsAt setup cell k j) (omega arith) i, tt)
  grow_jobs slot (x ∷ xs) j a i = (a.0, grow_jobs (slot + 1) xs j a.1 (subst (λ (k : ℕ). BeginsAt setup cell k j) (omega arith) i))

  pub jobs_more : (k : ℕ) (js all : List (NamesJob A I O)) (a : A) (s : SlotStart I O) → AreJobs setup cell 0 js → length js ≡ k → IsStart setup cell k s
      → all ≡ js ++ record { place = s.hand; acceptor = a; logs = s.logs } ∷ [] → AreJobs setup cell 0 all
  jobs_more k js all a s js_are e i is =
      let h : k ≡ 0 + length js = omega arith in
      let job : NamesJob A I O = record { place = s.hand; acceptor = a; logs = s.logs } in
      subst (AreJobs setup cell 0) (sym is) (grow_jobs 0 js job js_are (subst (λ (j : ℕ). BeginsAt setup cell j job) h (record { fresh = i.fresh; empty = i.empty; room = i.room })))

pub same_lengths : {X Y : Type 0} (all xs : List X) (x : X) (every ys : List Y) (y : Y) → all ≡ xs ++ x ∷ [] → every ≡ ys ++ y ∷ [] → length all ≡ length every → length xs ≡ length ys
same_lengths all xs x every ys y e f n =
    let a : length all ≡ length xs + 1 = ap length e ∙ length-append xs (x ∷ []) in
    let b : length every ≡ length ys + 1 = ap length f ∙ length-append ys (y ∷ []) in omega arith

pub acceptors_grow : {A I O : Type 0} (js : List (NamesJob A I O)) (j : NamesJob A I O) (every ys : List A) → acceptors_of js ≡ ys → every ≡ ys ++ j.acceptor ∷ [] → acceptors_of (js ++ j ∷ []) ≡ every
acceptors_grow js j every ys e f = map-append (λ (x : NamesJob _ _ _). x.acceptor) js (j ∷ []) ∙ (ap (λ (z : List _). z ++ j.acceptor ∷ []) e ∙ sym f)
