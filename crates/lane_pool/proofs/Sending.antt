-- Passes that go out, and come back in their order.
use Rattle.std.proofs.Common.{◌≡◌, ℕ, ◌+◌, List, [], ◌∷◌, ◌++◌, length, length-append, sym, ap, ◌∙◌, subst, arith}
use Rattle.turn_cell.specs.Seats.{CellView}
use Rattle.lane_machine.specs.State.{State}
use Rattle.lane_pool.specs.Pass.{Pass}
use Rattle.lane_pool.specs.Passes.{AreFrom}
use Rattle.lane_pool.specs.Turns.{AllRest, AllIdle}
use Rattle.lane_pool.specs.Returned.{IsHome, AllHome, IsAlone, AllAlone, IsSlotOut, AllSlotsOut, IsWorkerOut, AllWorkersOut}
use Rattle.lane_pool.proofs.Staying.{fresh_home, fresh_alone}

module _ (cell : CellView State) where
  slots_from : (slot : ℕ) (ps : List Pass) → AllRest cell slot ps → AreFrom cell 1 slot ps → AllSlotsOut cell slot ps
  slots_from slot [] r a = tt
  slots_from slot (p ∷ ps) r a = ((r.0.0, r.0.2, fresh_home cell slot p a.0), slots_from (slot + 1) ps r.1 a.1)

  pub slots_out : (ps : List Pass) → AllRest cell 0 ps → AreFrom cell 1 0 ps → AllSlotsOut cell 0 ps
  slots_out ps r a = slots_from 0 ps r a

  workers_from : (first who : ℕ) (ps : List Pass) → AllIdle cell who ps → AreFrom cell first who ps → AllWorkersOut cell (first + who) ps
  workers_from first who [] r a = tt
  workers_from first who (p ∷ ps) r a = ((r.0.0, fresh_alone cell (first + who) who p a.0), subst (λ (n : ℕ). AllWorkersOut cell n ps) (omega arith) (workers_from first (who + 1) ps r.1 a.1))

  pub workers_out : (first : ℕ) (ps : List Pass) → AllIdle cell 0 ps → AreFrom cell first 0 ps → AllWorkersOut cell first ps
  workers_out first ps r a = subst (λ (n : ℕ). AllWorkersOut cell n ps) (omega arith) (workers_from first 0 ps r a)

  cut_slots : (slot : ℕ) (xs : List Pass) (x : Pass) → AllSlotsOut cell slot (xs ++ x ∷ []) → AllSlotsOut cell slot xs × IsSlotOut cell (slot + length xs) x
  cut_slots slot [] x a = (tt, subst (λ (k : ℕ). IsSlotOut cell k x) (omega arith) a.0)
  cut_slots slot (y ∷ ys) x a = let r = cut_slots (slot + 1) ys x a.1 in ((a.0, r.0), subst (λ (k : ℕ). IsSlotOut cell k x) (omega arith) r.1)

  pub slots_front : (all xs : List Pass) (x : Pass) → AllSlotsOut cell 0 all → all ≡ xs ++ x ∷ [] → AllSlotsOut cell 0 xs
  slots_front all xs x a e = (cut_slots 0 xs x (subst (AllSlotsOut cell 0) e a)).0

  pub slots_last : (all xs : List Pass) (x : Pass) → AllSlotsOut cell 0 all → all ≡ xs ++ x ∷ [] → IsSlotOut cell (length xs) x
  slots_last all xs x a e = subst (λ (k : ℕ). IsSlotOut cell k x) (omega arith) (cut_slots 0 xs x (subst (AllSlotsOut cell 0) e a)).1

  cut_workers : (number : ℕ) (xs : List Pass) (x : Pass) → AllWorkersOut cell number (xs ++ x ∷ []) → AllWorkersOut cell number xs × IsWorkerOut cell (number + length xs) x
  cut_workers number [] x a = (tt, subst (λ (k : ℕ). IsWorkerOut cell k x) (omega arith) a.0)
  cut_workers number (y ∷ ys) x a = let r = cut_workers (number + 1) ys x a.1 in ((a.0, r.0), subst (λ (k : ℕ). IsWorkerOut cell k x) (omega arith) r.1)

  pub workers_front : (number : ℕ) (all xs : List Pass) (x : Pass) → AllWorkersOut cell number all → all ≡ xs ++ x ∷ [] → AllWorkersOut cell number xs
  workers_front number all xs x a e = (cut_workers number xs x (subst (AllWorkersOut cell number) e a)).0

  pub workers_last : (number : ℕ) (all xs : List Pass) (x : Pass) → AllWorkersOut cell number all → all ≡ xs ++ x ∷ [] → IsWorkerOut cell (number + length xs) x
  workers_last number all xs x a e = (cut_workers number xs x (subst (AllWorkersOut cell number) e a)).1

  grow_home : (slot : ℕ) (ps : List Pass) (p : Pass) → AllHome cell slot ps → IsHome cell (slot + length ps) p → AllHome cell slot (ps ++ p ∷ [])
  grow_home slot [] p a f = (subst (λ (k : ℕ). IsHome cell k p) (omega arith) f, tt)
  grow_home slot (x ∷ xs) p a f = (a.0, grow_home (slot + 1) xs p a.1 (subst (λ (k : ℕ). IsHome cell k p) (omega arith) f))

  pub home_grows : (ps : List Pass) (p : Pass) → AllHome cell 0 ps → IsHome cell p.who p → p.who ≡ length ps → AllHome cell 0 (ps ++ p ∷ [])
  home_grows ps p a f e = let h : p.who ≡ 0 + length ps = omega arith in grow_home 0 ps p a (subst (λ (j : ℕ). IsHome cell j p) h f)

  grow_alone : (number : ℕ) (ps : List Pass) (p : Pass) → AllAlone cell number ps → IsAlone cell (number + length ps) p → AllAlone cell number (ps ++ p ∷ [])
  grow_alone number [] p a f = (subst (λ (k : ℕ). IsAlone cell k p) (omega arith) f, tt)
  grow_alone number (x ∷ xs) p a f = (a.0, grow_alone (number + 1) xs p a.1 (subst (λ (k : ℕ). IsAlone cell k p) (omega arith) f))

  pub alone_grows : (number k : ℕ) (ps : List Pass) (p : Pass) → AllAlone cell number ps → IsAlone cell k p → k ≡ number + length ps → AllAlone cell number (ps ++ p ∷ [])
  alone_grows number k ps p a f e = grow_alone number ps p a (subst (λ (j : ℕ). IsAlone cell j p) e f)

  pub slot_own : (k : ℕ) (p : Pass) → IsSlotOut cell k p → IsSlotOut cell p.who p
  slot_own k p o = (o.0, o.1, subst (λ (z : ℕ). IsHome cell z p) (sym o.2.who) o.2)

  pub worker_own : (k : ℕ) (p : Pass) → IsWorkerOut cell k p → IsWorkerOut cell p.seat.number p
  worker_own k p o = (o.0, subst (λ (z : ℕ). IsAlone cell z p) (sym o.1.number_is) o.1)

  -- the one pass of a row
  pub one_slot : (all xs : List Pass) (x : Pass) → AllSlotsOut cell 0 all → length all ≡ 1 → all ≡ xs ++ x ∷ [] → IsSlotOut cell 0 x
  one_slot all xs x a l e = let n : length all ≡ length xs + 1 = ap length e ∙ length-append xs (x ∷ []) in subst (λ (k : ℕ). IsSlotOut cell k x) (omega arith) (slots_last all xs x a e)

  pub one_worker : (number : ℕ) (all xs : List Pass) (x : Pass) → AllWorkersOut cell number all → length all ≡ 1 → all ≡ xs ++ x ∷ [] → IsWorkerOut cell number x
  one_worker number all xs x a l e = let n : length all ≡ length xs + 1 = ap length e ∙ length-append xs (x ∷ []) in subst (λ (k : ℕ). IsWorkerOut cell k x) (omega arith) (workers_last number all xs x a e)
