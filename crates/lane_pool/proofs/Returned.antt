-- Where every slot's pass and every worker's is back, no seat is missing.
use Rattle.std.proofs.Common.{◌≡◌, ℕ, zero, suc, ◌+◌, ◌*◌, ◌-◌, ◌<◌, ◌≤◌, Bool, true, false, if◌then◌else◌, ◌&&◌, ltb, List, [], ◌∷◌, ◌++◌, length, Option, Some, None, inl, inr, ⊎_elim, sym, refl, ap, ◌∙◌, subst, arith, add-one}
use Rattle.std.proofs.lemmas.Bool.{cases_lt}
use Rattle.std.proofs.lemmas.Option.{none-some, same_Some}
use Rattle.turn_cell.specs.Seats.{CellView}
use Rattle.turn_cell.specs.Numbers.{Each, Has, IsWhole}
use Rattle.lane_machine.specs.State.{State}
use Rattle.lane_machine.specs.Callers.{heir, slot_seat, writer_seat}
use Rattle.orb_base.specs.Pool.{Pool as Lanes}
use Rattle.lane_pool.specs.Pass.{Pass, Sitting, Leaving}
use Rattle.lane_pool.specs.Passes.{IsIn, MainAt, IsOpen}
use Rattle.lane_pool.specs.Returning.{AreIn, left_by, AllBack}
use Rattle.lane_pool.specs.Returned.{pairs, writers, IsHome, IsAlone, AllHome, AllAlone}

-- a list has every heir of a seat with so many splits
abbrev Heirs : List (ℕ × ℕ) → ℕ × ℕ → Type 0
Heirs ps p = (k : ℕ) → k < p.1 → (m : ℕ) → heir p.0 k ≡ Some m → Has m ps

has_left : (m : ℕ) (ps qs : List (ℕ × ℕ)) → Has m ps → Has m (ps ++ qs)
has_left m [] qs h = absurd h
has_left m (p ∷ ps) qs (inl e) = inl e
has_left m (p ∷ ps) qs (inr h) = inr (has_left m ps qs h)

has_right : (m : ℕ) (ps qs : List (ℕ × ℕ)) → Has m qs → Has m (ps ++ qs)
has_right m [] qs h = h
has_right m (p ∷ ps) qs h = inr (has_right m ps qs h)

each_both : (P : ℕ × ℕ → Type 0) (ps qs : List (ℕ × ℕ)) → Each P ps → Each P qs → Each P (ps ++ qs)
each_both P [] qs a b = b
each_both P (p ∷ ps) qs a b = (a.0, each_both P ps qs a.1 b)

pub pairs_both : (xs ys : List Leaving) → pairs (xs ++ ys) ≡ pairs xs ++ pairs ys
pairs_both [] ys = refl
pairs_both (x ∷ xs) ys = ap (λ (z : List (ℕ × ℕ)). (x.number, x.splits) ∷ z) (pairs_both xs ys)

told : (b : Bool) (n m : ℕ) → ◌≡◌ {A = Option ℕ} (if b then Some n else None) (Some m) → n ≡ m
told true n m e = same_Some n m e
told false n m e = absurd (none-some m e)

heir_first : (k m : ℕ) → heir 0 k ≡ Some m → m ≡ k + 1
heir_first k m e = sym (told (ltb k 80) (k + 1) m e)

heir_suc : (slot k m : ℕ) → heir (suc slot) k ≡ Some m → m ≡ writer_seat (record { slot = slot; nth = k })
heir_suc slot k m e = sym (told (ltb slot 16 && ltb k 128) (81 + 128 * slot + k) m e)

heir_slot : (n slot k m : ℕ) → n ≡ slot + 1 → heir n k ≡ Some m → m ≡ writer_seat (record { slot = slot; nth = k })
heir_slot n slot k m e h = heir_suc slot k m (ap (λ (z : ℕ). heir z k) (sym (e ∙ add-one slot)) ∙ h)

-- the writing sides of a slot
writer_there : (slot n k : ℕ) → k < n → Has (writer_seat (record { slot = slot; nth = k })) (writers slot n)
writer_there slot zero k l = absurd (omega arith)
writer_there slot (suc n) k l = ⊎_elim
    (λ (a : k < n). has_left (writer_seat (record { slot = slot; nth = k })) (writers slot n) ((writer_seat (record { slot = slot; nth = n }), 0) ∷ []) (writer_there slot n k a))
    (λ (b : n ≤ k). has_right (writer_seat (record { slot = slot; nth = k })) (writers slot n) ((writer_seat (record { slot = slot; nth = n }), 0) ∷ [])
    (inl (let e : n ≡ k = omega arith in ap (λ (z : ℕ). writer_seat (record { slot = slot; nth = z })) e)))
    (cases_lt k n)

none_split : (all : List (ℕ × ℕ)) (n s : ℕ) → s ≡ 0 → Heirs all (n, s)
none_split all n s e k l m h = absurd (omega arith)

writers_end : (all : List (ℕ × ℕ)) (slot n : ℕ) → Each (Heirs all) (writers slot n)
writers_end all slot zero = tt
writers_end all slot (suc n) = each_both (Heirs all) (writers slot n) ((writer_seat (record { slot = slot; nth = n }), 0) ∷ []) (writers_end all slot n)
    (none_split all (writer_seat (record { slot = slot; nth = n })) 0 refl, tt)

module _ (cell : CellView State) where
  -- what a slot's pass leaves, and those after it
  slot_left : (p : Pass) (ps : List Pass) → pairs (left_by (p ∷ ps)) ≡ (p.seat.number, p.seat.splits) ∷ (pairs p.seat.ended ++ pairs (left_by ps))
  slot_left p ps = ap (λ (z : List (ℕ × ℕ)). (p.seat.number, p.seat.splits) ∷ z) (pairs_both p.seat.ended (left_by ps))

  slot_there : (slot : ℕ) (ps : List Pass) → AllHome cell slot ps → (k : ℕ) → k < length ps → Has (slot_seat (slot + k)) (pairs (left_by ps))
  slot_there slot [] a k l = absurd (omega arith)
  slot_there slot (p ∷ ps) a zero l = inl (let e = a.0.number in omega arith)
  slot_there slot (p ∷ ps) a (suc k) l = subst (Has (slot_seat (slot + suc k))) (sym (slot_left p ps))
      (inr (has_right (slot_seat (slot + suc k)) (pairs p.seat.ended) (pairs (left_by ps)) (subst (λ (z : ℕ). Has z (pairs (left_by ps))) (omega arith) (slot_there (slot + 1) ps a.1 k (omega arith)))))

  worker_there : (first : ℕ) (ps : List Pass) → AllAlone cell first ps → (k : ℕ) → k < length ps → Has (first + k) (pairs (left_by ps))
  worker_there first [] a k l = absurd (omega arith)
  worker_there first (p ∷ ps) a zero l = inl (let e = a.0.number_is in omega arith)
  worker_there first (p ∷ ps) a (suc k) l = subst (Has (first + suc k)) (sym (slot_left p ps))
      (inr (has_right (first + suc k) (pairs p.seat.ended) (pairs (left_by ps)) (subst (λ (z : ℕ). Has z (pairs (left_by ps))) (omega arith) (worker_there (first + 1) ps a.1 k (omega arith)))))

  slots_whole : (all : List (ℕ × ℕ)) (slot : ℕ) (ps : List Pass) → AllHome cell slot ps → ((m : ℕ) → Has m (pairs (left_by ps)) → Has m all) → Each (Heirs all) (pairs (left_by ps))
  slots_whole all slot [] a emb = tt
  slots_whole all slot (p ∷ ps) a emb =
      let rest = pairs (left_by ps) in
      let ended = pairs p.seat.ended in
      let same = slot_left p ps in
      let within : (m : ℕ) → Has m (ended ++ rest) → Has m all = λ m h. emb m (subst (Has m) (sym same) (inr h)) in
      let own : Heirs all (p.seat.number, p.seat.splits) = λ k l m h. within m (has_left m ended rest (subst (λ (z : ℕ). Has z ended) (sym (heir_slot p.seat.number slot k m a.0.number h))
      (subst (Has (writer_seat (record { slot = slot; nth = k }))) (sym a.0.joined) (writer_there slot p.nth k (let e = a.0.splits in omega arith))))) in
      let theirs : Each (Heirs all) ended = subst (Each (Heirs all)) (sym a.0.joined) (writers_end all slot p.nth) in
      let others : Each (Heirs all) rest = slots_whole all (slot + 1) ps a.1 (λ m h. within m (has_right m ended rest h)) in
      subst (Each (Heirs all)) (sym same) (own, each_both (Heirs all) ended rest theirs others)

  workers_whole : (all : List (ℕ × ℕ)) (first : ℕ) (ps : List Pass) → AllAlone cell first ps → Each (Heirs all) (pairs (left_by ps))
  workers_whole all first [] a = tt
  workers_whole all first (p ∷ ps) a =
      let none : Each (Heirs all) (pairs p.seat.ended) = subst (λ (z : List Leaving). Each (Heirs all) (pairs z)) (sym a.0.alone) tt in
      subst (Each (Heirs all)) (sym (slot_left p ps)) (none_split all p.seat.number p.seat.splits a.0.unsplit, each_both (Heirs all) (pairs p.seat.ended) (pairs (left_by ps)) none (workers_whole all (first + 1) ps a.1))

  -- every seat of the pool is there
  pub all_back : (root : Sitting) (slots workers : List Pass) → root.splits ≡ length slots + length workers → AllHome cell 0 slots → AllAlone cell (length slots + 1) workers → AllBack root (left_by slots ++ left_by workers)
  all_back root slots workers e a b =
      let ps = pairs (left_by slots) in
      let qs = pairs (left_by workers) in
      let all : List (ℕ × ℕ) = (0, root.splits) ∷ (ps ++ qs) in
      let main : Heirs all (0, root.splits) = λ k l m h. subst (λ (z : ℕ). Has z all) (sym (heir_first k m h)) (⊎_elim
      (λ (c : k < length slots). inr (has_left (k + 1) ps qs (subst (λ (z : ℕ). Has z ps) (omega arith) (slot_there 0 slots a k c))))
      (λ (c : length slots ≤ k). inr (has_right (k + 1) ps qs (subst (λ (z : ℕ). Has z qs) (omega arith) (worker_there (length slots + 1) workers b (k - length slots) (omega arith)))))
      (cases_lt k (length slots))) in
      let low : Each (Heirs all) ps = slots_whole all 0 slots a (λ m h. inr (has_left m ps qs h)) in
      let high : Each (Heirs all) qs = workers_whole all (length slots + 1) workers b in
      subst (λ (z : List (ℕ × ℕ)). IsWhole heir ((0, root.splits) ∷ z)) (sym (pairs_both (left_by slots) (left_by workers)))
      (inl refl, (main, each_both (Heirs all) ps qs low high))

  pub home_in : (slot : ℕ) (ps : List Pass) → AllHome cell slot ps → AreIn cell ps
  home_in slot [] a = tt
  home_in slot (p ∷ ps) a = (a.0.in_cell, home_in (slot + 1) ps a.1)

  pub alone_in : (first : ℕ) (ps : List Pass) → AllAlone cell first ps → AreIn cell ps
  alone_in first [] a = tt
  alone_in first (p ∷ ps) a = (a.0.in_cell, alone_in (first + 1) ps a.1)

  -- the passes of a pool as it was opened
  pub run_back : (slots per_slot : ℕ) (pool : Lanes) (root : Sitting) (readers workers homes alones : List Pass) → IsOpen pool slots per_slot cell root readers workers
      → AllHome cell 0 homes → length homes ≡ length readers → AllAlone cell (slots + 1) alones → length alones ≡ length workers → AllBack root (left_by homes ++ left_by alones)
  run_back slots per_slot pool root readers workers homes alones o a n b m =
      let split = o.main.splits_is in
      let few = o.all_slots in
      let many = o.all_workers in
      let all : length homes ≡ slots = n ∙ few in
      all_back root homes alones (omega arith) a (subst (λ (z : ℕ). AllAlone cell (z + 1) alones) (sym all) b)

  -- the passes of a pool of one slot and one thread
  pub one_back : (root : Sitting) (slot worker : Pass) (slots workers : List Pass) → MainAt cell 2 root → IsHome cell 0 slot → IsAlone cell 2 worker → slots ≡ [] ++ slot ∷ [] → workers ≡ [] ++ worker ∷ [] → AllBack root (left_by slots ++ left_by workers)
  one_back root slot worker slots workers m h a e f =
      subst (λ (xs : List Pass). AllBack root (left_by xs ++ left_by workers)) (sym e) (subst (λ (xs : List Pass). AllBack root (left_by (slot ∷ []) ++ left_by xs)) (sym f)
      (all_back root (slot ∷ []) (worker ∷ []) m.splits_is (h, tt) (a, tt)))

  pub one_in : (p : Pass) (ps : List Pass) → IsIn cell p → ps ≡ [] ++ p ∷ [] → AreIn cell ps
  one_in p ps i e = subst (AreIn cell) (sym e) (i, tt)
