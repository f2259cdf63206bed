-- Workers side by side, in their order.
use Rattle.std.proofs.Common.{◌≡◌, ℕ, ◌+◌, List, [], ◌∷◌, ◌++◌, length, sym, ap, subst, ◌∙◌, arith}
use Rattle.orb_base.specs.JobRecord.{JobRecord}
use Rattle.orb_base.specs.declared.outcome.Outcome.{Outcome}
use Rattle.turn_cell.specs.Seats.{CellView}
use Rattle.lane_machine.specs.Histories.{History}
use Rattle.lane_machine.specs.State.{State}
use Rattle.lane_machine.specs.declared.call.LaneReply.TheVariants.{Ended}
use Rattle.adapter_policies.specs.SetupData.{SetupData}
use Rattle.pipe_laws.specs.Lacking.{served}
use Rattle.lane_pool.specs.Pass.{Pass}
use Rattle.lane_pool.proofs.Staying.{fresh_alone, alone_same}
use Rattle.conn_sides.specs.Working.{WorksOut, take_entry}
use Rattle.orb_server.specs.Threads.{IsIdle, AreIdle, HasWorked, HaveWorked}

pub has_worked : (setup : SetupData) (outcome : List ℕ → JobRecord → Outcome) (cell : CellView State) (old new : Pass) → IsIdle cell old.seat.number old.who old → WorksOut cell (served setup outcome) old new
    → HasWorked setup outcome cell old.seat.number old.who new
has_worked setup outcome cell old new f w = record {
  alone = alone_same cell old.seat.number old new (fresh_alone cell old.seat.number old.who old f.fresh) w.entered.same;
  off = record {
    tasks = w.tasks;
    worked = w.worked;
    parts = w.entered.mine ∙ ap (λ (h : History). h ++ (w.tasks ++ (take_entry old.seat.number old.who Ended ∷ []))) f.fresh.unused;
  };
}

cut_idle : (cell : CellView State) (first who : ℕ) (xs : List Pass) (x : Pass) → AreIdle cell first who (xs ++ x ∷ []) → AreIdle cell first who xs × IsIdle cell (first + (who + length xs)) (who + length xs) x
cut_idle cell first who [] x a = (tt, subst (λ (k : ℕ). IsIdle cell (first + k) k x) (omega arith) a.0)
cut_idle cell first who (y ∷ ys) x a = let r = cut_idle cell first (who + 1) ys x a.1 in ((a.0, r.0), subst (λ (k : ℕ). IsIdle cell (first + k) k x) (omega arith) r.1)

pub idle_front : (cell : CellView State) (first : ℕ) (all xs : List Pass) (x : Pass) → AreIdle cell first 0 all → all ≡ xs ++ x ∷ [] → AreIdle cell first 0 xs
idle_front cell first all xs x a e = (cut_idle cell first 0 xs x (subst (AreIdle cell first 0) e a)).0

idle_last : (cell : CellView State) (first : ℕ) (all xs : List Pass) (x : Pass) → AreIdle cell first 0 all → all ≡ xs ++ x ∷ [] → IsIdle cell (first + length xs) (length xs) x
idle_last cell first all xs x a e = subst (λ (k : ℕ). IsIdle cell (first + k) k x) (omega arith) (cut_idle cell first 0 xs x (subst (AreIdle cell first 0) e a)).1

-- the last pass is idle at its own number
pub idle_own : (cell : CellView State) (first : ℕ) (all xs : List Pass) (x : Pass) → AreIdle cell first 0 all → all ≡ xs ++ x ∷ [] → IsIdle cell x.seat.number x.who x
idle_own cell first all xs x a e =
    let f = idle_last cell first all xs x a e in subst (λ (z : ℕ × ℕ). IsIdle cell z.0 z.1 x) (λ i. (sym f.fresh.number_is i, sym f.fresh.who_is i)) f

module _ (setup : SetupData) (outcome : List ℕ → JobRecord → Outcome) (cell : CellView State) where
  grow : (first who : ℕ) (qs : List Pass) (q : Pass) → HaveWorked setup outcome cell first who qs → HasWorked setup outcome cell (first + (who + length qs)) (who + length qs) q → HaveWorked setup outcome cell first who (qs ++ q ∷ [])
  grow first who [] q h w = (subst (λ (k : ℕ). HasWorked setup outcome cell (first + k) k q) (omega arith) w, tt)
  grow first who (x ∷ xs) q h w = (h.0, grow first (who + 1) xs q h.1 (subst (λ (k : ℕ). HasWorked setup outcome cell (first + k) k q) (omega arith) w))

  pub worked_none : (first : ℕ) (qs : List Pass) → qs ≡ [] → HaveWorked setup outcome cell first 0 qs
  worked_none first qs e = subst (HaveWorked setup outcome cell first 0) (sym e) tt

  -- the first workers worked, and the last one by its own number
  pub worked_more : (first : ℕ) (all xs : List Pass) (x : Pass) (qs every : List Pass) (q : Pass) → AreIdle cell first 0 all → all ≡ xs ++ x ∷ []
      → HaveWorked setup outcome cell first 0 qs → length qs ≡ length xs → HasWorked setup outcome cell x.seat.number x.who q → every ≡ qs ++ q ∷ [] → HaveWorked setup outcome cell first 0 every
  worked_more first all xs x qs every q a e h n w is =
      let f = (idle_last cell first all xs x a e).fresh in
      let there : HasWorked setup outcome cell (first + length xs) (length xs) q = subst (λ (z : ℕ × ℕ). HasWorked setup outcome cell z.0 z.1 q) (λ i. (f.number_is i, f.who_is i)) w in
      subst (HaveWorked setup outcome cell first 0) (sym is) (grow first 0 qs q h (subst (λ (k : ℕ). HasWorked setup outcome cell (first + k) k q) (omega (arith, n)) there))
