-- The seats of a link, taken apart.
use Rattle.std.proofs.Common.{◌≡◌, ◌≤◌, ◌+◌, ℕ, List, [], ◌∷◌, ◌++◌, length, sym, ap, ◌∙◌, subst, inl, inr, arith}
use Rattle.std.proofs.lemmas.List.{length-append}
use Rattle.turn_cell.specs.Seats.{CellView}
use Rattle.client_mux.specs.Machine.{Mux}
use Rattle.client_mux.specs.Callers.{IsCaller, writer, reader, starts, arrivals, losses, lefts, finished}
use Rattle.shared_link.specs.Link.{Sitting}
use Rattle.shared_link.specs.Turns.{IsFresh, AreFrom, IsOpen}
use Rattle.shared_link.specs.Roles.{CanSend, CanRead, CanLose}
use Rattle.client_tests.specs.Seats.{IsIdle, AreIdle, IsBusy, AreBusy}

-- fresh seats in their roles
pub fresh_caller : (cell : CellView Mux) (n : ℕ) (seat : Sitting) → 1 ≤ n → n ≤ cell.terms.opening.callers → IsFresh cell n seat → IsIdle cell seat
fresh_caller cell n seat a b f = (
  record {
    in_cell = f.in_cell;
    caller = subst (IsCaller cell.terms.opening) (sym f.number_is) (a, b);
    stays = ap lefts f.unused;
    starts_are = ap starts f.unused;
  },
  f.unused,
)

fresh_writer : (cell : CellView Mux) (n : ℕ) (seat : Sitting) → n ≡ writer cell.terms.opening → IsFresh cell n seat → CanSend cell seat × CanLose cell seat
fresh_writer cell n seat e f = (
  record {
    in_cell = f.in_cell;
    number_is = f.number_is ∙ e;
    unfinished = ap finished f.unused;
  },
  record {
    in_cell = f.in_cell;
    side = inl (f.number_is ∙ e);
    once = ap losses f.unused;
  },
)

fresh_reader : (cell : CellView Mux) (n : ℕ) (seat : Sitting) → n ≡ reader cell.terms.opening → IsFresh cell n seat → CanRead cell 0 seat × CanLose cell seat
fresh_reader cell n seat e f = (
  record {
    in_cell = f.in_cell;
    number_is = f.number_is ∙ e;
    arrivals_are = ap arrivals f.unused;
  },
  record {
    in_cell = f.in_cell;
    side = inr (f.number_is ∙ e);
    once = ap losses f.unused;
  },
)

-- the last of some seats
cut : (cell : CellView Mux) (first : ℕ) (xs : List Sitting) (x : Sitting) → AreFrom cell first (xs ++ x ∷ []) → AreFrom cell first xs × IsFresh cell (first + length xs) x
cut cell first [] x a = (tt, subst (λ (k : ℕ). IsFresh cell k x) (omega arith) a.0)
cut cell first (y ∷ ys) x a = let r = cut cell (first + 1) ys x a.1 in ((a.0, r.0), subst (λ (k : ℕ). IsFresh cell k x) (omega arith) r.1)

long : (xs : List Sitting) (x : Sitting) → length (xs ++ x ∷ []) ≡ length xs + 1
long xs x = length-append xs (x ∷ [])

callers_of : (callers : ℕ) (cell : CellView Mux) (root : Sitting) (seats : List Sitting) → IsOpen callers cell root seats → cell.terms.opening.callers ≡ callers
callers_of callers cell root seats o = ap (λ (m : Mux). m.callers) o.opened

all_idle : (cell : CellView Mux) (first : ℕ) (ss : List Sitting) → 1 ≤ first → first + length ss ≤ cell.terms.opening.callers + 1 → AreFrom cell first ss → AreIdle cell ss
all_idle cell first [] a b f = tt
all_idle cell first (s ∷ ss) a b f = (fresh_caller cell first s a (omega arith) f.0, all_idle cell (first + 1) ss (omega arith) (omega arith) f.1)

module _ (callers : ℕ) (cell : CellView Mux) (root : Sitting) (seats some rest : List Sitting) (last next : Sitting)
    (o : IsOpen callers cell root seats) (p : seats ≡ some ++ last ∷ []) (q : some ≡ rest ++ next ∷ []) where
  whole : AreFrom cell 1 some × IsFresh cell (1 + length some) last
  whole = cut cell 1 some last (subst (AreFrom cell 1) p o.seats_are)

  inner : AreFrom cell 1 rest × IsFresh cell (1 + length rest) next
  inner = cut cell 1 rest next (subst (AreFrom cell 1) q whole.0)

  lengths : (length some ≡ callers + 1) × (length rest ≡ callers)
  lengths = let a : length seats ≡ length some + 1 = ap length p ∙ long some last in let b : length some ≡ length rest + 1 = ap length q ∙ long rest next in let c = o.all in
      (omega arith, omega arith)

  pub reads : CanRead cell 0 last × CanLose cell last
  reads = let l = lengths.0 in let c = callers_of callers cell root seats o in fresh_reader cell (1 + length some) last (omega arith) whole.1

  pub sends : CanSend cell next × CanLose cell next
  sends = let l = lengths.1 in let c = callers_of callers cell root seats o in fresh_writer cell (1 + length rest) next (omega arith) inner.1

  pub idle : AreIdle cell rest
  idle = let l = lengths.1 in let c = callers_of callers cell root seats o in all_idle cell 1 rest (omega arith) (omega arith) inner.0

pub cut_idle : (cell : CellView Mux) (all xs : List Sitting) (x : Sitting) → AreIdle cell all → all ≡ xs ++ x ∷ [] → AreIdle cell xs × IsIdle cell x
cut_idle cell all xs x a e = go xs (subst (AreIdle cell) e a) where
  go : (ys : List Sitting) → AreIdle cell (ys ++ x ∷ []) → AreIdle cell ys × IsIdle cell x
  go [] a = (tt, a.0)
  go (y ∷ ys) a = let r = go ys a.1 in ((a.0, r.0), r.1)

pub idle_rest : (cell : CellView Mux) (all xs : List Sitting) (x : Sitting) → AreIdle cell all → all ≡ xs ++ x ∷ [] → AreIdle cell xs
idle_rest cell all xs x a e = (cut_idle cell all xs x a e).0

pub idle_last : (cell : CellView Mux) (all xs : List Sitting) (x : Sitting) → AreIdle cell all → all ≡ xs ++ x ∷ [] → IsIdle cell x
idle_last cell all xs x a e = (cut_idle cell all xs x a e).1

pub busy_push : (cell : CellView Mux) (ps : List (Sitting × ℕ)) (p : Sitting × ℕ) → AreBusy cell ps → IsBusy cell p → AreBusy cell (ps ++ p ∷ [])
busy_push cell [] p a b = (b, tt)
busy_push cell (x ∷ xs) p a b = (a.0, busy_push cell xs p a.1 b)

cut_busy : (cell : CellView Mux) (xs : List (Sitting × ℕ)) (x : Sitting × ℕ) → AreBusy cell (xs ++ x ∷ []) → AreBusy cell xs × IsBusy cell x
cut_busy cell [] x a = (tt, a.0)
cut_busy cell (y ∷ ys) x a = let r = cut_busy cell ys x a.1 in ((a.0, r.0), r.1)

pub busy_rest : (cell : CellView Mux) (all xs : List (Sitting × ℕ)) (x : Sitting × ℕ) → AreBusy cell all → all ≡ xs ++ x ∷ [] → AreBusy cell xs
busy_rest cell all xs x a e = (cut_busy cell xs x (subst (AreBusy cell) e a)).0

pub busy_last : (cell : CellView Mux) (all xs : List (Sitting × ℕ)) (x : Sitting × ℕ) → AreBusy cell all → all ≡ xs ++ x ∷ [] → IsBusy cell x
busy_last cell all xs x a e = (cut_busy cell xs x (subst (AreBusy cell) e a)).1
