-- Callers with what they begin with and leave, in their order.
use Rattle.std.proofs.Common.{◌≡◌, ℕ, ◌+◌, ◌≤◌, List, [], ◌∷◌, ◌++◌, length, sym, ap, ◌∙◌, subst, arith}
use Rattle.std.specs.List.{All}
use Rattle.std.proofs.lemmas.List.{length-append, map-append}
use Rattle.std.proofs.lemmas.List.Elements.{All-nil, All-cons}
use Rattle.turn_cell.specs.Seats.{CellView}
use Rattle.client_mux.specs.Machine.{Mux, History}
use Rattle.client_mux.specs.Callers.{IsCaller, starts, lefts}
use Rattle.shared_link.specs.Closings.{IsBack}
use Rattle.shared_link.specs.Link.{Sitting}
use Rattle.shared_link.specs.Roles.{CanCall}
use Rattle.shared_link.specs.Turns.{IsFresh, AreFrom}
use Rattle.side_by_side.specs.Sides.{Pairs}
use Rattle.mux_sides.specs.Entering.{Enters}
use Rattle.mux_sides.specs.Calling.{IsCall, left_of, MakesCall}
use Rattle.mux_sides.specs.declared.calling.CallEnd.{CallEnd}
use Rattle.mux_runs.specs.Callers.{AreShort, asked_by, seats_of, ends_of, IsReady, AreReady, HasCalled, HaveCalled}
use Rattle.mux_runs.specs.declared.jobs.Asking.{Asking}
use Rattle.mux_runs.specs.declared.jobs.CallJob.{CallJob}
use Rattle.mux_runs.specs.declared.jobs.CallDone.{CallDone}

-- ---- seats from one number on

cut_from : (cell : CellView Mux) (first : ℕ) (xs : List Sitting) (x : Sitting) → AreFrom cell first (xs ++ x ∷ []) → AreFrom cell first xs × IsFresh cell (first + length xs) x
cut_from cell first [] x a = (tt, subst (λ (k : ℕ). IsFresh cell k x) (omega arith) a.0)
cut_from cell first (y ∷ ys) x a = let r = cut_from cell (first + 1) ys x a.1 in ((a.0, r.0), subst (λ (k : ℕ). IsFresh cell k x) (omega arith) r.1)

pub from_front : (cell : CellView Mux) (first : ℕ) (all xs : List Sitting) (x : Sitting) → AreFrom cell first all → all ≡ xs ++ x ∷ [] → AreFrom cell first xs
from_front cell first all xs x a e = (cut_from cell first xs x (subst (AreFrom cell first) e a)).0

pub from_last : (cell : CellView Mux) (first : ℕ) (all xs : List Sitting) (x : Sitting) → AreFrom cell first all → all ≡ xs ++ x ∷ [] → IsFresh cell (first + length xs) x
from_last cell first all xs x a e = (cut_from cell first xs x (subst (AreFrom cell first) e a)).1

-- ---- short requests

cut_short : (xs : List Asking) (x : Asking) → AreShort (xs ++ x ∷ []) → AreShort xs × AreShort (x ∷ [])
cut_short [] x a = (tt, a)
cut_short (y ∷ ys) x a = let r = cut_short ys x a.1 in ((a.0, r.0), r.1)

pub short_front : (all xs : List Asking) (x : Asking) → AreShort all → all ≡ xs ++ x ∷ [] → AreShort xs
short_front all xs x a e = (cut_short xs x (subst AreShort e a)).0

pub short_last : (all xs : List Asking) (x : Asking) → AreShort all → all ≡ xs ++ x ∷ [] → AreShort (x ∷ [])
short_last all xs x a e = (cut_short xs x (subst AreShort e a)).1

-- ---- jobs

pub jobs_none : (cell : CellView Mux) (first : ℕ) (js : List CallJob) → js ≡ [] → AreReady cell first js
jobs_none cell first js e = subst (AreReady cell first) (sym e) tt

ready_push : (cell : CellView Mux) (first : ℕ) (js : List CallJob) (j : CallJob) → AreReady cell first js → IsReady cell (first + length js) j → AreReady cell first (js ++ j ∷ [])
ready_push cell first [] j a r = (subst (λ (n : ℕ). IsReady cell n j) (omega arith) r, tt)
ready_push cell first (x ∷ xs) j a r = (a.0, ready_push cell (first + 1) xs j a.1 (subst (λ (n : ℕ). IsReady cell n j) (omega arith) r))

-- the job of the next seat and the next call
pub jobs_grow : (cell : CellView Mux) (all seats : List Sitting) (seat : Sitting) (calls : List Asking) (asking : Asking) (js : List CallJob) (j : CallJob)
    → AreFrom cell 1 all → all ≡ seats ++ seat ∷ [] → length all ≤ cell.terms.opening.callers → AreShort (asking ∷ []) → length js ≡ length seats
    → j.seat ≡ seat → j.asking ≡ asking → AreReady cell 1 js → AreReady cell 1 (js ++ j ∷ [])
jobs_grow cell all seats seat calls asking js j from e few short same s a ready =
    let long : length all ≡ length seats + 1 = ap length e ∙ length-append seats (seat ∷ []) in
    let fresh : IsFresh cell (1 + length seats) seat = from_last cell 1 all seats seat from e in
    ready_push cell 1 js j ready (record {
      fresh = subst (λ (x : Sitting). IsFresh cell (1 + length js) x) (sym s) (subst (λ (n : ℕ). IsFresh cell (1 + n) seat) (sym same) fresh);
      caller = (omega arith, omega arith);
      short = (subst (λ (x : Asking). AreShort (x ∷ [])) (sym a) short).0;
    })

pub asked_none : (js : List CallJob) (calls : List Asking) → js ≡ [] → calls ≡ [] → asked_by js ≡ calls
asked_none js calls e c = ap asked_by e ∙ sym c

pub asked_grow : (js : List CallJob) (j : CallJob) (calls all : List Asking) → asked_by js ≡ calls → all ≡ calls ++ j.asking ∷ [] → asked_by (js ++ j ∷ []) ≡ all
asked_grow js j calls all a e = map-append (λ (x : CallJob). x.asking) js (j ∷ []) ∙ ap (λ (z : List Asking). z ++ j.asking ∷ []) a ∙ sym e

pub same_lengths : (a xs : List Sitting) (x : Sitting) (b ys : List Asking) (y : Asking) → a ≡ xs ++ x ∷ [] → b ≡ ys ++ y ∷ [] → length a ≡ length b → length xs ≡ length ys
same_lengths a xs x b ys y p q s =
    let l : length a ≡ length xs + 1 = ap length p ∙ length-append xs (x ∷ []) in let m : length b ≡ length ys + 1 = ap length q ∙ length-append ys (y ∷ []) in omega arith

-- ---- what callers leave

pub seats_none : (done : List CallDone) (seats : List Sitting) → done ≡ [] → seats ≡ [] → seats ≡ seats_of done
seats_none done seats e s = s ∙ sym (ap seats_of e)

pub ends_none : (done : List CallDone) (ends : List CallEnd) → done ≡ [] → ends ≡ [] → ends ≡ ends_of done
ends_none done ends e s = s ∙ sym (ap ends_of e)

pub seats_grow : (all ds : List CallDone) (d : CallDone) (seats : List Sitting) → all ≡ ds ++ d ∷ [] → seats ≡ seats_of ds → seats ++ d.seat ∷ [] ≡ seats_of all
seats_grow all ds d seats e s = ap (λ (z : List Sitting). z ++ d.seat ∷ []) s ∙ sym (map-append (λ (x : CallDone). x.seat) ds (d ∷ [])) ∙ sym (ap seats_of e)

pub ends_grow : (all ds : List CallDone) (d : CallDone) (ends : List CallEnd) → all ≡ ds ++ d ∷ [] → ends ≡ ends_of ds → ends ++ d.end ∷ [] ≡ ends_of all
ends_grow all ds d ends e s = ap (λ (z : List CallEnd). z ++ d.end ∷ []) s ∙ sym (map-append (λ (x : CallDone). x.end) ds (d ∷ [])) ∙ sym (ap ends_of e)

pub done_lengths : (all ds : List CallDone) (d : CallDone) → all ≡ ds ++ d ∷ [] → length all ≡ length ds + 1
done_lengths all ds d e = ap length e ∙ length-append ds (d ∷ [])

-- ---- one caller

pub fresh_caller : (cell : CellView Mux) (n : ℕ) (seat : Sitting) → IsFresh cell n seat → IsCaller cell.terms.opening n → CanCall cell 0 seat
fresh_caller cell n seat f c = record {
  in_cell = f.in_cell;
  caller = subst (IsCaller cell.terms.opening) (sym f.number_is) c;
  stays = ap lefts f.unused;
  starts_are = ap starts f.unused;
}

pub ready_caller : (cell : CellView Mux) (n : ℕ) (job : CallJob) → IsReady cell n job → CanCall cell 0 job.seat
ready_caller cell n job r = fresh_caller cell n job.seat r.fresh r.caller

-- a fresh seat that made calls comes back
pub fresh_back : (cell : CellView Mux) (n : ℕ) (xs : History) (old new : Sitting) → IsFresh cell n old → Enters xs old new → IsBack cell n new
fresh_back cell n xs old new f e = record {
  in_cell = (e.later.0 ∙ f.in_cell.0, e.later.1 ∙ f.in_cell.1);
  number_is = e.later.2 ∙ f.number_is;
  unsplit = e.later.3 ∙ f.unsplit;
  alone = e.later.4 ∙ f.alone;
}

pub fresh_mine : (cell : CellView Mux) (n : ℕ) (xs : History) (old new : Sitting) → IsFresh cell n old → Enters xs old new → new.mine ≡ xs
fresh_mine cell n xs old new f e = e.mine ∙ ap (λ (h : History). h ++ xs) f.unused

called_as : (cell : CellView Mux) (n : ℕ) (asking : Asking) (old : Sitting) (done : CallDone) → IsFresh cell n old → MakesCall asking.request asking.due done.end old done.seat
    → HasCalled cell n asking done
called_as cell n asking old done f m = record {
  entries = m.entries;
  is_call = subst (λ (k : ℕ). IsCall k asking.request asking.due done.end m.entries) f.number_is m.is_call;
  mine = subst (λ (k : ℕ). done.seat.mine ≡ m.entries ++ left_of k ∷ []) f.number_is (fresh_mine cell n (m.entries ++ left_of old.number ∷ []) old done.seat f m.entered);
  back = fresh_back cell n (m.entries ++ left_of old.number ∷ []) old done.seat f m.entered;
}

pub called_one : (cell : CellView Mux) (n : ℕ) (job : CallJob) (done : CallDone) → IsReady cell n job → MakesCall job.asking.request job.asking.due done.end job.seat done.seat
    → HasCalled cell n job.asking done
called_one cell n job done r m = called_as cell n job.asking job.seat done r.fresh m

-- ---- all callers

own_ready : (cell : CellView Mux) (n : ℕ) (j : CallJob) → IsReady cell n j → IsReady cell j.seat.number j
own_ready cell n j r = subst (λ (k : ℕ). IsReady cell k j) (sym r.fresh.number_is) r

pub jobs_own : (cell : CellView Mux) (P : CallJob → Type 0) → ((j : CallJob) → IsReady cell j.seat.number j → P j) → (first : ℕ) (js : List CallJob) → AreReady cell first js → All P js
jobs_own cell P f first [] a = All-nil P
jobs_own cell P f first (j ∷ js) a = All-cons P j js (f j (own_ready cell first j a.0)) (jobs_own cell P f (first + 1) js a.1)

pub done_own : (cell : CellView Mux) (Q : CallJob → CallDone → Type 0) → ((j : CallJob) (d : CallDone) → Q j d → HasCalled cell j.seat.number j.asking d)
    → (first : ℕ) (js : List CallJob) (ds : List CallDone) → AreReady cell first js → Pairs Q js ds → HaveCalled cell first (asked_by js) ds
done_own cell Q f first [] [] a p = tt
done_own cell Q f first [] (d ∷ ds) a p = absurd p
done_own cell Q f first (j ∷ js) [] a p = absurd p
done_own cell Q f first (j ∷ js) (d ∷ ds) a p = (subst (λ (n : ℕ). HasCalled cell n j.asking d) a.0.fresh.number_is (f j d p.0), done_own cell Q f (first + 1) js ds a.1 p.1)
