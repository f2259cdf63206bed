-- What a seat may call is fit, and a call leads from one role to the next.
use Rattle.std.proofs.Common.{◌≡◌, ◌⊎◌, ◌<◌, ◌+◌, ℕ, Bool, true, false, cond, ◌==◌, ◌&&◌, ◌||◌, List, [], ◌∷◌, ◌++◌, Option, Some, None, inl, inr, refl, sym, ap, ◌∙◌, subst, arith, eq-eqb}
use Rattle.std.specs.Prelude.{IfSome}
use Rattle.std.specs.List.{list_any, count_by}
use Rattle.std.proofs.lemmas.Bool.{or_left}
use Rattle.giop_messages.specs.Message.{Request}
use Rattle.client_mux.specs.declared.heard_reply.HeardReply.{HeardReply}
use Rattle.turn_cell.specs.Seats.{CellView}
use Rattle.turn_cell.specs.Good.{entry}
use Rattle.flat_seats.proofs.Own.{push_grow, push_quiet, count_push}
use Rattle.client_mux.specs.declared.limits.TheConstants.{MAX_STARTS, MAX_ARRIVALS}
use Rattle.client_mux.specs.declared.why.Why.{Why}
use Rattle.client_mux.specs.declared.call.MuxCall.{MuxCall}
use Rattle.client_mux.specs.declared.call.MuxCall.TheVariants.{Start, Cancel, Next, Arrived, Await, Lost, Left}
use Rattle.client_mux.specs.declared.call.MuxReply.{MuxReply}
use Rattle.client_mux.specs.declared.call.MuxReply.TheVariants as reply
use Rattle.client_mux.specs.Machine.{Mux, One, History}
use Rattle.client_mux.specs.Callers.{IsShort, IsCaller, is_start, is_left, is_arrived, is_lost, finishes, starts_as, cancels, awaits, is_cancelled, owns, has_cancel, has_await, was_dropped, starts, arrivals, losses, lefts, finished}
use Rattle.shared_link.specs.Link.{Sitting}
use Rattle.shared_link.specs.Turns.{IsIn, MayMake, Makes}
use Rattle.shared_link.specs.Roles.{CanCall, CanAwait, CanCancel, CanSend, CanRead, CanLose}

pub fit_start : (cell : CellView Mux) (k : ℕ) (q : Request) (seat : Sitting) → CanCall cell k seat → k < MAX_STARTS → IsShort q → MayMake cell (Start seat.number q) seat
fit_start cell k q seat d few short = (refl, (d.caller, d.stays, (let a = d.starts_are in omega arith), short))

pub fit_cancel : (cell : CellView Mux) (k id : ℕ) (seat : Sitting) → CanCall cell k seat → CanCancel id seat → MayMake cell (Cancel seat.number id) seat
fit_cancel cell k id seat d c = (refl, (d.caller, d.stays, c.0.owned, c.1, c.0.unawaited))

pub fit_await : (cell : CellView Mux) (k id : ℕ) (seat : Sitting) → CanCall cell k seat → CanAwait id seat → MayMake cell (Await seat.number id) seat
fit_await cell k id seat d c = (refl, (d.caller, d.stays, c.owned, c.unawaited, c.kept))

pub fit_left : (cell : CellView Mux) (k : ℕ) (seat : Sitting) → CanCall cell k seat → MayMake cell (Left seat.number) seat
fit_left cell k seat d = (refl, (d.caller, d.stays))

pub fit_next : (cell : CellView Mux) (seat : Sitting) → CanSend cell seat → MayMake cell Next seat
fit_next cell seat d = (refl, (d.number_is, d.unfinished))

pub fit_arrived : (cell : CellView Mux) (k id : ℕ) (r : HeardReply) (seat : Sitting) → CanRead cell k seat → k < MAX_ARRIVALS → MayMake cell (Arrived id r) seat
fit_arrived cell k id r seat d few = (refl, (d.number_is, (let a = d.arrivals_are in omega arith)))

pub fit_lost : (cell : CellView Mux) (why : Why) (seat : Sitting) → CanLose cell seat → MayMake cell (Lost why) seat
fit_lost cell why seat d = (refl, (d.side, d.once))

-- a count after one more call
counted : (p : MuxCall → MuxReply → Bool) (cell : CellView Mux) (call : MuxCall) (r : MuxReply) (old new : Sitting) → Makes cell call r old new
    → count_by (λ (y : One). p y.call y.reply) new.mine ≡ count_by (λ (y : One). p y.call y.reply) old.mine + cond {A = ℕ} (p call r) 1 0
counted p cell call r old new m = ap (count_by (λ (y : One). p y.call y.reply)) m.2 ∙ count_push (λ (y : One). p y.call y.reply) old.mine (entry old.number call r)

made_in : (cell : CellView Mux) (call : MuxCall) (r : MuxReply) (old new : Sitting) → Makes cell call r old new → IsIn cell old → IsIn cell new
made_in cell call r old new m i = (m.0.0 ∙ i.0, m.0.1 ∙ i.1)

still_caller : (cell : CellView Mux) (call : MuxCall) (r : MuxReply) (old new : Sitting) → Makes cell call r old new → IsCaller cell.terms.opening old.number → IsCaller cell.terms.opening new.number
still_caller cell call r old new m c = subst (IsCaller cell.terms.opening) (sym m.0.2) c

-- a caller's next role
pub after_start : (cell : CellView Mux) (k by : ℕ) (q : Request) (r : MuxReply) (old new : Sitting) → CanCall cell k old → Makes cell (Start by q) r old new → CanCall cell (k + 1) new
after_start cell k by q r old new d m =
    let a : starts new.mine ≡ starts old.mine + 1 = counted (λ c z. is_start c) cell (Start by q) r old new m in let s = d.starts_are in
    let b : lefts new.mine ≡ lefts old.mine + 0 = counted (λ c z. is_left c) cell (Start by q) r old new m in let t = d.stays in record {
      in_cell = made_in cell (Start by q) r old new m d.in_cell;
      caller = still_caller cell (Start by q) r old new m d.caller;
      stays = omega arith;
      starts_are = omega arith;
    }

pub after_cancel : (cell : CellView Mux) (k by id : ℕ) (r : MuxReply) (old new : Sitting) → CanCall cell k old → Makes cell (Cancel by id) r old new → CanCall cell k new
after_cancel cell k by id r old new d m =
    let a : starts new.mine ≡ starts old.mine + 0 = counted (λ c z. is_start c) cell (Cancel by id) r old new m in let s = d.starts_are in
    let b : lefts new.mine ≡ lefts old.mine + 0 = counted (λ c z. is_left c) cell (Cancel by id) r old new m in let t = d.stays in record {
      in_cell = made_in cell (Cancel by id) r old new m d.in_cell;
      caller = still_caller cell (Cancel by id) r old new m d.caller;
      stays = omega arith;
      starts_are = omega arith;
    }

pub after_await : (cell : CellView Mux) (k by id : ℕ) (r : MuxReply) (old new : Sitting) → CanCall cell k old → Makes cell (Await by id) r old new → CanCall cell k new
after_await cell k by id r old new d m =
    let a : starts new.mine ≡ starts old.mine + 0 = counted (λ c z. is_start c) cell (Await by id) r old new m in let s = d.starts_are in
    let b : lefts new.mine ≡ lefts old.mine + 0 = counted (λ c z. is_left c) cell (Await by id) r old new m in let t = d.stays in record {
      in_cell = made_in cell (Await by id) r old new m d.in_cell;
      caller = still_caller cell (Await by id) r old new m d.caller;
      stays = omega arith;
      starts_are = omega arith;
    }

-- a first call may be cancelled and awaited
pub first_call : (cell : CellView Mux) (by id : ℕ) (q : Request) (old new : Sitting) → old.mine ≡ [] → Makes cell (Start by q) (reply.Id id) old new → CanCancel id new
first_call cell by id q old new none m =
    let e : One = entry old.number (Start by q) (reply.Id id) in
    let mine : new.mine ≡ e ∷ [] = m.2 ∙ ap (λ (z : History). z ++ e ∷ []) none in (
      record {
        owned = ap (owns id) mine ∙ or_left (id == id) false (eq-eqb id id refl);
        unawaited = ap (has_await id) mine;
        kept = ap (was_dropped id) mine;
      },
      ap (has_cancel id) mine,
    )

-- a call that was cancelled too late may be awaited
pub late_cancel : (cell : CellView Mux) (by id k : ℕ) (old new : Sitting) → CanAwait id old → Makes cell (Cancel by k) reply.TooLate old new → CanAwait id new
late_cancel cell by id k old new d m =
    let e : One = entry old.number (Cancel by k) reply.TooLate in record {
      owned = ap (owns id) m.2 ∙ push_grow (λ (y : One). starts_as id y.call y.reply) old.mine e d.owned;
      unawaited = ap (has_await id) m.2 ∙ (push_quiet (λ (y : One). awaits id y.call) old.mine e refl ∙ d.unawaited);
      kept = ap (was_dropped id) m.2 ∙ (push_quiet (λ (y : One). cancels id y.call && is_cancelled y.reply) old.mine e (never (k == id)) ∙ d.kept);
    } where
      never : (b : Bool) → (b && false) ≡ false
      never true = refl
      never false = refl

-- the writer's next role
pub after_next : (cell : CellView Mux) (r : MuxReply) (old new : Sitting) → finishes Next r ≡ false → CanSend cell old → Makes cell Next r old new → CanSend cell new
after_next cell r old new quiet d m =
    let a : finished new.mine ≡ finished old.mine + cond {A = ℕ} (finishes Next r) 1 0 = counted finishes cell Next r old new m in
    let b : ◌≡◌ {A = ℕ} (cond (finishes Next r) 1 0) 0 = ap (λ (z : Bool). cond {A = ℕ} z 1 0) quiet in let s = d.unfinished in record {
      in_cell = made_in cell Next r old new m d.in_cell;
      number_is = m.0.2 ∙ d.number_is;
      unfinished = omega arith;
    }

-- the reader's
pub after_arrived : (cell : CellView Mux) (k id : ℕ) (v : HeardReply) (r : MuxReply) (old new : Sitting) → CanRead cell k old → Makes cell (Arrived id v) r old new → CanRead cell (k + 1) new
after_arrived cell k id v r old new d m =
    let a : arrivals new.mine ≡ arrivals old.mine + 1 = counted (λ c z. is_arrived c) cell (Arrived id v) r old new m in let s = d.arrivals_are in record {
      in_cell = made_in cell (Arrived id v) r old new m d.in_cell;
      number_is = m.0.2 ∙ d.number_is;
      arrivals_are = omega arith;
    }

pub read_on : (cell : CellView Mux) (k : ℕ) (why : Why) (r : MuxReply) (old new : Sitting) → CanRead cell k old → Makes cell (Lost why) r old new → CanRead cell k new
read_on cell k why r old new d m =
    let a : arrivals new.mine ≡ arrivals old.mine + 0 = counted (λ c z. is_arrived c) cell (Lost why) r old new m in let s = d.arrivals_are in record {
      in_cell = made_in cell (Lost why) r old new m d.in_cell;
      number_is = m.0.2 ∙ d.number_is;
      arrivals_are = omega arith;
    }

-- who said nothing of a loss may say it
pub lose_later : (cell : CellView Mux) (call : MuxCall) (r : MuxReply) (old new : Sitting) → is_lost call ≡ false → CanLose cell old → Makes cell call r old new → CanLose cell new
lose_later cell call r old new quiet d m =
    let a : losses new.mine ≡ losses old.mine + cond {A = ℕ} (is_lost call) 1 0 = counted (λ c z. is_lost c) cell call r old new m in
    let b : ◌≡◌ {A = ℕ} (cond (is_lost call) 1 0) 0 = ap (λ (z : Bool). cond {A = ℕ} z 1 0) quiet in let s = d.once in record {
      in_cell = made_in cell call r old new m d.in_cell;
      side = elim d.side [ inl w ↦ inl (m.0.2 ∙ w) | inr w ↦ inr (m.0.2 ∙ w) ];
      once = omega arith;
    }
