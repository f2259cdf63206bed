-- Fresh passes may be called by.
use Rattle.std.proofs.Common.{◌≡◌, ℕ, ◌+◌, ◌<◌, ◌≤◌, List, [], ◌∷◌, length, Bool, false, Option, Some, None, sym, refl, ap, ◌∙◌, subst, arith}
use Rattle.turn_cell.specs.Seats.{CellView}
use Rattle.lane_machine.specs.State.{State}
use Rattle.lane_machine.specs.Callers.{worker_seat, ends, has_leave, heard_calls, latest, may_take}
use Rattle.lane_machine.specs.Histories.{History}
use Rattle.std.specs.Prelude.{slice_get}
use Rattle.std.proofs.lemmas.Bool.{both_ways}
use Rattle.orb_base.specs.Pool.{Pool, IsWellFormed}
use Rattle.orb_base.specs.declared.job.Job.{Job}
use Rattle.orb_base.specs.declared.lane_spec.LaneSpec.{LaneSpec}
use Rattle.lane_machine.specs.Readiness.{HasLane}
use Rattle.lane_pool.specs.Pass.{Pass, Sitting}
use Rattle.lane_pool.specs.Passes.{IsFresh, AreFrom, IsOpen}
use Rattle.lane_pool.specs.Turns.{Rests, CanTake, AllRest, AllIdle, FitsFirst}

fresh_rests : (cell : CellView State) (who : ℕ) (p : Pass) → who < cell.terms.opening.slots → IsFresh cell (1 + who) who p → Rests cell p
fresh_rests cell who p l f = record {
  in_cell = f.in_cell;
  number = (let a = f.number_is in let b = f.who_is in omega arith);
  slot = (let b = f.who_is in omega arith);
  ends_are = f.nth_is ∙ ap ends (sym f.unused);
  stays = ap has_leave f.unused;
  later = λ k m. ap (heard_calls (record { slot = p.who; nth = k })) f.unused;
}

pub all_rest : (cell : CellView State) (who : ℕ) (ps : List Pass) → who + length ps ≤ cell.terms.opening.slots → AreFrom cell 1 who ps → AllRest cell who ps
all_rest cell who [] l a = tt
all_rest cell who (p ∷ ps) l a = ((fresh_rests cell who p (omega arith) a.0, a.0.who_is, a.0.nth_is), all_rest cell (who + 1) ps (omega arith) a.1)

fresh_idle : (cell : CellView State) (who : ℕ) (p : Pass) → who < length cell.terms.opening.threads → IsFresh cell (cell.terms.opening.slots + 1 + who) who p → CanTake cell p
fresh_idle cell who p l f = record {
  works = record {
    in_cell = f.in_cell;
    number = f.number_is ∙ ap (worker_seat cell.terms.opening.slots) (sym f.who_is);
    thread = (let b = f.who_is in omega arith);
  };
  idle = ap (λ (h : History). may_take (latest None h)) f.unused;
}

pub all_idle : (cell : CellView State) (slots who : ℕ) (ps : List Pass) → slots ≡ cell.terms.opening.slots → who + length ps ≤ length cell.terms.opening.threads → AreFrom cell (slots + 1) who ps → AllIdle cell who ps
all_idle cell slots who [] e l a = tt
all_idle cell slots who (p ∷ ps) e l a = ((fresh_idle cell who p (omega arith) (subst (λ (n : ℕ). IsFresh cell (n + 1 + who) who p) e a.0), a.0.who_is), all_idle cell slots (who + 1) ps e (omega arith) a.1)

pub room_there : (slots per_slot : ℕ) (cell : CellView State) (pool : Pool) (root : Sitting) (readers workers : List Pass) → IsOpen pool slots per_slot cell root readers workers → cell.terms.opening.per_slot ≡ per_slot
room_there slots per_slot cell pool root readers workers o = ap (λ (s : State). s.per_slot) o.opened

first_there : (lanes : List LaneSpec) → length lanes ≡ 1 → slice_get lanes 0 ≡ None → ⊥
first_there [] l e = absurd (omega arith)
first_there (x ∷ xs) l e = absurd (cc)

no_lanes_fit : (laned : Bool) (job : Job) (o : Option LaneSpec) → laned ≡ false → (o ≡ None → ⊥) → HasLane laned job o
no_lanes_fit laned job (Some lane) f n = λ t. absurd (both_ways laned f t)
no_lanes_fit laned job None f n = absurd (n refl)

-- without lanes each request fits the one lane
pub flat_lane : (slots per_slot : ℕ) (cell : CellView State) (pool : Pool) (root : Sitting) (readers workers : List Pass) → IsOpen pool slots per_slot cell root readers workers → IsWellFormed pool → pool.laned ≡ false → FitsFirst cell
flat_lane slots per_slot cell pool root readers workers o w f job z = subst (λ (s : State). HasLane s.pool.laned job (slice_get s.pool.lanes job.lane)) (sym o.opened)
    (no_lanes_fit pool.laned job (slice_get pool.lanes job.lane) f (λ e. first_there pool.lanes (w.flat.one_lane f) (ap (slice_get pool.lanes) (sym z) ∙ e)))
