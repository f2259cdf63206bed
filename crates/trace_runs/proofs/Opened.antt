-- A run that is opened.
use Rattle.std.proofs.Common.{◌≡◌, ℕ, List, [], ◌∷◌, Option, Some, None, refl, sym, ◌∙◌, subst, arith}
use Rattle.std.proofs.lemmas.List.Elements.{All-nil, All-cons}
use Rattle.std.proofs.lemmas.Option.{same_Some, none-some}
use Rattle.orb_base.specs.Pool.{HasSlots, HasRoom, IsWithinLimits}
use Rattle.trace_reading.specs.declared.row.Head.{Head}
use Rattle.trace_reading.specs.declared.row.Row.{Row}
use Rattle.trace_reading.specs.declared.row.Row.TheVariants.{Pool as PoolRow}
use Rattle.trace_reading.specs.RowReading.{line_in}
use Rattle.trace_reading.specs.RowWords.{FitsLane}
use Rattle.trace_reading.specs.Traces.{Trace, IsTrace}
use Rattle.trace_runs.specs.Begun.{run_of, pool_of, first_lane}
use Rattle.trace_runs.specs.Opening.{LendsAmongLanes, HasBareLimits}
use Rattle.trace_runs.specs.Reading.{OpensWith, OpensRun}
use Rattle.trace_runs.proofs.Following.{first_has}
use Rattle.trace_runs.proofs.Growing.{head_begun, head_text_is}

abbrev pub CanBe : Head → Type 0
CanBe head = IsTrace (run_of head (first_lane ∷ []) [])

pub may_open : (head : Head) → HasSlots head.slots head.per_slot → LendsAmongLanes head → HasRoom (pool_of head []) → IsWithinLimits (pool_of head []) → HasBareLimits head → CanBe head
may_open head slots lends room limits bare = record {
  can = record {
    well_formed = record {
      lanes = first_has;
      flat = record { one_lane = λ off. refl; no_borrowing = lends };
      room = record { some_request = room.some_request; some_byte = room.some_byte };
      limits = record { requests = limits.requests; bytes = limits.bytes; calls = limits.calls; run = limits.run };
    };
    slots = slots;
  };
  bare = bare;
  some_lane = omega arith;
  lanes = All-cons FitsLane first_lane [] (omega arith, omega arith, omega arith) (All-nil FitsLane);
  within = λ k d l. absurd (omega arith);
  few = omega arith;
}

pub was_open : (head : Head) → CanBe head → HasSlots head.slots head.per_slot × LendsAmongLanes head × HasRoom (pool_of head []) × IsWithinLimits (pool_of head []) × HasBareLimits head
was_open head is = (
  is.can.slots,
  is.can.well_formed.flat.no_borrowing,
  record { some_request = is.can.well_formed.room.some_request; some_byte = is.can.well_formed.room.some_byte },
  record {
    requests = is.can.well_formed.limits.requests;
    bytes = is.can.well_formed.limits.bytes;
    calls = is.can.well_formed.limits.calls;
    run = is.can.well_formed.limits.run;
  },
  is.bare,
)

pub opened : (w : List ℕ) (head : Head) (o : Option Trace) → Some (PoolRow head) ≡ line_in w → OpensWith head o → OpensRun w o
opened w head (Some t) e h = subst (λ (z : Trace). OpensRun w (Some z)) (sym h.1) (head_begun head h.0, head_text_is head w (sym e) h.0)
opened w head None e none =
    record { none = λ other is can. let h = same_Some (PoolRow head) (PoolRow other) (e ∙ is) in let same : other ≡ head = cc in none (subst CanBe same can) }

pub no_row : (w : List ℕ) → None ≡ line_in w → OpensRun w None
no_row w e = record { none = λ other is can. none-some (PoolRow other) (e ∙ is) }

abbrev IsNoPool : Row → Type 0
IsNoPool (PoolRow head) = ⊥
IsNoPool row = Unit {0}

pub no_head : (w : List ℕ) (row : Row) → Some row ≡ line_in w → IsNoPool row → OpensRun w None
no_head w row e other = record { none = λ head is can. subst IsNoPool (same_Some row (PoolRow head) (e ∙ is)) other }
