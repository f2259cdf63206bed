-- The end of the law of places.
use Rattle.std.proofs.Common.{◌≡◌, ℕ, ◌+◌, ◌<◌, ◌≤◌, suc, true, List, [], ◌∷◌, ◌++◌, length, Some, None, sym, refl, ap, subst, arith}
use Rattle.std.specs.Prelude.{slice_get}
use Rattle.std.specs.List.{sum_by}
use Rattle.std.proofs.lemmas.Option.{none-some, slice_get_within}
use Rattle.std.proofs.lemmas.List.Sums.{sum_by-cons}
use Rattle.orb_base.specs.declared.conn_id.ConnId.{ConnId}
use Rattle.thread_borrowing.specs.declared.doing.Doing.{Doing}
use Rattle.thread_borrowing.specs.declared.doing.Doing.TheVariants.{Free, Given, Busy}
use Rattle.thread_borrowing.specs.ThreadList.{Thread, is_free}
use Rattle.thread_borrowing.proofs.Growing.{length-pool_threads}
use Rattle.lane_machine.specs.declared.call.LaneReply.TheVariants as reply
use Rattle.lane_machine.specs.State.{State, Opens}
use Rattle.lane_machine.specs.Machine.{step}
use Rattle.lane_machine.specs.Readiness.{is_ready, IsSound}
use Rattle.lane_machine.specs.Urgency.{NoneIdles}
use Rattle.lane_machine.specs.Histories.{History, replay, IsLegal}
use Rattle.lane_machine.specs.Callers.{of, latest, IsFit, AreFit, worker_seat}
use Rattle.lane_machine.specs.Fates.{named, given_as, busy_as, finished, removed, admitted}
use Rattle.lane_machine.specs.Entries.{One, along}
use Rattle.lane_machine.specs.SeatLaws.{Known, known_step, known_first}
use Rattle.lane_machine.proofs.Runs.{always}
use Rattle.lane_machine.proofs.Urgent.{none_idles, none_idles_first}
use Rattle.lane_machine.proofs.Fates.{one_place}
use Rattle.lane_laws.proofs.Ending.{Rests, rests_step}
use Rattle.lane_laws.proofs.Served.{Served, served_step, served_first, nothing_waits}

few_threads : (s0 : State) → Opens s0 → length s0.threads ≤ 64
few_threads s0 o = let a = ap (λ (z : State). length z.threads) o.fresh in let b = o.can.well_formed.lanes.few_threads in let c = length-pool_threads 0 s0.pool.lanes in omega arith

record Ends (s0 : State) (h : History) (s : State) : Type 0 where
  knows : Known s0 h s
  rests : Rests s0 h s

ends_step : (s0 : State) → Opens s0 → (h : History) (s : State) (e : One) → Ends s0 h s → is_ready s e.call ≡ true → IsSound s e.call → e.reply ≡ (step s e.call).1 → IsFit s0 e.caller (of e.caller h) e.call → Ends s0 (h ++ e ∷ []) (step s e.call).0
ends_step s0 o h s e d r q w f = record {
  knows = known_step s0 o.can.slots.few_slots (few_threads s0 o) h s e d.knows r q w f;
  rests = rests_step s0 h s e e.call o.can.slots.few_slots (few_threads s0 o) d.knows r w f d.rests;
}

ends_first : (s0 : State) → Opens s0 → Ends s0 [] s0
ends_first s0 o = record {
  knows = subst (λ (z : State). Known z [] z) (sym o.fresh) (known_first s0.pool s0.slots s0.per_slot);
  rests = λ t l last. absurd (none-some reply.Ended last);
}

no_given : (conn : ConnId) (serial : ℕ) (d : Doing) → is_free d ≡ true → given_as conn serial d + busy_as conn serial d ≡ 0
no_given conn serial Free e = refl
no_given conn serial (Given job) e = absurd (cc)
no_given conn serial (Busy job) e = absurd (cc)

all_free : (conn : ConnId) (serial : ℕ) (xs : List Thread) → ((t : ℕ) (thread : Thread) → slice_get xs t ≡ Some thread → is_free thread.doing ≡ true) → sum_by (λ (x : Thread). given_as conn serial x.doing) xs + sum_by (λ (x : Thread). busy_as conn serial x.doing) xs ≡ 0
all_free conn serial [] h = refl
all_free conn serial (x ∷ xs) h = let a = all_free conn serial xs (λ t. h (suc t)) in let b = no_given conn serial x.doing (h 0 x refl) in let c = sum_by-cons (λ (x : Thread). given_as conn serial x.doing) x xs in let d = sum_by-cons (λ (x : Thread). busy_as conn serial x.doing) x xs in omega arith

empty : {X : Type 0} (f : X → ℕ) (xs : List X) → ((k : ℕ) (x : X) → slice_get xs k ≡ Some x → ⊥) → sum_by f xs ≡ 0
empty {X} f [] h = refl
empty {X} f (x ∷ xs) h = absurd (h 0 x refl)

-- where all threads are free, each admitted request was finished or removed
pub done_where_free : (s0 : State) (h : History) → Opens s0 → IsLegal s0 h → ((t : ℕ) (thread : Thread) → slice_get (replay s0 h).threads t ≡ Some thread → is_free thread.doing ≡ true)
    → (conn : ConnId) (serial : ℕ) → finished conn serial h + removed conn serial s0 h ≡ admitted conn serial h
done_where_free s0 h o l free conn serial =
    let idle = always NoneIdles none_idles s0 h (subst NoneIdles (sym o.fresh) (none_idles_first s0.pool s0.slots s0.per_slot)) l in
    let served = always (Served s0) (served_step s0) s0 h (subst (λ (z : State). Served z z) (sym o.fresh) (served_first s0.pool s0.slots s0.per_slot o.can.well_formed.lanes.each)) l in
    let a = all_free conn serial (replay s0 h).threads free in let b = empty (named conn serial) (replay s0 h).waiting (nothing_waits s0 (replay s0 h) served idle free) in let c = one_place conn serial s0 h o l in omega arith

pub all_done : (s0 : State) (h : History) → Opens s0 → IsLegal s0 h → AreFit s0 h → ((t : ℕ) → t < length s0.threads → latest None (of (worker_seat s0.slots t) h) ≡ Some reply.Ended)
    → (conn : ConnId) (serial : ℕ) → finished conn serial h + removed conn serial s0 h ≡ admitted conn serial h
all_done s0 h o l f over conn serial =
    let d = along s0 (Ends s0) (ends_step s0 o) [] h s0 (ends_first s0 o) l f in
    let k = d.knows.threads in
    done_where_free s0 h o l (λ t thread g. (let w = slice_get_within (replay s0 h).threads t thread g in let n : t < length s0.threads = omega arith in (d.rests t n (over t n)).1 thread g)) conn serial
