-- Each request that a run of the pipe admitted and did not remove was taken once and finished once.
use Rattle.std.proofs.Common.{◌≡◌, ℕ, suc, true, List, [], ◌∷◌, Some, refl, subst, arith}
use Rattle.std.specs.Prelude.{slice_get}
use Rattle.std.specs.List.{sum_by}
use Rattle.std.proofs.lemmas.List.Sums.{sum_by-cons}
use Rattle.orb_base.specs.declared.conn_id.ConnId.{ConnId}
use Rattle.thread_borrowing.specs.declared.doing.Doing.{Doing}
use Rattle.thread_borrowing.specs.declared.doing.Doing.TheVariants.{Free, Given, Busy}
use Rattle.thread_borrowing.specs.ThreadList.{Thread, is_free}
use Rattle.lane_machine.specs.State.{State, opening}
use Rattle.lane_machine.specs.Fates.{busy_as, busy_of}
use Rattle.lane_machine.proofs.Fates.{taken_once}
use Rattle.pipe_laws.specs.Setup.{pipe_conn}
use Rattle.pipe_laws.specs.Piped.{piped}
use Rattle.pipe_laws.specs.Serials.{PipedTakesOnce}
use Rattle.pipe_laws.proofs.Once.{admitted_once}
use Rattle.pipe_laws.proofs.Making.{piped_makes_calls}
use Rattle.pipe_laws.proofs.Rising.{rising_offers_once}
use Rattle.pipe_laws.proofs.Standing.{opens_so, piped_closed, piped_is_done}

-- where all threads are free, nothing runs
free_as : (conn : ConnId) (serial : ℕ) (d : Doing) → is_free d ≡ true → busy_as conn serial d ≡ 0
free_as conn serial Free free = refl
free_as conn serial (Given job) free = refl
free_as conn serial (Busy job) free = absurd cc

none_busy : (conn : ConnId) (serial : ℕ) (threads : List Thread)
    → ((t : ℕ) (thread : Thread) → slice_get threads t ≡ Some thread → is_free thread.doing ≡ true)
    → sum_by (λ (x : Thread). busy_as conn serial x.doing) threads ≡ 0
none_busy conn serial [] free = refl
none_busy conn serial (x ∷ xs) free =
    let a = sum_by-cons (λ (y : Thread). busy_as conn serial y.doing) x xs in
    let b = free_as conn serial x.doing (free 0 x refl) in
    let c = none_busy conn serial xs (λ t thread there. free (suc t) thread there) in omega arith

pub piped_takes_once : PipedTakesOnce
piped_takes_once setup outcome batch calls how lacks can bodies heard rises serial admits stays =
    let s = opening setup.pool setup.slots setup.per_slot in
    let run = piped setup outcome batch calls how lacks in
    let x = piped_closed setup outcome batch calls how lacks can bodies heard in
    let makes = piped_makes_calls setup outcome batch calls how lacks heard in
    let once = rising_offers_once setup.pool pipe_conn 0 calls makes.rest run.history heard rises makes.front in
    let few = admitted_once pipe_conn serial run.history once in
    let done = piped_is_done setup outcome batch calls how lacks can bodies heard pipe_conn serial in
    let takes = taken_once pipe_conn serial s run.history (opens_so setup can) x.legal in
    let rests = subst (λ (z : State). busy_of pipe_conn serial z ≡ 0) x.leads (none_busy pipe_conn serial run.state.threads x.free) in
    (omega arith, omega arith)
