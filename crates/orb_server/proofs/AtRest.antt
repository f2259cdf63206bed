-- Where each admitted request was finished or removed, none waits and no thread has one in hand.
use Rattle.std.proofs.Common.{◌≡◌, ℕ, zero, suc, ◌+◌, ◌==◌, Bool, List, [], ◌∷◌, Some, refl, sym, ap, subst, ◌∙◌, arith}
use Rattle.std.specs.Prelude.{slice_get, if◌then◌else◌}
use Rattle.std.specs.List.{sum_by}
use Rattle.std.proofs.lemmas.Bool.{and_from, eq-eqb}
use Rattle.std.proofs.lemmas.List.Sums.{sum_by-cons}
use Rattle.std.proofs.lemmas.Option.{none-some, same_Some}
use Rattle.orb_base.specs.Conn.{same_conn}
use Rattle.orb_base.specs.declared.conn_id.ConnId.{ConnId}
use Rattle.orb_base.specs.declared.job.Job.{Job}
use Rattle.thread_borrowing.specs.ThreadList.{Thread}
use Rattle.thread_borrowing.specs.declared.doing.Doing.{Doing}
use Rattle.thread_borrowing.specs.declared.doing.Doing.TheVariants.{Free, Given, Busy}
use Rattle.lane_machine.specs.Fates.{named, given_as, busy_as, admitted, finished, removed, waiting_of, given_of, busy_of}
use Rattle.lane_machine.specs.Histories.{History, replay}
use Rattle.lane_machine.specs.State.{State}
use Rattle.lane_laws.proofs.Marks.{same_self}
use Rattle.orb_server.specs.AtRest.{IsAtRest}

named_self : (j : Job) → named j.conn j.serial j ≡ 1
named_self j = ap (λ (b : Bool). if b then 1 else 0) (and_from (same_conn j.conn j.conn) (j.serial == j.serial) (same_self j.conn) (eq-eqb j.serial j.serial refl))

none_waits : (waiting : List Job) → ((conn : ConnId) (serial : ℕ) → sum_by (named conn serial) waiting ≡ 0) → waiting ≡ []
none_waits [] h = refl
none_waits (j ∷ js) h =
    let all = h j.conn j.serial in
    let cut = sum_by-cons (named j.conn j.serial) j js in
    let own = named_self j in absurd (omega arith)

at_zero : {X : Type 0} (f : X → ℕ) (xs : List X) (k : ℕ) (x : X) → slice_get xs k ≡ Some x → sum_by f xs ≡ 0 → f x ≡ 0
at_zero f [] k x g z = absurd (none-some x g)
at_zero {X} f (y ∷ ys) zero x g z = let c = sum_by-cons f y ys in let e : f y ≡ 0 = omega arith in subst (λ (w : X). f w ≡ 0) (same_Some y x g) e
at_zero f (y ∷ ys) (suc k) x g z = let c = sum_by-cons f y ys in at_zero f ys k x g (omega arith)

never : ◌≡◌ {A = ℕ} 1 0 → ⊥
never e = omega (arith, e)

free_of : (d : Doing) → ((conn : ConnId) (serial : ℕ) → given_as conn serial d ≡ 0) → ((conn : ConnId) (serial : ℕ) → busy_as conn serial d ≡ 0) → d ≡ Free
free_of Free g b = refl
free_of (Given job) g b = absurd (never (sym (named_self job) ∙ g job.conn job.serial))
free_of (Busy job) g b = absurd (never (sym (named_self job) ∙ b job.conn job.serial))

pub at_rest : (s0 : State) (h : History)
    → ((conn : ConnId) (serial : ℕ) → waiting_of conn serial (replay s0 h) + given_of conn serial (replay s0 h) + busy_of conn serial (replay s0 h) + finished conn serial h + removed conn serial s0 h ≡ admitted conn serial h)
    → ((conn : ConnId) (serial : ℕ) → finished conn serial h + removed conn serial s0 h ≡ admitted conn serial h)
    → IsAtRest (replay s0 h)
at_rest s0 h place done = record {
  waiting = none_waits (replay s0 h).waiting (λ conn serial. (let a = place conn serial in let b = done conn serial in omega arith));
  free = λ t thread g. free_of thread.doing
      (λ conn serial. at_zero (λ (x : Thread). given_as conn serial x.doing) (replay s0 h).threads t thread g (let a = place conn serial in let b = done conn serial in omega arith))
      (λ conn serial. at_zero (λ (x : Thread). busy_as conn serial x.doing) (replay s0 h).threads t thread g (let a = place conn serial in let b = done conn serial in omega arith));
}
