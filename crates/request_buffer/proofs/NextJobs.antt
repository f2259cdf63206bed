-- What the next request is.
use Rattle.std.proofs.Common.{◌≡◌, ℕ, ◌≤◌, Bool, true, false, ◌&&◌, ◌==◌, List, Some, None, inl, inr, sym, ◌∙◌, subst, arith}
use Rattle.std.specs.Prelude.{slice_get, nat_lt}
use Rattle.std.proofs.lemmas.Bool.{or_cases, and_parts, eqb-true, ltb-true}
use Rattle.std.proofs.lemmas.Option.{same_Some}
use Rattle.orb_base.specs.declared.job.Job.{Job}
use Rattle.thread_borrowing.specs.Choice.{greatest, may_run}
use Rattle.thread_borrowing.proofs.Places.{at_first, first_is, none_passes}
use Rattle.request_buffer.specs.Next.{next_job}

pub next_is : (b : Bool) (lane : ℕ) (waiting : List Job) (at : ℕ) → next_job b lane waiting ≡ Some at → (x : Job) × (slice_get waiting at ≡ Some x) × (may_run b lane x.lane ≡ true) × (x.priority ≡ greatest (λ job. may_run b lane job.lane) (λ job. job.priority) waiting)
unfolding next_job
next_is b lane waiting at e = at_first (λ job. may_run b lane job.lane) (λ job. job.priority) waiting at e

pub none_next : (b : Bool) (lane : ℕ) (waiting : List Job) (k : ℕ) (x : Job) → next_job b lane waiting ≡ None → slice_get waiting k ≡ Some x → may_run b lane x.lane ≡ false
unfolding next_job
none_next b lane waiting k x e g = none_passes (λ job. may_run b lane job.lane) (λ job. job.priority) waiting k x e g

pub next_first : (b : Bool) (lane : ℕ) (waiting : List Job) (at : ℕ) (x : Job) → next_job b lane waiting ≡ Some at → slice_get waiting at ≡ Some x → (k : ℕ) (y : Job) → slice_get waiting k ≡ Some y → may_run b lane y.lane ≡ true → (y.priority ≤ x.priority) × (y.priority ≡ x.priority → at ≤ k)
unfolding next_job
next_first b lane waiting at x e g k y h c = first_is (λ job. may_run b lane job.lane) (λ job. job.priority) waiting at x e g k y h c

-- a thread runs no request of a lower lane
runs_up : (b : Bool) (from lane : ℕ) → may_run b from lane ≡ true → from ≤ lane
runs_up b from lane e = elim (or_cases (from == lane) (b && nat_lt from lane) e) [
  | inl same ↦ (let s = eqb-true from lane same in omega arith)
  | inr lent ↦ (let l = ltb-true from lane (and_parts b (nat_lt from lane) lent).1 in omega arith)
]

pub never_upward : (b : Bool) (lane : ℕ) (waiting : List Job) (at : ℕ) (job : Job) → next_job b lane waiting ≡ Some at → slice_get waiting at ≡ Some job → lane ≤ job.lane
never_upward b lane waiting at job e g =
    let h = next_is b lane waiting at e in
    let same : h.0 ≡ job = same_Some h.0 job (sym h.1 ∙ g) in
    runs_up b lane job.lane (subst (λ (x : Job). may_run b lane x.lane ≡ true) same h.2)

pub most_urgent : (b : Bool) (lane : ℕ) (waiting : List Job) (at : ℕ) → next_job b lane waiting ≡ Some at
    → (job : Job) × (slice_get waiting at ≡ Some job) × (may_run b lane job.lane ≡ true)
    × ((k : ℕ) (other : Job) → slice_get waiting k ≡ Some other → may_run b lane other.lane ≡ true → (other.priority ≤ job.priority) × (other.priority ≡ job.priority → at ≤ k))
most_urgent b lane waiting at e =
    let h = next_is b lane waiting at e in
    (h.0, h.1, h.2, λ k other g c. next_first b lane waiting at h.0 e h.1 k other g c)
