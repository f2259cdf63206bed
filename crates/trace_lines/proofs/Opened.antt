-- A run opens without requests, so a trace keeps all of its opening state.
use Rattle.std.proofs.Common.{◌≡◌, ℕ, ◌+◌, zero, suc, Bool, true, false, List, [], ◌∷◌, ◌++◌, Some, None, inl, inr, refl, sym, ap, ◌∙◌}
use Rattle.std.specs.Prelude.{map, slice_get}
use Rattle.std.proofs.lemmas.List.{map-append}
use Rattle.std.proofs.lemmas.Option.{none-some, same_Some}
use Rattle.orb_base.specs.declared.item.Item.{Item}
use Rattle.orb_base.specs.declared.job.Job.{Job}
use Rattle.orb_base.specs.declared.lane_spec.LaneSpec.{LaneSpec}
use Rattle.thread_borrowing.specs.declared.doing.Doing.TheVariants.{Free}
use Rattle.thread_borrowing.specs.ThreadList.{Thread, job_of, some_threads, pool_threads}
use Rattle.lane_machine.specs.SeatLaws.{append_found}
use Rattle.lane_machine.specs.State.{State, opening, Opens}
use Rattle.trace_lines.specs.Plain.{plain_thread, plain_state}

-- the threads of a lane that do nothing yet
plain_some : (lane : ℕ) (kind : Bool) (count : ℕ) → map plain_thread (some_threads lane kind count) ≡ some_threads lane kind count
plain_some lane kind zero = refl
plain_some lane kind (suc count) =
    let x : Thread = record { lane = lane; is_static = kind; started = kind; doing = Free } in ap (λ (xs : List Thread). x ∷ xs) (plain_some lane kind count)

plain_threads : (lane : ℕ) (lanes : List LaneSpec) → map plain_thread (pool_threads lane lanes) ≡ pool_threads lane lanes
plain_threads lane [] = refl
plain_threads lane (l ∷ ls) =
    map-append plain_thread (some_threads lane true l.statics ++ some_threads lane false l.dynamics) (pool_threads (lane + 1) ls)
    ∙ (λ i. (map-append plain_thread (some_threads lane true l.statics) (some_threads lane false l.dynamics)
    ∙ (λ k. plain_some lane true l.statics k ++ plain_some lane false l.dynamics k)) i ++ plain_threads (lane + 1) ls i)

-- a state in which a run opens is kept whole
pub plain_opening : (s : State) → Opens s → plain_state s ≡ s
plain_opening s o =
    let at : plain_state (opening s.pool s.slots s.per_slot) ≡ opening s.pool s.slots s.per_slot =
    λ i. record (opening s.pool s.slots s.per_slot) { threads = plain_threads 0 s.pool.lanes i } in
    ap plain_state o.fresh ∙ at ∙ sym o.fresh

free_some : (lane : ℕ) (kind : Bool) (count t : ℕ) (x : Thread) → slice_get (some_threads lane kind count) t ≡ Some x → job_of x.doing ≡ None
free_some lane kind zero t x g = absurd (none-some x g)
free_some lane kind (suc count) zero x g = ap (λ (z : Thread). job_of z.doing) (sym (same_Some _ x g))
free_some lane kind (suc count) (suc t) x g = free_some lane kind count t x g

free_threads : (t : ℕ) (x : Thread) (lane : ℕ) (lanes : List LaneSpec) → slice_get (pool_threads lane lanes) t ≡ Some x → job_of x.doing ≡ None
free_threads t x lane [] g = absurd (none-some x g)
free_threads t x lane (l ∷ ls) g = elim (append_found (some_threads lane true l.statics ++ some_threads lane false l.dynamics) (pool_threads (lane + 1) ls) t x g) [
  | inl a ↦ elim (append_found (some_threads lane true l.statics) (some_threads lane false l.dynamics) a.0 x a.1) [
    | inl b ↦ free_some lane true l.statics b.0 x b.1
    | inr b ↦ free_some lane false l.dynamics b.0 x b.1
  ]
  | inr a ↦ free_threads a.0 x (lane + 1) ls a.1
]

-- nothing waits, no thread has a task, and nothing is owed
pub none_waits : (s : State) → Opens s → (k : ℕ) (job : Job) → slice_get s.waiting k ≡ Some job → ⊥
none_waits s o k job g = none-some job (ap (λ (z : State). slice_get z.waiting k) (sym o.fresh) ∙ g)

pub none_in_hand : (s : State) → Opens s → (t : ℕ) (x : Thread) (job : Job) → slice_get s.threads t ≡ Some x → job_of x.doing ≡ Some job → ⊥
none_in_hand s o t x job g d =
    none-some job (sym (free_threads t x 0 s.pool.lanes (ap (λ (z : State). slice_get z.threads t) (sym o.fresh) ∙ g)) ∙ d)

pub none_owed : (s : State) → Opens s → (i : ℕ) (x : Item) → slice_get s.out i ≡ Some x → ⊥
none_owed s o i x g = none-some x (ap (λ (z : State). slice_get z.out i) (sym o.fresh) ∙ g)
