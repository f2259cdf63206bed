-- The bytes of the requests that wait, with one more and one less.
use Rattle.std.proofs.Common.{◌≡◌, ℕ, ◌+◌, List, [], ◌∷◌, ◌++◌, Some}
use Rattle.std.specs.Prelude.{slice_get, remove}
use Rattle.std.proofs.lemmas.List.Sums.{sum_by_push}
use Rattle.orb_base.specs.declared.job.Job.{Job}
use Rattle.thread_borrowing.proofs.Places.{sum_remove}
use Rattle.request_buffer.specs.Kept.{kept_bytes}

-- with one more
pub kept_one_more : (jobs : List Job) (job : Job) → kept_bytes (jobs ++ job ∷ []) ≡ kept_bytes jobs + job.size
kept_one_more jobs job = sum_by_push (λ (j : Job). j.size) jobs job

-- with one less
pub kept_one_less : (jobs : List Job) (at : ℕ) (job : Job) → slice_get jobs at ≡ Some job → kept_bytes (remove jobs at) + job.size ≡ kept_bytes jobs
kept_one_less jobs at job here = sum_remove (λ (j : Job). j.size) jobs at job here
