-- Where the next request is.
use Rattle.std.proofs.Common.{◌≡◌, ℕ, ◌<◌, Bool, List, length, Some, sym}
use Rattle.std.proofs.lemmas.Option.{slice_get_within}
use Rattle.orb_base.specs.declared.job.Job.{Job}
use Rattle.request_buffer.specs.Next.{next_job}
use Rattle.request_buffer.proofs.NextJobs.{next_is}

-- it waits
pub next_within : (b : Bool) (lane : ℕ) (waiting : List Job) (at : ℕ) → Some at ≡ next_job b lane waiting → at < length waiting
next_within b lane waiting at e = let h = next_is b lane waiting at (sym e) in slice_get_within waiting at h.0 h.1
