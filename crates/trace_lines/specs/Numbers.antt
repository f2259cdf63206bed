-- A map from the names of requests to their numbers.
use Rattle.std.specs.Prelude.{◌≡◌, ℕ, ◌+◌, ◌==◌, ◌&&◌, Bool, true, false, List, [], ◌∷◌, Option, Some, unwrap_or, if◌then◌else◌}
use Rattle.std.specs.declared.hash.BuildHasherDefault.{BuildHasherDefault}
use Rattle.std.specs.declared.hash.FoldHasher.{FoldHasher}
use Rattle.std.specs.HashMap.{HashMap, get_by}
use Rattle.orb_base.specs.declared.job.Job.{Job}
use Rattle.lane_machine.specs.Entries.{One}
use Rattle.lane_machine.specs.declared.call.LaneCall.{LaneCall}
use Rattle.lane_machine.specs.declared.call.LaneCall.TheVariants.{Offer}
use Rattle.trace_lines.specs.Offers.{number}
use Rattle.trace_lines.specs.declared.job_name.JobName.{JobName}
use Rattle.trace_lines.specs.declared.numbering.Numbering.{Numbering}

-- the call offers a request
abbrev pub offers_one : LaneCall → Bool
offers_one (Offer job) = true
offers_one call = false

-- the entry does
unfoldable pub is_offer : One → Bool
is_offer e = offers_one e.call

-- two names of one request
abbrev pub same_job : JobName → JobName → Bool
same_job a b = (a.slot == b.slot) && ((a.nth == b.nth) && (a.serial == b.serial))

-- the name of a request
abbrev pub name_of : Job → JobName
name_of job = record { slot = job.conn.slot; nth = job.conn.nth; serial = job.serial }

-- a map from names to numbers
abbrev pub NumberMap : Type 0
NumberMap = HashMap JobName ℕ (BuildHasherDefault FoldHasher)

-- the number that a map has for a name
abbrev pub number_at : NumberMap → JobName → Option ℕ
number_at numbers name = get_by (same_job name) numbers

-- a map has a number for a name, and for every other name what it had
abbrev pub Keeps : JobName → ℕ → NumberMap → NumberMap → Type 0
Keeps name n old new = (other : JobName) → number_at new other ≡ (if same_job name other then Some n else number_at old other)

-- the number of a request, by a numbering
abbrev pub number_in : Numbering → Job → ℕ
number_in numbering job = unwrap_or (number_at numbering.first (name_of job)) numbering.count

-- a numbering gives each request its number among these
abbrev pub IsNumbering : List Job → Numbering → Type 0
IsNumbering jobs numbering = (job : Job) → number_in numbering job ≡ number jobs job

-- a map has the numbers of these requests, of which the first has the number n; a name that it doesn't have counts as the number of all
abbrev pub NumbersFrom : NumberMap → ℕ → ℕ → List Job → Type 0
NumbersFrom numbers all n jobs = (job : Job) → unwrap_or (number_at numbers (name_of job)) all ≡ n + number jobs job

-- from the number n back to that of the request that is offered here, if one is, which the map has then
abbrev pub GoesBack : List Job → ℕ → ℕ → NumberMap → NumberMap → Type 0
GoesBack [] n here old new = (here ≡ n) × (new ≡ old)
GoesBack (job ∷ jobs) n here old new = (here + 1 ≡ n) × Keeps (name_of job) here old new
