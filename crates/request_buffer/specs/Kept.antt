-- The requests that wait: Real-time CORBA 1.2, Threadpools (request buffering). Which requests a CancelRequest takes out is
-- own profile.
use Rattle.std.specs.Prelude.{◌≡◌, ℕ, ◌+◌, Bool, true, false, ◌==◌, ◌&&◌, nat_lt, nat_le, List, [], ◌∷◌, ◌++◌, length, Option, Some, position, sum_by, slice_get, remove}
use Rattle.orb_base.specs.Conn.{same_conn}
use Rattle.orb_base.specs.declared.conn_id.ConnId.{ConnId}
use Rattle.orb_base.specs.declared.due.Due.{Due}
use Rattle.orb_base.specs.declared.due.Due.TheVariants.{Nothing, Early, Late}
use Rattle.orb_base.specs.declared.job.Job.{Job}

-- the waiting requests in order of arrival, the place that names each of them, and the two limits
pub record Kept : Type 0 where
  pub requests : List Job
  pub places : List ℕ
  pub max_requests : ℕ
  pub max_bytes : ℕ

-- the position, in order of arrival, of the request that a place names
unfoldable pub arrival_of : Kept → ℕ → Option ℕ
arrival_of kept place = position (λ p. p == place) kept.places

-- the bytes of requests together
abbrev pub kept_bytes : List Job → ℕ
kept_bytes requests = sum_by (λ job. job.size) requests

-- one more request of so many bytes passes neither limit
abbrev pub has_room : Kept → ℕ → Bool
has_room kept size = nat_lt (length kept.requests) kept.max_requests && nat_le (kept_bytes kept.requests + size) kept.max_bytes

-- the limits stayed
abbrev pub SameLimits : Kept → Kept → Type 0
SameLimits old new = (new.max_requests ≡ old.max_requests) × (new.max_bytes ≡ old.max_bytes)

-- the request came after the others
abbrev pub IsPut : Kept → Kept → Job → Type 0
IsPut old new job = (new.requests ≡ old.requests ++ job ∷ []) × SameLimits old new

-- the request was at this position and was taken out
abbrev pub IsTaken : Kept → Kept → Job → ℕ → Type 0
IsTaken old new job at = (slice_get old.requests at ≡ Some job) × (new.requests ≡ remove old.requests at) × SameLimits old new

-- a reply is due when the request was carried out
abbrev pub is_late : Due → Bool
is_late Late = true
is_late Nothing = false
is_late Early = false

-- the request is one of the connection with this id, whose reply is still due
abbrev pub may_cancel : ConnId → ℕ → Job → Bool
may_cancel conn id job = is_late job.due && same_conn job.conn conn && (job.id == id)
