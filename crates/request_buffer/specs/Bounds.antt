-- What a buffer keeps within its limits.
use Rattle.std.specs.Prelude.{◌≡◌, ◌≤◌, ◌<◌, ◌^◌, ℕ, List, length}
use Rattle.orb_base.specs.Room.{Room}
use Rattle.request_buffer.specs.Kept.{kept_bytes}
use Rattle.request_buffer.specs.Entries.{Entry, entries, requests_of}
use Rattle.request_buffer.specs.Finding.{AreStamped}

-- the stamps are those of the requests, both counts are theirs, and both limits are kept
pub record IsBounded (queues : List (Room Entry)) (next requests bytes max_requests max_bytes : ℕ) : Type 0 where
  pub stamped : AreStamped max_requests next queues
  pub queued : requests ≡ length (entries queues)
  pub counted : requests ≡ length (requests_of next queues)
  pub weighed : bytes ≡ kept_bytes (requests_of next queues)
  pub few_bytes : bytes ≤ max_bytes
  pub few_requests : requests ≤ max_requests
  pub small_requests : max_requests < 2 ^ 32
  pub small_bytes : max_bytes < 2 ^ 32
