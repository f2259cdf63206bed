-- What a search over queues finds, and what a change of one leaves.
use Rattle.std.specs.Prelude.{◌≡◌, ◌≤◌, ◌<◌, ◌+◌, ℕ, min, true, false, Option, None, List, if◌then◌else◌, length, slice_get, slice_set, Some}
use Rattle.std.specs.List.{insert, remove}
use Rattle.orb_base.specs.Room.{Room}
use Rattle.request_buffer.specs.declared.found.Found.{Found}
use Rattle.request_buffer.specs.declared.found.Spot.{Spot}
use Rattle.request_buffer.specs.declared.sought.Sought.{Sought}
use Rattle.request_buffer.specs.Ranks.{is_ahead}
use Rattle.request_buffer.specs.Entries.{Entry, InOrder, entries, stamped, is_sought, weight, restamped, requests_of}

-- what a search says of a request at a position
abbrev pub found_at : Sought → ℕ → Entry → Found
found_at sought at entry = record { at = at; weight = weight sought entry; stamp = entry.stamp }

-- of no lower weight, and where the weights are equal no later
abbrev pub Outranks : Sought → Found → Entry → Type 0
Outranks sought found other = (weight sought other ≤ found.weight) × (weight sought other ≡ found.weight → found.stamp ≤ other.stamp)

-- none of these is sought
abbrev pub NoneIn : Sought → List Entry → Type 0
NoneIn sought items = (k : ℕ) (entry : Entry) → slice_get items k ≡ Some entry → is_sought sought entry ≡ false

-- the best of those that are sought
pub record IsBestIn (sought : Sought) (items : List Entry) (found : Found) : Type 0 where
  pub entry : Entry
  pub stands : slice_get items found.at ≡ Some entry
  pub fits : is_sought sought entry ≡ true
  pub is : found ≡ found_at sought found.at entry
  pub best : (k : ℕ) (other : Entry) → slice_get items k ≡ Some other → is_sought sought other ≡ true → Outranks sought found other

-- a request went to its place: after all of no lower priority
pub record IsPutIn (old new : List Entry) (entry : Entry) : Type 0 where
  pub at : ℕ
  pub within : at ≤ length old
  pub inserted : new ≡ insert old at entry
  pub before : (k : ℕ) (other : Entry) → k < at → slice_get old k ≡ Some other → entry.job.priority ≤ other.job.priority
  pub after : (k : ℕ) (other : Entry) → at ≤ k → slice_get old k ≡ Some other → other.job.priority < entry.job.priority

-- the number of a lane's queue: the last one has all lanes from 15 on
abbrev pub queue_of : ℕ → ℕ
queue_of lane = min lane 15

-- a lane's requests, in order
pub record IsQueue (number : ℕ) (queue : Room Entry) : Type 0 where
  pub in_order : InOrder queue.items
  pub own : (k : ℕ) (entry : Entry) → slice_get queue.items k ≡ Some entry → queue_of entry.job.lane ≡ number

-- each queue has those of its lane in order
abbrev pub AreQueues : List (Room Entry) → Type 0
AreQueues queues = (q : ℕ) (queue : Room Entry) → slice_get queues q ≡ Some queue → IsQueue q queue

-- each queue has room for so many requests
abbrev pub HaveRoom : ℕ → List (Room Entry) → Type 0
HaveRoom room queues = (q : ℕ) (queue : Room Entry) → slice_get queues q ≡ Some queue → room ≤ length queue.items + queue.spare

-- sixteen queues with room for so many requests, whose stamps are below a number and differ
pub record AreStamped (room next : ℕ) (queues : List (Room Entry)) : Type 0 where
  pub sixteen : length queues ≡ 16
  pub queued : AreQueues queues
  pub roomy : HaveRoom room queues
  pub distinct : (stamp : ℕ) → length (stamped stamp (entries queues)) ≤ 1
  pub below : (k : ℕ) (entry : Entry) → slice_get (entries queues) k ≡ Some entry → entry.stamp < next

-- the same requests in the same order, with other stamps
pub record IsRenumbered (room next count : ℕ) (old new : List (Room Entry)) : Type 0 where
  pub stamped : AreStamped room count new
  pub requests : requests_of count new ≡ requests_of next old
  pub as_many : length (entries new) ≡ length (entries old)

-- a request's place among the queues
pub record StandsAt (queues : List (Room Entry)) (q at : ℕ) (entry : Entry) : Type 0 where
  pub queue : Room Entry
  pub there : slice_get queues q ≡ Some queue
  pub stands : slice_get queue.items at ≡ Some entry

-- the request at a place has this stamp
pub record HasStamp (queues : List (Room Entry)) (q at stamp : ℕ) : Type 0 where
  pub entry : Entry
  pub stands : StandsAt queues q at entry
  pub is : entry.stamp ≡ stamp

-- the best of those of all queues that are sought
pub record IsBest (sought : Sought) (queues : List (Room Entry)) (spot : Spot) : Type 0 where
  pub entry : Entry
  pub stands : StandsAt queues spot.queue spot.found.at entry
  pub fits : is_sought sought entry ≡ true
  pub is : spot.found ≡ found_at sought spot.found.at entry
  pub best : (k : ℕ) (other : Entry) → slice_get (entries queues) k ≡ Some other → is_sought sought other ≡ true
      → Outranks sought spot.found other

-- a queue took a request in
pub record IsPutAmong (old new : List (Room Entry)) (entry : Entry) : Type 0 where
  pub before : Room Entry
  pub after : Room Entry
  pub there : slice_get old (queue_of entry.job.lane) ≡ Some before
  pub set : new ≡ slice_set old (queue_of entry.job.lane) after
  pub put : IsPutIn before.items after.items entry
  pub room : before.spare ≤ after.spare + 1

-- the request at a place was taken out of its queue
pub record IsTakenFrom (old new : List (Room Entry)) (q at : ℕ) (entry : Entry) : Type 0 where
  pub before : Room Entry
  pub after : Room Entry
  pub there : slice_get old q ≡ Some before
  pub set : new ≡ slice_set old q after
  pub stood : slice_get before.items at ≡ Some entry
  pub items : after.items ≡ remove before.items at
  pub room : after.spare ≡ before.spare + 1

-- the request at a place got another stamp
pub record IsRestamped (old new : List (Room Entry)) (q at stamp : ℕ) (entry : Entry) : Type 0 where
  pub before : Room Entry
  pub after : Room Entry
  pub there : slice_get old q ≡ Some before
  pub set : new ≡ slice_set old q after
  pub stood : slice_get before.items at ≡ Some entry
  pub items : after.items ≡ slice_set before.items at (restamped stamp entry)
  pub room : after.spare ≡ before.spare

-- the better of a place and of what one more queue has
abbrev pub better_spot : Option Spot → ℕ → Option Found → Option Spot
better_spot best number None = best
better_spot None number (Some found) = Some (record { queue = number; found = found })
better_spot (Some best) number (Some found) =
    if is_ahead best.found found then Some best else Some (record { queue = number; found = found })
