-- Which requests a history offers, and the number of a request: how many were offered before it. Own profile.
use Rattle.std.specs.Prelude.{◌≡◌, ℕ, ◌+◌, ◌==◌, ◌&&◌, Bool, true, if◌then◌else◌, List, [], ◌∷◌, ◌++◌, Some, slice_get}
use Rattle.orb_base.specs.Conn.{same_conn}
use Rattle.orb_base.specs.declared.job.Job.{Job}
use Rattle.lane_machine.specs.declared.call.LaneCall.{LaneCall}
use Rattle.lane_machine.specs.declared.call.LaneCall.TheVariants.{Offer}
use Rattle.lane_machine.specs.Histories.{History}

-- the request that a call offers
abbrev pub offered : LaneCall → List Job
offered (Offer job) = job ∷ []
offered call = []

-- the requests that a history offers, in order
abbrev pub offers : History → List Job
offers [] = []
offers (e ∷ es) = offered e.call ++ offers es

-- two requests of one connection and serial number
abbrev pub same_name : Job → Job → Bool
same_name a b = same_conn a.conn b.conn && (a.serial == b.serial)

-- how many requests come before the first one of this name; all of them where none has it
abbrev pub number : List Job → Job → ℕ
number [] job = 0
number (j ∷ js) job = if same_name j job then 0 else 1 + number js job

-- no two of these requests have one name
abbrev pub NoNameTwice : List Job → Type 0
NoNameTwice jobs = (i k : ℕ) (a b : Job) → slice_get jobs i ≡ Some a → slice_get jobs k ≡ Some b → same_name a b ≡ true → i ≡ k
