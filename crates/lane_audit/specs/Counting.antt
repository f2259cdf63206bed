-- What is owed to each connection, as a table of counts.
use Rattle.std.specs.Prelude.{◌≡◌, ℕ, ◌+◌, ◌*◌, Bool, true, ◌&&◌, nat_lt, List, length, slice_index, Option, Some, None, if◌then◌else◌}
use Rattle.orb_base.specs.Conn.{same_conn}
use Rattle.orb_base.specs.declared.conn_id.ConnId.{ConnId}
use Rattle.orb_base.specs.declared.due.Due.{Due}
use Rattle.orb_base.specs.declared.due.Due.TheVariants as due
use Rattle.lane_machine.specs.State.{State}
use Rattle.lane_machine.specs.Bounds.{IsBounded}
use Rattle.lane_machine.proofs.Bounds.{Bounded}
use Rattle.trace_lines.specs.declared.trace_line.OfferReply.{OfferReply}
use Rattle.trace_lines.specs.declared.trace_line.OfferReply.TheVariants as offer_reply
use Rattle.trace_lines.specs.declared.trace_line.PostReply.{PostReply}
use Rattle.trace_lines.specs.declared.trace_line.PostReply.TheVariants as post_reply
use Rattle.lane_machine.specs.Readiness.{owed}

-- the table has a cell for the connection
abbrev pub in_reach : ConnId → Bool
in_reach conn = nat_lt conn.slot 16 && nat_lt conn.nth 128

-- the cell of a connection
abbrev pub place_of : ConnId → ℕ
place_of conn = 128 * conn.slot + conn.nth

-- what the table says of a connection
abbrev pub cell : List ℕ → ConnId → ℕ
cell table conn = slice_index table (place_of conn)

-- what the table says of a connection, where it has a cell for it
abbrev pub count_in : List ℕ → ConnId → Option ℕ
count_in table conn = if in_reach conn then Some (cell table conn) else None

-- this much for the first connection, and nothing for another
abbrev pub share : ConnId → ConnId → ℕ → ℕ
share conn other n = if same_conn conn other then n else 0

-- one connection's count grew and shrank by so much, and no other changed
pub record Moves (old new : List ℕ) (conn : ConnId) (more less : ℕ) : Type 0 where
  pub each : (c : ConnId) → in_reach c ≡ true → cell new c + share conn c less ≡ cell old c + share conn c more

-- the table says what is owed to each connection that it has a cell for
pub record Counts (s : State) (table : List ℕ) : Type 0 where
  pub each : (c : ConnId) → in_reach c ≡ true → cell table c ≡ owed s c

-- nothing is owed to any
pub record IsClear (table : List ℕ) : Type 0 where
  pub each : (c : ConnId) → in_reach c ≡ true → cell table c ≡ 0

-- so many zeros
pub record AreZeros (table : List ℕ) (n : ℕ) : Type 0 where
  pub many : length table ≡ n
  pub each : (k : ℕ) → slice_index table k ≡ 0

-- a request that was admitted, and the reply that it asks for at once
abbrev pub admitted_brings : Due → ℕ
admitted_brings due.Nothing = 1
admitted_brings due.Early = 2
admitted_brings due.Late = 1

-- the refusal of one that wasn't, where it asks for a reply
abbrev pub refused_brings : Due → ℕ
refused_brings due.Nothing = 0
refused_brings due.Early = 1
refused_brings due.Late = 1

-- how much more is owed to a request's connection after an Offer with this reply: the request, where it was admitted, and what is
-- answered at once
abbrev pub offer_brings : Due → OfferReply → ℕ
offer_brings due (offer_reply.Run t) = admitted_brings due
offer_brings due (offer_reply.Lent t) = admitted_brings due
offer_brings due offer_reply.Kept = admitted_brings due
offer_brings due offer_reply.Full = refused_brings due
offer_brings due offer_reply.Closing = 0

-- how much more after a Post
abbrev pub post_brings : PostReply → ℕ
post_brings post_reply.Posted = 1
post_brings post_reply.Closing = 0

-- how much more is owed to the connection, and how much less, and to each other as much as before
abbrev pub OwesMore : State → State → ConnId → ℕ → ℕ → Type 0
OwesMore s s' conn more less = (c : ConnId) → owed s' c + share conn c less ≡ owed s c + share conn c more

-- the limits hold, and the table says what is owed
pub record IsCounted (s : State) (table : List ℕ) : Type 0 where
  pub few : Bounded s.pool s
  pub bounded : IsBounded s
  pub counts : Counts s table
