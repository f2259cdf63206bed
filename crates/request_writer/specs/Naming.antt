-- Requests under an id.
use Rattle.std.specs.Prelude.{ℕ}
use Rattle.giop_messages.specs.Message.{Request}

-- the request under another id
abbrev pub with_id : ℕ → Request → Request
with_id id r = record r { id = id }
