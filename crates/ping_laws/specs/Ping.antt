-- The request for `current` of `Orb::Ping`, which returns the priority at which it runs.
use Rattle.std.specs.Prelude.{ℕ, List, [], codes}
use Rattle.giop_messages.specs.Message.{Request, key}

-- the request of this id for `current` of the object of a key, with a reply due, without contexts and body
abbrev pub ping_request : ℕ → List ℕ → Request
ping_request id object = record { id = id; flags = 3; target = key object; operation = codes "current"; contexts = []; body = [] }
