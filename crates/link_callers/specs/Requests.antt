-- Requests that a shared link takes.
use Rattle.std.specs.Prelude.{◌≡◌, Option, Some, None}
use Rattle.giop_messages.specs.Message.{Message, Request, request}
use Rattle.client_mux.specs.Callers.{IsShort}

-- the request of a message
abbrev pub request_in : Message → Option Request
request_in (request r) = Some r
request_in m = None

-- the message is a request that is short enough, whatever its id is
abbrev pub IsShortRequest : Message → Type 0
IsShortRequest m = (r : Request) × (m ≡ request r) × IsShort r
