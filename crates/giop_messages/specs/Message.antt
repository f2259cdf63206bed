-- The messages of GIOP 1.2 as plain data: CORBA 3.0.3, section 15.4.
use Rattle.std.specs.Prelude.{◌≤◌, ◌<◌, ◌+◌, ◌^◌, ℕ, List, length}
use Rattle.std.specs.List.{AllByRecursion}
use Rattle.orb_base.specs.NulFree.{HasNoNul}
use Rattle.giop_frames.specs.declared.kind.Kind.TheVariants as kinds
use Rattle.giop_frames.specs.Kinds.{number}
use Rattle.orb_base.specs.Tagged.{Context, Tagged}
use Rattle.cdr_core.specs.Lists.{FitsTagged, FitsContext, FitsList}

-- the object that a request is for: by the key of its adapter, by a profile, or by a reference of which one profile is
-- meant. Section 15.4.2.1
pub data Target : Type 0 where
  key : List ℕ → Target
  profile : Tagged → Target
  addressing : ℕ → List ℕ → List Tagged → Target

-- a request: section 15.4.2
pub record Request : Type 0 where
  pub id : ℕ
  pub flags : ℕ
  pub target : Target
  pub operation : List ℕ
  pub contexts : List Context
  pub body : List ℕ

-- a reply: section 15.4.3
pub record Reply : Type 0 where
  pub id : ℕ
  pub status : ℕ
  pub contexts : List Context
  pub body : List ℕ

-- a question where an object is: section 15.4.5
pub record Locate : Type 0 where
  pub id : ℕ
  pub target : Target

-- the answer to it: section 15.4.6
pub record Located : Type 0 where
  pub id : ℕ
  pub status : ℕ

-- one message; `cancel` is CancelRequest, `locate` LocateRequest, `located` LocateReply, `close` CloseConnection and
-- `error` MessageError
pub data Message : Type 0 where
  request : Request → Message
  reply : Reply → Message
  cancel : ℕ → Message
  locate : Locate → Message
  located : Located → Message
  close : Message
  error : Message

-- a request of these parts
abbrev pub request_of : ℕ → ℕ → Target → List ℕ → List Context → List ℕ → Message
request_of id flags target operation contexts body =
    request (record { id = id; flags = flags; target = target; operation = operation; contexts = contexts; body = body })

-- a reply of these parts
abbrev pub reply_of : ℕ → ℕ → List Context → List ℕ → Message
reply_of id status contexts body = reply (record { id = id; status = status; contexts = contexts; body = body })

-- the number of a message's kind: section 15.4.1
abbrev pub kind_of : Message → ℕ
kind_of (request _) = number kinds.Request
kind_of (reply _) = number kinds.Reply
kind_of (cancel _) = number kinds.CancelRequest
kind_of (locate _) = number kinds.LocateRequest
kind_of (located _) = number kinds.LocateReply
kind_of close = number kinds.CloseConnection
kind_of error = number kinds.MessageError

-- a text that a string can hold
pub record FitsText (text : List ℕ) : Type 0 where
  pub no_nul : HasNoNul text
  pub short : length text + 1 < 2 ^ 32

-- a target that they can hold
abbrev pub FitsTarget : Target → Type 0
FitsTarget (key bytes) = length bytes < 2 ^ 32
FitsTarget (profile t) = FitsTagged t
FitsTarget (addressing index type_id profiles) =
    (index < 2 ^ 32) × FitsText type_id × (length profiles < 2 ^ 32) × AllByRecursion FitsTagged profiles

-- service contexts that the widths can hold
abbrev pub FitContexts : List Context → Type 0
FitContexts contexts = FitsList FitsContext contexts

-- a request that the widths can hold
pub record FitsRequest (request : Request) : Type 0 where
  pub id : request.id < 2 ^ 32
  pub flags : request.flags < 2 ^ 8
  pub target : FitsTarget request.target
  pub operation : FitsText request.operation
  pub contexts : FitContexts request.contexts

-- a reply that the widths can hold, of one of the six statuses
pub record FitsReply (reply : Reply) : Type 0 where
  pub id : reply.id < 2 ^ 32
  pub status : reply.status ≤ 5
  pub contexts : FitContexts reply.contexts

-- no reply but with one of the six statuses
abbrev pub HasStatus : Message → Type 0
HasStatus (request _) = Unit {0}
HasStatus (reply r) = r.status ≤ 5
HasStatus (cancel _) = Unit {0}
HasStatus (locate _) = Unit {0}
HasStatus (located _) = Unit {0}
HasStatus close = Unit {0}
HasStatus error = Unit {0}

-- a question that they can hold
pub record FitsLocate (locate : Locate) : Type 0 where
  pub id : locate.id < 2 ^ 32
  pub target : FitsTarget locate.target

-- an answer that they can hold
pub record FitsLocated (located : Located) : Type 0 where
  pub id : located.id < 2 ^ 32
  pub status : located.status < 2 ^ 32

-- a message that the widths can hold
abbrev pub Fits : Message → Type 0
Fits (request r) = FitsRequest r
Fits (reply r) = FitsReply r
Fits (cancel id) = id < 2 ^ 32
Fits (locate l) = FitsLocate l
Fits (located l) = FitsLocated l
Fits close = Unit {0}
Fits error = Unit {0}
