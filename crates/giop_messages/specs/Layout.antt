-- The order in which the parts of a message are: CORBA 3.0.3, section 15.4.
use Rattle.std.specs.Prelude.{ℕ, List, [], ◌∷◌, ◌++◌}
use Rattle.std.specs.Int.{w8, w16, w32}
use Rattle.orb_base.specs.declared.order.Order.{Order}
use Rattle.cdr_core.specs.Encapsulation.{order_byte}
use Rattle.cdr_core.specs.Field.{Field, number, run, number_bytes, string_fields, octets_fields}
use Rattle.cdr_core.specs.Lists.{tagged_fields, context_fields, list_fields}
use Rattle.orb_base.specs.Tagged.{Context, Tagged}
use Rattle.giop_frames.specs.Headers.{magic}
use Rattle.giop_messages.specs.Message.{Target, key, profile, addressing, Message, request, reply, cancel, locate, located, close, error}

-- the header of 12 bytes: version 1.2, the flags, the kind, and how many bytes are after it
abbrev pub header : Order → ℕ → ℕ → ℕ → List ℕ
header order flags kind size = magic ++ 1 ∷ 2 ∷ flags ∷ kind ∷ [] ++ number_bytes order w32 size

-- the same as fields at place 0, where bit 0 of the flags is the order's byte and no other bit is set
abbrev pub header_fields : Order → ℕ → ℕ → List Field
header_fields order kind size = run 1 (magic ++ 1 ∷ 2 ∷ order_byte order ∷ kind ∷ []) ∷ number w32 size ∷ []

-- profiles after their number
abbrev pub profiles_fields : List Tagged → List Field
profiles_fields profiles = list_fields tagged_fields profiles

-- a key is form 0, a profile form 1, and a reference form 2
abbrev pub target_fields : Target → List Field
target_fields (key bytes) = number w16 0 ∷ octets_fields bytes
target_fields (profile t) = number w16 1 ∷ tagged_fields t
target_fields (addressing index type_id profiles) =
    number w16 2 ∷ number w32 index ∷ string_fields type_id ++ profiles_fields profiles

-- the service contexts after their number
abbrev pub contexts_fields : List Context → List Field
contexts_fields contexts = list_fields context_fields contexts

-- the named fields of a message, with the three reserved octets of a request
abbrev pub named_fields : List ℕ → Message → List Field
named_fields reserved (request r) =
    number w32 r.id ∷ number w8 r.flags ∷ run 1 reserved ∷ target_fields r.target ++ string_fields r.operation ++ contexts_fields r.contexts
named_fields reserved (reply r) = number w32 r.id ∷ number w32 r.status ∷ contexts_fields r.contexts
named_fields reserved (cancel id) = number w32 id ∷ []
named_fields reserved (locate l) = number w32 l.id ∷ target_fields l.target
named_fields reserved (located l) = number w32 l.id ∷ number w32 l.status ∷ []
named_fields reserved close = []
named_fields reserved error = []

-- a body is at the next multiple of 8, and an empty one nowhere
abbrev pub body_fields : List ℕ → List Field
body_fields [] = []
body_fields (byte ∷ bytes) = run 8 (byte ∷ bytes) ∷ []

-- the body of a message
abbrev pub body_of : Message → List ℕ
body_of (request r) = r.body
body_of (reply r) = r.body
body_of (cancel id) = []
body_of (locate l) = []
body_of (located l) = []
body_of close = []
body_of error = []
