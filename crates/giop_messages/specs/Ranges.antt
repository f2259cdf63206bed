-- What the types of the program say of a message: numbers of 32 and of 8 bits, and texts without a NUL.
use Rattle.std.specs.Prelude.{◌<◌, ◌^◌}
use Rattle.std.specs.List.{All}
use Rattle.orb_base.specs.NulFree.{HasNoNul}
use Rattle.orb_base.specs.Tagged.{Context, Tagged}
use Rattle.giop_messages.specs.Message.{Target, key, profile, addressing, Message, request, reply, cancel, locate, located, close, error}

-- the tag is a number of 32 bits
abbrev pub HasTag : Tagged → Type 0
HasTag tagged = tagged.tag < 2 ^ 32

-- the id is a number of 32 bits
abbrev pub HasId : Context → Type 0
HasId context = context.id < 2 ^ 32

-- so are the numbers of a target, and its text has no NUL
abbrev pub TargetInRange : Target → Type 0
TargetInRange (key bytes) = Unit {0}
TargetInRange (profile tagged) = HasTag tagged
TargetInRange (addressing index type_id profiles) = (index < 2 ^ 32) × HasNoNul type_id × All HasTag profiles

-- so are those of a message, the flags of 8 bits, and its texts have no NUL
abbrev pub InRange : Message → Type 0
InRange (request r) =
    (r.id < 2 ^ 32) × (r.flags < 2 ^ 8) × TargetInRange r.target × HasNoNul r.operation × All HasId r.contexts
InRange (reply r) = (r.id < 2 ^ 32) × All HasId r.contexts
InRange (cancel id) = id < 2 ^ 32
InRange (locate l) = (l.id < 2 ^ 32) × TargetInRange l.target
InRange (located l) = (l.id < 2 ^ 32) × (l.status < 2 ^ 32)
InRange close = Unit {0}
InRange error = Unit {0}
