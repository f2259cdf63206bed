-- The first fault of a message's header: each part before it has a reading, and the part there has none. CORBA 3.0.3,
-- section 15.4. The causes and their order are own profile.
use Rattle.std.specs.Prelude.{◌≡◌, ◌≤◌, ◌<◌, ℕ, List, [], ◌∷◌, ◌⊎◌, drop, if◌then◌else◌}
use Rattle.std.specs.Int.{w8, w16, w32}
use Rattle.cdr_core.specs.declared.fault.CdrFault.{CdrFault}
use Rattle.cdr_core.specs.Field.{number}
use Rattle.cdr_core.specs.Cursor.{Cursor, cursor, aligned}
use Rattle.cdr_core.specs.Basic.{BasicType, integer, octet_sequence, string, unsigned}
use Rattle.cdr_core.specs.Passing.{Spans, Passes, Fails}
use Rattle.cdr_core.specs.FirstFault.{Stands, FailsIn, item, FailsList}
use Rattle.giop_frames.specs.declared.kind.Kind.TheVariants as kinds
use Rattle.giop_frames.specs.Kinds.{is_kind}
use Rattle.giop_frames.specs.Messages as Frames
use Rattle.giop_messages.specs.declared.message_fault.MessageFault.{MessageFault}
use Rattle.giop_messages.specs.declared.message_fault.MessageFault.TheVariants as faults
use Rattle.orb_base.specs.Tagged.{Context}
use Rattle.giop_messages.specs.Message.{Target, FitsTarget, FitContexts}
use Rattle.cdr_core.specs.Lists.{tagged_fields, FitsTagged, context_fields, FitsContext}
use Rattle.giop_messages.specs.Layout.{target_fields, contexts_fields}

-- the fault is one of the Common Data Representation, for which this holds
abbrev pub TellsCdr : (CdrFault → Type 0) → MessageFault → Type 0
TellsCdr Bad fault = (f : CdrFault) × Bad f × (fault ≡ faults.Cdr f)

-- no value of the basic type is there, and this is why
abbrev pub FailsBasic : BasicType → Cursor → MessageFault → Type 0
FailsBasic kind c fault = TellsCdr (Fails c kind) fault

-- ---- targets

-- a target's form above 2 is there
pub record HasBadForm (c : Cursor) (fault : MessageFault) : Type 0 where
  pub form : ℕ
  pub behind : Cursor
  pub passes : Passes c behind (unsigned w16 form)
  pub high : 2 < form
  pub told : fault ≡ faults.BadTarget (aligned 2 c.place)

-- a reference of which one profile is meant fails: its index, its repository id, or its profiles
abbrev pub FailsReference : Cursor → MessageFault → Type 0
FailsReference c fault =
    TellsCdr (FailsIn (integer w32 ∷ string ∷ []) c) fault
    ⊎ ((d : Cursor) × (e : Cursor) × Stands (integer w32) c d × Stands string d e
    × TellsCdr (FailsList tagged_fields FitsTagged (FailsIn item) e) fault)

-- what is after a form fails: a key, a profile, or a reference
abbrev pub FailsBehind : ℕ → Cursor → MessageFault → Type 0
FailsBehind form c fault =
    ((form ≡ 0) × FailsBasic octet_sequence c fault) ⊎ ((form ≡ 1) × TellsCdr (FailsIn item c) fault)
    ⊎ ((form ≡ 2) × FailsReference c fault)

-- no target is there, and this is why
abbrev pub FailsTarget : Cursor → MessageFault → Type 0
FailsTarget c fault =
    FailsBasic (integer w16) c fault ⊎ HasBadForm c fault
    ⊎ ((form : ℕ) × (d : Cursor) × Passes c d (unsigned w16 form) × FailsBehind form d fault)

-- ---- headers

-- a reply's status above 5 is there
pub record HasBadStatus (c : Cursor) (fault : MessageFault) : Type 0 where
  pub status : ℕ
  pub behind : Cursor
  pub passes : Passes c behind (unsigned w32 status)
  pub high : 5 < status
  pub told : fault ≡ faults.BadStatus (aligned 4 c.place)

-- a part of a header
pub data Part : Type 0 where
  basic : BasicType → Part
  target status contexts : Part

-- such a part is between two cursors
abbrev pub StandsAs : Part → Cursor → Cursor → Type 0
StandsAs (basic kind) c d = Stands kind c d
StandsAs target c d = (t : Target) × FitsTarget t × Spans c d (target_fields t)
StandsAs status c d = (n : ℕ) × (n ≤ 5) × Spans c d (number w32 n ∷ [])
StandsAs contexts c d = (list : List Context) × FitContexts list × Spans c d (contexts_fields list)

-- no such part is there, and this is why
abbrev pub FailsAs : Part → Cursor → MessageFault → Type 0
FailsAs (basic kind) c fault = FailsBasic kind c fault
FailsAs target c fault = FailsTarget c fault
FailsAs status c fault = FailsBasic (integer w32) c fault ⊎ HasBadStatus c fault
FailsAs contexts c fault = TellsCdr (FailsList context_fields FitsContext (FailsIn item) c) fault

-- parts are there one after the other, up to one that fails
abbrev pub FailsAmong : List Part → Cursor → MessageFault → Type 0
FailsAmong [] c fault = ⊥
FailsAmong (part ∷ parts) c fault = FailsAs part c fault ⊎ ((d : Cursor) × StandsAs part c d × FailsAmong parts d fault)

-- an octet
abbrev pub octet : Part
octet = basic (integer w8)

-- a number of four bytes
abbrev pub long : Part
long = basic (integer w32)

-- the header of a request: its id, its response flags, three reserved octets, its target, its operation, its contexts
abbrev pub request_parts : List Part
request_parts = long ∷ octet ∷ octet ∷ octet ∷ octet ∷ target ∷ basic string ∷ contexts ∷ []

-- the parts of the header of each kind, after the first 12 bytes
abbrev pub parts_of : ℕ → List Part
parts_of kind =
    if is_kind kinds.Request kind then request_parts
    else if is_kind kinds.Reply kind then long ∷ status ∷ contexts ∷ []
    else if is_kind kinds.CancelRequest kind then long ∷ []
    else if is_kind kinds.LocateRequest kind then long ∷ target ∷ []
    else if is_kind kinds.LocateReply kind then long ∷ long ∷ []
    else []

-- the header of a message has no reading, and this is its first fault
abbrev pub Refuses : Frames.Message → MessageFault → Type 0
Refuses m fault = FailsAmong (parts_of m.kind) (cursor m.order 12 (drop 12 m.bytes)) fault
