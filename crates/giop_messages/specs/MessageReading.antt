-- The reading of a message from left to right, with the first fault that is met: CORBA 3.0.3, section 15.4. The causes and
-- their order are own profile.
use Rattle.std.specs.Prelude.{◌≡◌, ◌-◌, ◌≤◌, ℕ, true, false, List, length, drop, Result, Ok, Err, nat_lt, ◌==◌, if◌then◌else◌}
use Rattle.std.specs.Int.{w8, w16, w32}
use Rattle.cdr_core.specs.Alignment.{pad_len}
use Rattle.cdr_core.specs.Cursor.{Cursor, cursor, Reads}
use Rattle.cdr_core.specs.Reading.{number_at, octets_at, string_at}
use Rattle.cdr_core.specs.Sequence.{Parsed, ◌>>=◌, told_as}
use Rattle.cdr_core.specs.Lists.{item_at, made_at, list_at, tagged_of, context_of}
use Rattle.orb_base.specs.declared.limits.TheConstants.{MAX_MESSAGE}
use Rattle.giop_frames.specs.declared.kind.Kind.TheVariants as kinds
use Rattle.giop_frames.specs.Kinds.{number, is_kind}
use Rattle.giop_frames.specs.Messages as Frames
use Rattle.giop_frames.specs.Pieces.{order_of, has_more, kind_of, piece_len}
use Rattle.giop_frames.specs.Headers.{has_magic, has_version}
use Rattle.giop_messages.specs.declared.message_fault.MessageFault.{MessageFault}
use Rattle.giop_messages.specs.declared.message_fault.MessageFault.TheVariants as faults
use Rattle.orb_base.specs.Tagged.{Context, Tagged}
use Rattle.giop_messages.specs.Message.{Target, key, profile, addressing, Request, Reply, Locate, Located, Message, request, reply, cancel, locate, located, close, error}

-- one unfragmented message, as a framer gives it: its header says so, and counts what is after it
pub record IsMessage (m : Frames.Message) : Type 0 where
  pub long : 12 ≤ length m.bytes
  pub magic : has_magic m.bytes ≡ true
  pub version : has_version m.bytes ≡ true
  pub order : order_of m.bytes ≡ m.order
  pub unfragmented : has_more m.bytes ≡ false
  pub kind : kind_of m.bytes ≡ m.kind
  pub few_kinds : m.kind ≤ number kinds.MessageError
  pub size : piece_len m.bytes ≡ length m.bytes
  pub short : length m.bytes ≤ MAX_MESSAGE

-- a reading of the Common Data Representation
abbrev pub basic : {A : Type 0} → Reads A → Parsed MessageFault A
basic = told_as faults.Cdr

-- profiles after their number
unfoldable pub profiles_at : Cursor → Parsed MessageFault (List Tagged)
profiles_at c = basic (list_at (made_at tagged_of) c)

-- service contexts after their number
unfoldable pub contexts_at : Cursor → Parsed MessageFault (List Context)
contexts_at c = basic (list_at (made_at context_of) c)

-- a key
unfoldable pub key_at : Cursor → Parsed MessageFault Target
key_at c = do
  bytes ← basic (octets_at c)
  Ok (key bytes.0, bytes.1)

-- a profile
unfoldable pub profile_at : Cursor → Parsed MessageFault Target
profile_at c = do
  item ← basic (item_at c)
  Ok (profile (tagged_of item.0), item.1)

-- a reference of which one profile is meant
unfoldable pub addressing_at : Cursor → Parsed MessageFault Target
addressing_at c = do
  index ← basic (number_at w32 c)
  type_id ← basic (string_at index.1)
  profiles ← profiles_at type_id.1
  Ok (addressing index.0 type_id.0 profiles.0, profiles.1)

-- the target of a form that was at the place
unfoldable pub form_at : ℕ → ℕ → Cursor → Parsed MessageFault Target
form_at place form c =
    if form == 0 then key_at c else if form == 1 then profile_at c else if form == 2 then addressing_at c else Err (faults.BadTarget place)

-- a target: its form of two bytes, and what the form says
unfoldable pub target_at : Cursor → Parsed MessageFault Target
target_at c = do
  form ← basic (number_at w16 c)
  form_at (form.1.place - 2) form.0 form.1

-- three reserved octets, of any content
unfoldable pub reserved_at : Cursor → Parsed MessageFault ℕ
reserved_at c = do
  first ← basic (number_at w8 c)
  second ← basic (number_at w8 first.1)
  basic (number_at w8 second.1)

-- the status of a reply, of four bytes
unfoldable pub status_at : Cursor → Parsed MessageFault ℕ
status_at c = do
  status ← basic (number_at w32 c)
  if nat_lt 5 status.0 then Err (faults.BadStatus (status.1.place - 4)) else Ok status

-- the body is what is from the next multiple of 8 on after the place
abbrev pub body_from : ℕ → List ℕ → List ℕ
body_from place bytes = drop (pad_len 8 place) (drop place bytes)

-- the id, the response flags and the target of a request
unfoldable pub asked_at : Cursor → Parsed MessageFault (ℕ × ℕ × Target)
asked_at c = do
  id ← basic (number_at w32 c)
  flags ← basic (number_at w8 id.1)
  reserved ← reserved_at flags.1
  target ← target_at reserved.1
  Ok ((id.0, flags.0, target.0), target.1)

-- a request within the bytes of its message
unfoldable pub request_at : List ℕ → Cursor → Result Request MessageFault
request_at bytes c = do
  asked ← asked_at c
  operation ← basic (string_at asked.1)
  contexts ← contexts_at operation.1
  Ok (record {
    id = asked.0.0;
    flags = asked.0.1;
    target = asked.0.2;
    operation = operation.0;
    contexts = contexts.0;
    body = body_from contexts.1.place bytes;
  })

-- a reply within the bytes of its message
unfoldable pub reply_at : List ℕ → Cursor → Result Reply MessageFault
reply_at bytes c = do
  id ← basic (number_at w32 c)
  status ← status_at id.1
  contexts ← contexts_at status.1
  Ok (record { id = id.0; status = status.0; contexts = contexts.0; body = body_from contexts.1.place bytes })

-- a question where an object is
unfoldable pub locate_at : Cursor → Result Locate MessageFault
locate_at c = do
  id ← basic (number_at w32 c)
  target ← target_at id.1
  Ok (record { id = id.0; target = target.0 })

-- its answer
unfoldable pub located_at : Cursor → Result Located MessageFault
located_at c = do
  id ← basic (number_at w32 c)
  status ← basic (number_at w32 id.1)
  Ok (record { id = id.0; status = status.0 })

-- the id of a request that is given up
unfoldable pub cancel_at : Cursor → Result ℕ MessageFault
cancel_at c = do
  id ← basic (number_at w32 c)
  Ok id.0

-- a value as a message
abbrev pub as_message : {A : Type 0} → (A → Message) → Result A MessageFault → Result Message MessageFault
as_message of (Ok x) = Ok (of x)
as_message of (Err e) = Err e

-- a message of a kind up to 6 that begins at the cursor, within its bytes
unfoldable pub kind_at : ℕ → List ℕ → Cursor → Result Message MessageFault
kind_at kind bytes c =
    if is_kind kinds.Request kind then as_message request (request_at bytes c)
    else if is_kind kinds.Reply kind then as_message reply (reply_at bytes c)
    else if is_kind kinds.CancelRequest kind then as_message cancel (cancel_at c)
    else if is_kind kinds.LocateRequest kind then as_message locate (locate_at c)
    else if is_kind kinds.LocateReply kind then as_message located (located_at c)
    else if is_kind kinds.CloseConnection kind then Ok close
    else Ok error

-- what is after the header of 12 bytes
unfoldable pub message_at : Frames.Message → Result Message MessageFault
message_at m = kind_at m.kind m.bytes (cursor m.order 12 (drop 12 m.bytes))
