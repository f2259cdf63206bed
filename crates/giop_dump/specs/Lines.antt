-- The lines that `orb dump` prints, one for each message: own profile.
use Rattle.std.specs.Prelude.{ℕ, List, [], ◌++◌, length, codes}
use Rattle.std.specs.Fmt.{decimal}
use Rattle.orb_base.specs.declared.order.Order.{Order}
use Rattle.orb_base.specs.declared.order.Order.TheVariants.{Big, Little}
use Rattle.orb_base.specs.Tagged.{Context}
use Rattle.giop_frames.specs.Messages as Frames
use Rattle.giop_messages.specs.Message.{Target, key, profile, addressing, Message, request, reply, cancel, locate, located, close, error}
use Rattle.text_streams.specs.Shown.{shown}

-- the name of a message's kind: CORBA 3.0.3, section 15.4.1
abbrev pub kind_name : Message → List ℕ
kind_name (request _) = codes "Request"
kind_name (reply _) = codes "Reply"
kind_name (cancel _) = codes "CancelRequest"
kind_name (locate _) = codes "LocateRequest"
kind_name (located _) = codes "LocateReply"
kind_name close = codes "CloseConnection"
kind_name error = codes "MessageError"

-- the byte order
abbrev pub order_name : Order → List ℕ
order_name Big = codes "big"
order_name Little = codes "little"

-- the object that a message is for: its key, or else the form in which it is
abbrev pub target_text : Target → List ℕ
target_text (key octets) = codes "key " ++ shown octets
target_text (profile _) = codes "profile"
target_text (addressing _ _ _) = codes "addressing"

-- how many service contexts a message has, and how many octets its body has
abbrev pub counts_text : List Context → List ℕ → List ℕ
counts_text contexts body = codes " contexts " ++ decimal (length contexts) ++ codes " body " ++ decimal (length body)

-- the fields of a message
abbrev pub fields_text : Message → List ℕ
fields_text (request r) =
    codes " id " ++ decimal r.id ++ codes " flags " ++ decimal r.flags ++ codes " " ++ target_text r.target
    ++ codes " op " ++ shown r.operation ++ counts_text r.contexts r.body
fields_text (reply r) = codes " id " ++ decimal r.id ++ codes " status " ++ decimal r.status ++ counts_text r.contexts r.body
fields_text (cancel id) = codes " id " ++ decimal id
fields_text (locate l) = codes " id " ++ decimal l.id ++ codes " " ++ target_text l.target
fields_text (located l) = codes " id " ++ decimal l.id ++ codes " status " ++ decimal l.status
fields_text close = []
fields_text error = []

-- what is before them: the offset of the piece that completed the message, its kind, its byte order, and how many octets
-- it has with its header
abbrev pub head_text : Frames.Message → Message → List ℕ
head_text whole message =
    decimal whole.at ++ codes " " ++ kind_name message ++ codes " " ++ order_name whole.order
    ++ codes " " ++ decimal (length whole.bytes)

-- the line of a whole message
abbrev pub dump_line : Frames.Message → Message → List ℕ
dump_line whole message = head_text whole message ++ fields_text message ++ codes "\n"
