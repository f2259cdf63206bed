-- The one canonical spelling of a message: pads, reserved bits and reserved octets are 0, and nothing is after the
-- named fields and the body. CORBA 3.0.3, section 15.4.
use Rattle.std.specs.Prelude.{ℕ, List, [], ◌∷◌, ◌++◌, length}
use Rattle.orb_base.specs.declared.order.Order.{Order}
use Rattle.cdr_core.specs.Field.{Field}
use Rattle.cdr_core.specs.Spelling.{fields_bytes}
use Rattle.giop_messages.specs.Message.{Message, kind_of}
use Rattle.cdr_core.specs.Encapsulation.{order_byte}
use Rattle.giop_messages.specs.Layout.{header, named_fields, body_fields, body_of}

-- all fields of a message after its header
abbrev pub all_fields : Message → List Field
all_fields message = named_fields (0 ∷ 0 ∷ 0 ∷ []) message ++ body_fields (body_of message)

-- a header of this kind before what is after it
abbrev pub framed : Order → ℕ → List ℕ → List ℕ
framed order kind inner = header order (order_byte order) kind (length inner) ++ inner

-- the spelling of a message
abbrev pub spelled : Order → Message → List ℕ
spelled order message = framed order (kind_of message) (fields_bytes order 12 (all_fields message))
