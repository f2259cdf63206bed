-- What whole, unfragmented bytes mean as a message, in either order: CORBA 3.0.3, section 15.4. Pads and reserved octets
-- may have any content, reserved flag bits any value, and bytes after the named fields of a short kind are ignored.
use Rattle.std.specs.Prelude.{◌≡◌, ◌<◌, ◌+◌, ◌/◌, ◌%◌, ◌^◌, ℕ, List, ◌++◌, length, drop}
use Rattle.orb_base.specs.declared.order.Order.{Order}
use Rattle.cdr_core.specs.Alignment.{pad_len}
use Rattle.cdr_core.specs.Spelling.{IsSpelled}
use Rattle.giop_messages.specs.Message.{Message, Fits, request, reply, cancel, locate, located, close, error, kind_of}
use Rattle.cdr_core.specs.Encapsulation.{order_byte}
use Rattle.giop_messages.specs.Layout.{header, named_fields}

-- the body is what is from the next multiple of 8 on, or empty where no byte is there; `place` is that after
-- the named fields, and `rest` the bytes from there on
abbrev pub HasBody : Message → ℕ → List ℕ → Type 0
HasBody (request r) place rest = r.body ≡ drop (pad_len 8 place) rest
HasBody (reply r) place rest = r.body ≡ drop (pad_len 8 place) rest
HasBody (cancel id) place rest = Unit {0}
HasBody (locate l) place rest = Unit {0}
HasBody (located l) place rest = Unit {0}
HasBody close place rest = Unit {0}
HasBody error place rest = Unit {0}

-- the bytes are this one message in this order
pub record ReadsIn (order : Order) (message : Message) (bytes : List ℕ) : Type 0 where
  pub flags : ℕ
  pub reserved : List ℕ
  pub named : List ℕ
  pub rest : List ℕ
  pub octet : flags < 2 ^ 8
  pub order_bit : flags % 2 ≡ order_byte order
  pub whole : flags / 2 % 2 ≡ 0
  pub three : length reserved ≡ 3
  pub size : length (named ++ rest) < 2 ^ 32
  pub parts : bytes ≡ header order flags (kind_of message) (length (named ++ rest)) ++ (named ++ rest)
  pub fields : IsSpelled order 12 (named_fields reserved message) named
  pub body : HasBody message (12 + length named) rest
  pub fits : Fits message

-- the bytes are this one message
abbrev pub Reads : Message → List ℕ → Type 0
Reads message bytes = (order : Order) × ReadsIn order message bytes
