-- The heads of messages that are written from their parts: CORBA 3.0.3, section 15.4.
use Rattle.std.specs.Prelude.{ℕ, ◌+◌, List, [], ◌∷◌, ◌++◌, length, replicate}
use Rattle.std.specs.Int.{w32}
use Rattle.orb_base.specs.declared.order.Order.{Order}
use Rattle.cdr_core.specs.Alignment.{pad_len}
use Rattle.cdr_core.specs.Encapsulation.{order_byte}
use Rattle.cdr_core.specs.Field.{number_bytes}
use Rattle.giop_messages.specs.Layout.{header}

-- a header with two numbers after it
abbrev pub numbered_head : Order → ℕ → ℕ → ℕ → ℕ → List ℕ
numbered_head order kind size id status =
    header order (order_byte order) kind size ++ number_bytes order w32 id ++ number_bytes order w32 status

-- the head of a reply without contexts before so many bytes
abbrev pub reply_head : Order → ℕ → ℕ → ℕ → List ℕ
reply_head order id status len = numbered_head order 1 (len + 12) id status ++ number_bytes order w32 0

-- a repository id in a body that begins at place 24, with its NUL and the pad before the number after it
abbrev pub padded : List ℕ → List ℕ
padded id = (id ++ (0 ∷ [])) ++ replicate (pad_len 4 (28 + (length id + 1))) 0
