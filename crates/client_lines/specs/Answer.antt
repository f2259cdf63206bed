-- Replies as a client sees them: CORBA 3.0.3, section 15.4.3.
use Rattle.std.specs.Prelude.{ℕ, List}
use Rattle.orb_base.specs.declared.order.Order.{Order}

-- the byte order, the status and the body of the reply to a request of the client
pub record Answer : Type 0 where
  pub order : Order
  pub status : ℕ
  pub body : List ℕ
