-- When two requests are alike in all that a trace says.
use Rattle.std.specs.Prelude.{◌≡◌}
use Rattle.trace_lines.specs.declared.trace_line.OfferedRequest.{OfferedRequest}

-- they have one connection, serial number and id
pub record HasSameName (a b : OfferedRequest) : Type 0 where
  pub conn : a.conn ≡ b.conn
  pub serial : a.serial ≡ b.serial
  pub id : a.id ≡ b.id

-- they are alike in when a reply is due, and in priority, lane and size
pub record HasSameDemand (a b : OfferedRequest) : Type 0 where
  pub due : a.due ≡ b.due
  pub priority : a.priority ≡ b.priority
  pub lane : a.lane ≡ b.lane
  pub size : a.size ≡ b.size
