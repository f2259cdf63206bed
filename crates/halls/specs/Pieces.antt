-- What becomes of one read's bytes in a hall.
use Rattle.std.specs.Prelude.{◌≡◌, ℕ, List, Option, Some, None}
use Rattle.orb_base.specs.declared.order.Order.{Order}
use Rattle.giop_messages.specs.Message.{Message}
use Rattle.heard_messages.specs.Hearers as Hearers
use Rattle.heard_messages.specs.Hearers.{FeedsOn}
use Rattle.heard_messages.specs.declared.means.Means.{Means}
use Rattle.heard_messages.specs.declared.read_end.ReadEnd.{ReadEnd}
use Rattle.halls.specs.Meaning as Meaning
use Rattle.halls.specs.Calls.{Takes}
use Rattle.halls.specs.Steps.{Making}
use Rattle.halls.specs.declared.call.HallCall.{HallCall}
use Rattle.halls.specs.declared.ends.HallRead.{HallRead}
use Rattle.halls.specs.declared.ends.HallRead.TheVariants as read
use Rattle.halls.specs.declared.ends.Took.{Took}
use Rattle.halls.specs.declared.ends.Took.TheVariants as took

-- what is settled before the first message: nothing
abbrev pub first : Meaning.Hearer → Unit {0}
first judge = tt

-- what a message means to who hears
abbrev pub means : Meaning.Hearer → Unit {0} → ℕ → Order → ℕ → Message → Means (Unit {0}) HallCall → Type 0
means judge = Meaning.means judge.setup judge.conn

-- the reading side of a connection of a hall
abbrev pub Heard : Type 0
Heard = Hearers.Hearer Meaning.Hearer (Unit {0}) HallCall

-- how the reading came out with a piece, if it did
abbrev pub out_of : Took → Option ReadEnd → Option HallRead
out_of took.RunClosed ending = Some read.RunClosed
out_of took.Stopped ending = Some read.Stopped
out_of took.All (Some end) = Some (read.Read end)
out_of took.All None = None

-- one piece more was heard, with this ending, and of its calls this was made
pub record FeedsAndTakes (took : Took) (h h' : Heard) (piece : List ℕ) (ending : Option ReadEnd) (old new : Making) : Type 0 where
  pub calls : List HallCall
  pub feeds : FeedsOn first means h h' piece calls ending
  pub takes : Takes took calls old new

-- what became of a piece: the reading goes on, or it came out so
abbrev pub TakesPiece : Option HallRead → Heard → Heard → List ℕ → Making → Making → Type 0
TakesPiece None h h' piece old new = FeedsAndTakes took.All h h' piece None old new
TakesPiece (Some (read.Read end)) h h' piece old new = FeedsAndTakes took.All h h' piece (Some end) old new
TakesPiece (Some read.RunClosed) h h' piece old new = (ending : Option ReadEnd) × FeedsAndTakes took.RunClosed h h' piece ending old new
TakesPiece (Some read.NoMemory) h h' piece old new = new ≡ old
TakesPiece (Some read.Stopped) h h' piece old new = (ending : Option ReadEnd) × FeedsAndTakes took.Stopped h h' piece ending old new
