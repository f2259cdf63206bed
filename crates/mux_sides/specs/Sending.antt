-- What the writer of a shared link takes and writes: own profile.
use Rattle.std.specs.Prelude.{◌≡◌, ℕ, Bool, true, false, List, [], ◌∷◌, ◌++◌, Option, Some, None}
use Rattle.std.specs.List.{flat_map}
use Rattle.orb_base.specs.Outside.{SinkState}
use Rattle.orb_base.specs.declared.order.Order.TheVariants.{Big}
use Rattle.giop_messages.specs.Message.{request, cancel}
use Rattle.giop_messages.specs.Spelling.{spelled}
use Rattle.request_writer.specs.Naming.{with_id}
use Rattle.text_streams.specs.Streams.{WroteFrontOf, WritesAll}
use Rattle.text_streams.specs.declared.writing.WriteAll.TheVariants.{Whole, Failed}
use Rattle.turn_cell.specs.Good.{entry}
use Rattle.turn_cell.specs.Seats.{CellView}
use Rattle.client_mux.specs.declared.why.Why.TheVariants as why
use Rattle.client_mux.specs.declared.call.MuxCall.TheVariants.{Next, Lost}
use Rattle.client_mux.specs.declared.call.MuxReply.{MuxReply}
use Rattle.client_mux.specs.declared.call.MuxReply.TheVariants as reply
use Rattle.client_mux.specs.Machine.{Mux, One, History}
use Rattle.client_mux.specs.Callers.{IsShort}
use Rattle.shared_link.specs.Link.{Sitting}
use Rattle.shared_link.specs.Roles.{CanSend}
use Rattle.mux_sides.specs.Entering.{Enters}
use Rattle.mux_sides.specs.declared.writing.WriterEnd.{WriterEnd}
use Rattle.mux_sides.specs.declared.writing.WriterEnd.TheVariants as end

-- what is sent for what a Next was answered, big endian: the request with the call's id, or the cancel of it
abbrev pub text_of : MuxReply → List ℕ
text_of (reply.Send id q) = spelled Big (request (with_id id q))
text_of (reply.Stop id) = spelled Big (cancel id)
text_of r = []

-- the same of each entry, in order
abbrev pub texts_of : History → List ℕ
texts_of entries = flat_map (λ (e : One). text_of e.reply) entries

-- whether something is to be sent
abbrev pub gives : MuxReply → Bool
gives (reply.Send _ _) = true
gives (reply.Stop _) = true
gives r = false

-- each entry is a Next of this seat that gave something
abbrev pub AreGiven : ℕ → History → Type 0
AreGiven number [] = Unit {0}
AreGiven number (e ∷ es) = (e ≡ entry number Next e.reply) × (gives e.reply ≡ true) × AreGiven number es

-- a request that is given is short enough for a message
abbrev pub IsShortReply : MuxReply → Type 0
IsShortReply (reply.Send id q) = IsShort q
IsShortReply r = Unit {0}

-- the writer may go on after this answer, unless nothing is to be sent any more
abbrev pub SendsOn : CellView Mux → MuxReply → Sitting → Type 0
SendsOn cell r new = gives r ≡ true → CanSend cell new

-- bytes were written, or a prefix of them up to a fault
abbrev pub Puts : Option WriterEnd → List ℕ → SinkState → SinkState → Type 0
Puts None bytes from to = WritesAll Whole bytes from to
Puts (Some came) bytes from to = (came ≡ end.WriteFault) × WritesAll Failed bytes from to

-- what came of what is to be sent: all of it was written; or nothing was to be sent; or a write failed; or out of memory nothing was
-- written
abbrev pub Says : Option WriterEnd → MuxReply → SinkState → SinkState → Type 0
Says None r from to = (gives r ≡ true) × WritesAll Whole (text_of r) from to
Says (Some end.Finished) r from to = (r ≡ reply.Finish) × (to ≡ from)
Says (Some end.WriteFault) r from to = (gives r ≡ true) × WritesAll Failed (text_of r) from to
Says (Some end.NoMemory) r from to = (gives r ≡ true) × (to ≡ from)

-- the writer said that the link is lost, where it came out so
abbrev pub LosesBy : WriterEnd → Sitting → Sitting → Type 0
LosesBy end.Finished old new = new ≡ old
LosesBy end.WriteFault old new = Enters (entry old.number (Lost why.WriteFault) reply.Noted ∷ []) old new
LosesBy end.NoMemory old new = Enters (entry old.number (Lost why.NoMemory) reply.Noted ∷ []) old new

-- the writer's last call, with its reply: a Next that was answered that nothing is to be sent any more, or why the link is lost
abbrev pub last_of : ℕ → WriterEnd → One
last_of number end.Finished = entry number Next reply.Finish
last_of number end.WriteFault = entry number (Lost why.WriteFault) reply.Noted
last_of number end.NoMemory = entry number (Lost why.NoMemory) reply.Noted

-- what was written of the texts: all; or a prefix up to a fault, which the count of faults says; or a prefix without a fault
abbrev pub WritesBy : WriterEnd → List ℕ → SinkState → SinkState → Type 0
WritesBy end.Finished bytes from to = WritesAll Whole bytes from to
WritesBy end.WriteFault bytes from to = WritesAll Failed bytes from to
WritesBy end.NoMemory bytes from to = WroteFrontOf bytes from to × (to.faults ≡ from.faults)

-- the writer of a link: by its seat it took what is to be sent, and its last call was made; what was given to it was written, in order, or
-- a prefix of it up to a failed write or out of memory
pub record WritesSide (came : WriterEnd) (old new : Sitting) (from to : SinkState) : Type 0 where
  pub taken : History
  pub given : AreGiven old.number taken
  pub entered : Enters (taken ++ last_of old.number came ∷ []) old new
  pub writes : WritesBy came (texts_of taken) from to
