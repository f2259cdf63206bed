-- A run of several callers over one link: own profile.
use Rattle.std.specs.Prelude.{◌≡◌, ◌⊎◌, ℕ, ◌+◌, true, List, [], ◌∷◌, ◌++◌, Some}
use Rattle.orb_base.specs.Outside.{SourceState, SinkState}
use Rattle.client_mux.specs.declared.heard_reply.HeardReply.{HeardReply}
use Rattle.turn_cell.specs.Good.{entry}
use Rattle.client_mux.specs.declared.why.Why.{Why}
use Rattle.client_mux.specs.declared.why.Why.TheVariants as why
use Rattle.client_mux.specs.declared.call.MuxCall.TheVariants.{Lost}
use Rattle.client_mux.specs.declared.call.MuxReply.TheVariants as answer
use Rattle.client_mux.specs.Machine.{History, opening}
use Rattle.client_mux.specs.Callers.{of, owns}
use Rattle.client_mux.specs.Exchange.{IsLegal, AreFit, first_loss, reply_after_start}
use Rattle.mux_sides.specs.Calling.{IsCall, left_of}
use Rattle.mux_sides.specs.Replying.{HearsReplies, AreArrived}
use Rattle.mux_sides.specs.Sending.{AreGiven, last_of, texts_of, WritesBy}
use Rattle.mux_sides.specs.declared.calling.CallEnd.{CallEnd}
use Rattle.mux_sides.specs.declared.calling.CallEnd.TheVariants as came
use Rattle.mux_sides.specs.declared.writing.WriterEnd.{WriterEnd}
use Rattle.mux_sides.specs.declared.writing.WriterEnd.TheVariants as end
use Rattle.mux_runs.specs.declared.jobs.Asking.{Asking}

-- the entries of the caller with this number are its call, once, which came to this, and then its leaving
pub record CallIn (h : History) (number : ℕ) (asking : Asking) (end : CallEnd) : Type 0 where
  pub entries : History
  pub is_call : IsCall number asking.request asking.due end entries
  pub are : of number h ≡ entries ++ left_of number ∷ []

-- the same of all callers, in order, with the numbers from this one on
abbrev pub CallsIn : History → ℕ → List Asking → List CallEnd → Type 0
CallsIn h first [] [] = Unit {0}
CallsIn h first [] (e ∷ es) = ⊥
CallsIn h first (a ∷ qs) [] = ⊥
CallsIn h first (a ∷ qs) (e ∷ es) = CallIn h first a e × CallsIn h (first + 1) qs es

-- the entries of the writer are what it took, in order, and its last call; what was given to it was written, in order, or a prefix of it
-- up to a failed write or out of memory
pub record SentIn (h : History) (number : ℕ) (end : WriterEnd) (from to : SinkState) : Type 0 where
  pub taken : History
  pub given : AreGiven number taken
  pub are : of number h ≡ taken ++ last_of number end ∷ []
  pub writes : WritesBy end (texts_of taken) from to

-- the entries of the reader are the replies of the bytes that it read, in order, and at last why the link is lost
pub record HeardIn (h : History) (number : ℕ) (why : Why) (from to : SourceState) : Type 0 where
  pub replies : List HeardReply
  pub hears : HearsReplies why replies from to
  pub entries : History
  pub arrived : AreArrived number replies entries
  pub are : of number h ≡ entries ++ entry number (Lost why) answer.Noted ∷ []

-- what came of a call of the caller with this number, by the whole history: a reply is the first of its own id after its start; and a link
-- is gone for the cause that came first
abbrev pub IsOwn : History → ℕ → CallEnd → Type 0
IsOwn h number (came.Reply r) = (id : ℕ) × (owns id (of number h) ≡ true) × (reply_after_start id h ≡ Some r)
IsOwn h number (came.Gone why) = first_loss h ≡ Some why
IsOwn h number came.NoneDue = Unit {0}

-- the same of all callers, with the numbers from this one on
abbrev pub AreOwn : History → ℕ → List CallEnd → Type 0
AreOwn h first [] = Unit {0}
AreOwn h first (e ∷ es) = IsOwn h first e × AreOwn h (first + 1) es

-- the writer's way of coming out loses the link for this cause
abbrev pub LosesFor : WriterEnd → Why → Type 0
LosesFor end.Finished w = ⊥
LosesFor end.WriteFault w = w ≡ why.WriteFault
LosesFor end.NoMemory w = w ≡ why.NoMemory

-- a link is lost for this cause: as the reader says it, or for what became of the writer
abbrev pub IsCause : WriterEnd → Why → Why → Type 0
IsCause write read w = (w ≡ read) ⊎ LosesFor write w

-- the calls of callers, writer and reader are one legal history, and each call in it is one that its seat may make
pub record IsLawful (callers : ℕ) (h : History) : Type 0 where
  pub legal : IsLegal (opening callers) h
  pub fit : AreFit (opening callers) h
