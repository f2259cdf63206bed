-- What becomes of the bytes of a piece as they come. It is judged once its first 16 bytes are there, or all of a shorter one, since they
-- have all that it is judged by.
use Rattle.std.specs.Prelude.{ℕ, ◌≡◌, ◌≤◌, ◌+◌, ◌==◌, ◌⊎◌, true, false, List, ◌++◌, Option, Some, None, Result, Ok, Err, insert, length, take, drop}
use Rattle.giop_frames.specs.declared.fault.FrameCause.{FrameCause}
use Rattle.giop_frames.specs.declared.fault.FrameFault.{FrameFault}
use Rattle.giop_frames.specs.declared.fault.FeedFault.{FeedFault}
use Rattle.giop_frames.specs.declared.fault.FeedFault.TheVariants.{Frame, NoMemory}
use Rattle.giop_frames.specs.declared.opened.Joining.{Joining}
use Rattle.giop_frames.specs.declared.opened.Filling.{Filling}
use Rattle.giop_frames.specs.declared.opened.Filling.TheVariants.{Own, Joins, Breaks}
use Rattle.giop_frames.specs.declared.opened.Opened.{Opened}
use Rattle.giop_frames.specs.declared.opened.Coming.{Coming}
use Rattle.giop_frames.specs.declared.opened.Coming.TheVariants.{Head, Open}
use Rattle.giop_frames.specs.declared.opened.Here.{Here}
use Rattle.giop_frames.specs.Pieces.{piece_len, kind_of, id_of, is_whole}
use Rattle.giop_frames.specs.Headers.{BeginsWith, header_at}
use Rattle.giop_frames.specs.Messages.{Partial, Message, is_fragment, open_at}
use Rattle.giop_frames.specs.Stream.{header_cause, tail_cause, piece_rule, piece_cause}
use Rattle.giop_frames.specs.Running.{State}
use Rattle.giop_frames.specs.Steps.{Does}
use Rattle.giop_frames.specs.Bounds.{held}

-- the rule that the piece breaks
abbrev pub verdict : Filling → Option FrameCause
verdict (Own bytes) = None
verdict (Joins joining) = None
verdict (Breaks cause) = Some cause

-- the message that a Fragment joins, without the bytes of that Fragment
abbrev pub own_part : Joining → Partial
own_part j = record { at = j.message.at; id = j.message.id; order = j.message.order; bytes = take j.own j.message.bytes }

-- the unfinished messages, by those that are kept beside the one that a Fragment joins
abbrev pub all_of : Filling → List Partial → List Partial
all_of (Own bytes) us = us
all_of (Joins j) us = insert us j.place (own_part j)
all_of (Breaks cause) us = us

-- the bytes of a Fragment after its id are after those of the message of its id
pub record JoinsSo (j : Joining) (tail : List ℕ) (us : List Partial) : Type 0 where
  pub place : j.place ≤ length us
  pub own : j.own ≤ length j.message.bytes
  pub joined : drop j.own j.message.bytes ≡ drop 16 tail
  pub kind : j.kind ≡ kind_of (take j.own j.message.bytes)
  pub same : (j.message.id == id_of tail) ≡ true
  pub before : open_at (id_of tail) (take j.place us) ≡ None
  pub fragment : is_fragment tail ≡ true

-- where the bytes of the piece are
abbrev pub FillsSo : Filling → List ℕ → List Partial → Type 0
FillsSo (Own bytes) tail us = (bytes.items ≡ tail) × (is_fragment tail ≡ false)
FillsSo (Joins j) tail us = JoinsSo j tail us
FillsSo (Breaks cause) tail us = Unit {0}

-- a piece of which these bytes have come, beside these messages, was judged by its first 16 bytes
pub record IsOpened (limit : ℕ) (o : Opened) (tail : List ℕ) (us : List Partial) : Type 0 where
  pub begins : BeginsWith o.header tail
  pub header : header_at tail ≡ Ok o.header
  pub sound : header_cause limit tail ≡ None
  pub long : 16 ≤ length tail
  pub judged : piece_rule limit (all_of o.filling us) (piece_len tail) (id_of tail) (Ok o.header) ≡ verdict o.filling
  pub fills : FillsSo o.filling tail us

-- these bytes of the next piece have come
abbrev pub ComesSo : ℕ → Coming → List ℕ → List Partial → Type 0
ComesSo limit (Head head) tail us = head.items ≡ tail
ComesSo limit (Open o) tail us = IsOpened limit o tail us

-- the unfinished messages
abbrev pub partials_of : Coming → List Partial → List Partial
partials_of (Head head) us = us
partials_of (Open o) us = all_of o.filling us

-- how many bytes are kept: of a piece that breaks a rule, and of a Fragment beside what it adds to its message, the first 16
abbrev pub kept_by : Filling → List Partial → ℕ
kept_by (Own bytes) us = length bytes.items + held us
kept_by (Joins j) us = 16 + (length j.message.bytes + held us)
kept_by (Breaks cause) us = 16 + held us

-- the same, whatever has come of the piece
abbrev pub kept_of : Coming → List Partial → ℕ
kept_of (Head head) us = length head.items + held us
kept_of (Open o) us = kept_by o.filling us

-- so many bytes of a piece have come, and all of them are kept
abbrev pub at_head : Here → List ℕ → List Partial → State
at_head here tail us = record { limit = here.limit; at = here.at; tail = tail; partials = us; kept = length tail + held us }

-- the piece that has come is whole, breaks no rule, and does what it does
pub record IsTaken (t : State) (us' : List Partial) (whole whole' : List Message) : Type 0 where
  pub header : 12 ≤ length t.tail
  pub full : length t.tail ≡ piece_len t.tail
  pub sound : header_cause t.limit t.tail ≡ None
  pub passes : piece_cause t.limit t.partials t.tail ≡ None
  pub does : Does (record { at = t.at; bytes = t.tail }) t.partials us' whole whole'
  pub few : length t.tail + held t.partials ≤ t.kept

-- the piece that has come is whole, has a header, and breaks this rule
pub record BreaksWhole (t : State) (cause : FrameCause) : Type 0 where
  pub full : length t.tail ≡ piece_len t.tail
  pub sound : header_cause t.limit t.tail ≡ None
  pub breaks : piece_cause t.limit t.partials t.tail ≡ Some cause

-- its header breaks this rule, or the whole piece does; nothing was done
pub record IsRefused (t : State) (us' : List Partial) (whole whole' : List Message) (f : FrameFault) : Type 0 where
  pub offset : f.offset ≡ t.at
  pub same : us' ≡ t.partials
  pub gives : whole' ≡ whole
  pub header : 12 ≤ length t.tail
  pub why : (header_cause t.limit t.tail ≡ Some f.cause) ⊎ BreaksWhole t f.cause

-- the piece is refused, or memory was wanting
abbrev pub FailsOn : FeedFault → State → List Partial → List Message → List Message → Type 0
FailsOn (Frame f) t us' whole whole' = IsRefused t us' whole whole' f
FailsOn NoMemory t us' whole whole' = whole' ≡ whole

-- a whole piece is taken, or the call fails
abbrev pub TakesPiece : Result (Unit {0}) FeedFault → State → List Partial → List Message → List Message → Type 0
TakesPiece (Ok x) t us' whole whole' = IsTaken t us' whole whole'
TakesPiece (Err fault) t us' whole whole' = FailsOn fault t us' whole whole'

-- more of the piece has to come
pub record GoesOn (c : Coming) (t : State) (us' : List Partial) (whole whole' : List Message) : Type 0 where
  pub comes : ComesSo t.limit c t.tail us'
  pub same : partials_of c us' ≡ t.partials
  pub gives : whole' ≡ whole
  pub few : kept_of c us' ≤ t.kept
  pub all : kept_of c us' ≤ length t.tail + held t.partials
  pub part : is_whole t.tail ≡ false
  pub sound : tail_cause t.limit t.tail ≡ None

-- more of the piece has to come, or it is taken, or the call fails
abbrev pub Advances : Result (Option Coming) FeedFault → State → List Partial → List Message → List Message → Type 0
Advances (Ok (Some c)) t us' whole whole' = GoesOn c t us' whole whole'
Advances (Ok None) t us' whole whole' = IsTaken t us' whole whole'
Advances (Err fault) t us' whole whole' = FailsOn fault t us' whole whole'

-- a piece was judged, of which this has come
pub record Opens (o : Opened) (t : State) (us' : List Partial) : Type 0 where
  pub is : IsOpened t.limit o t.tail us'
  pub same : all_of o.filling us' ≡ t.partials
  pub few : kept_by o.filling us' ≤ length t.tail + held t.partials

-- the message of a Fragment's id was taken out, and what has come of the Fragment put to it
pub record JoinsTo (j : Joining) (bytes : List ℕ) (us us' : List Partial) : Type 0 where
  pub joins : JoinsSo j bytes us'
  pub same : insert us' j.place (own_part j) ≡ us
  pub few : 16 + (length j.message.bytes + held us') ≤ length bytes + held us

-- what becomes of a piece that breaks no rule, of which these bytes have come
pub record FillsFrom (f : Filling) (bytes : List ℕ) (us us' : List Partial) : Type 0 where
  pub fills : FillsSo f bytes us'
  pub same : all_of f us' ≡ us
  pub few : kept_by f us' ≤ length bytes + held us
  pub sound : verdict f ≡ None

-- the same, with more bytes
abbrev pub MoreOf : Filling → List ℕ → Filling → Type 0
MoreOf (Own a) bytes (Own b) = b.items ≡ a.items ++ bytes
MoreOf (Joins j) bytes (Joins k) = k ≡ record j { message = record j.message { bytes = j.message.bytes ++ bytes } }
MoreOf (Breaks c) bytes (Breaks d) = d ≡ c
MoreOf f bytes g = ⊥

-- more bytes of a piece that was judged have come
abbrev pub at_opened : Here → Opened → List ℕ → List ℕ → List Partial → State
at_opened here o tail bytes us =
    record { limit = here.limit; at = here.at; tail = tail ++ bytes; partials = all_of o.filling us; kept = kept_by o.filling us + length bytes }

-- more bytes of a piece have come
abbrev pub at_coming : Here → Coming → List ℕ → List ℕ → List Partial → State
at_coming here c tail bytes us =
    record { limit = here.limit; at = here.at; tail = tail ++ bytes; partials = partials_of c us; kept = kept_of c us + length bytes }

-- a framer of which this has come
abbrev pub at_rest : Here → Coming → List ℕ → List Partial → State
at_rest here c tail us = record { limit = here.limit; at = here.at; tail = tail; partials = partials_of c us; kept = kept_of c us }
