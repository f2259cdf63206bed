-- What a read does, by what its machine says of further bytes.
use Rattle.std.specs.Prelude.{ℕ, ◌≡◌, ◌+◌, ◌^◌, ◌<◌, ◌≤◌, false, List, ◌++◌, None, Result, Ok, Err, length, take}
use Rattle.orb_base.specs.declared.no_memory.NoMemory.{NoMemory as Lack}
use Rattle.giop_frames.specs.declared.fault.FrameFault.{FrameFault}
use Rattle.giop_frames.specs.declared.fault.FeedFault.{FeedFault}
use Rattle.giop_frames.specs.declared.fault.FeedFault.TheVariants.{Frame, NoMemory}
use Rattle.giop_frames.specs.Pieces.{Piece, is_whole, piece_len}
use Rattle.giop_frames.specs.Messages.{Message, Partial}
use Rattle.giop_frames.specs.Stream.{tail_cause, header_cause, with_front, stopped}
use Rattle.giop_frames.specs.Running.{State, says, stepped_by, with_pieces, cut_from}
use Rattle.giop_frames.specs.Steps.{IsDistinct}
use Rattle.giop_frames.specs.Bounds.{IsBounded, kept_bytes, message_bytes}

-- between two reads: less than a piece has come, and its header, if it is there, breaks no rule; no more is kept than has come
pub record IsResting (s : State) : Type 0 where
  pub few : s.kept ≤ kept_bytes s
  pub part : is_whole s.tail ≡ false
  pub sound : tail_cause s.limit s.tail ≡ None
  pub distinct : IsDistinct s.partials
  pub bounded : IsBounded s.limit s.partials
  pub small : s.limit < 2 ^ 31

-- as much has come as the header, or else the piece, has room for
pub record IsFilled (s : State) : Type 0 where
  pub fits : 12 ≤ length s.tail → length s.tail ≤ piece_len s.tail
  pub distinct : IsDistinct s.partials
  pub bounded : IsBounded s.limit s.partials
  pub small : s.limit < 2 ^ 31

-- a whole piece whose header breaks no rule
pub record IsReady (s : State) : Type 0 where
  pub header : 12 ≤ length s.tail
  pub full : length s.tail ≡ piece_len s.tail
  pub sound : header_cause s.limit s.tail ≡ None
  pub distinct : IsDistinct s.partials
  pub bounded : IsBounded s.limit s.partials
  pub small : s.limit < 2 ^ 31

-- the bytes were read, and these messages given: what the machine said of the bytes and further ones it says of those
pub record Same (whole : List Message) (s : State) (bytes : List ℕ) (whole' : List Message) (s' : State) : Type 0 where
  pub told : List Message
  pub gives : whole' ≡ whole ++ told
  pub on : (more : List ℕ) → says s (bytes ++ more) ≡ with_front told (says s' more)
  pub resting : IsResting s'
  pub limit_is : s'.limit ≡ s.limit
  pub place : s'.at + length s'.tail ≡ s.at + (length s.tail + length bytes)
  pub took : List Piece
  pub cuts : (more : List ℕ) → cut_from s (bytes ++ more) ≡ with_pieces took (cut_from s' more)
  pub steps : s'.partials ≡ stepped_by took s.partials
  pub flows : message_bytes told + s'.kept ≤ s.kept + length bytes

-- the bytes hold a fault, whatever follows
pub record Stops (whole : List Message) (s : State) (bytes : List ℕ) (whole' : List Message) (us : List Partial) (f : FrameFault) : Type 0 where
  pub told : List Message
  pub gives : whole' ≡ whole ++ told
  pub on : (more : List ℕ) → says s (bytes ++ more) ≡ with_front told (stopped us f.offset f.cause)

-- a prefix of the messages was given
pub record Lacks (whole : List Message) (s : State) (bytes : List ℕ) (whole' : List Message) : Type 0 where
  pub told : List Message
  pub left : List ℕ → List Message
  pub gives : whole' ≡ whole ++ told
  pub front : (more : List ℕ) → (says s (bytes ++ more)).messages ≡ told ++ left more

-- a call that fails: the stream stops at this fault, or memory was wanting and a prefix of the messages was given
abbrev pub Fails : FeedFault → List ℕ → State → State → List Message → List Message → Type 0
Fails (Frame f) bytes s s' whole whole' = Stops whole s bytes whole' s'.partials f
Fails NoMemory bytes s s' whole whole' = Lacks whole s bytes whole'

-- a call that takes all the bytes, or fails
abbrev pub Reads : Result (Unit {0}) FeedFault → List ℕ → State → State → List Message → List Message → Type 0
Reads (Ok x) bytes s s' whole whole' = Same whole s bytes whole' s'
Reads (Err fault) bytes s s' whole whole' = Fails fault bytes s s' whole whole'

-- some of the bytes, from the front, were read
pub record Took (n : ℕ) (bytes : List ℕ) (s s' : State) (whole whole' : List Message) : Type 0 where
  pub some : 0 < n
  pub within : n ≤ length bytes
  pub same : Same whole s (take n bytes) whole' s'

-- a call that takes some of the bytes, or fails
abbrev pub Takes : Result ℕ FeedFault → List ℕ → State → State → List Message → List Message → Type 0
Takes (Ok n) bytes s s' whole whole' = Took n bytes s s' whole whole'
Takes (Err fault) bytes s s' whole whole' = Fails fault bytes s s' whole whole'

-- out of memory as a fault of a feed
abbrev pub lifted : Result (Unit {0}) Lack → Result (Unit {0}) FeedFault
lifted (Ok x) = Ok x
lifted (Err e) = Err NoMemory

-- bytes put to what has come of a piece
abbrev pub with_tail : State → List ℕ → State
with_tail s bytes = record { limit = s.limit; at = s.at; tail = s.tail ++ bytes; partials = s.partials; kept = s.kept + length bytes }

-- how many bytes are read at most: what the header lacks, or else no more than the piece lacks
pub record Needs (s : State) (n : ℕ) : Type 0 where
  pub some : 0 < n
  pub header : length s.tail < 12 → length s.tail + n ≡ 12
  pub piece : 12 ≤ length s.tail → length s.tail + n ≤ piece_len s.tail

-- a prefix of the input was read
pub record SoFar (n : ℕ) (input : List ℕ) (whole : List Message) (s : State) (whole' : List Message) (s' : State) : Type 0 where
  pub within : n ≤ length input
  pub same : Same whole s (take n input) whole' s'

-- the input begins with a whole piece of this length, and nothing of it has come before
pub record StandsWhole (has : ℕ) (input : List ℕ) (n : ℕ) : Type 0 where
  pub none : has ≡ 0
  pub header : 12 ≤ length input
  pub len : n ≡ piece_len input
  pub within : n ≤ length input

-- so many bytes of the input are as much as the header, or else the piece, has room for
pub record Fills (s : State) (input : List ℕ) (n : ℕ) : Type 0 where
  pub some : 0 < n
  pub within : n ≤ length input
  pub filled : IsFilled (with_tail s (take n input))
