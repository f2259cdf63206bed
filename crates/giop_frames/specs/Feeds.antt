-- What a feed answers, by all that was fed so far.
use Rattle.std.specs.Prelude.{ℕ, ◌≡◌, Bool, true, false, List, ◌++◌, Option, Some, None, Result, Ok, Err, flat_map}
use Rattle.orb_base.specs.Room.{Room}
use Rattle.giop_frames.specs.declared.fault.FrameFault.{FrameFault}
use Rattle.giop_frames.specs.declared.fault.FeedFault.{FeedFault}
use Rattle.giop_frames.specs.declared.fault.FeedFault.TheVariants.{Frame, NoMemory}
use Rattle.giop_frames.specs.Messages.{Message}
use Rattle.giop_frames.specs.Stream.{Said, stream}

-- a framer: its limit, all that was fed, whether memory was wanting, and how many bytes it keeps
pub record Feed : Type 0 where
  pub limit : ℕ
  pub fed : List ℕ
  pub lacked : Bool
  pub kept : ℕ

-- what all that was fed says
abbrev pub said : Feed → Said
said f = stream f.limit f.fed

-- the messages that the later stream has and the earlier has not were appended
pub record Adds (f f' : Feed) (whole whole' : List Message) : Type 0 where
  pub new : List Message
  pub says_new : (said f').messages ≡ (said f).messages ++ new
  pub gives : whole' ≡ whole ++ new

-- a prefix of these messages was appended, whatever follows
pub record AddsFront (f f' : Feed) (whole whole' : List Message) : Type 0 where
  pub new : List Message
  pub left : List ℕ → List Message
  pub says_new : (more : List ℕ) → (stream f'.limit (f'.fed ++ more)).messages ≡ (said f).messages ++ (new ++ left more)
  pub gives : whole' ≡ whole ++ new

-- whatever is fed from now on, the stream says the same
abbrev pub IsFinal : Feed → Type 0
IsFinal f = (more : List ℕ) → stream f.limit (f.fed ++ more) ≡ said f

-- the answer of a feed: no fault so far, or the stream's first fault, or out of memory from then on
abbrev pub Tells : Result (Unit {0}) FeedFault → Feed → Feed → List Message → List Message → Type 0
Tells (Ok x) f f' whole whole' = (f.lacked ≡ false) × (f'.lacked ≡ false) × ((said f').bad ≡ None) × Adds f f' whole whole'
Tells (Err (Frame e)) f f' whole whole' =
    (f.lacked ≡ false) × (f'.lacked ≡ false) × ((said f').bad ≡ Some e) × Adds f f' whole whole' × IsFinal f'
Tells (Err NoMemory) f f' whole whole' =
    (f'.lacked ≡ true) × (f.lacked ≡ false → AddsFront f f' whole whole') × (f.lacked ≡ true → whole' ≡ whole)

-- a fault of all that was fed before is answered again, unless memory was wanting
abbrev pub Lasts : Result (Unit {0}) FeedFault → Feed → Type 0
Lasts result f = (e : FrameFault) → f.lacked ≡ false → (said f).bad ≡ Some e → result ≡ Err (Frame e)

-- a prefix of these messages was appended
pub record GivesFront (messages whole whole' : List Message) : Type 0 where
  pub new : List Message
  pub left : List Message
  pub says_new : messages ≡ new ++ left
  pub gives : whole' ≡ whole ++ new

-- what was read of a whole list of feeds: the stream of all of them joined, however they cut it
abbrev pub ReadsStream : Result (Option ℕ) FeedFault → Said → List Message → List Message → Type 0
ReadsStream (Ok rest) s whole whole' = (whole' ≡ whole ++ s.messages) × (s.bad ≡ None) × (rest ≡ s.rest)
ReadsStream (Err (Frame e)) s whole whole' = (whole' ≡ whole ++ s.messages) × (s.bad ≡ Some e)
ReadsStream (Err NoMemory) s whole whole' = GivesFront s.messages whole whole'

-- pieces of a stream joined
abbrev pub joined_feeds : List (Room ℕ) → List ℕ
joined_feeds pieces = flat_map (λ p. p.items) pieces

-- a framer after the first feeds
pub record FedSoFar (limit : ℕ) (fed : List ℕ) (whole : List Message) (f : Feed) (whole' : List Message) : Type 0 where
  pub limit_is : f.limit ≡ limit
  pub fed_is : f.fed ≡ fed
  pub enough : f.lacked ≡ false
  pub sound : (said f).bad ≡ None
  pub gives : whole' ≡ whole ++ (said f).messages
