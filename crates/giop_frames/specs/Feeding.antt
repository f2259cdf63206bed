-- What a framer keeps between two feeds, by what its stream says of further bytes.
use Rattle.std.specs.Prelude.{ℕ, ◌≡◌, ◌+◌, Bool, true, false, List, ◌++◌, Option, Some, None, length}
use Rattle.giop_frames.specs.declared.fault.FrameFault.{FrameFault}
use Rattle.giop_frames.specs.declared.fault.FeedFault.{FeedFault}
use Rattle.giop_frames.specs.declared.fault.FeedFault.TheVariants.{Frame, NoMemory}
use Rattle.giop_frames.specs.Pieces.{Piece, cut}
use Rattle.giop_frames.specs.Messages.{Partial, unfinished}
use Rattle.giop_frames.specs.Stream.{stream, with_front, rest_of}
use Rattle.giop_frames.specs.Running.{State, says, with_pieces, cut_from}
use Rattle.giop_frames.specs.Joining.{IsResting}

-- what the stream says of further bytes, the machine says of them after the messages so far
pub record Follows (limit : ℕ) (fed : List ℕ) (s : State) : Type 0 where
  pub on : (more : List ℕ) → stream limit (fed ++ more) ≡ with_front (stream limit fed).messages (says s more)
  pub resting : IsResting s
  pub limit_is : s.limit ≡ limit
  pub place : s.at + length s.tail ≡ length fed
  pub came : List Piece
  pub cuts : (more : List ℕ) → cut (length (fed ++ more)) 0 (fed ++ more) ≡ with_pieces came (cut_from s more)
  pub steps : s.partials ≡ unfinished came

-- the stream has its fault, and says nothing of further bytes
pub record Ended (limit : ℕ) (fed : List ℕ) (left : Option ℕ) (f : FrameFault) : Type 0 where
  pub on : (more : List ℕ) → stream limit (fed ++ more) ≡ stream limit fed
  pub bad : (stream limit fed).bad ≡ Some f
  pub rest : (stream limit fed).rest ≡ left

-- a framer between two feeds: it follows its stream, or has ended with a fault, or memory was wanting
abbrev pub IsFramed : ℕ → List ℕ → State → Option ℕ → Option FeedFault → Type 0
IsFramed limit fed s left None = Follows limit fed s
IsFramed limit fed s left (Some (Frame f)) = Ended limit fed left f
IsFramed limit fed s left (Some NoMemory) = left ≡ None

-- what is given as unfinished after a fault: the first of these messages, and nothing once out of memory
abbrev pub left_by : FeedFault → List Partial → Option ℕ
left_by (Frame f) us = rest_of us
left_by NoMemory us = None

-- after a fault nothing is kept
abbrev pub IsEmptied : State → Option FeedFault → Type 0
IsEmptied s None = Unit {0}
IsEmptied s (Some fault) = s.kept ≡ 0

-- memory was wanting
abbrev pub lacks : Option FeedFault → Bool
lacks None = false
lacks (Some (Frame f)) = false
lacks (Some NoMemory) = true
