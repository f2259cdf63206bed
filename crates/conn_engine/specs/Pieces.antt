-- What becomes of one read's bytes: own profile.
use Rattle.std.specs.Prelude.{◌≡◌, ◌⊎◌, ℕ, Bool, true, false, List, [], Option, Some, None, Result, Ok, Err}
use Rattle.orb_base.specs.Outside.{SinkState, Rose}
use Rattle.lane_machine.specs.declared.call.LaneCall.{LaneCall}
use Rattle.lane_machine.specs.Histories.{History}
use Rattle.lane_machine.specs.State.{State}
use Rattle.lane_driver.specs.Driving.{Servant, BeganWriting, StoppedWriting}
use Rattle.lane_driver.specs.Feeding.{Fed, feeding}
use Rattle.heard_calls.specs.declared.ending.Ending.{Ending}
use Rattle.conn_engine.specs.Hearers.{Hearer, FeedsOn}
use Rattle.conn_engine.specs.declared.read_end.ReadEnd.TheVariants as read
use Rattle.conn_engine.specs.declared.reading.Reading.{Reading}
use Rattle.conn_engine.specs.declared.reading.Reading.TheVariants.{Over, Closing, Stopped}

-- how the reading came out with a piece whose calls were made, if it did: a limit of the run was met, or the bytes ended it
abbrev pub out_of : Bool → Option Ending → Option Reading
out_of true ending = Some Closing
out_of false (Some ending) = Some (Over (read.Ended ending))
out_of false None = None

-- one piece more was heard, with this ending, and its calls were made
pub record RanPiece (batch : ℕ) (outcome : Servant) (h h' : Hearer) (piece : List ℕ) (ending : Option Ending) (s s' : State) (room room' : ℕ)
    (log log' : Option History) (out out' : SinkState) : Type 0 where
  pub calls : List LaneCall
  pub feeds : FeedsOn h h' piece calls ending
  pub fed : Fed batch outcome s s' room room' calls [] log log' out out'

-- one piece more was heard, and its calls were made up to a failed write
pub record StoppedPiece (batch : ℕ) (outcome : Servant) (h h' : Hearer) (piece : List ℕ) (s : State) (room : ℕ)
    (log log' : Option History) (out out' : SinkState) : Type 0 where
  pub calls : List LaneCall
  pub ending : Option Ending
  pub feeds : FeedsOn h h' piece calls ending
  pub stopped : StoppedWriting (feeding batch room calls) outcome s log log' out out'
  pub rose : Rose out.faults out'.faults

-- one piece more was heard, and making its calls was begun
pub record BegunPiece (batch : ℕ) (outcome : Servant) (h h' : Hearer) (piece : List ℕ) (s : State) (room : ℕ) (out out' : SinkState) : Type 0 where
  pub calls : List LaneCall
  pub ending : Option Ending
  pub feeds : FeedsOn h h' piece calls ending
  pub began : BeganWriting (feeding batch room calls) outcome s out out'

-- what became of a piece: the reading goes on, or it came out so; when out of memory nothing was written, or what of its calls was made
abbrev pub RunsPiece : {E : Type 0} → Result (Option Reading) E → ℕ → Servant → Hearer → Hearer → List ℕ → State → State → ℕ → ℕ
    → Option History → Option History → SinkState → SinkState → Type 0
RunsPiece (Ok None) batch outcome h h' piece s s' room room' log log' out out' =
    RanPiece batch outcome h h' piece None s s' room room' log log' out out' × (s'.closing ≡ false)
RunsPiece (Ok (Some (Over (read.Ended ending)))) batch outcome h h' piece s s' room room' log log' out out' =
    RanPiece batch outcome h h' piece (Some ending) s s' room room' log log' out out' × (s'.closing ≡ false)
RunsPiece (Ok (Some (Over read.Spent))) batch outcome h h' piece s s' room room' log log' out out' = ⊥
RunsPiece (Ok (Some (Over read.ReadFault))) batch outcome h h' piece s s' room room' log log' out out' = ⊥
RunsPiece (Ok (Some Closing)) batch outcome h h' piece s s' room room' log log' out out' =
    ((ending : Option Ending) × RanPiece batch outcome h h' piece ending s s' room room' log log' out out') × (s'.closing ≡ true)
RunsPiece (Ok (Some Stopped)) batch outcome h h' piece s s' room room' log log' out out' =
    StoppedPiece batch outcome h h' piece s room log log' out out'
RunsPiece (Err _) batch outcome h h' piece s s' room room' log log' out out' =
    (out' ≡ out) ⊎ BegunPiece batch outcome h h' piece s room out out'
