-- What one more piece of the input comes to.
use Rattle.std.specs.Prelude.{◌≡◌, ℕ, false, List, ◌++◌, option_map, Option, Some, None, Result, Ok, Err}
use Rattle.std.specs.List.{All}
use Rattle.orb_base.specs.Outside.{SinkState, Rose}
use Rattle.orb_base.specs.declared.no_memory.NoMemory.{NoMemory}
use Rattle.orb_base.specs.declared.limits.TheConstants.{MAX_MESSAGE}
use Rattle.giop_frames.specs.Messages.{Message}
use Rattle.giop_frames.specs.Feeds.{Feed}
use Rattle.giop_messages.specs.MessageReading.{IsMessage}
use Rattle.giop_dump.specs.declared.refusal.Refusal.{Refusal}
use Rattle.giop_dump.specs.declared.dump_end.DumpEnd.{DumpEnd}
use Rattle.giop_dump.specs.declared.dump_end.DumpEnd.TheVariants.{Done, Refused, Spent, ReadFault, WriteFault}
use Rattle.giop_dump.specs.Ending.{broken, dumped, refusal_of, dump_text}
use Rattle.text_streams.specs.Streams.{WroteText, WroteFrontOf}

-- a dump goes on: nothing is refused of what was fed, and memory was not wanting
pub record IsGoing (f : Feed) : Type 0 where
  pub limit_is : f.limit ≡ MAX_MESSAGE
  pub enough : f.lacked ≡ false
  pub sound : refusal_of (dumped f.fed) ≡ None

-- these messages were added, each of which can be read, and the stream breaks this
pub record FeedsOn (f f' : Feed) (messages : List Message) (fault : Option Refusal) : Type 0 where
  pub limit_is : f'.limit ≡ MAX_MESSAGE
  pub enough : f'.lacked ≡ false
  pub messages_are : (dumped f'.fed).messages ≡ (dumped f.fed).messages ++ messages
  pub fault_is : option_map broken (dumped f'.fed).bad ≡ fault
  pub readable : All IsMessage messages

-- this text was added, and the first refusal is this
pub record AddsLines (f f' : Feed) (text : List ℕ) (refusal : Option Refusal) : Type 0 where
  pub limit_is : f'.limit ≡ MAX_MESSAGE
  pub enough : f'.lacked ≡ false
  pub text_is : dump_text f'.fed ≡ dump_text f.fed ++ text
  pub refusal_is : refusal_of (dumped f'.fed) ≡ refusal

-- the text that was added was written
pub record WritesOn (f f' : Feed) (out out' : SinkState) : Type 0 where
  pub text : List ℕ
  pub text_is : dump_text f'.fed ≡ dump_text f.fed ++ text
  pub wrote : WroteText text out out'

-- a prefix of it was written
pub record WritesFront (f f' : Feed) (out out' : SinkState) : Type 0 where
  pub text : List ℕ
  pub text_is : dump_text f'.fed ≡ dump_text f.fed ++ text
  pub wrote : WroteFrontOf text out out'

-- a dump that goes on, or ends; when out of memory nothing was written
abbrev pub DumpsPiece : Result (Option DumpEnd) NoMemory → Feed → Feed → SinkState → SinkState → Type 0
DumpsPiece (Ok None) f f' out out' = IsGoing f' × WritesOn f f' out out' × (out'.faults ≡ out.faults)
DumpsPiece (Ok (Some (Refused r))) f f' out out' =
    (refusal_of (dumped f'.fed) ≡ Some r) × WritesOn f f' out out' × (out'.faults ≡ out.faults)
DumpsPiece (Ok (Some WriteFault)) f f' out out' = Rose out.faults out'.faults × WritesFront f f' out out'
DumpsPiece (Ok (Some Done)) f f' out out' = ⊥
DumpsPiece (Ok (Some Spent)) f f' out out' = ⊥
DumpsPiece (Ok (Some ReadFault)) f f' out out' = ⊥
DumpsPiece (Err _) f f' out out' = out' ≡ out
