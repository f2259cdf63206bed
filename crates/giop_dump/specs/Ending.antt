-- What `orb dump` makes of an input, as a function of the bytes that it took: own profile.
use Rattle.std.specs.Prelude.{ℕ, ◌==◌, Bool, List, [], ◌∷◌, ◌++◌, Option, Some, None, Result, Ok, Err, length, option_map, is_some, if◌then◌else◌}
use Rattle.std.specs.Option.{option_or}
use Rattle.orb_base.specs.declared.limits.TheConstants.{MAX_MESSAGE}
use Rattle.giop_frames.specs.declared.fault.FrameFault.{FrameFault}
use Rattle.giop_frames.specs.Messages as Frames
use Rattle.giop_frames.specs.Stream.{Said, stream}
use Rattle.giop_messages.specs.declared.message_fault.MessageFault.{MessageFault}
use Rattle.giop_messages.specs.declared.refused.Fault.{Fault}
use Rattle.giop_messages.specs.declared.refused.Fault.TheVariants.{Frame, Cut}
use Rattle.giop_messages.specs.Causes.{cause_of}
use Rattle.giop_messages.specs.Message.{Message}
use Rattle.giop_messages.specs.MessageReading.{message_at}
use Rattle.giop_dump.specs.declared.refusal.Refusal.{Refusal}
use Rattle.giop_dump.specs.declared.dump_end.DumpEnd.{DumpEnd}
use Rattle.giop_dump.specs.declared.dump_end.DumpEnd.TheVariants.{Done, Refused, Spent}
use Rattle.giop_dump.specs.declared.dump_end.TheConstants.{MAX_DUMPED}
use Rattle.giop_dump.specs.Lines.{dump_line}

-- a fault at an offset
abbrev pub refusal : ℕ → Fault → Refusal
refusal offset fault = record { offset = offset; fault = fault }

-- the line of a whole message, and nothing for one without a reading
abbrev pub line_by : Frames.Message → Result Message MessageFault → List ℕ
line_by whole (Ok message) = dump_line whole message
line_by whole (Err fault) = []

-- why a whole message has no reading, at the offset of the piece that completed it
abbrev pub refusal_by : Frames.Message → Result Message MessageFault → Option Refusal
refusal_by whole (Ok message) = None
refusal_by whole (Err fault) = option_map (refusal whole.at) (cause_of fault)

-- the first refusal among whole messages
unfoldable pub first_refusal : List Frames.Message → Option Refusal
first_refusal [] = None
first_refusal (whole ∷ later) = option_or (refusal_by whole (message_at whole)) (first_refusal later)

-- the lines of the messages before the first one that is refused
unfoldable pub lines_before : List Frames.Message → List ℕ
lines_before [] = []
lines_before (whole ∷ later) =
    if is_some (refusal_by whole (message_at whole)) then [] else line_by whole (message_at whole) ++ lines_before later

-- what a stream breaks, at its offset
abbrev pub broken : FrameFault → Refusal
broken f = refusal f.offset (Frame f.cause)

-- the first refusal of a stream: of a message, or else of a piece, before which the messages are
abbrev pub refusal_of : Said → Option Refusal
refusal_of said = option_or (first_refusal said.messages) (option_map broken said.bad)

-- at the end of an input something may be unfinished
abbrev pub at_end : Option ℕ → DumpEnd
at_end None = Done
at_end (Some offset) = Refused (refusal offset Cut)

-- what the bytes mean
abbrev pub dumped : List ℕ → Said
dumped bytes = stream MAX_MESSAGE bytes

-- all that is written of the bytes
unfoldable pub dump_text : List ℕ → List ℕ
dump_text bytes = lines_before (dumped bytes).messages

-- how a dump of the bytes ends, or none where it goes on to read; `ended` holds where a read has answered the end
unfoldable pub dump_ending : List ℕ → Bool → Option DumpEnd
dump_ending bytes ended =
    option_or (option_map Refused (refusal_of (dumped bytes)))
    (if length bytes == MAX_DUMPED then Some Spent else if ended then Some (at_end (dumped bytes).rest) else None)
