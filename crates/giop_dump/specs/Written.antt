-- What a dump shows of messages that are written one after the other.
use Rattle.std.specs.Prelude.{◌≡◌, ℕ, ◌+◌, List, [], ◌∷◌, ◌++◌, None, length}
use Rattle.orb_base.specs.declared.limits.TheConstants.{MAX_MESSAGE}
use Rattle.orb_base.specs.declared.order.Order.{Order}
use Rattle.giop_messages.specs.Message.{Message}
use Rattle.giop_messages.specs.Spelling.{spelled}
use Rattle.giop_messages.specs.Written.{written_bytes, whole_at, AreWritten}
use Rattle.giop_dump.specs.Lines.{dump_line}
use Rattle.giop_dump.specs.Ending.{dumped, dump_text, refusal_of}

-- their lines, each with the offset at which its message begins, the first one at this offset
abbrev pub lines_from : ℕ → List (Order × Message) → List ℕ
lines_from at [] = []
lines_from at (m ∷ later) = dump_line (whole_at at m.0 m.1) m.1 ++ lines_from (at + length (spelled m.0 m.1)) later

-- those lines are all that is written of the messages, none is refused, and nothing is left unfinished
abbrev pub ShowsWritten : Type 0
ShowsWritten =
    (messages : List (Order × Message)) → AreWritten MAX_MESSAGE messages
    → (dump_text (written_bytes messages) ≡ lines_from 0 messages) × (refusal_of (dumped (written_bytes messages)) ≡ None)
    × ((dumped (written_bytes messages)).rest ≡ None)
