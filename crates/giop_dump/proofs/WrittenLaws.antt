-- What is written is shown.
use Rattle.std.proofs.Common.{◌≡◌, ℕ, ◌+◌, List, [], ◌∷◌, ◌++◌, length, Option, None, Result, refl, ap, ◌∙◌, arith}
use Rattle.std.specs.Prelude.{is_some, if◌then◌else◌}
use Rattle.std.specs.Option.{option_or}
use Rattle.orb_base.specs.declared.limits.TheConstants.{MAX_MESSAGE}
use Rattle.orb_base.specs.declared.order.Order.{Order}
use Rattle.giop_frames.specs.Stream.{Said}
use Rattle.giop_messages.specs.declared.message_fault.MessageFault.{MessageFault}
use Rattle.giop_messages.specs.Message.{Message}
use Rattle.giop_messages.specs.Spelling.{spelled}
use Rattle.giop_messages.specs.Written.{written_bytes, whole_at, wholes_from, AreWritten}
use Rattle.giop_messages.proofs.Written.{streams_written, reads_written}
use Rattle.giop_dump.specs.declared.refusal.Refusal.{Refusal}
use Rattle.giop_dump.specs.Lines.{dump_line}
use Rattle.giop_dump.specs.Ending.{line_by, refusal_by, first_refusal, lines_before, refusal_of, dumped, dump_text}
use Rattle.giop_dump.specs.Written.{lines_from, ShowsWritten}

lines_so : (at : ℕ) (messages : List (Order × Message)) → AreWritten MAX_MESSAGE messages → lines_before (wholes_from at messages) ≡ lines_from at messages
unfolding lines_before
lines_so at [] w = refl
lines_so at (m ∷ later) w =
    let whole = whole_at at m.0 m.1 in
    let behind = lines_before (wholes_from (at + length (spelled m.0 m.1)) later) in
    ap (λ (r : Result Message MessageFault). if is_some (refusal_by whole r) then [] else line_by whole r ++ behind) (reads_written at m.0 m.1 w.0 w.1)
    ∙ ap (λ (x : List ℕ). dump_line whole m.1 ++ x) (lines_so (at + length (spelled m.0 m.1)) later w.2)

none_refused : (at : ℕ) (messages : List (Order × Message)) → AreWritten MAX_MESSAGE messages → first_refusal (wholes_from at messages) ≡ None
unfolding first_refusal
none_refused at [] w = refl
none_refused at (m ∷ later) w =
    let whole = whole_at at m.0 m.1 in
    let behind = first_refusal (wholes_from (at + length (spelled m.0 m.1)) later) in
    ap (λ (r : Result Message MessageFault). option_or (refusal_by whole r) behind) (reads_written at m.0 m.1 w.0 w.1)
    ∙ none_refused (at + length (spelled m.0 m.1)) later w.2

pub shows_written : ShowsWritten
unfolding dump_text
shows_written messages w =
    let said : dumped (written_bytes messages) ≡ record { messages = wholes_from 0 messages; rest = None; bad = None } =
    streams_written MAX_MESSAGE messages (omega arith) w in (
      ap (λ (s : Said). lines_before s.messages) said ∙ lines_so 0 messages w,
      ap refusal_of said ∙ ap (λ (o : Option Refusal). option_or o None) (none_refused 0 messages w),
      ap (λ (s : Said). s.rest) said,
    )
