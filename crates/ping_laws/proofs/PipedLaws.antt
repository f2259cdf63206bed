-- What was written is what the pipe answers.
use Rattle.std.proofs.Common.{◌≡◌, ℕ, ◌+◌, ◌≤◌, ◌<◌, Bool, true, false, List, [], ◌∷◌, ◌++◌, length, drop, get_or, refl, sym, ap, ◌∙◌, subst, inl, inr, arith, lit≤, append-nil, append_assoc}
use Rattle.std.specs.Prelude.{◌⊎◌, ◌||◌, Option, Some, Result, Ok, Err, slice_get}
use Rattle.std.proofs.lemmas.List.{drop_more}
use Rattle.std.specs.List.{AllByRecursion, list_any}
use Rattle.std.proofs.lemmas.Grind.{flat_map-append}
use Rattle.orb_base.specs.JobRecord.{JobRecord}
use Rattle.orb_base.specs.Outcomes.{no_memory, body_len}
use Rattle.orb_base.specs.Outside.{SourceState, SinkState, Rose}
use Rattle.orb_base.specs.declared.limits.TheConstants.{MAX_MESSAGE, MAX_BODY}
use Rattle.orb_base.specs.declared.outcome.Outcome.{Outcome}
use Rattle.orb_base.specs.declared.outcome.Outcome.TheVariants.{Returned, User, System}
use Rattle.orb_base.specs.declared.answer.Answer.{Answer}
use Rattle.orb_base.specs.declared.item.Item.TheVariants.{Answered}
use Rattle.orb_base.specs.declared.order.Order.TheVariants.{Big}
use Rattle.giop_frames.specs.Stream.{stream}
use Rattle.giop_messages.specs.Message.{close}
use Rattle.giop_messages.specs.Spelling.{spelled}
use Rattle.lane_machine.specs.declared.call.How.{How}
use Rattle.lane_machine.specs.declared.call.How.TheVariants.{Quiet, Shut}
use Rattle.lane_machine.specs.declared.call.LaneCall.{LaneCall}
use Rattle.lane_machine.specs.declared.call.LaneCall.TheVariants.{Collect, End}
use Rattle.lane_machine.specs.declared.call.LaneReply.{LaneReply}
use Rattle.lane_machine.specs.declared.call.LaneReply.TheVariants as reply
use Rattle.thread_borrowing.specs.declared.doing.Doing.TheVariants.{Free}
use Rattle.lane_machine.specs.State.{State}
use Rattle.lane_machine.specs.Machine.{step, is_over}
use Rattle.lane_machine.specs.Readiness.{owed}
use Rattle.lane_machine.specs.Histories.{History, replay, IsLegal}
use Rattle.ping_laws.specs.declared.laws.TheConstants.{MAX_PINGS}
use Rattle.ping_laws.specs.Setup.{IsKnown, IsRunnable, opened}
use Rattle.pipe_laws.specs.Setup.{interface_at, pipe_conn}
use Rattle.adapter_policies.specs.SetupData.{SetupData}
use Rattle.adapter_policies.specs.declared.object_spec.ObjectSpec.{ObjectSpec}
use Rattle.item_writer.specs.ItemBytes.{item_bytes}
use Rattle.pipe_laws.specs.Said.{call_bytes, said}
use Rattle.pipe_laws.specs.Piped.{Run, closed_by, grouped as grouped_so, answer_of, piped}
use Rattle.ping_laws.specs.Built.{IsBuilt}
use Rattle.ping_laws.specs.Hearing.{MeanJobs}
use Rattle.lane_machine.specs.Callers.{is_closing}
use Rattle.ping_laws.specs.PingRun.{ArePingJobs, offers, outcome_at, with_thread, Does, IsSettled, IsAnswered, Ran, Refused, Runs, farewell, IsRun}
use Rattle.text_streams.specs.Streams.{Gave, GaveFew, WroteText, WroteSome}
use Rattle.text_streams.proofs.CallerLemmas.{wrote_start, wrote_nothing, wrote_behind}
use Rattle.ping_laws.proofs.CanOpen.{opens_free}
use Rattle.ping_laws.proofs.HearingLaws.{jobs_of}
use Rattle.lane_driver.specs.Driving.{run_at as at, entry}
use Rattle.ping_laws.proofs.PipeRuns.{idle, Grouped}

-- ---- the end of the connection

abbrev settled : State → ℕ → ℕ → Bool → State
settled base c b closing = record (with_thread base Free c b) { closing = closing }

-- how the connection ends
abbrev ending : Bool → How
ending true = Shut
ending false = Quiet

abbrev pub gone : State → ℕ → ℕ → Bool → State
gone base c b closing = record (settled base c b closing) { ended = (pipe_conn, ending closing) ∷ [] }

abbrev told : Bool → LaneReply
told true = reply.Close
told false = reply.Done

-- what is done at the end
abbrev pub last : Bool → History
last closing = entry (End pipe_conn (ending closing)) reply.Noted ∷ entry (Collect pipe_conn) (told closing) ∷ []

pub closes_so : (servant : JobRecord → Outcome) (how : How) (base : State) (c b : ℕ) (closing : Bool) (h : History) → (closing ≡ false → how ≡ Quiet)
    → closed_by servant how (at (settled base c b closing) h) ≡ at (gone base c b closing) (h ++ last closing)
closes_so servant how base c b true h quiet = ap (at (gone base c b true)) (append_assoc h (entry (End pipe_conn Shut) reply.Noted ∷ []) (entry (Collect pipe_conn) reply.Close ∷ []))
closes_so servant how base c b false h quiet =
    ap (λ (x : How). closed_by servant x (at (settled base c b false) h)) (quiet refl)
    ∙ ap (at (gone base c b false)) (append_assoc h (entry (End pipe_conn Quiet) reply.Noted ∷ []) (entry (Collect pipe_conn) reply.Done ∷ []))

pub last_says : (closing : Bool) → said pipe_conn (last closing) ≡ farewell closing
last_says true = append-nil (spelled Big close)
last_says false = refl
