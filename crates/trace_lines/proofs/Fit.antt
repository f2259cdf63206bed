-- The plain form of a history is as fit as it.
use Rattle.std.proofs.Common.{◌≡◌, ℕ, ◌≤◌, Bool, true, false, ◌&&◌, ◌==◌, [], ◌∷◌, ◌++◌, Option, Some, None, refl, sym, ap, subst, ◌∙◌}
use Rattle.std.specs.Prelude.{map, option_map, if◌then◌else◌}
use Rattle.std.specs.List.{list_any}
use Rattle.std.proofs.lemmas.List.{map-append}
use Rattle.orb_base.proofs.Places.{any_map}
use Rattle.orb_base.specs.Outcomes.{body_len}
use Rattle.orb_base.specs.declared.conn_id.ConnId.{ConnId}
use Rattle.orb_base.specs.declared.limits.TheConstants.{MAX_BODY}
use Rattle.turn_cell.specs.History as history
use Rattle.lane_machine.specs.State.{State}
use Rattle.lane_machine.specs.Histories.{History}
use Rattle.lane_machine.specs.Callers.{of, seat_of, ends, is_end, is_leave, is_heard, is_closing, heard_calls, has_leave, was_closed, latest, may_take, may_collect, IsReading, MayCall, IsFit, AreFit}
use Rattle.lane_machine.specs.declared.call.LaneCall.{LaneCall}
use Rattle.lane_machine.specs.declared.call.LaneCall.TheVariants.{Offer, Post, Cancel, Take, Finish, Collect, End, Leave}
use Rattle.lane_machine.specs.declared.call.LaneReply.{LaneReply}
use Rattle.lane_machine.specs.declared.call.LaneReply.TheVariants as reply
use Rattle.lane_machine.specs.Entries.{One}
use Rattle.trace_lines.specs.Plain.{plain_call, plain_reply, plain_entry}
use Rattle.trace_lines.proofs.Maps.{count_same}
use Rattle.trace_lines.proofs.Commutes.{length-replicate}

of_plain : (n : ℕ) (h : History) → of n (map plain_entry h) ≡ map plain_entry (of n h)
of_plain n [] = refl
of_plain n (e ∷ es) = elim (e.caller == n) as (λ (b : Bool). (if b then plain_entry e ∷ of n (map plain_entry es) else of n (map plain_entry es)) ≡ map plain_entry (if b then e ∷ of n es else of n es))
    [ true ↦ ap (λ (l : History). plain_entry e ∷ l) (of_plain n es) | false ↦ of_plain n es ]

end_plain : (c : LaneCall) → is_end (plain_call c) ≡ is_end c
end_plain (Offer job) = refl
end_plain (Post n) = refl
end_plain (Cancel conn id) = refl
end_plain (Take t) = refl
end_plain (Finish t a) = refl
end_plain (Collect conn) = refl
end_plain (End conn how) = refl
end_plain (Leave slot) = refl

leave_plain : (c : LaneCall) → is_leave (plain_call c) ≡ is_leave c
leave_plain (Offer job) = refl
leave_plain (Post n) = refl
leave_plain (Cancel conn id) = refl
leave_plain (Take t) = refl
leave_plain (Finish t a) = refl
leave_plain (Collect conn) = refl
leave_plain (End conn how) = refl
leave_plain (Leave slot) = refl

heard_plain : (conn : ConnId) (c : LaneCall) → is_heard conn (plain_call c) ≡ is_heard conn c
heard_plain conn (Offer job) = refl
heard_plain conn (Post n) = refl
heard_plain conn (Cancel c id) = refl
heard_plain conn (Take t) = refl
heard_plain conn (Finish t a) = refl
heard_plain conn (Collect c) = refl
heard_plain conn (End c how) = refl
heard_plain conn (Leave slot) = refl

closing_plain : (r : LaneReply) → is_closing (plain_reply r) ≡ is_closing r
closing_plain (reply.Run t lent) = refl
closing_plain reply.Kept = refl
closing_plain reply.Full = refl
closing_plain reply.Closing = refl
closing_plain reply.Posted = refl
closing_plain reply.Removed = refl
closing_plain reply.Nothing = refl
closing_plain (reply.Given job) = refl
closing_plain reply.Ended = refl
closing_plain reply.Finished = refl
closing_plain (reply.Handed i) = refl
closing_plain reply.Close = refl
closing_plain reply.Error = refl
closing_plain reply.Done = refl
closing_plain reply.Noted = refl

any_same : (p : One → Bool) → ((e : One) → p (plain_entry e) ≡ p e) → (h : History) → list_any p (map plain_entry h) ≡ list_any p h
any_same p same h = any_map p plain_entry h ∙ ap (λ (q : One → Bool). list_any q h) (λ i e. same e i)

ends_plain : (h : History) → ends (map plain_entry h) ≡ ends h
ends_plain h = count_same (λ (e : One). is_end e.call) (λ (e : One). is_end e.call) plain_entry (λ e. end_plain e.call) h

leaves_plain : (h : History) → has_leave (map plain_entry h) ≡ has_leave h
leaves_plain h = any_same (λ e. is_leave e.call) (λ e. leave_plain e.call) h

heards_plain : (conn : ConnId) (h : History) → heard_calls conn (map plain_entry h) ≡ heard_calls conn h
heards_plain conn h = count_same (λ (e : One). is_heard conn e.call) (λ (e : One). is_heard conn e.call) plain_entry (λ e. heard_plain conn e.call) h

closed_plain : (conn : ConnId) (h : History) → was_closed conn (map plain_entry h) ≡ was_closed conn h
closed_plain conn h = any_same (λ e. is_heard conn e.call && is_closing e.reply) (λ e i. heard_plain conn e.call i && closing_plain e.reply i) h

latest_plain : (o : Option LaneReply) (h : History) → latest (option_map plain_reply o) (map plain_entry h) ≡ option_map plain_reply (latest o h)
latest_plain o [] = refl
latest_plain o (e ∷ es) = latest_plain (Some e.reply) es

may_take_plain : (o : Option LaneReply) → may_take o ≡ true → may_take (option_map plain_reply o) ≡ true
may_take_plain None m = m
may_take_plain (Some (reply.Run t lent)) m = m
may_take_plain (Some reply.Kept) m = m
may_take_plain (Some reply.Full) m = m
may_take_plain (Some reply.Closing) m = m
may_take_plain (Some reply.Posted) m = m
may_take_plain (Some reply.Removed) m = m
may_take_plain (Some reply.Nothing) m = m
may_take_plain (Some (reply.Given job)) m = m
may_take_plain (Some reply.Ended) m = m
may_take_plain (Some reply.Finished) m = m
may_take_plain (Some (reply.Handed i)) m = m
may_take_plain (Some reply.Close) m = m
may_take_plain (Some reply.Error) m = m
may_take_plain (Some reply.Done) m = m
may_take_plain (Some reply.Noted) m = m

may_collect_plain : (o : Option LaneReply) → may_collect o ≡ true → may_collect (option_map plain_reply o) ≡ true
may_collect_plain None m = m
may_collect_plain (Some (reply.Run t lent)) m = m
may_collect_plain (Some reply.Kept) m = m
may_collect_plain (Some reply.Full) m = m
may_collect_plain (Some reply.Closing) m = m
may_collect_plain (Some reply.Posted) m = m
may_collect_plain (Some reply.Removed) m = m
may_collect_plain (Some reply.Nothing) m = m
may_collect_plain (Some (reply.Given job)) m = m
may_collect_plain (Some reply.Ended) m = m
may_collect_plain (Some reply.Finished) m = m
may_collect_plain (Some (reply.Handed i)) m = m
may_collect_plain (Some reply.Close) m = m
may_collect_plain (Some reply.Error) m = m
may_collect_plain (Some reply.Done) m = m
may_collect_plain (Some reply.Noted) m = m

reading_plain : (s : State) (mine : History) (conn : ConnId) → IsReading s mine conn → IsReading s (map plain_entry mine) conn
reading_plain s mine conn r = record { slot = r.slot; nth = r.nth; next = r.next ∙ sym (ends_plain mine); stays = leaves_plain mine ∙ r.stays }

may_plain : (s : State) (mine : History) (c : LaneCall) → MayCall s mine c → MayCall s (map plain_entry mine) (plain_call c)
may_plain s mine (Offer job) f = (reading_plain s mine job.conn f.0, closed_plain job.conn mine ∙ f.1, f.2 ∙ sym (heards_plain job.conn mine), f.3)
may_plain s mine (Post n) f = (reading_plain s mine n.conn f.0, closed_plain n.conn mine ∙ f.1)
may_plain s mine (Cancel conn id) f = (reading_plain s mine conn f.0, closed_plain conn mine ∙ f.1)
may_plain s mine (Take t) f = (f.0, ap may_take (latest_plain None mine) ∙ may_take_plain (latest None mine) f.1)
may_plain s mine (Finish t a) f = (f.0, latest_plain None mine ∙ ap (option_map plain_reply) f.1, subst (λ (n : ℕ). n ≤ MAX_BODY) (sym (length-replicate (body_len a.outcome))) f.2)
may_plain s mine (Collect conn) f = (f.0, f.1, ap may_collect (latest_plain None mine) ∙ may_collect_plain (latest None mine) f.2)
may_plain s mine (End conn how) f = reading_plain s mine conn f
may_plain s mine (Leave slot) f = (f.0, leaves_plain mine ∙ f.1, ap (λ (n : ℕ). heard_calls (record { slot = slot; nth = n }) (map plain_entry mine)) (ends_plain mine) ∙ (heards_plain (record { slot = slot; nth = ends mine }) mine ∙ f.2))

seat_plain : (s : State) (c : LaneCall) → seat_of s (plain_call c) ≡ seat_of s c
seat_plain s (Offer job) = refl
seat_plain s (Post n) = refl
seat_plain s (Cancel conn id) = refl
seat_plain s (Take t) = refl
seat_plain s (Finish t a) = refl
seat_plain s (Collect conn) = refl
seat_plain s (End conn how) = refl
seat_plain s (Leave slot) = refl

abbrev FitFrom : State → History → History → Type 0
FitFrom s before h = history.FitFrom IsFit s before h

fit_from : (s : State) (before h : History) → FitFrom s before h → FitFrom s (map plain_entry before) (map plain_entry h)
fit_from s before [] f = tt
fit_from s before (e ∷ es) f = (
  (f.0.0 ∙ sym (seat_plain s e.call), subst (λ (z : History). MayCall s z (plain_call e.call)) (sym (of_plain e.caller before)) (may_plain s (of e.caller before) e.call f.0.1)),
  subst (λ (z : History). FitFrom s z (map plain_entry es)) (map-append plain_entry before (e ∷ [])) (fit_from s (before ++ e ∷ []) es f.1),
)

pub fit_plain : (s : State) (h : History) → AreFit s h → AreFit s (map plain_entry h)
fit_plain s h f = fit_from s [] h f
