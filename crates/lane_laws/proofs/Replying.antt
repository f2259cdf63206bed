-- The replies that were handed over, and those that are owed.
use Rattle.std.proofs.Common.{◌≡◌, ℕ, ◌+◌, List, [], ◌∷◌, Option, Some, None, refl, ap, ◌∙◌, arith}
use Rattle.std.specs.Prelude.{slice_get}
use Rattle.std.specs.List.{sum_by}
use Rattle.std.proofs.lemmas.List.Sums.{sum_by-cons}
use Rattle.orb_base.specs.declared.conn_id.ConnId.{ConnId}
use Rattle.orb_base.specs.declared.answer.Answer.{Answer}
use Rattle.orb_base.specs.declared.notice.Notice.{Notice}
use Rattle.orb_base.specs.declared.due.Due.{Due}
use Rattle.orb_base.specs.declared.due.Due.TheVariants as due
use Rattle.orb_base.specs.declared.item.Item.TheVariants as item
use Rattle.orb_base.specs.declared.job.Job.{Job}
use Rattle.thread_borrowing.specs.ThreadList.{Thread}
use Rattle.lane_machine.specs.declared.call.LaneCall.{LaneCall}
use Rattle.lane_machine.specs.declared.call.LaneCall.TheVariants.{Offer, Post, Cancel, Take, Finish, Collect, End, Leave}
use Rattle.lane_machine.specs.declared.call.LaneReply.{LaneReply}
use Rattle.lane_machine.specs.declared.call.LaneReply.TheVariants as reply
use Rattle.lane_machine.specs.State.{State, Opens}
use Rattle.lane_machine.specs.Machine as machine
use Rattle.lane_machine.specs.Machine.{step, is_over, early_items, refusals, late_items}
use Rattle.lane_machine.specs.Readiness.{IsSound}
use Rattle.lane_machine.specs.Histories.{History, replay, IsLegal}
use Rattle.lane_machine.specs.Entries.{One}
use Rattle.lane_machine.proofs.Weighs.{Weight, weigh, OfferMoves, PostMoves, CancelMoves, TakeMoves, CollectMoves, offer_moves, post_moves, cancel_moves, take_moves, finish_moves, collect_moves}
use Rattle.lane_machine.proofs.Bounds.{opening_weighs}
use Rattle.lane_laws.specs.Replies.{replies_to, owed_replies, hands, awaits, ends_awaited, handed_replies, finished_awaited}

-- the replies that are owed
abbrev owing : ConnId → ℕ → Weight
owing conn serial = record { waits = λ job. 0; does = λ d. 0; owes = replies_to conn serial; free = refl; given = λ job. refl }

zeros : {X : Type 0} (xs : List X) → sum_by (λ (x : X). 0) xs ≡ 0
zeros {X} [] = refl
zeros {X} (x ∷ xs) = let a = zeros xs in let b = sum_by-cons (λ (y : X). 0) x xs in omega arith

-- none is owed but for a finished request
early_none : (conn : ConnId) (serial : ℕ) (d : Due) (job : Job) → sum_by (replies_to conn serial) (early_items d job) ≡ 0
early_none conn serial due.Early job = let a = sum_by-cons (replies_to conn serial) (item.Early job) [] in omega arith
early_none conn serial due.Nothing job = refl
early_none conn serial due.Late job = refl

refused_none : (conn : ConnId) (serial : ℕ) (d : Due) (job : Job) → sum_by (replies_to conn serial) (refusals d job) ≡ 0
refused_none conn serial due.Nothing job = refl
refused_none conn serial due.Early job = let a = sum_by-cons (replies_to conn serial) (item.Transient job) [] in omega arith
refused_none conn serial due.Late job = let a = sum_by-cons (replies_to conn serial) (item.Transient job) [] in omega arith

late_one : (conn : ConnId) (serial : ℕ) (d : Due) (answer : Answer) → sum_by (replies_to conn serial) (late_items d answer) ≡ awaits conn serial d answer.job
late_one conn serial due.Late answer = let a = sum_by-cons (replies_to conn serial) (item.Answered answer) [] in omega arith
late_one conn serial due.Nothing answer = refl
late_one conn serial due.Early answer = refl

-- one entry
offer_owes : (conn : ConnId) (serial : ℕ) (job : Job) (a b : ℕ) (r : LaneReply) → OfferMoves (owing conn serial) job a b r → b + hands conn serial r ≡ a
offer_owes conn serial job a b (reply.Run t lent) m = let x = early_none conn serial job.due job in omega arith
offer_owes conn serial job a b reply.Kept m = let x = early_none conn serial job.due job in omega arith
offer_owes conn serial job a b reply.Full m = let x = refused_none conn serial job.due job in omega arith
offer_owes conn serial job a b reply.Closing m = omega arith
offer_owes conn serial job a b r m = absurd m

post_owes : (conn : ConnId) (serial : ℕ) (notice : Notice) (a b : ℕ) (r : LaneReply) → PostMoves (owing conn serial) (item.Noticed notice) a b r → b + hands conn serial r ≡ a
post_owes conn serial notice a b reply.Posted m = omega arith
post_owes conn serial notice a b reply.Closing m = omega arith
post_owes conn serial notice a b r m = absurd m

cancel_owes : (conn : ConnId) (serial : ℕ) (s : State) (c : ConnId) (id a b : ℕ) (r : LaneReply) → CancelMoves (owing conn serial) s.waiting c id a b r → b + hands conn serial r ≡ a
cancel_owes conn serial s c id a b reply.Removed m = let x = m.2 in omega arith
cancel_owes conn serial s c id a b reply.Nothing m = omega arith
cancel_owes conn serial s c id a b reply.Closing m = omega arith
cancel_owes conn serial s c id a b r m = absurd m

take_owes : (conn : ConnId) (serial : ℕ) (a b : ℕ) (r : LaneReply) → TakeMoves (owing conn serial) a b r → b + hands conn serial r ≡ a
take_owes conn serial a b (reply.Given job) m = omega arith
take_owes conn serial a b reply.Ended m = omega arith
take_owes conn serial a b r m = absurd m

collect_owes : (conn : ConnId) (serial : ℕ) (a b : ℕ) (r : LaneReply) → CollectMoves (owing conn serial) a b r → b + hands conn serial r ≡ a
collect_owes conn serial a b (reply.Handed i) m = m
collect_owes conn serial a b reply.Close m = omega arith
collect_owes conn serial a b reply.Error m = omega arith
collect_owes conn serial a b reply.Done m = omega arith
collect_owes conn serial a b r m = absurd m

finish_hands : (conn : ConnId) (serial : ℕ) (s : State) (t : ℕ) (answer : Answer) (o : Option Thread) → hands conn serial (machine.finished s t answer o).1 ≡ 0
finish_hands conn serial s t answer (Some thread) = refl
finish_hands conn serial s t answer None = refl

reply_step : (conn : ConnId) (serial : ℕ) (s : State) (call : LaneCall) → IsSound s call
    → weigh (owing conn serial) (step s call).0 + hands conn serial (step s call).1 ≡ weigh (owing conn serial) s + ends_awaited conn serial call
reply_step conn serial s (Offer job) q = let m = offer_owes conn serial job (weigh (owing conn serial) s) (weigh (owing conn serial) (step s (Offer job)).0) (step s (Offer job)).1 (offer_moves (owing conn serial) s job (is_over s job.size)) in omega arith
reply_step conn serial s (Post notice) q = let m = post_owes conn serial notice (weigh (owing conn serial) s) (weigh (owing conn serial) (step s (Post notice)).0) (step s (Post notice)).1 (post_moves (owing conn serial) s (item.Noticed notice) (is_over s 0)) in omega arith
reply_step conn serial s (Cancel c id) q = let m = cancel_owes conn serial s c id (weigh (owing conn serial) s) (weigh (owing conn serial) (step s (Cancel c id)).0) (step s (Cancel c id)).1 (cancel_moves (owing conn serial) s c id (is_over s 0)) in omega arith
reply_step conn serial s (Take t) q = let m = take_owes conn serial (weigh (owing conn serial) s) (weigh (owing conn serial) (step s (Take t)).0) (step s (Take t)).1 (take_moves (owing conn serial) s t) in omega arith
reply_step conn serial s (Finish t answer) q =
    let m = finish_moves (owing conn serial) s t answer q in let n = late_one conn serial answer.job.due answer in
    let k = finish_hands conn serial s t answer (slice_get s.threads t) in omega arith
reply_step conn serial s (Collect c) q = let m = collect_owes conn serial (weigh (owing conn serial) s) (weigh (owing conn serial) (step s (Collect c)).0) (step s (Collect c)).1 (collect_moves (owing conn serial) s c) in omega arith
reply_step conn serial s (End c how) q = omega arith
reply_step conn serial s (Leave slot) q = omega arith

-- along a history
counted : (conn : ConnId) (serial : ℕ) (s : State) (h : History) → IsLegal s h
    → weigh (owing conn serial) (replay s h) + handed_replies conn serial h ≡ weigh (owing conn serial) s + finished_awaited conn serial h
counted conn serial s [] l = omega arith
counted conn serial s (e ∷ es) l =
    let a = reply_step conn serial s e.call l.1 in let b = counted conn serial (step s e.call).0 es l.3 in
    let c : hands conn serial e.reply ≡ hands conn serial (step s e.call).1 = ap (hands conn serial) l.2 in
    let x = sum_by-cons (λ (z : One). hands conn serial z.reply) e es in let y = sum_by-cons (λ (z : One). ends_awaited conn serial z.call) e es in omega arith

-- the law, from the opening state
pub replies_counted : (conn : ConnId) (serial : ℕ) (s : State) (h : History) → Opens s → IsLegal s h
    → owed_replies conn serial (replay s h) + handed_replies conn serial h ≡ finished_awaited conn serial h
replies_counted conn serial s h o l =
    let a = counted conn serial s h l in
    let b : weigh (owing conn serial) s ≡ 0 = ap (weigh (owing conn serial)) o.fresh ∙ opening_weighs (owing conn serial) s.pool s.slots s.per_slot in
    let c = zeros (replay s h).waiting in let d = zeros (replay s h).threads in omega arith
