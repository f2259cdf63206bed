-- Which replies each call can get.
use Rattle.std.proofs.Common.{◌≡◌, ℕ, true, List, [], ◌∷◌, ◌++◌, refl, ap, ◌∙◌, subst}
use Rattle.orb_base.specs.Conn.{same_conn}
use Rattle.orb_base.specs.declared.conn_id.ConnId.{ConnId}
use Rattle.orb_base.specs.declared.item.Item.{Item}
use Rattle.orb_base.specs.declared.item.Item.TheVariants as item
use Rattle.orb_base.specs.declared.job.Job.{Job}
use Rattle.orb_base.specs.declared.notice.Notice.{Notice}
use Rattle.turn_cell.specs.Seats.{CellView}
use Rattle.turn_cell.specs.Calls.{Calls}
use Rattle.turn_cell.specs.Good.{entry}
use Rattle.lane_machine.specs.State.{State, Opens}
use Rattle.lane_machine.specs.Machine.{step, is_over}
use Rattle.lane_machine.specs.Readiness.{is_ready, IsSound}
use Rattle.lane_machine.specs.Callers.{IsFit, is_heard}
use Rattle.lane_machine.specs.Entries.{One}
use Rattle.lane_machine.specs.Histories.{History, replay, IsLegal}
use Rattle.lane_machine.specs.declared.call.LaneCall.{LaneCall}
use Rattle.lane_machine.specs.declared.call.LaneCall.TheVariants.{Offer, Post, Cancel, Take, Collect}
use Rattle.lane_machine.specs.declared.call.LaneReply.{LaneReply}
use Rattle.lane_machine.specs.declared.call.LaneReply.TheVariants as reply
use Rattle.lane_machine.proofs.Weighs.{weigh, OfferMoves, PostMoves, CancelMoves, TakeMoves, CollectMoves, offer_moves, post_moves, cancel_moves, take_moves, collect_moves}
use Rattle.lane_machine.proofs.Bounds.{owing}
use Rattle.lane_laws.proofs.Marks.{same_self}
use Rattle.lane_pool.specs.Pass.{Sitting}
use Rattle.lane_pool.specs.Replies.{IsAnswer, is_offered, is_posting, is_cancelling, is_taken, is_collected}

-- the last entry of a legal history was answered by its step
last_step : (s : State) (h : History) (e : One) → IsLegal s (h ++ e ∷ []) → e.reply ≡ (step (replay s h) e.call).1
last_step s [] e l = l.2
last_step s (d ∷ ds) e l = last_step (step s d.call).0 ds e l.3

pub answers : (cell : CellView State) (call : LaneCall) (r : LaneReply) (old new : Sitting) → Calls is_ready IsSound step Opens IsFit cell call r old new → IsAnswer call r
answers cell call r old new c =
    let front = old.seen ++ c.3.0 in
    (replay cell.terms.opening front, last_step cell.terms.opening front (entry old.number call r) (subst (IsLegal cell.terms.opening) c.3.1 c.1.0.1))

offer_kinds : (job : Job) (a b : ℕ) (r : LaneReply) → OfferMoves (owing job.conn) job a b r → is_offered r ≡ true
offer_kinds job a b (reply.Run t lent) m = refl
offer_kinds job a b reply.Kept m = refl
offer_kinds job a b reply.Full m = refl
offer_kinds job a b reply.Closing m = refl
offer_kinds job a b r m = absurd m

post_kinds : (conn : ConnId) (i : Item) (a b : ℕ) (r : LaneReply) → PostMoves (owing conn) i a b r → is_posting r ≡ true
post_kinds conn i a b reply.Posted m = refl
post_kinds conn i a b reply.Closing m = refl
post_kinds conn i a b r m = absurd m

cancel_kinds : (waiting : List Job) (conn : ConnId) (id a b : ℕ) (r : LaneReply) → CancelMoves (owing conn) waiting conn id a b r → is_cancelling r ≡ true
cancel_kinds waiting conn id a b reply.Removed m = refl
cancel_kinds waiting conn id a b reply.Nothing m = refl
cancel_kinds waiting conn id a b reply.Closing m = refl
cancel_kinds waiting conn id a b r m = absurd m

take_kinds : (conn : ConnId) (a b : ℕ) (r : LaneReply) → TakeMoves (owing conn) a b r → is_taken r ≡ true
take_kinds conn a b (reply.Given job) m = refl
take_kinds conn a b reply.Ended m = refl
take_kinds conn a b r m = absurd m

collect_kinds : (conn : ConnId) (a b : ℕ) (r : LaneReply) → CollectMoves (owing conn) a b r → is_collected r ≡ true
collect_kinds conn a b (reply.Handed i) m = refl
collect_kinds conn a b reply.Close m = refl
collect_kinds conn a b reply.Error m = refl
collect_kinds conn a b reply.Done m = refl
collect_kinds conn a b r m = absurd m

nobody : ConnId
nobody = record { slot = 0; nth = 0 }

pub offer_is : (job : Job) (r : LaneReply) → IsAnswer (Offer job) r → is_offered r ≡ true
offer_is job r a = let s = a.0 in ap is_offered a.1 ∙ offer_kinds job (weigh (owing job.conn) s) (weigh (owing job.conn) (step s (Offer job)).0) (step s (Offer job)).1 (offer_moves (owing job.conn) s job (is_over s job.size))

pub post_is : (notice : Notice) (r : LaneReply) → IsAnswer (Post notice) r → is_posting r ≡ true
post_is notice r a = let s = a.0 in ap is_posting a.1 ∙ post_kinds notice.conn (item.Noticed notice) (weigh (owing notice.conn) s) (weigh (owing notice.conn) (step s (Post notice)).0) (step s (Post notice)).1 (post_moves (owing notice.conn) s (item.Noticed notice) (is_over s 0))

pub cancel_is : (conn : ConnId) (id : ℕ) (r : LaneReply) → IsAnswer (Cancel conn id) r → is_cancelling r ≡ true
cancel_is conn id r a = let s = a.0 in ap is_cancelling a.1 ∙ cancel_kinds s.waiting conn id (weigh (owing conn) s) (weigh (owing conn) (step s (Cancel conn id)).0) (step s (Cancel conn id)).1 (cancel_moves (owing conn) s conn id (is_over s 0))

pub take_is : (t : ℕ) (r : LaneReply) → IsAnswer (Take t) r → is_taken r ≡ true
take_is t r a = let s = a.0 in ap is_taken a.1 ∙ take_kinds nobody (weigh (owing nobody) s) (weigh (owing nobody) (step s (Take t)).0) (step s (Take t)).1 (take_moves (owing nobody) s t)

pub collect_is : (conn : ConnId) (r : LaneReply) → IsAnswer (Collect conn) r → is_collected r ≡ true
collect_is conn r a = let s = a.0 in ap is_collected a.1 ∙ collect_kinds conn (weigh (owing conn) s) (weigh (owing conn) (step s (Collect conn)).0) (step s (Collect conn)).1 (collect_moves (owing conn) s conn)

-- calls of the connection are heard of it
pub hears_offer : (job : Job) (conn : ConnId) → job.conn ≡ conn → is_heard conn (Offer job) ≡ true
hears_offer job conn e = subst (λ (c : ConnId). same_conn job.conn c ≡ true) e (same_self job.conn)

pub hears_post : (notice : Notice) (conn : ConnId) → notice.conn ≡ conn → is_heard conn (Post notice) ≡ true
hears_post notice conn e = subst (λ (c : ConnId). same_conn notice.conn c ≡ true) e (same_self notice.conn)

pub hears_cancel : (conn : ConnId) (id : ℕ) → is_heard conn (Cancel conn id) ≡ true
hears_cancel conn id = same_self conn
