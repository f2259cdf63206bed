-- The counts of what is owed stay right along each call.
use Rattle.std.proofs.Common.{◌≡◌, ◌≢◌, ℕ, ◌+◌, ◌^◌, ◌<◌, ◌≤◌, Bool, true, false, cond, ◌&&◌, List, Option, Some, None, inl, inr, sym, refl, ap, ◌∙◌, subst, arith, eq-eqb}
use Rattle.std.specs.Prelude.{slice_get, position, ◌==◌, if◌then◌else◌}
use Rattle.std.specs.List.{sum_by}
use Rattle.std.proofs.lemmas.Bool.{and_parts, and_from, cases_Bool}
use Rattle.std.proofs.lemmas.Option.{same_Some}
use Rattle.orb_base.specs.Conn.{same_conn}
use Rattle.orb_base.specs.Pool.{Pool}
use Rattle.orb_base.specs.declared.conn_id.ConnId.{ConnId}
use Rattle.orb_base.specs.declared.due.Due.{Due}
use Rattle.orb_base.specs.declared.due.Due.TheVariants as due
use Rattle.orb_base.specs.declared.answer.Answer.{Answer}
use Rattle.orb_base.specs.declared.item.Item.{Item}
use Rattle.orb_base.specs.declared.item.Item.TheVariants as item
use Rattle.orb_base.specs.declared.job.Job.{Job}
use Rattle.thread_borrowing.proofs.Places.{at_place, sum_remove}
use Rattle.request_buffer.specs.Kept.{may_cancel, is_late}
use Rattle.lane_machine.specs.declared.call.How.{How}
use Rattle.lane_machine.specs.declared.call.How.TheVariants as how
use Rattle.lane_machine.specs.declared.call.LaneCall.{LaneCall}
use Rattle.lane_machine.specs.declared.call.LaneCall.TheVariants.{Offer, Post, Cancel, Take, Finish, Collect, End, Leave}
use Rattle.lane_machine.specs.declared.call.LaneReply.{LaneReply}
use Rattle.lane_machine.specs.declared.call.LaneReply.TheVariants as reply
use Rattle.lane_machine.specs.State.{State}
use Rattle.lane_machine.specs.SeatLaws.{conn_is}
use Rattle.lane_machine.specs.Machine.{step, is_over, heard, cancelled, withdrawn, collected, handed, over, shut, item_conn, item_place, end_of, was_told, early_items, refusals, late_items}
use Rattle.lane_machine.specs.Readiness.{is_ready, IsSound, owed}
use Rattle.lane_machine.proofs.Weighs.{weigh, OfferMoves, PostMoves, TakeMoves, CollectMoves, offer_moves, post_moves, take_moves, finish_moves, collect_moves}
use Rattle.lane_machine.proofs.Bounds.{owing, owed_is, Bounded, bounded}
use Rattle.lane_machine.proofs.Counts.{step_bounded}
use Rattle.trace_lines.specs.declared.trace_line.OfferReply.{OfferReply}
use Rattle.trace_lines.specs.declared.trace_line.OfferReply.TheVariants as offer_reply
use Rattle.trace_lines.specs.declared.trace_line.PostReply.{PostReply}
use Rattle.trace_lines.specs.declared.trace_line.PostReply.TheVariants as post_reply
use Rattle.trace_lines.specs.ReadBack.{reply_of_offer, reply_of_post, answer_of, notice_of}
use Rattle.lane_audit.specs.Counting.{in_reach, cell, count_in, share, Moves, OwesMore, IsCounted, admitted_brings, refused_brings, offer_brings, post_brings}

-- what a connection's own weighs, and another's
abbrev mine : ConnId → ConnId → ℕ
mine conn c = cond (same_conn conn c) 1 0

share_none : (conn c : ConnId) → share conn c 0 ≡ 0
share_none conn c = elim (same_conn conn c) as (λ (b : Bool). ◌≡◌ {A = ℕ} (if b then 0 else 0) 0) [ true ↦ refl | false ↦ refl ]

share_one : (conn c : ConnId) → share conn c 1 ≡ mine conn c
share_one conn c = refl

share_two : (conn c : ConnId) → share conn c 2 ≡ mine conn c + mine conn c
share_two conn c = elim (same_conn conn c) as (λ (b : Bool). ◌≡◌ {A = ℕ} (if b then 2 else 0) (cond b 1 0 + cond b 1 0)) [ true ↦ refl | false ↦ refl ]

-- the same of what weighs as it is owed
abbrev WeighsMore : State → State → ConnId → ℕ → ℕ → Type 0
WeighsMore s s' conn more less = (c : ConnId) → weigh (owing c) s' + share conn c less ≡ weigh (owing c) s + share conn c more

owes_more : (s s' : State) (conn : ConnId) (more less : ℕ) → WeighsMore s s' conn more less → OwesMore s s' conn more less
owes_more s s' conn more less w = λ c. let a = owed_is s c in let b = owed_is s' c in let e = w c in omega arith

-- a call that is ready and sound, with what it moves and the table that moved so
pub moved : (s s' : State) (call : LaneCall) (table table' : List ℕ) (conn : ConnId) (more less : ℕ) → is_ready s call ≡ true → IsSound s call
    → s' ≡ (step s call).0 → OwesMore s (step s call).0 conn more less → Moves table table' conn more less → IsCounted s table → IsCounted s' table'
moved s s' call table table' conn more less ready sound is owes moves k = subst (λ (x : State). IsCounted x table') (sym is) (record {
  few = let b = bounded s.pool s call ready sound k.few in subst (λ (p : Pool). Bounded p (step s call).0) (sym b.same_pool) b;
  bounded = step_bounded s call sound k.bounded;
  counts = record { each = λ c i. let a = moves.each c i in let b = owes c in let d = k.counts.each c i in omega arith };
})

-- a state that stayed, with a table that stayed
pub kept : (s s' : State) (table : List ℕ) → s' ≡ s → IsCounted s table → IsCounted s' table
kept s s' table is k = subst (λ (x : State). IsCounted x table) (sym is) k

-- a table that stays moves nothing
pub still : (table : List ℕ) (conn : ConnId) → Moves table table conn 0 0
still table conn = record { each = λ c i. refl }

-- the counts of a connection are small
pub few_owed : (s : State) (table : List ℕ) (conn : ConnId) → IsCounted s table → in_reach conn ≡ true → cell table conn ≤ 65
few_owed s table conn k r = let a = k.counts.each conn r in let b = k.few.owed_few conn in let e = owed_is s conn in omega arith

-- Offer
admitted_weighs : (c : ConnId) (d : Due) (job : Job) → (owing c).waits job + sum_by (owing c).owes (early_items d job) ≡ share job.conn c (admitted_brings d)
admitted_weighs c due.Nothing job = let a = share_one job.conn c in omega arith
admitted_weighs c due.Early job = let a = share_two job.conn c in omega arith
admitted_weighs c due.Late job = let a = share_one job.conn c in omega arith

refused_weighs : (c : ConnId) (d : Due) (job : Job) → sum_by (owing c).owes (refusals d job) ≡ share job.conn c (refused_brings d)
refused_weighs c due.Nothing job = let a = share_none job.conn c in omega arith
refused_weighs c due.Early job = let a = share_one job.conn c in omega arith
refused_weighs c due.Late job = let a = share_one job.conn c in omega arith

offer_weighs : (c : ConnId) (job : Job) (r : OfferReply) (a b : ℕ) → OfferMoves (owing c) job a b (reply_of_offer r) → b + share job.conn c 0 ≡ a + share job.conn c (offer_brings job.due r)
offer_weighs c job (offer_reply.Run t) a b m = omega (arith, m, share_none job.conn c, admitted_weighs c job.due job)
offer_weighs c job (offer_reply.Lent t) a b m = omega (arith, m, share_none job.conn c, admitted_weighs c job.due job)
offer_weighs c job offer_reply.Kept a b m = omega (arith, m, share_none job.conn c, admitted_weighs c job.due job)
offer_weighs c job offer_reply.Full a b m = omega (arith, m, share_none job.conn c, refused_weighs c job.due job)
offer_weighs c job offer_reply.Closing a b m = omega (arith, m)

pub offer_owes : (s : State) (job : Job) (r : OfferReply) → reply_of_offer r ≡ (step s (Offer job)).1 → OwesMore s (step s (Offer job)).0 job.conn (offer_brings job.due r) 0
offer_owes s job r is = owes_more s (step s (Offer job)).0 job.conn (offer_brings job.due r) 0 (λ c. offer_weighs c job r (weigh (owing c) s) (weigh (owing c) (step s (Offer job)).0)
    (subst (OfferMoves (owing c) job (weigh (owing c) s) (weigh (owing c) (step s (Offer job)).0)) (sym is) (offer_moves (owing c) s job (is_over s job.size))))

-- Post
post_weighs : (c conn : ConnId) (id : ℕ) (r : PostReply) (a b : ℕ) → PostMoves (owing c) (item.Noticed (notice_of conn id)) a b (reply_of_post r) → b + share conn c 0 ≡ a + share conn c (post_brings r)
post_weighs c conn id post_reply.Posted a b m = omega (arith, m, share_none conn c, share_one conn c)
post_weighs c conn id post_reply.Closing a b m = omega (arith, m)

pub post_owes : (s : State) (conn : ConnId) (id : ℕ) (r : PostReply) → reply_of_post r ≡ (step s (Post (notice_of conn id))).1 → OwesMore s (step s (Post (notice_of conn id))).0 conn (post_brings r) 0
post_owes s conn id r is = owes_more s (step s (Post (notice_of conn id))).0 conn (post_brings r) 0 (λ c. post_weighs c conn id r (weigh (owing c) s) (weigh (owing c) (step s (Post (notice_of conn id))).0)
    (subst (PostMoves (owing c) (item.Noticed (notice_of conn id)) (weigh (owing c) s) (weigh (owing c) (step s (Post (notice_of conn id))).0)) (sym is) (post_moves (owing c) s (item.Noticed (notice_of conn id)) (is_over s 0))))

-- Cancel
withdrawn_weighs : (s : State) (conn : ConnId) (id : ℕ) (o : Option ℕ) → position (may_cancel conn id) s.waiting ≡ o → reply.Removed ≡ (withdrawn s o).1 → WeighsMore s (withdrawn s o).0 conn 0 1
withdrawn_weighs s conn id (Some at) e is = λ c.
    let h = at_place (may_cancel conn id) s.waiting at e in
    let same : h.0.conn ≡ conn = conn_is h.0.conn conn (and_parts (is_late h.0.due) (same_conn h.0.conn conn) (and_parts (is_late h.0.due && same_conn h.0.conn conn) (h.0.id == id) h.2).0).1 in
    let less = sum_remove (owing c).waits s.waiting at h.0 h.1 in
    let weight : share conn c 1 ≡ (owing c).waits h.0 = ap (λ (x : ConnId). share x c 1) (sym same) in
    let none = share_none conn c in omega arith
withdrawn_weighs s conn id None e is = absurd (cc)

cancelled_weighs : (s : State) (conn : ConnId) (id : ℕ) (full : Bool) → reply.Removed ≡ (cancelled s conn id full).1 → WeighsMore s (cancelled s conn id full).0 conn 0 1
cancelled_weighs s conn id true is = absurd (cc)
cancelled_weighs s conn id false is = withdrawn_weighs (heard s 0) conn id (position (may_cancel conn id) s.waiting) refl is

pub removed_owes : (s : State) (conn : ConnId) (id : ℕ) → reply.Removed ≡ (step s (Cancel conn id)).1 → OwesMore s (step s (Cancel conn id)).0 conn 0 1
removed_owes s conn id is = owes_more s (step s (Cancel conn id)).0 conn 0 1 (cancelled_weighs s conn id (is_over s 0) is)

withdrawn_keeps : (s : State) (conn : ConnId) (o : Option ℕ) → reply.Removed ≢ (withdrawn s o).1 → WeighsMore s (withdrawn s o).0 conn 0 0
withdrawn_keeps s conn (Some at) is = absurd (is refl)
withdrawn_keeps s conn None is = λ c. refl

cancelled_keeps : (s : State) (conn : ConnId) (id : ℕ) (full : Bool) → reply.Removed ≢ (cancelled s conn id full).1 → WeighsMore s (cancelled s conn id full).0 conn 0 0
cancelled_keeps s conn id true is = λ c. refl
cancelled_keeps s conn id false is = withdrawn_keeps (heard s 0) conn (position (may_cancel conn id) s.waiting) is

pub not_removed_owes : (s : State) (conn : ConnId) (id : ℕ) → reply.Removed ≢ (step s (Cancel conn id)).1 → OwesMore s (step s (Cancel conn id)).0 conn 0 0
not_removed_owes s conn id is = owes_more s (step s (Cancel conn id)).0 conn 0 0 (cancelled_keeps s conn id (is_over s 0) is)

-- Take
take_weighs : (c : ConnId) (a b : ℕ) (r : LaneReply) → TakeMoves (owing c) a b r → b ≡ a
take_weighs c a b (reply.Given job) m = omega (arith, m)
take_weighs c a b reply.Ended m = m
take_weighs c a b r m = absurd m

pub take_owes : (s : State) (t : ℕ) (conn : ConnId) → OwesMore s (step s (Take t)).0 conn 0 0
take_owes s t conn = owes_more s (step s (Take t)).0 conn 0 0 (λ c. ap (λ (n : ℕ). n + share conn c 0) (take_weighs c (weigh (owing c) s) (weigh (owing c) (step s (Take t)).0) (step s (Take t)).1 (take_moves (owing c) s t)))

-- Finish
pub late_owes : (s : State) (t : ℕ) (job : Job) (len : ℕ) → job.due ≡ due.Late → IsSound s (Finish t (answer_of job len)) → OwesMore s (step s (Finish t (answer_of job len))).0 job.conn 0 0
late_owes s t job len late sound = owes_more s (step s (Finish t (answer_of job len))).0 job.conn 0 0 (λ c.
    let m = finish_moves (owing c) s t (answer_of job len) sound in
    let items : sum_by (owing c).owes (late_items job.due (answer_of job len)) ≡ sum_by (owing c).owes (late_items due.Late (answer_of job len)) = ap (λ (d : Due). sum_by (owing c).owes (late_items d (answer_of job len))) late in
    omega arith)

not_late_items : (c : ConnId) (d : Due) (answer : Answer) → d ≢ due.Late → sum_by (owing c).owes (late_items d answer) ≡ 0
not_late_items c due.Nothing answer n = refl
not_late_items c due.Early answer n = refl
not_late_items c due.Late answer n = absurd (n refl)

pub not_late_owes : (s : State) (t : ℕ) (job : Job) (len : ℕ) → job.due ≢ due.Late → IsSound s (Finish t (answer_of job len)) → OwesMore s (step s (Finish t (answer_of job len))).0 job.conn 0 1
not_late_owes s t job len late sound = owes_more s (step s (Finish t (answer_of job len))).0 job.conn 0 1 (λ c.
    let m = finish_moves (owing c) s t (answer_of job len) sound in
    let items = not_late_items c job.due (answer_of job len) late in
    let one = share_one job.conn c in let none = share_none job.conn c in omega arith)

-- Collect
tell_hands_none : (s : State) (conn : ConnId) (i : Item) (b : Bool) → reply.Handed i ≢ (shut s conn b).1
tell_hands_none s conn i true is = absurd (cc)
tell_hands_none s conn i false is = absurd (cc)

pub over_hands_none : (s : State) (conn : ConnId) (i : Item) (o : Option How) → reply.Handed i ≢ (over s conn o).1
over_hands_none s conn i (Some how.Bad) is = absurd (cc)
over_hands_none s conn i (Some how.Shut) is = absurd (cc)
over_hands_none s conn i (Some how.Quiet) is = absurd (cc)
over_hands_none s conn i None is = tell_hands_none s conn i (was_told s conn) is

handed_conn : (s : State) (conn : ConnId) (at : ℕ) (i : Item) (o : Option Item) (j : Item) → o ≡ Some j → same_conn (item_conn j) conn ≡ true → reply.Handed i ≡ (handed s at o).1 → same_conn (item_conn i) conn ≡ true
handed_conn s conn at i (Some k) j here same is =
    let a : i ≡ k = cc in let b : k ≡ j = same_Some k j here in subst (λ (x : Item). same_conn (item_conn x) conn ≡ true) (sym (a ∙ b)) same
handed_conn s conn at i None j here same is = absurd (cc)

collected_conn : (s : State) (conn : ConnId) (i : Item) (o : Option ℕ) → item_place s conn ≡ o → reply.Handed i ≡ (collected s conn o).1 → same_conn (item_conn i) conn ≡ true
collected_conn s conn i (Some at) e is = let h = at_place (λ (x : Item). same_conn (item_conn x) conn) s.out at e in handed_conn s conn at i (slice_get s.out at) h.0 h.1 h.2 is
collected_conn s conn i None e is = absurd (over_hands_none s conn i (end_of s conn) is)

collect_keeps : (c : ConnId) (a b : ℕ) (r : LaneReply) → ((i : Item) → reply.Handed i ≢ r) → CollectMoves (owing c) a b r → b ≡ a
collect_keeps c a b (reply.Handed i) n m = absurd (n i refl)
collect_keeps c a b reply.Close n m = m
collect_keeps c a b reply.Error n m = m
collect_keeps c a b reply.Done n m = m
collect_keeps c a b r n m = absurd m

pub handed_owes : (s : State) (conn : ConnId) (i : Item) → reply.Handed i ≡ (step s (Collect conn)).1 → OwesMore s (step s (Collect conn)).0 conn 0 1
handed_owes s conn i is = owes_more s (step s (Collect conn)).0 conn 0 1 (λ c.
    let m : weigh (owing c) (step s (Collect conn)).0 + (owing c).owes i ≡ weigh (owing c) s = subst (CollectMoves (owing c) (weigh (owing c) s) (weigh (owing c) (step s (Collect conn)).0)) (sym is) (collect_moves (owing c) s conn) in
    let same : item_conn i ≡ conn = conn_is (item_conn i) conn (collected_conn s conn i (item_place s conn) refl is) in
    let one : share conn c 1 ≡ (owing c).owes i = ap (λ (x : ConnId). share x c 1) (sym same) in
    let none = share_none conn c in omega arith)

pub ended_owes : (s : State) (conn : ConnId) → ((i : Item) → reply.Handed i ≢ (step s (Collect conn)).1) → OwesMore s (step s (Collect conn)).0 conn 0 0
ended_owes s conn n = owes_more s (step s (Collect conn)).0 conn 0 0 (λ c. ap (λ (x : ℕ). x + share conn c 0)
    (collect_keeps c (weigh (owing c) s) (weigh (owing c) (step s (Collect conn)).0) (step s (Collect conn)).1 n (collect_moves (owing c) s conn)))

-- End and Leave
pub end_owes : (s : State) (conn : ConnId) (h : How) → OwesMore s (step s (End conn h)).0 conn 0 0
end_owes s conn h = owes_more s (step s (End conn h)).0 conn 0 0 (λ c. refl)

pub leave_owes : (s : State) (slot : ℕ) (conn : ConnId) → OwesMore s (step s (Leave slot)).0 conn 0 0
leave_owes s slot conn = owes_more s (step s (Leave slot)).0 conn 0 0 (λ c. refl)

-- what the table says of a connection is what is owed to it
pub counted : (s : State) (table : List ℕ) (conn : ConnId) (n : ℕ) → IsCounted s table → count_in table conn ≡ Some n → n ≡ owed s conn
counted s table conn n k is = elim (cases_Bool (in_reach conn)) [
  | inl t ↦ (let here : Some (cell table conn) ≡ Some n = sym (ap (λ (b : Bool). if b then Some (cell table conn) else None) t) ∙ is in sym (same_Some (cell table conn) n here) ∙ k.counts.each conn t)
  | inr f ↦ absurd (let out : ◌≡◌ {A = Option ℕ} None (Some n) = sym (ap (λ (b : Bool). if b then Some (cell table conn) else None) f) ∙ is in cc)
]

-- a count has room for a little more
pub room : (s : State) (table : List ℕ) (conn : ConnId) (n : ℕ) → IsCounted s table → n ≤ 2 → in_reach conn ≡ true → cell table conn + n < 2 ^ 8
room s table conn n k few r = let a = few_owed s table conn k r in omega arith

-- where something is owed no more, something was
pub some_owed : (s s' : State) (table : List ℕ) (conn : ConnId) → IsCounted s table → OwesMore s s' conn 0 1 → in_reach conn ≡ true → 0 < cell table conn
some_owed s s' table conn k owes r =
    let e = owes conn in
    let itself : same_conn conn conn ≡ true = and_from (conn.slot == conn.slot) (conn.nth == conn.nth) (eq-eqb conn.slot conn.slot refl) (eq-eqb conn.nth conn.nth refl) in
    let one : share conn conn 1 ≡ 1 = ap (λ (b : Bool). if b then 1 else 0) itself in
    let none = share_none conn conn in let is = k.counts.each conn r in omega arith
