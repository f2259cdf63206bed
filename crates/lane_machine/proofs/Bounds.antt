-- The limits that every call keeps.
use Rattle.std.proofs.Common.{◌≡◌, ℕ, ◌+◌, ◌*◌, ◌<◌, ◌≤◌, suc, zero, Bool, true, false, cond, ltb, leb, eqb, ◌&&◌, ◌||◌, List, [], ◌∷◌, ◌++◌, length, Option, Some, None, inl, inr, sym, refl, ap, ◌∙◌, subst, arith, rules}
use Rattle.std.specs.Prelude.{slice_get, slice_set, remove, position, nat_le, nat_lt}
use Rattle.std.specs.List.{sum_by}
use Rattle.std.proofs.lemmas.Bool.{and_parts, or_parts, or_cases, cases_Bool, ltb-true, leb-true, eqb-true, both_ways}
use Rattle.std.proofs.lemmas.List.{length-set, length-append, length-take, length-drop}
use Rattle.std.proofs.lemmas.List.Sums.{sum_by_push, sum_by-append, sum_by-cons}
use Rattle.orb_base.specs.declared.conn_id.ConnId.{ConnId}
use Rattle.orb_base.specs.declared.due.Due.{Due}
use Rattle.orb_base.specs.declared.due.Due.TheVariants as due
use Rattle.orb_base.specs.declared.answer.Answer.{Answer}
use Rattle.orb_base.specs.declared.item.Item.{Item}
use Rattle.orb_base.specs.declared.item.Item.TheVariants as item
use Rattle.lane_machine.specs.declared.call.LaneCall.{LaneCall}
use Rattle.lane_machine.specs.declared.call.LaneCall.TheVariants.{Offer, Post, Cancel, Take, Finish, Collect, End, Leave}
use Rattle.lane_machine.specs.declared.call.LaneReply.{LaneReply}
use Rattle.lane_machine.specs.declared.call.LaneReply.TheVariants as reply
use Rattle.orb_base.specs.declared.lane_spec.LaneSpec.{LaneSpec}
use Rattle.thread_borrowing.specs.declared.doing.Doing.TheVariants.{Free, Given, Busy}
use Rattle.lane_machine.proofs.Weighs.{Weight, weigh, OfferMoves, PostMoves, CancelMoves, TakeMoves, CollectMoves, offer_moves, post_moves, cancel_moves, take_moves, finish_moves, collect_moves}
use Rattle.thread_borrowing.proofs.Growing.{length-pool_threads}
use Rattle.lane_machine.specs.SeatLaws.{conn_is}
use Rattle.lane_machine.specs.Changes.{stay, Change, same, starts, keeps, drops, begins, frees, passes, changes}
use Rattle.orb_base.specs.declared.job.Job.{Job}
use Rattle.orb_base.specs.Pool.{Pool, lane_threads}
use Rattle.orb_base.specs.declared.limits.TheConstants.{MAX_OWED}
use Rattle.lane_machine.specs.State.{State, opening}
use Rattle.thread_borrowing.specs.ThreadList.{Thread, some_threads, pool_threads, works_for, given, doing}
use Rattle.lane_machine.specs.Machine.{item_conn, step, is_over, offered, posted, cancelled, early_items, refusals, late_items, may_wait}
use Rattle.orb_base.specs.Conn.{same_conn}
use Rattle.lane_machine.specs.Readiness.{is_ready, IsSound, owed}
use Rattle.request_buffer.specs.Kept.{kept_bytes}
use Rattle.thread_borrowing.proofs.Places.{sum_remove}

abbrev pub owing : ConnId → Weight
owing conn = record {
  waits = λ job. cond (same_conn job.conn conn) 1 0;
  does = λ d. cond (works_for conn d) 1 0;
  owes = λ i. cond (same_conn (item_conn i) conn) 1 0;
  free = refl;
  given = λ job. refl;
}

pub owed_is : (s : State) (conn : ConnId) → owed s conn ≡ weigh (owing conn) s
unfolding owed
owed_is s conn = refl

-- at most one, and for each connection of its own
mine : ConnId → Job → ℕ
mine conn job = (owing conn).waits job

pub early_few : (conn : ConnId) (d : Due) (job : Job) → sum_by (owing conn).owes (early_items d job) ≤ (owing conn).waits job
early_few conn due.Nothing job = omega arith
early_few conn due.Early job = omega arith
early_few conn due.Late job = omega arith

pub refused_few : (conn : ConnId) (d : Due) (job : Job) → sum_by (owing conn).owes (refusals d job) ≤ (owing conn).waits job
refused_few conn due.Nothing job = omega arith
refused_few conn due.Early job = omega arith
refused_few conn due.Late job = omega arith

pub late_few : (conn : ConnId) (d : Due) (answer : Answer) → sum_by (owing conn).owes (late_items d answer) ≤ (owing conn).waits answer.job
late_few conn due.Nothing answer = omega arith
late_few conn due.Early answer = omega arith
late_few conn due.Late answer = omega arith

offer_few : (conn : ConnId) (job : Job) (a b : ℕ) (r : LaneReply) → OfferMoves (owing conn) job a b r → b ≤ a + 2 * (owing conn).waits job
offer_few conn job a b (reply.Run t lent) m = omega (arith, early_few conn job.due job)
offer_few conn job a b reply.Kept m = omega (arith, early_few conn job.due job)
offer_few conn job a b reply.Full m = omega (arith, refused_few conn job.due job)
offer_few conn job a b reply.Closing m = omega arith
offer_few conn job a b r m = absurd m

post_few : (conn : ConnId) (i : Item) (a b : ℕ) (r : LaneReply) → PostMoves (owing conn) i a b r → b ≤ a + (owing conn).owes i
post_few conn i a b reply.Posted m = omega arith
post_few conn i a b reply.Closing m = omega arith
post_few conn i a b r m = absurd m

cancel_few : (conn : ConnId) (waiting : List Job) (c : ConnId) (id a b : ℕ) (r : LaneReply) → CancelMoves (owing conn) waiting c id a b r → b ≤ a
cancel_few conn waiting c id a b reply.Removed m = let e = m.2 in omega arith
cancel_few conn waiting c id a b reply.Nothing m = omega arith
cancel_few conn waiting c id a b reply.Closing m = omega arith
cancel_few conn waiting c id a b r m = absurd m

take_few : (conn : ConnId) (a b : ℕ) (r : LaneReply) → TakeMoves (owing conn) a b r → b ≤ a
take_few conn a b (reply.Given job) m = omega arith
take_few conn a b reply.Ended m = omega arith
take_few conn a b r m = absurd m

collect_few : (conn : ConnId) (a b : ℕ) (r : LaneReply) → CollectMoves (owing conn) a b r → b ≤ a
collect_few conn a b (reply.Handed i) m = omega arith
collect_few conn a b reply.Close m = omega arith
collect_few conn a b reply.Error m = omega arith
collect_few conn a b reply.Done m = omega arith
collect_few conn a b r m = absurd m

-- a call that finds closing changes nothing that is owed
offer_keeps : (conn : ConnId) (s : State) (job : Job) (over : Bool) → is_over s job.size ≡ over → is_ready s (Offer job) ≡ true → weigh (owing conn) s ≤ 65 → weigh (owing conn) (offered s job over).0 ≤ 65
offer_keeps conn s job true o r h = h
offer_keeps conn s job false o r h = let few = offer_few conn job (weigh (owing conn) s) (weigh (owing conn) (offered s job false).0) (offered s job false).1 (offer_moves (owing conn) s job false) in
    elim (or_cases s.closing (nat_le (owed s job.conn) MAX_OWED) r) [
      | inl c ↦ absurd (both_ways s.closing (or_parts s.closing (nat_le s.pool.run_calls s.calls) (or_parts (s.closing || nat_le s.pool.run_calls s.calls) (nat_lt s.pool.run_bytes (s.bytes + job.size)) o).0).0 c)
      | inr l ↦ elim (cases_Bool (same_conn job.conn conn)) [
        | inl e ↦ (let k : weigh (owing conn) s ≡ owed s job.conn = sym (owed_is s conn) ∙ ap (owed s) (sym (conn_is job.conn conn e)) in let v : (owing conn).waits job ≡ 1 = ap (λ (b : Bool). cond b 1 0) e in let u = leb-true (owed s job.conn) MAX_OWED l in omega arith)
        | inr f ↦ (let v : (owing conn).waits job ≡ 0 = ap (λ (b : Bool). cond b 1 0) f in omega arith)
      ]
    ]

post_keeps : (conn : ConnId) (s : State) (i : Item) (over : Bool) → is_over s 0 ≡ over → (s.closing || nat_le (owed s (item_conn i)) MAX_OWED) ≡ true → weigh (owing conn) s ≤ 65 → weigh (owing conn) (posted s i over).0 ≤ 65
post_keeps conn s i true o r h = h
post_keeps conn s i false o r h = let few = post_few conn i (weigh (owing conn) s) (weigh (owing conn) (posted s i false).0) (posted s i false).1 (post_moves (owing conn) s i false) in
    elim (or_cases s.closing (nat_le (owed s (item_conn i)) MAX_OWED) r) [
      | inl c ↦ absurd (both_ways s.closing (or_parts s.closing (nat_le s.pool.run_calls s.calls) (or_parts (s.closing || nat_le s.pool.run_calls s.calls) (nat_lt s.pool.run_bytes (s.bytes + 0)) o).0).0 c)
      | inr l ↦ elim (cases_Bool (same_conn (item_conn i) conn)) [
        | inl e ↦ (let k : weigh (owing conn) s ≡ owed s (item_conn i) = sym (owed_is s conn) ∙ ap (owed s) (sym (conn_is (item_conn i) conn e)) in let v : (owing conn).owes i ≡ 1 = ap (λ (b : Bool). cond b 1 0) e in let u = leb-true (owed s (item_conn i)) MAX_OWED l in omega arith)
        | inr f ↦ (let v : (owing conn).owes i ≡ 0 = ap (λ (b : Bool). cond b 1 0) f in omega arith)
      ]
    ]

keeps_owed : (conn : ConnId) (s : State) (call : LaneCall) → is_ready s call ≡ true → IsSound s call → weigh (owing conn) s ≤ 65 → weigh (owing conn) (step s call).0 ≤ 65
keeps_owed conn s (Offer job) r q h = offer_keeps conn s job (is_over s job.size) refl r h
keeps_owed conn s (Post notice) r q h = post_keeps conn s (item.Noticed notice) (is_over s 0) refl r h
keeps_owed conn s (Cancel c id) r q h = let m = cancel_few conn s.waiting c id (weigh (owing conn) s) (weigh (owing conn) (step s (Cancel c id)).0) (step s (Cancel c id)).1 (cancel_moves (owing conn) s c id (is_over s 0)) in omega arith
keeps_owed conn s (Take t) r q h = let m = take_few conn (weigh (owing conn) s) (weigh (owing conn) (step s (Take t)).0) (step s (Take t)).1 (take_moves (owing conn) s t) in omega arith
keeps_owed conn s (Finish t answer) r q h = let m = finish_moves (owing conn) s t answer q in let l = late_few conn answer.job.due answer in omega arith
keeps_owed conn s (Collect c) r q h = let m = collect_few conn (weigh (owing conn) s) (weigh (owing conn) (step s (Collect c)).0) (step s (Collect c)).1 (collect_moves (owing conn) s c) in omega arith
keeps_owed conn s (End c e) r q h = h
keeps_owed conn s (Leave slot) r q h = h

length_remove : {X : Type 0} (xs : List X) (i : ℕ) → length (remove xs i) ≤ length xs
length_remove xs i = simp (length-append, length-take, length-drop) (omega arith)

sum_remove_le : (xs : List Job) (i : ℕ) (x : Job) → slice_get xs i ≡ Some x → sum_by (λ (job : Job). job.size) (remove xs i) ≤ sum_by (λ (job : Job). job.size) xs
sum_remove_le xs i x g = let h = sum_remove (λ (job : Job). job.size) xs i x g in omega arith

abbrev Fits : Pool → List Job → Type 0
Fits pool waiting = (length waiting ≤ pool.max_requests) × (sum_by (λ (job : Job). job.size) waiting ≤ pool.max_bytes)

-- what waits stays within the pool's limits
fits : (pool : Pool) (threads : List Thread) (waiting : List Job) (threads' : List Thread) (waiting' : List Job) → Change pool threads waiting threads' waiting' → Fits pool waiting → Fits pool waiting'
fits pool threads waiting threads' waiting' (same t w) h = subst (Fits pool) (sym w) h
fits pool threads waiting threads' waiting' (starts t thread job g e p w) h = subst (Fits pool) (sym w) h
fits pool threads waiting threads' waiting' (keeps job e r p w) h = subst (Fits pool) (sym w) (
    let a = and_parts (pool.buffering && nat_lt (length waiting) pool.max_requests) (nat_le (sum_by (λ (j : Job). j.size) waiting + job.size) pool.max_bytes) r in
    let b = and_parts pool.buffering (nat_lt (length waiting) pool.max_requests) a.0 in let c = ltb-true (length waiting) pool.max_requests b.1 in let d = leb-true (sum_by (λ (j : Job). j.size) waiting + job.size) pool.max_bytes a.1 in
    (omega (arith, length-append waiting (job ∷ [])), omega (arith, sum_by_push (λ (j : Job). j.size) waiting job)))
fits pool threads waiting threads' waiting' (drops at job g p w) h = let a = length_remove waiting at in let b = sum_remove_le waiting at job g in subst (Fits pool) (sym w) (omega arith, omega arith)
fits pool threads waiting threads' waiting' (begins t thread job g e p w) h = subst (Fits pool) (sym w) h
fits pool threads waiting threads' waiting' (frees t thread g e p w) h = subst (Fits pool) (sym w) h
fits pool threads waiting threads' waiting' (passes t thread at job g x e p w) h = let a = length_remove waiting at in let b = sum_remove_le waiting at job x in subst (Fits pool) (sym w) (omega arith, omega arith)

-- the bounds together
pub record Bounded (pool : Pool) (s : State) : Type 0 where
  pub same_pool : s.pool ≡ pool
  pub owed_few : (conn : ConnId) → weigh (owing conn) s ≤ 65
  pub fits_in : Fits pool s.waiting
  pub threads : length s.threads ≤ 64

pub bounded : (pool : Pool) (s : State) (call : LaneCall) → is_ready s call ≡ true → IsSound s call → Bounded pool s → Bounded pool (step s call).0
bounded pool s call r q b = let c = changes s call in record {
  same_pool = c.0 ∙ b.same_pool;
  owed_few = λ conn. keeps_owed conn s call r q (b.owed_few conn);
  fits_in = subst (λ (p : Pool). Fits p (step s call).0.waiting) b.same_pool (fits s.pool s.threads s.waiting (step s call).0.threads (step s call).0.waiting c.3 (subst (λ (p : Pool). Fits p s.waiting) (sym b.same_pool) b.fits_in));
  threads = let k = stay s.pool s.threads s.waiting (step s call).0.threads (step s call).0.waiting c.3 in let l = b.threads in omega arith;
}

-- at the opening nothing weighs
no_tasks : (w : Weight) (lane : ℕ) (kind : Bool) (n : ℕ) → sum_by (λ (thread : Thread). w.does thread.doing) (some_threads lane kind n) ≡ 0
no_tasks w lane kind zero = refl
no_tasks w lane kind (suc n) = sum_by-cons (λ (thread : Thread). w.does thread.doing) (record { lane = lane; is_static = kind; started = kind; doing = Free }) (some_threads lane kind n) ∙ (let a = no_tasks w lane kind n in let b = w.free in omega arith)

none_weigh : (w : Weight) (lane : ℕ) (lanes : List LaneSpec) → sum_by (λ (thread : Thread). w.does thread.doing) (pool_threads lane lanes) ≡ 0
none_weigh w lane [] = refl
none_weigh w lane (l ∷ ls) = let a = no_tasks w lane true l.statics in let b = no_tasks w lane false l.dynamics in let c = none_weigh w (lane + 1) ls in
    omega (arith, sum_by-append (λ (thread : Thread). w.does thread.doing) (some_threads lane true l.statics ++ some_threads lane false l.dynamics) (pool_threads (lane + 1) ls), sum_by-append (λ (thread : Thread). w.does thread.doing) (some_threads lane true l.statics) (some_threads lane false l.dynamics))

pub opening_weighs : (w : Weight) (pool : Pool) (slots per_slot : ℕ) → weigh w (opening pool slots per_slot) ≡ 0
opening_weighs w pool slots per_slot = let a = none_weigh w 0 pool.lanes in omega arith

pub bounded_first : (pool : Pool) (slots per_slot : ℕ) → sum_by lane_threads pool.lanes ≤ 64 → Bounded pool (opening pool slots per_slot)
bounded_first pool slots per_slot few = record {
  same_pool = refl;
  owed_few = λ conn. let a = opening_weighs (owing conn) pool slots per_slot in omega arith;
  fits_in = (omega arith, omega arith);
  threads = let a = length-pool_threads 0 pool.lanes in omega arith;
}
