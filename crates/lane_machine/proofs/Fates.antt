-- Each admitted request is in one place.
use Rattle.std.proofs.Common.{◌≡◌, ℕ, ◌+◌, ◌≤◌, Bool, cond, ◌&&◌, ◌==◌, if◌then◌else◌, List, [], ◌∷◌, ◌++◌, Option, Some, None, inl, inr, refl, ap, ◌∙◌, arith}
use Rattle.std.specs.Prelude.{slice_get}
use Rattle.std.specs.List.{sum_by}
use Rattle.std.proofs.lemmas.List.Sums.{sum_by-cons, sum_by_push}
use Rattle.std.proofs.lemmas.Bool.{cases_eq, cases_Bool, and_parts, eqb-true}
use Rattle.orb_base.specs.declared.conn_id.ConnId.{ConnId}
use Rattle.orb_base.specs.declared.due.Due.TheVariants as due
use Rattle.orb_base.specs.declared.answer.Answer.{Answer}
use Rattle.orb_base.specs.declared.item.Item.{Item}
use Rattle.orb_base.specs.declared.item.Item.TheVariants as item
use Rattle.thread_borrowing.specs.declared.doing.Doing.TheVariants.{Given}
use Rattle.lane_machine.specs.declared.call.LaneCall.{LaneCall}
use Rattle.lane_machine.specs.declared.call.LaneCall.TheVariants.{Offer, Post, Cancel, Take, Finish, Collect, End, Leave}
use Rattle.lane_machine.specs.declared.call.LaneReply.{LaneReply}
use Rattle.lane_machine.specs.declared.call.LaneReply.TheVariants as reply
use Rattle.lane_machine.specs.Machine as machine
use Rattle.lane_machine.specs.Fates.{named, given_as, busy_as, waiting_of, given_of, busy_of, admits, takes, finishes, named_in, removes, admitted, taken, finished, removed}
use Rattle.lane_machine.specs.Entries.{One, of_mine, of_other, along}
use Rattle.lane_machine.specs.Callers.{of, heard_calls, is_heard, slot_seat, IsFit, AreFit}
use Rattle.lane_machine.proofs.Weighs.{Weight, weigh, OfferMoves, PostMoves, CancelMoves, TakeMoves, CollectMoves, offer_moves, post_moves, cancel_moves, take_moves, finish_moves, collect_moves}
use Rattle.lane_machine.specs.SeatLaws.{conn_is}
use Rattle.lane_machine.proofs.Bounds.{opening_weighs}
use Rattle.orb_base.specs.declared.job.Job.{Job}
use Rattle.lane_machine.specs.State.{State, Opens, opening}
use Rattle.thread_borrowing.specs.ThreadList.{Thread}
use Rattle.orb_base.specs.Conn.{same_conn}
use Rattle.lane_machine.specs.Machine.{step, is_over, early_items, refusals, late_items}
use Rattle.lane_machine.specs.Readiness.{IsSound}
use Rattle.lane_machine.specs.Histories.{History, replay, IsLegal}

-- the requests of a name that are in the machine, and those that run
abbrev inside : ConnId → ℕ → Weight
inside conn serial = record { waits = named conn serial; does = λ d. given_as conn serial d + busy_as conn serial d; owes = λ i. 0; free = refl; given = λ job. omega arith }

abbrev running : ConnId → ℕ → Weight
running conn serial = record { waits = λ job. 0; does = busy_as conn serial; owes = λ i. 0; free = refl; given = λ job. refl }

pub no_items : (xs : List Item) → sum_by (λ (i : Item). 0) xs ≡ 0
no_items [] = refl
no_items (x ∷ xs) = sum_by-cons (λ (i : Item). 0) x xs ∙ (let a = no_items xs in omega arith)

no_jobs : (xs : List Job) → sum_by (λ (i : Job). 0) xs ≡ 0
no_jobs [] = refl
no_jobs (x ∷ xs) = sum_by-cons (λ (i : Job). 0) x xs ∙ (let a = no_jobs xs in omega arith)

two_sums : (f g : Thread → ℕ) (xs : List Thread) → sum_by (λ (x : Thread). f x + g x) xs ≡ sum_by f xs + sum_by g xs
two_sums f g [] = refl
two_sums f g (x ∷ xs) = let a = two_sums f g xs in let b = sum_by-cons f x xs in let c = sum_by-cons g x xs in let d = sum_by-cons (λ (y : Thread). f y + g y) x xs in omega arith

-- one entry
offer_in : (conn : ConnId) (serial : ℕ) (s : State) (job : Job) (a b : ℕ) (r : LaneReply) → OfferMoves (inside conn serial) job a b r → b + finishes conn serial (Offer job) + removes conn serial s (Offer job) r ≡ a + admits conn serial (Offer job) r
offer_in conn serial s job a b (reply.Run t lent) m = let x = no_items (early_items job.due job) in omega arith
offer_in conn serial s job a b reply.Kept m = let x = no_items (early_items job.due job) in omega arith
offer_in conn serial s job a b reply.Full m = let x = no_items (refusals job.due job) in omega arith
offer_in conn serial s job a b reply.Closing m = omega arith
offer_in conn serial s job a b r m = absurd m

post_in : (conn : ConnId) (serial : ℕ) (i : Item) (a b : ℕ) (r : LaneReply) → PostMoves (inside conn serial) i a b r → b ≡ a
post_in conn serial i a b reply.Posted m = omega arith
post_in conn serial i a b reply.Closing m = m
post_in conn serial i a b r m = absurd m

cancel_in : (conn : ConnId) (serial : ℕ) (s : State) (c : ConnId) (id a b : ℕ) (r : LaneReply) → CancelMoves (inside conn serial) s.waiting c id a b r → b + removes conn serial s (Cancel c id) r ≡ a
cancel_in conn serial s c id a b reply.Removed m = ap (λ (o : Option Job). b + named_in conn serial o) m.1 ∙ m.2
cancel_in conn serial s c id a b reply.Nothing m = omega arith
cancel_in conn serial s c id a b reply.Closing m = omega arith
cancel_in conn serial s c id a b r m = absurd m

take_in : (conn : ConnId) (serial : ℕ) (a b : ℕ) (r : LaneReply) → TakeMoves (inside conn serial) a b r → b ≡ a
take_in conn serial a b (reply.Given job) m = omega arith
take_in conn serial a b reply.Ended m = m
take_in conn serial a b r m = absurd m

collect_in : (conn : ConnId) (serial : ℕ) (a b : ℕ) (r : LaneReply) → CollectMoves (inside conn serial) a b r → b ≡ a
collect_in conn serial a b (reply.Handed i) m = omega arith
collect_in conn serial a b reply.Close m = m
collect_in conn serial a b reply.Error m = m
collect_in conn serial a b reply.Done m = m
collect_in conn serial a b r m = absurd m

fate_step : (conn : ConnId) (serial : ℕ) (s : State) (call : LaneCall) → IsSound s call
    → weigh (inside conn serial) (step s call).0 + finishes conn serial call + removes conn serial s call (step s call).1 ≡ weigh (inside conn serial) s + admits conn serial call (step s call).1
fate_step conn serial s (Offer job) q = offer_in conn serial s job (weigh (inside conn serial) s) (weigh (inside conn serial) (step s (Offer job)).0) (step s (Offer job)).1 (offer_moves (inside conn serial) s job (is_over s job.size))
fate_step conn serial s (Post notice) q = let m = post_in conn serial (item.Noticed notice) (weigh (inside conn serial) s) (weigh (inside conn serial) (step s (Post notice)).0) (step s (Post notice)).1 (post_moves (inside conn serial) s (item.Noticed notice) (is_over s 0)) in omega arith
fate_step conn serial s (Cancel c id) q = let m = cancel_in conn serial s c id (weigh (inside conn serial) s) (weigh (inside conn serial) (step s (Cancel c id)).0) (step s (Cancel c id)).1 (cancel_moves (inside conn serial) s c id (is_over s 0)) in omega arith
fate_step conn serial s (Take t) q = let m = take_in conn serial (weigh (inside conn serial) s) (weigh (inside conn serial) (step s (Take t)).0) (step s (Take t)).1 (take_moves (inside conn serial) s t) in omega arith
fate_step conn serial s (Finish t answer) q = let m = finish_moves (inside conn serial) s t answer q in let n = no_items (late_items answer.job.due answer) in omega arith
fate_step conn serial s (Collect c) q = let m = collect_in conn serial (weigh (inside conn serial) s) (weigh (inside conn serial) (step s (Collect c)).0) (step s (Collect c)).1 (collect_moves (inside conn serial) s c) in omega arith
fate_step conn serial s (End c how) q = omega arith
fate_step conn serial s (Leave slot) q = omega arith

fates : (conn : ConnId) (serial : ℕ) (s : State) (h : History) → IsLegal s h
    → weigh (inside conn serial) (replay s h) + finished conn serial h + removed conn serial s h ≡ weigh (inside conn serial) s + admitted conn serial h
fates conn serial s [] l = omega arith
fates conn serial s (e ∷ es) l = let a = fate_step conn serial s e.call l.1 in let b = fates conn serial (step s e.call).0 es l.3 in
    let c : removes conn serial s e.call e.reply ≡ removes conn serial s e.call (step s e.call).1 = ap (removes conn serial s e.call) l.2 in let d : admits conn serial e.call e.reply ≡ admits conn serial e.call (step s e.call).1 = ap (admits conn serial e.call) l.2 in
    let x = sum_by-cons (λ (z : One). finishes conn serial z.call) e es in let y = sum_by-cons (λ (z : One). admits conn serial z.call z.reply) e es in omega arith

-- the same of what was taken
offer_runs : (conn : ConnId) (serial : ℕ) (job : Job) (a b : ℕ) (r : LaneReply) → OfferMoves (running conn serial) job a b r → b ≡ a + takes conn serial r
offer_runs conn serial job a b (reply.Run t lent) m = let x = no_items (early_items job.due job) in omega arith
offer_runs conn serial job a b reply.Kept m = let x = no_items (early_items job.due job) in omega arith
offer_runs conn serial job a b reply.Full m = let x = no_items (refusals job.due job) in omega arith
offer_runs conn serial job a b reply.Closing m = omega arith
offer_runs conn serial job a b r m = absurd m

post_runs : (conn : ConnId) (serial : ℕ) (i : Item) (a b : ℕ) (r : LaneReply) → PostMoves (running conn serial) i a b r → b ≡ a + takes conn serial r
post_runs conn serial i a b reply.Posted m = omega arith
post_runs conn serial i a b reply.Closing m = omega arith
post_runs conn serial i a b r m = absurd m

cancel_runs : (conn : ConnId) (serial : ℕ) (s : State) (c : ConnId) (id a b : ℕ) (r : LaneReply) → CancelMoves (running conn serial) s.waiting c id a b r → b ≡ a + takes conn serial r
cancel_runs conn serial s c id a b reply.Removed m = let x = m.2 in omega arith
cancel_runs conn serial s c id a b reply.Nothing m = omega arith
cancel_runs conn serial s c id a b reply.Closing m = omega arith
cancel_runs conn serial s c id a b r m = absurd m

take_runs : (conn : ConnId) (serial : ℕ) (a b : ℕ) (r : LaneReply) → TakeMoves (running conn serial) a b r → b ≡ a + takes conn serial r
take_runs conn serial a b (reply.Given job) m = omega arith
take_runs conn serial a b reply.Ended m = omega arith
take_runs conn serial a b r m = absurd m

collect_runs : (conn : ConnId) (serial : ℕ) (a b : ℕ) (r : LaneReply) → CollectMoves (running conn serial) a b r → b ≡ a + takes conn serial r
collect_runs conn serial a b (reply.Handed i) m = omega arith
collect_runs conn serial a b reply.Close m = omega arith
collect_runs conn serial a b reply.Error m = omega arith
collect_runs conn serial a b reply.Done m = omega arith
collect_runs conn serial a b r m = absurd m

finished_says : (s : State) (t : ℕ) (answer : Answer) (o : Option Thread) → (machine.finished s t answer o).1 ≡ reply.Finished
finished_says s t answer (Some thread) = refl
finished_says s t answer None = refl

run_step : (conn : ConnId) (serial : ℕ) (s : State) (call : LaneCall) → IsSound s call
    → weigh (running conn serial) (step s call).0 + finishes conn serial call ≡ weigh (running conn serial) s + takes conn serial (step s call).1
run_step conn serial s (Offer job) q = let m = offer_runs conn serial job (weigh (running conn serial) s) (weigh (running conn serial) (step s (Offer job)).0) (step s (Offer job)).1 (offer_moves (running conn serial) s job (is_over s job.size)) in omega arith
run_step conn serial s (Post notice) q = let m = post_runs conn serial (item.Noticed notice) (weigh (running conn serial) s) (weigh (running conn serial) (step s (Post notice)).0) (step s (Post notice)).1 (post_moves (running conn serial) s (item.Noticed notice) (is_over s 0)) in omega arith
run_step conn serial s (Cancel c id) q = let m = cancel_runs conn serial s c id (weigh (running conn serial) s) (weigh (running conn serial) (step s (Cancel c id)).0) (step s (Cancel c id)).1 (cancel_moves (running conn serial) s c id (is_over s 0)) in omega arith
run_step conn serial s (Take t) q = let m = take_runs conn serial (weigh (running conn serial) s) (weigh (running conn serial) (step s (Take t)).0) (step s (Take t)).1 (take_moves (running conn serial) s t) in omega arith
run_step conn serial s (Finish t answer) q = let m = finish_moves (running conn serial) s t answer q in let n = no_items (late_items answer.job.due answer) in let k : takes conn serial (step s (Finish t answer)).1 ≡ 0 = ap (takes conn serial) (finished_says s t answer (slice_get s.threads t)) in omega arith
run_step conn serial s (Collect c) q = let m = collect_runs conn serial (weigh (running conn serial) s) (weigh (running conn serial) (step s (Collect c)).0) (step s (Collect c)).1 (collect_moves (running conn serial) s c) in omega arith
run_step conn serial s (End c how) q = omega arith
run_step conn serial s (Leave slot) q = omega arith

runs : (conn : ConnId) (serial : ℕ) (s : State) (h : History) → IsLegal s h → weigh (running conn serial) (replay s h) + finished conn serial h ≡ weigh (running conn serial) s + taken conn serial h
runs conn serial s [] l = omega arith
runs conn serial s (e ∷ es) l = let a = run_step conn serial s e.call l.1 in let b = runs conn serial (step s e.call).0 es l.3 in let c : takes conn serial e.reply ≡ takes conn serial (step s e.call).1 = ap (takes conn serial) l.2 in
    let x = sum_by-cons (λ (z : One). finishes conn serial z.call) e es in let y = sum_by-cons (λ (z : One). takes conn serial z.reply) e es in omega arith

-- the law, from the opening state
pub one_place : (conn : ConnId) (serial : ℕ) (s : State) (h : History) → Opens s → IsLegal s h
    → waiting_of conn serial (replay s h) + given_of conn serial (replay s h) + busy_of conn serial (replay s h) + finished conn serial h + removed conn serial s h ≡ admitted conn serial h
one_place conn serial s h o l = let a = fates conn serial s h l in let b : weigh (inside conn serial) s ≡ 0 = ap (weigh (inside conn serial)) o.fresh ∙ opening_weighs (inside conn serial) s.pool s.slots s.per_slot in
    let c = two_sums (λ thread. given_as conn serial thread.doing) (λ thread. busy_as conn serial thread.doing) (replay s h).threads in let d = no_items (replay s h).out in omega arith

pub taken_once : (conn : ConnId) (serial : ℕ) (s : State) (h : History) → Opens s → IsLegal s h → busy_of conn serial (replay s h) + finished conn serial h ≡ taken conn serial h
taken_once conn serial s h o l = let a = runs conn serial s h l in let b : weigh (running conn serial) s ≡ 0 = ap (weigh (running conn serial)) o.fresh ∙ opening_weighs (running conn serial) s.pool s.slots s.per_slot in
    let c = no_jobs (replay s h).waiting in let d = no_items (replay s h).out in omega arith

-- no two requests of one name
abbrev Named : History → Type 0
Named h = (conn : ConnId) (serial : ℕ) → (admitted conn serial h ≤ 1) × (heard_calls conn (of (slot_seat conn.slot) h) ≤ serial → admitted conn serial h ≡ 0)

-- how many calls are heard of a connection grows by the last call
pub heard_push : (conn : ConnId) (h : History) (e : One) → heard_calls conn (h ++ e ∷ []) ≡ heard_calls conn h + cond (is_heard conn e.call) 1 0
heard_push conn h e = sum_by_push (λ (x : One). cond (is_heard conn x.call) 1 0) h e

heard_grow : (conn : ConnId) (n : ℕ) (h : History) (e : One) → heard_calls conn (of n h) ≤ heard_calls conn (of n (h ++ e ∷ []))
heard_grow conn n h e = elim (cases_eq e.caller n) [
  | inl c ↦ (let a = heard_push conn (of n h) e in let b : heard_calls conn (of n (h ++ e ∷ [])) ≡ heard_calls conn (of n h ++ e ∷ []) = ap (heard_calls conn) (of_mine n h e c) in omega arith)
  | inr d ↦ (let b : heard_calls conn (of n (h ++ e ∷ [])) ≡ heard_calls conn (of n h) = ap (heard_calls conn) (of_other n h e d) in omega arith)
]

admits_few : (conn : ConnId) (serial : ℕ) (job : Job) (r : LaneReply) → admits conn serial (Offer job) r ≤ named conn serial job
admits_few conn serial job (reply.Run t lent) = omega arith
admits_few conn serial job reply.Kept = omega arith
admits_few conn serial job r = omega arith

not_admitted : (h : History) (e : One) (conn : ConnId) (serial : ℕ) → admits conn serial e.call e.reply ≡ 0 → (admitted conn serial h ≤ 1) × (heard_calls conn (of (slot_seat conn.slot) h) ≤ serial → admitted conn serial h ≡ 0)
    → (admitted conn serial (h ++ e ∷ []) ≤ 1) × (heard_calls conn (of (slot_seat conn.slot) (h ++ e ∷ [])) ≤ serial → admitted conn serial (h ++ e ∷ []) ≡ 0)
not_admitted h e conn serial z m = let a = sum_by_push (λ (x : One). admits conn serial x.call x.reply) h e in let b = m.0 in let g = heard_grow conn (slot_seat conn.slot) h e in (omega arith, λ l. let y = m.1 (omega arith) in omega arith)

offered_named : (s0 : State) (h : History) (e : One) (job : Job) → e.call ≡ Offer job → IsFit s0 e.caller (of e.caller h) (Offer job) → Named h → Named (h ++ e ∷ [])
offered_named s0 h e job c f m conn serial = elim (cases_Bool (same_conn job.conn conn && (job.serial == serial))) [
  | inl t ↦ (let p = and_parts (same_conn job.conn conn) (job.serial == serial) t in let same = conn_is job.conn conn p.0 in let k = eqb-true job.serial serial p.1 in
      let at : heard_calls job.conn (of e.caller h) ≡ heard_calls conn (of (slot_seat conn.slot) h) = ap (λ (z : ℕ). heard_calls job.conn (of z h)) f.0 ∙ ap (λ (z : ConnId). heard_calls z (of (slot_seat z.slot) h)) same in
      let n : job.serial ≡ heard_calls job.conn (of e.caller h) = f.1.2 in let y = (m conn serial).1 (omega arith) in let a = sum_by_push (λ (x : One). admits conn serial x.call x.reply) h e in
      let q : admits conn serial e.call e.reply ≡ admits conn serial (Offer job) e.reply = ap (λ (z : LaneCall). admits conn serial z e.reply) c in let few = admits_few conn serial job e.reply in
      let v : named conn serial job ≡ 1 = ap (λ (b : Bool). if b then 1 else 0) t in let w = heard_push conn (of (slot_seat conn.slot) h) e in
      let u : heard_calls conn (of (slot_seat conn.slot) (h ++ e ∷ [])) ≡ heard_calls conn (of (slot_seat conn.slot) h ++ e ∷ []) = ap (heard_calls conn) (of_mine (slot_seat conn.slot) h e (f.0 ∙ ap (λ (z : ConnId). slot_seat z.slot) same)) in
      let x : ◌≡◌ {A = ℕ} (cond (is_heard conn e.call) 1 0) 1 = ap (λ (z : LaneCall). cond {A = ℕ} (is_heard conn z) 1 0) c ∙ ap (λ (b : Bool). cond {A = ℕ} b 1 0) p.0 in
      (omega arith, λ l. absurd (omega arith)))
  | inr t ↦ not_admitted h e conn serial (let q : admits conn serial e.call e.reply ≡ admits conn serial (Offer job) e.reply = ap (λ (z : LaneCall). admits conn serial z e.reply) c in let few = admits_few conn serial job e.reply in
      let v : named conn serial job ≡ 0 = ap (λ (b : Bool). if b then 1 else 0) t in omega arith) (m conn serial)
]

named_step : (s0 : State) (h : History) (e : One) (call : LaneCall) → e.call ≡ call → IsFit s0 e.caller (of e.caller h) call → Named h → Named (h ++ e ∷ [])
named_step s0 h e (Offer job) c f m = offered_named s0 h e job c f m
named_step s0 h e call c f m = λ conn serial. not_admitted h e conn serial (ap (λ (z : LaneCall). admits conn serial z e.reply) c) (m conn serial)

pub admitted_once : (conn : ConnId) (serial : ℕ) (s : State) (h : History) → Opens s → IsLegal s h → AreFit s h → admitted conn serial h ≤ 1
admitted_once conn serial s h o l f = (along s (λ h s'. Named h) (λ h s' e m r q w g. named_step s h e e.call refl g m) [] h s (λ conn serial. (omega arith, λ l. refl)) l f conn serial).0
