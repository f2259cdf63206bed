-- A run of the pipe's jobs, one after another, is what the pipe is defined to do with their calls.
use Rattle.std.proofs.Common.{◌≡◌, ℕ, suc, ◌+◌, ◌≤◌, Bool, true, false, List, [], ◌∷◌, ◌++◌, refl, sym, ap, ◌∙◌, subst, inl, inr, arith, lit≤, append_assoc, append-nil}
use Rattle.std.specs.Prelude.{◌==◌, if◌then◌else◌}
use Rattle.std.specs.List.{list_any, AllByRecursion}
use Rattle.std.proofs.lemmas.Bool.{cases_Bool}
use Rattle.orb_base.specs.Outcomes.{no_memory, bad_operation, body_len}
use Rattle.orb_base.specs.JobRecord.{JobRecord}
use Rattle.orb_base.specs.declared.limits.TheConstants.{MAX_BODY}
use Rattle.orb_base.specs.declared.order.Order.{Order}
use Rattle.orb_base.specs.declared.outcome.Outcome.{Outcome}
use Rattle.orb_base.specs.declared.item.Item.TheVariants.{Answered}
use Rattle.lane_machine.specs.declared.call.LaneCall.{LaneCall}
use Rattle.lane_machine.specs.declared.call.LaneCall.TheVariants.{Offer, Take, Finish, Collect}
use Rattle.lane_machine.specs.declared.call.LaneReply.{LaneReply}
use Rattle.lane_machine.specs.declared.call.LaneReply.TheVariants as reply
use Rattle.thread_borrowing.specs.declared.doing.Doing.TheVariants.{Free, Given}
use Rattle.lane_machine.specs.State.{State}
use Rattle.thread_borrowing.specs.Choice.{chosen_thread}
use Rattle.request_buffer.specs.Next.{next_job}
use Rattle.lane_machine.specs.Machine.{step, is_over, offered}
use Rattle.lane_machine.specs.Readiness.{owed}
use Rattle.lane_machine.specs.Histories.{History, replay, IsLegal}
use Rattle.pipe_laws.specs.Setup.{pipe_conn, interface_of}
use Rattle.turn_cell.specs.declared.entry.Entry.{Entry}
use Rattle.lane_driver.specs.Driving.{run_at as at, entry}
use Rattle.lane_driver.specs.Feeding.{group_at}
use Rattle.adapter_policies.specs.SetupData.{SetupData}
use Rattle.item_writer.specs.ItemBytes.{item_bytes}
use Rattle.pipe_laws.specs.Said.{said}
use Rattle.pipe_laws.specs.Piped.{Run, settled, answer_of}
use Rattle.pipe_laws.specs.Groups.{Group, folded}
use Rattle.pipe_laws.proofs.Folds.{closing_stays}
use Rattle.ping_laws.specs.Stops.{has_closing, has_end}
use Rattle.ping_laws.specs.Built.{Spares}
use Rattle.ping_laws.specs.PingRun.{ping_job, IsPingJob, ArePingJobs, offers, outcome_at, with_thread, IsSettled, IsAnswered, Ran, Runs}

-- ---- words

abbrev pub idle : State → ℕ → ℕ → State
idle base calls bytes = with_thread base Free calls bytes

abbrev pub shut : State → ℕ → ℕ → State
shut base calls bytes = record (idle base calls bytes) { closing = true }

-- what the thread does after an offer
abbrev rest_of_deeds : JobRecord → Outcome → History
rest_of_deeds job answer =
    entry (Take 0) (reply.Given job) ∷ entry (Finish 0 (record { job = job; outcome = answer })) reply.Finished
    ∷ entry (Collect pipe_conn) (reply.Handed (Answered (record { job = job; outcome = answer }))) ∷ []

-- what is done for a job
abbrev deeds : JobRecord → Outcome → History
deeds job answer = entry (Offer job) (reply.Run 0 false) ∷ rest_of_deeds job answer

-- ---- one job
pub offer_runs : (base : State) (c b serial size id target level : ℕ) (order : Order) → is_over (idle base c b) size ≡ false
    → step (idle base c b) (Offer (ping_job serial order size id target level)) ≡ (with_thread base (Given (ping_job serial order size id target level)) (c + 1) (b + size), reply.Run 0 false)
unfolding chosen_thread
offer_runs base c b serial size id target level order over = ap (λ (x : Bool). offered (idle base c b) (ping_job serial order size id target level) x) over

pub offer_closes : (base : State) (c b : ℕ) (job : JobRecord) → is_over (idle base c b) job.size ≡ true → step (idle base c b) (Offer job) ≡ (shut base c b, reply.Closing)
offer_closes base c b job over = ap (λ (x : Bool). offered (idle base c b) job x) over

four : (h : History) (e f g k : Entry State LaneCall LaneReply) → (((h ++ e ∷ []) ++ f ∷ []) ++ g ∷ []) ++ k ∷ [] ≡ h ++ e ∷ f ∷ g ∷ k ∷ []
four h e f g k = simp append_assoc

-- a given job is taken, finished and collected
settles : (servant : JobRecord → Outcome) (base : State) (c b serial size id target level : ℕ) (order : Order) (h : History) → let job = ping_job serial order size id target level in
    settled servant (at (with_thread base (Given job) c b) h)
    ≡ at (idle base c (b + body_len (servant job)))
    (((h ++ entry (Take 0) (reply.Given job) ∷ []) ++ entry (Finish 0 (record { job = job; outcome = servant job })) reply.Finished ∷ [])
    ++ entry (Collect pipe_conn) (reply.Handed (Answered (record { job = job; outcome = servant job }))) ∷ [])
unfolding next_job
settles servant base c b serial size id target level order h = refl

-- the next calls, where the groups have one call
abbrev fold_on : (JobRecord → Outcome) → List LaneCall → Run → Group
fold_on servant calls run = folded servant 1 (record { run = run; room = 1 }) calls

ping_folded : (servant : JobRecord → Outcome) (base : State) (c b serial size id target level : ℕ) (order : Order) (h : History) (calls : List LaneCall) → is_over (idle base c b) size ≡ false
    → let job = ping_job serial order size id target level in
    folded servant 1 (group_at (idle base c b) h 1) (Offer job ∷ calls)
    ≡ folded servant 1 (group_at (idle base (c + 1) (b + size + body_len (servant job))) (h ++ deeds job (servant job)) 1) calls
unfolding owed
ping_folded servant base c b serial size id target level order h calls over =
    let job = ping_job serial order size id target level in
    let e = entry (Offer job) (reply.Run 0 false) in
    let first = ap (λ (x : State × LaneReply). fold_on servant calls (settled servant (at x.0 (h ++ entry (Offer job) x.1 ∷ [])))) (offer_runs base c b serial size id target level order over) in
    let follows = settles servant base (c + 1) (b + size) serial size id target level order (h ++ e ∷ []) in
    let whole = four h e (entry (Take 0) (reply.Given job)) (entry (Finish 0 (record { job = job; outcome = servant job })) reply.Finished)
    (entry (Collect pipe_conn) (reply.Handed (Answered (record { job = job; outcome = servant job })))) in
    first ∙ ap (fold_on servant calls) (follows ∙ ap (at (idle base (c + 1) (b + size + body_len (servant job)))) whole)

one_folded : (servant : JobRecord → Outcome) (base : State) (c b : ℕ) (job : JobRecord) (h : History) (calls : List LaneCall) → IsPingJob job → is_over (idle base c b) job.size ≡ false
    → folded servant 1 (group_at (idle base c b) h 1) (Offer job ∷ calls)
    ≡ folded servant 1 (group_at (idle base (c + 1) (b + job.size + body_len (servant job))) (h ++ deeds job (servant job)) 1) calls
one_folded servant base c b job h calls ping over =
    subst (λ (j : JobRecord). folded servant 1 (group_at (idle base c b) h 1) (Offer j ∷ calls)
    ≡ folded servant 1 (group_at (idle base (c + 1) (b + j.size + body_len (servant j))) (h ++ deeds j (servant j)) 1) calls)
    (sym ping) (ping_folded servant base c b job.serial job.size job.id job.target job.priority job.order h calls over)

shut_folded : (servant : JobRecord → Outcome) (base : State) (c b serial size id target level : ℕ) (order : Order) (h : History) (calls : List LaneCall) → is_over (idle base c b) size ≡ true
    → let job = ping_job serial order size id target level in
    folded servant 1 (group_at (idle base c b) h 1) (Offer job ∷ calls) ≡ group_at (shut base c b) (h ++ entry (Offer job) reply.Closing ∷ []) 1
unfolding owed
shut_folded servant base c b serial size id target level order h calls over =
    let job = ping_job serial order size id target level in
    ap (λ (x : State × LaneReply). fold_on servant calls (settled servant (at x.0 (h ++ entry (Offer job) x.1 ∷ [])))) (offer_closes base c b job over)
    ∙ closing_stays servant 1 (group_at (shut base c b) (h ++ entry (Offer job) reply.Closing ∷ []) 1) calls refl

one_shut : (servant : JobRecord → Outcome) (base : State) (c b : ℕ) (job : JobRecord) (h : History) (calls : List LaneCall) → IsPingJob job → is_over (idle base c b) job.size ≡ true
    → folded servant 1 (group_at (idle base c b) h 1) (Offer job ∷ calls) ≡ group_at (shut base c b) (h ++ entry (Offer job) reply.Closing ∷ []) 1
one_shut servant base c b job h calls ping over =
    subst (λ (j : JobRecord). folded servant 1 (group_at (idle base c b) h 1) (Offer j ∷ calls) ≡ group_at (shut base c b) (h ++ entry (Offer j) reply.Closing ∷ []) 1)
    (sym ping) (shut_folded servant base c b job.serial job.size job.id job.target job.priority job.order h calls over)

-- ---- what is done for a job is legal, and leads where it should
ping_legal : (base : State) (c b serial size id target level : ℕ) (order : Order) (answer : Outcome) (h : History) → is_over (idle base c b) size ≡ false → body_len answer ≤ MAX_BODY
    → IsLegal (idle base (c + 1) (b + size + body_len answer)) h → IsLegal (idle base c b) (deeds (ping_job serial order size id target level) answer ++ h)
unfolding owed next_job
ping_legal base c b serial size id target level order answer h over short legal =
    let job = ping_job serial order size id target level in
    let runs = offer_runs base c b serial size id target level order over in
    let behind : IsLegal (with_thread base (Given job) (c + 1) (b + size)) (rest_of_deeds job answer ++ h) =
    (refl, refl, refl, (refl, (refl, short), refl, (refl, tt, refl, legal))) in (
      refl,
      λ never. absurd (cc),
      sym (ap (λ (x : State × LaneReply). x.1) runs),
      subst (λ (s : State). IsLegal s (rest_of_deeds job answer ++ h)) (sym (ap (λ (x : State × LaneReply). x.0) runs)) behind,
    )

one_legal : (base : State) (c b : ℕ) (job : JobRecord) (answer : Outcome) (h : History) → IsPingJob job → is_over (idle base c b) job.size ≡ false → body_len answer ≤ MAX_BODY
    → IsLegal (idle base (c + 1) (b + job.size + body_len answer)) h → IsLegal (idle base c b) (deeds job answer ++ h)
one_legal base c b job answer h ping over short legal =
    subst (λ (j : JobRecord). IsLegal (idle base c b) (deeds j answer ++ h)) (sym ping)
    (ping_legal base c b job.serial job.size job.id job.target job.priority job.order answer h over short legal)

ping_stands : (base : State) (c b serial size id target level : ℕ) (order : Order) (answer : Outcome) (h : History) → is_over (idle base c b) size ≡ false
    → replay (idle base c b) (deeds (ping_job serial order size id target level) answer ++ h) ≡ replay (idle base (c + 1) (b + size + body_len answer)) h
unfolding next_job
ping_stands base c b serial size id target level order answer h over =
    ap (λ (x : State × LaneReply). replay x.0 (rest_of_deeds (ping_job serial order size id target level) answer ++ h)) (offer_runs base c b serial size id target level order over)

one_stands : (base : State) (c b : ℕ) (job : JobRecord) (answer : Outcome) (h : History) → IsPingJob job → is_over (idle base c b) job.size ≡ false
    → replay (idle base c b) (deeds job answer ++ h) ≡ replay (idle base (c + 1) (b + job.size + body_len answer)) h
one_stands base c b job answer h ping over =
    subst (λ (j : JobRecord). replay (idle base c b) (deeds j answer ++ h) ≡ replay (idle base (c + 1) (b + j.size + body_len answer)) h) (sym ping)
    (ping_stands base c b job.serial job.size job.id job.target job.priority job.order answer h over)

one_says : (job : JobRecord) (answer : Outcome) (h : History) → said pipe_conn (deeds job answer ++ h) ≡ item_bytes (Answered (record { job = job; outcome = answer })) ++ said pipe_conn h
one_says job answer h = refl

shut_legal : (base : State) (c b : ℕ) (job : JobRecord) → IsPingJob job → is_over (idle base c b) job.size ≡ true → IsLegal (idle base c b) (entry (Offer job) reply.Closing ∷ [])
unfolding owed
shut_legal base c b job ping over =
    subst (λ (j : JobRecord). is_over (idle base c b) j.size ≡ true → IsLegal (idle base c b) (entry (Offer j) reply.Closing ∷ [])) (sym ping)
    (λ over. (refl, λ never. absurd (cc), sym (ap (λ (x : State × LaneReply). x.1) (offer_closes base c b (ping_job job.serial job.order job.size job.id job.target job.priority) over)), tt)) over

-- ---- all jobs
-- the answers are those of the servant, as far as they go
abbrev pub Agrees : (JobRecord → Outcome) → List JobRecord → List Outcome → Type 0
Agrees servant [] answers = Unit {0}
Agrees servant (job ∷ jobs) [] = Unit {0}
Agrees servant (job ∷ jobs) (answer ∷ answers) = (servant job ≡ answer) × Agrees servant jobs answers

-- each answer is the outcome, or came when out of memory
abbrev pub Came : (JobRecord → Outcome) → List JobRecord → List Outcome → Type 0
Came outcome [] answers = Unit {0}
Came outcome (job ∷ jobs) [] = Unit {0}
Came outcome (job ∷ jobs) (answer ∷ answers) = IsAnswered answer (outcome job) × Came outcome jobs answers

pub record Grouped (outcome : JobRecord → Outcome) (jobs : List JobRecord) (base : State) (c b : ℕ) (s : State) (bytes : List ℕ) : Type 0 where
  pub answers : List Outcome
  pub came : Came outcome jobs answers
  pub history : History
  pub run : (servant : JobRecord → Outcome) → Agrees servant jobs answers → (h : History) → folded servant 1 (group_at (idle base c b) h 1) (offers jobs) ≡ group_at s (h ++ history) 1
  pub legal : IsLegal (idle base c b) history
  pub stands : replay (idle base c b) history ≡ s
  pub says : said pipe_conn history ≡ bytes
  pub settled_so : IsSettled s
  pub told : has_closing history ≡ s.closing
  pub no_end : has_end history ≡ false

none_grouped : (outcome : JobRecord → Outcome) (base : State) (c b : ℕ) → Grouped outcome [] base c b (idle base c b) []
none_grouped outcome base c b = record {
  answers = [];
  came = tt;
  history = [];
  run = λ servant _ h. ap (λ (x : History). group_at (idle base c b) x 1) (sym (append-nil h));
  legal = tt;
  stands = refl;
  says = refl;
  settled_so = refl;
  told = refl;
  no_end = refl;
}

shut_run : (outcome : JobRecord → Outcome) (job : JobRecord) (jobs : List JobRecord) (base : State) (c b : ℕ) → IsPingJob job → is_over (idle base c b) job.size ≡ true → Grouped outcome (job ∷ jobs) base c b (shut base c b) []
shut_run outcome job jobs base c b ping over = record {
  answers = [];
  came = tt;
  history = entry (Offer job) reply.Closing ∷ [];
  run = λ servant _ h. one_shut servant base c b job h (offers jobs) ping over;
  legal = shut_legal base c b job ping over;
  stands = ap (λ (x : State × LaneReply). x.0) (offer_closes base c b job over);
  says = refl;
  settled_so = refl;
  told = refl;
  no_end = refl;
}

more_grouped : (outcome : JobRecord → Outcome) (job : JobRecord) (jobs : List JobRecord) (base : State) (c b : ℕ) (mid s : State) (first rest : List ℕ) → IsPingJob job
    → (ran : Ran outcome job (idle base c b) mid first) → Grouped outcome jobs base (c + 1) (b + job.size + body_len ran.answer) s rest
    → Grouped outcome (job ∷ jobs) base c b s (first ++ rest)
more_grouped outcome job jobs base c b mid s first rest ping ran others = record {
  answers = ran.answer ∷ others.answers;
  came = (ran.came, others.came);
  history = deeds job ran.answer ++ others.history;
  run = λ servant agrees h.
      one_folded servant base c b job h (offers jobs) ping ran.admitted
      ∙ ap (λ (o : Outcome). folded servant 1 (group_at (idle base (c + 1) (b + job.size + body_len o)) (h ++ deeds job o) 1) (offers jobs)) agrees.0
      ∙ others.run servant agrees.1 (h ++ deeds job ran.answer)
      ∙ ap (λ (x : History). group_at s x 1) (append_assoc h (deeds job ran.answer) others.history);
  legal = one_legal base c b job ran.answer others.history ping ran.admitted ran.short others.legal;
  stands = one_stands base c b job ran.answer others.history ping ran.admitted ∙ others.stands;
  says = one_says job ran.answer others.history ∙ ap (λ (x : List ℕ). x ++ said pipe_conn others.history) (sym ran.reply) ∙ ap (λ (x : List ℕ). first ++ x) others.says;
  settled_so = others.settled_so;
  told = others.told;
  no_end = others.no_end;
}

-- a servant to whose job memory isn't wanting answers the outcome
served : (setup : SetupData) (outcome : List ℕ → JobRecord → Outcome) (lacks : List ℕ) (job : JobRecord) → list_any (λ serial. serial == job.serial) lacks ≡ false
    → answer_of setup outcome lacks job ≡ outcome_at setup outcome job
served setup outcome lacks job none = ap (λ (x : Bool). if x then no_memory else outcome (interface_of setup job.target) job) none

-- ---- the run of jobs over servants
-- a servant answers the outcome, or when out of memory
answer_came : (setup : SetupData) (outcome : List ℕ → JobRecord → Outcome) (lacks : List ℕ) (job : JobRecord)
    → (outcome (interface_of setup job.target) job ≡ bad_operation → list_any (λ serial. serial == job.serial) lacks ≡ false)
    → IsAnswered (answer_of setup outcome lacks job) (outcome_at setup outcome job)
answer_came setup outcome lacks job spares =
    elim (cases_Bool (list_any (λ serial. serial == job.serial) lacks)) [
      | inl wanting ↦ inr (
        ap (λ (x : Bool). if x then no_memory else outcome (interface_of setup job.target) job) wanting,
        λ bad. let never : true ≡ false = sym wanting ∙ spares bad in absurd cc,
      )
      | inr none ↦ inl (served setup outcome lacks job none)
    ]

pub answer_short : (outcome answer : Outcome) → body_len outcome ≤ MAX_BODY → IsAnswered answer outcome → body_len answer ≤ MAX_BODY
answer_short outcome answer short (inl is) = subst (λ (o : Outcome). body_len o ≤ MAX_BODY) (sym is) short
answer_short outcome answer short (inr (is, other)) = subst (λ (o : Outcome). body_len o ≤ MAX_BODY) (sym is) (lit≤ tt)

-- a run whose answers are those of the servant
pub record RunOver (servant outcome : JobRecord → Outcome) (jobs : List JobRecord) (base : State) (c b : ℕ) : Type 0 where
  pub behind : State
  pub replies : List ℕ
  pub runs : Runs outcome jobs (idle base c b) behind replies
  pub grouped : Grouped outcome jobs base c b behind replies
  pub agrees : Agrees servant jobs grouped.answers

none_over : (servant outcome : JobRecord → Outcome) (base : State) (c b : ℕ) → RunOver servant outcome [] base c b
none_over servant outcome base c b = record { behind = idle base c b; replies = []; runs = (refl, refl); grouped = none_grouped outcome base c b; agrees = tt }

shut_over : (servant outcome : JobRecord → Outcome) (job : JobRecord) (jobs : List JobRecord) (base : State) (c b : ℕ) → IsPingJob job
    → is_over (idle base c b) job.size ≡ true → RunOver servant outcome (job ∷ jobs) base c b
unfolding shut_run
shut_over servant outcome job jobs base c b ping over = record {
  behind = shut base c b;
  replies = [];
  runs = inl (record { over = over; moved = refl; silent = refl });
  grouped = shut_run outcome job jobs base c b ping over;
  agrees = tt;
}

more_over : (servant outcome : JobRecord → Outcome) (job : JobRecord) (jobs : List JobRecord) (base : State) (c b : ℕ) → IsPingJob job
    → is_over (idle base c b) job.size ≡ false → IsAnswered (servant job) (outcome job) → body_len (servant job) ≤ MAX_BODY
    → RunOver servant outcome jobs base (c + 1) (b + job.size + body_len (servant job)) → RunOver servant outcome (job ∷ jobs) base c b
unfolding more_grouped
more_over servant outcome job jobs base c b ping not_over came short others =
    let mid = idle base (c + 1) (b + job.size + body_len (servant job)) in
    let first = item_bytes (Answered (record { job = job; outcome = servant job })) in
    let ran : Ran outcome job (idle base c b) mid first = record { answer = servant job; came = came; short = short; admitted = not_over; moved = refl; reply = refl } in
    record {
      behind = others.behind;
      replies = first ++ others.replies;
      runs = inr (mid, first, others.replies, ran, others.runs, refl);
      grouped = more_grouped outcome job jobs base c b mid others.behind first others.replies ping ran others.grouped;
      agrees = (refl, others.agrees);
    }

pub run_over : (setup : SetupData) (outcome : List ℕ → JobRecord → Outcome) (lacks : List ℕ) (n : ℕ) (jobs : List JobRecord) (base : State) (c b : ℕ) → AllByRecursion (λ job. body_len (outcome_at setup outcome job) ≤ MAX_BODY) jobs
    → ArePingJobs n jobs → Spares setup outcome lacks (offers jobs) → RunOver (answer_of setup outcome lacks) (outcome_at setup outcome) jobs base c b
run_over setup outcome lacks n [] base c b short pings spares = none_over (answer_of setup outcome lacks) (outcome_at setup outcome) base c b
run_over setup outcome lacks n (job ∷ jobs) base c b (short, shorts) (ping, numbered, pings) (spare, spares) =
    let servant = answer_of setup outcome lacks in
    let came = answer_came setup outcome lacks job spare in
    let others = run_over setup outcome lacks (suc n) jobs base (c + 1) (b + job.size + body_len (servant job)) shorts pings spares in
    elim (cases_Bool (is_over (idle base c b) job.size)) [
      | inl over ↦ shut_over servant (outcome_at setup outcome) job jobs base c b ping over
      | inr not_over ↦ more_over servant (outcome_at setup outcome) job jobs base c b ping not_over came (answer_short (outcome_at setup outcome job) (servant job) short came) others
    ]
