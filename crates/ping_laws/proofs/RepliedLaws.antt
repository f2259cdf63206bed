-- Each request of the pipe's input gets its reply, and nothing else is written.
use Rattle.std.proofs.Common.{Option, None, ◌≡◌, ◌==◌, ℕ, suc, ◌+◌, ◌*◌, ◌≤◌, Bool, true, false, List, [], ◌∷◌, ◌++◌, length, refl, sym, ap, ◌∙◌, subst, inl, inr, arith, lit≤, lit<, append-nil}
use Rattle.std.specs.Prelude.{if◌then◌else◌, codes}
use Rattle.std.specs.Int.{w16}
use Rattle.std.specs.List.{AllByRecursion}
use Rattle.std.proofs.lemmas.Bool.{ne_eqb}
use Rattle.std.proofs.lemmas.Grind.{flat_map-append}
use Rattle.orb_base.specs.Outcomes.{no_memory, body_len}
use Rattle.orb_base.specs.JobRecord.{JobRecord}
use Rattle.orb_base.specs.declared.limits.TheConstants.{MAX_MESSAGE, MAX_BODY}
use Rattle.orb_base.specs.declared.order.Order.{Order}
use Rattle.orb_base.specs.declared.outcome.Outcome.{Outcome}
use Rattle.orb_base.specs.declared.outcome.Outcome.TheVariants.{Returned, User, System}
use Rattle.orb_base.specs.declared.system.SysName.TheVariants.{NoMemory}
use Rattle.orb_base.specs.declared.system.Completed.TheVariants.{Maybe}
use Rattle.cdr_core.specs.Field.{number_bytes}
use Rattle.cdr_core.proofs.CallerLemmas.{fields_end-is, length-number_bytes}
use Rattle.giop_frames.specs.Messages as Frames
use Rattle.giop_frames.specs.Stream.{stream}
use Rattle.giop_messages.specs.Message.{Message, Request, request, reply}
use Rattle.giop_messages.specs.Reading.{ReadsIn}
use Rattle.giop_messages.specs.Exceptions.{exception_fields}
use Rattle.giop_messages.specs.Spelling.{spelled}
use Rattle.giop_messages.specs.Written.{written_bytes, AreWritten}
use Rattle.giop_messages.proofs.Written.{streams_written}
use Rattle.lane_machine.specs.declared.call.How.TheVariants.{Quiet}
use Rattle.lane_machine.specs.State.{State}
use Rattle.ping_laws.specs.declared.laws.TheConstants.{MAX_PINGS}
use Rattle.ping_laws.specs.Setup.{IsRunnable, opened}
use Rattle.pipe_laws.specs.Setup.{pipe_conn}
use Rattle.ping_laws.specs.declared.place.Place.{Place}
use Rattle.adapter_policies.specs.BuiltIn.{built_in}
use Rattle.adapter_policies.specs.SetupData.{SetupData}
use Rattle.ping_laws.specs.Ping.{ping_request}
use Rattle.item_writer.specs.ItemBytes.{reply_status, reply_body, bare}
use Rattle.pipe_laws.specs.Said.{call_bytes, said}
use Rattle.pipe_laws.specs.Groups.{Group, folded}
use Rattle.pipe_laws.specs.Piped.{Run, settled, closed_by, answer_of, piped}
use Rattle.pipe_laws.proofs.Folds.{groups_are_folded}
use Rattle.ping_laws.specs.Built.{IsBuilt, IsPing}
use Rattle.ping_laws.specs.PingRun.{ping_job, offers, outcome_at, IsAnswered, Ran, Runs, farewell, IsRun}
use Rattle.ping_laws.specs.Telling.{IsTold, TellPriorities}
use Rattle.ping_laws.specs.Replied.{IsReplyTo, AreRepliesTo, PingsReplied, PingRunsAt100, MeetsNoLimit}
use Rattle.ping_laws.proofs.HearingLaws.{jobs_of, no_jobs, more_jobs_of}
use Rattle.lane_machine.specs.Histories.{History}
use Rattle.giop_messages.proofs.CallerLemmas.{streams_messages}
use Rattle.heard_calls.specs.Hearing.{Told}
use Rattle.heard_calls.specs.Input.{at_end}
use Rattle.heard_calls.specs.declared.ending.Ending.{Ending}
use Rattle.heard_calls.proofs.OneMeaning.{hears_one}
use Rattle.conn_engine.specs.Ends.{read_end, how_of}
use Rattle.conn_engine.specs.HeardSoFar.{decided}
use Rattle.conn_engine.specs.Streams.{IsRunOf, how_by}
use Rattle.conn_engine.specs.declared.read_end.ReadEnd.{ReadEnd}
use Rattle.conn_engine.specs.declared.read_end.ReadEnd.TheVariants as read
use Rattle.conn_engine.specs.declared.read_end.TheConstants.{MAX_TAKEN}
use Rattle.ping_laws.proofs.Judged.{hears_pings, pings_told}
use Rattle.ping_laws.proofs.CanOpen.{opens_free, built_in_is_runnable}
use Rattle.ping_laws.proofs.Places.{pings_place}
use Rattle.ping_laws.proofs.ReplyLengths.{reply_short}
use Rattle.heard_calls.proofs.StreamCounts.{few_messages}
use Rattle.ping_laws.proofs.PingSizes.{ping_size, answer_size, not_over}
use Rattle.lane_driver.specs.Driving.{run_at as at}
use Rattle.lane_driver.specs.Feeding.{group_at}
use Rattle.ping_laws.proofs.Tellings.{jobs_told, told_short, told_spares}
use Rattle.ping_laws.proofs.PipeRuns.{idle, run_over}
use Rattle.ping_laws.proofs.PipedLaws.{gone, last, closes_so, last_says}

-- ---- the pipe's output is that of a run of its jobs

-- few bytes are not as many as are taken at most
not_full : (taken : ℕ) → taken ≤ MAX_PINGS → (taken == MAX_TAKEN) ≡ false
not_full taken few = ne_eqb taken MAX_TAKEN (λ full. omega (arith, few, full))

-- the connection is ended in silence after few bytes that end no reading and leave nothing unfinished
quiet_behind : (taken : ℕ) (ended : Bool) → taken ≤ MAX_PINGS → how_of (read_end None taken ended None) ≡ Quiet
quiet_behind taken true few = ap (λ (full : Bool). how_of (if full then read.Spent else read.Ended (at_end None None))) (not_full taken few)
quiet_behind taken false few = ap (λ (full : Bool). how_of (if full then read.Spent else read.ReadFault)) (not_full taken few)

pub run_is : (setup : SetupData) (outcome : List ℕ → JobRecord → Outcome) (earlier input : List ℕ) (ended : Bool) (end : ReadEnd) (closing : Bool) (entries : History) (able : IsRunnable setup)
    → TellPriorities setup outcome → (built : IsBuilt setup input) → IsRunOf setup outcome 1 earlier input ended end closing entries
    → IsRun (opened setup) (outcome_at setup outcome) (jobs_of setup 0 (stream MAX_MESSAGE input).messages able.single.no_lanes built.pings).0 closing (said pipe_conn entries)
run_is setup outcome earlier input ended end closing entries able tells built p =
    let free = opens_free setup able in
    let ms = (stream MAX_MESSAGE input).messages in
    let jobs = jobs_of setup 0 ms able.single.no_lanes built.pings in
    let lacks = p.lacking.lacks in
    let hears = hears_pings setup 0 ms able.single.no_lanes built.pings (streams_messages MAX_MESSAGE input (lit≤ tt)) in
    let heard = p.heard.heard in
    let told : heard.told ≡ pings_told setup 0 ms able.single.no_lanes built.pings =
    hears_one setup pipe_conn ms None 0 heard.told (pings_told setup 0 ms able.single.no_lanes built.pings) heard.hears hears in
    let calls : p.calls ≡ offers jobs.0 = heard.calls_are ∙ ap (λ (t : Told). t.calls) told in
    let undecided : p.heard.ending ≡ None =
    heard.ends ∙ ap (λ (t : Told). decided t.ending (stream MAX_MESSAGE input).bad) told ∙ ap (decided None) built.sound in
    let quiet : how_of end ≡ Quiet =
    ap how_of (p.heard.comes ∙ ap (λ (o : Option Ending). read_end o (length input) ended (stream MAX_MESSAGE input).rest) undecided
    ∙ ap (read_end None (length input) ended) built.whole) ∙ quiet_behind (length input) ended built.few in
    let priorities = jobs_told setup outcome tells 0 ms able.single.no_lanes built.pings in
    let run = run_over setup outcome lacks 0 jobs.0 (opened setup) 0 0 (told_short setup outcome jobs.0 priorities) jobs.1.jobs_so (told_spares setup outcome lacks jobs.0 priorities) in
    let servant = answer_of setup outcome lacks in
    let c = run.behind.calls in
    let b = run.behind.bytes in
    let shut = run.behind.closing in
    let history = run.grouped.history in
    let how = how_by closing end in
    let fold : folded servant 1 (group_at (opened setup) [] 1) p.calls ≡ group_at run.behind history 1 =
    ap (folded servant 1 (group_at (opened setup) [] 1)) calls ∙ ap (λ (z : State). folded servant 1 (group_at z [] 1) (offers jobs.0)) free ∙ run.grouped.run servant run.agrees [] in
    let same : shut ≡ closing = sym (ap (λ (g : Group). g.run.state.closing) fold) ∙ p.closes in
    let whole : piped setup outcome 1 p.calls how lacks ≡ at (gone run.behind c b shut) (history ++ last shut) =
    ap (closed_by servant how) (groups_are_folded servant 1 1 (at (opened setup) []) p.calls)
    ∙ ap (λ (g : Group). closed_by servant how (settled servant g.run)) fold
    ∙ ap (λ (s : State). closed_by servant how (settled servant (at s history))) run.grouped.settled_so
    ∙ closes_so servant how run.behind c b shut history (λ going. ap (λ (x : Bool). how_by x end) (sym same ∙ going) ∙ quiet) in
    let says : said pipe_conn (history ++ last shut) ≡ run.replies ++ farewell shut =
    flat_map-append (λ e. call_bytes pipe_conn e.call e.reply) history (last shut)
    ∙ ap (λ (x : List ℕ). x ++ said pipe_conn (last shut)) run.grouped.says ∙ ap (λ (x : List ℕ). run.replies ++ x) (last_says shut) in
    record {
      behind = run.behind;
      replies = run.replies;
      runs = subst (λ (z : State). Runs (outcome_at setup outcome) jobs.0 z run.behind run.replies) (sym free) run.runs;
      closes = same;
      ends = ap (said pipe_conn) (sym p.runs) ∙ ap (λ (r : Run). said pipe_conn r.history) whole ∙ says ∙ ap (λ (x : Bool). run.replies ++ farewell x) same;
    }

-- ---- one reply
-- the reply to a request of this id that has this outcome
abbrev reply_with : Order → ℕ → Outcome → Message
reply_with order id answer = reply (bare id (reply_status answer) (reply_body order answer))

status_fits : (answer : Outcome) → reply_status answer ≤ 5
status_fits (Returned body) = lit≤ tt
status_fits (User body) = lit≤ tt
status_fits (System system) = lit≤ tt

no_memory_short : (order : Order) → length (reply_body order no_memory) ≤ MAX_BODY
no_memory_short order = omega (arith, fields_end-is order 24 (exception_fields (record { name = NoMemory; minor = 1; completed = Maybe })))

body_short : (level : ℕ) (order : Order) (answer : Outcome) → IsAnswered answer (Returned (number_bytes order w16 level)) → length (reply_body order answer) ≤ MAX_BODY
body_short level order answer (inl is) =
    subst (λ (o : Outcome). length (reply_body order o) ≤ MAX_BODY) (sym is) (omega (arith, length-number_bytes order w16 level))
body_short level order answer (inr (is, other)) = subst (λ (o : Outcome). length (reply_body order o) ≤ MAX_BODY) (sym is) (no_memory_short order)

-- a message and the bytes of the reply to it
record Replied (setup : SetupData) (m : Frames.Message) (bytes : List ℕ) : Type 0 where
  pub reply : Order × Message
  pub is : IsReplyTo setup m reply
  pub fits : AreWritten MAX_MESSAGE (reply ∷ [])
  pub spells : bytes ≡ spelled reply.0 reply.1

one_replied : (setup : SetupData) (outcome : List ℕ → JobRecord → Outcome) → TellPriorities setup outcome → (n : ℕ) (m : Frames.Message) (ping : IsPing setup m) (s s' : State) (bytes : List ℕ)
    → Ran (outcome_at setup outcome) (ping_job n m.order (length m.bytes) ping.r.id ping.place.target ping.place.level) s s' bytes → Replied setup m bytes
one_replied setup outcome tells n m ping s s' bytes ran =
    let id = ping.r.id in
    let told = tells ping.asked.key ping.place ping.asked.placed n (length m.bytes) id m.order in
    let came : IsAnswered ran.answer (Returned (number_bytes m.order w16 ping.place.level)) = subst (IsAnswered ran.answer) told ran.came in
    record {
      reply = (m.order, reply_with m.order id ran.answer);
      is = record {
        ping = ping;
        same_order = refl;
        says = elim came [ inl is ↦ inl (ap (reply_with m.order id) is) | inr is ↦ inr (ap (reply_with m.order id) is.0) ];
      };
      fits = (
        record { id = ping.reads.fits.id; status = status_fits ran.answer; contexts = (lit< tt, tt) },
        reply_short m.order id (reply_status ran.answer) (reply_body m.order ran.answer) (body_short ping.place.level m.order ran.answer came),
        tt,
      );
      spells = ran.reply;
    }

-- ---- all replies
-- these are the bytes of the replies to all messages
record AllReplied (setup : SetupData) (ms : List Frames.Message) (bytes : List ℕ) : Type 0 where
  pub replies : List (Order × Message)
  pub are : AreRepliesTo setup ms replies
  pub fit : AreWritten MAX_MESSAGE replies
  pub spells : bytes ≡ written_bytes replies

-- where no limit was met, each was answered
replied : (setup : SetupData) (outcome : List ℕ → JobRecord → Outcome) → TellPriorities setup outcome → (base : State) (n c b : ℕ) (ms : List Frames.Message) (no_lanes : setup.pool.laned ≡ false) (all : AllByRecursion (IsPing setup) ms) (s : State) (bytes : List ℕ)
    → s.closing ≡ false → Runs (outcome_at setup outcome) (jobs_of setup n ms no_lanes all).0 (idle base c b) s bytes → AllReplied setup ms bytes
replied setup outcome tells base n c b [] no_lanes all s bytes going runs =
    let none : Runs (outcome_at setup outcome) [] (idle base c b) s bytes =
    subst (λ (jobs : List JobRecord). Runs (outcome_at setup outcome) jobs (idle base c b) s bytes) (no_jobs setup n no_lanes all) runs in
    record { replies = []; are = tt; fit = tt; spells = none.1 }
replied setup outcome tells base n c b (m ∷ ms) no_lanes (ping, all) s bytes going runs =
    let size = length m.bytes in
    let job = ping_job n m.order size ping.r.id ping.place.target ping.place.level in
    let jobs = (jobs_of setup (suc n) ms no_lanes all).0 in
    let some : Runs (outcome_at setup outcome) (job ∷ jobs) (idle base c b) s bytes =
    subst (λ (js : List JobRecord). Runs (outcome_at setup outcome) js (idle base c b) s bytes) (more_jobs_of setup n m ms no_lanes ping all) runs in
    elim some [
      | inl refused ↦
          let never : true ≡ false = sym (ap (λ (z : State). z.closing) refused.moved) ∙ going in
          absurd cc
      | inr ran ↦
          let one = one_replied setup outcome tells n m ping (idle base c b) ran.0 ran.1 ran.3 in
          let onward : Runs (outcome_at setup outcome) jobs (idle base (c + 1) (b + size + body_len ran.3.answer)) s ran.2 =
          subst (λ (x : State). Runs (outcome_at setup outcome) jobs x s ran.2) ran.3.moved ran.4 in
          let others = replied setup outcome tells base (suc n) (c + 1) (b + size + body_len ran.3.answer) ms no_lanes all s ran.2 going onward in
          record {
            replies = one.reply ∷ others.replies;
            are = (one.is, others.are);
            fit = (one.fits.0, one.fits.1, others.fit);
            spells = ran.5 ∙ ap (λ (x : List ℕ). x ++ ran.2) one.spells ∙ ap (λ (x : List ℕ). spelled one.reply.0 one.reply.1 ++ x) others.spells;
          }
    ]

-- ---- the limits of the built-in setup
-- a ping takes 48 bytes and its answer 2 at most
goes_on : (outcome : List ℕ → JobRecord → Outcome) → TellPriorities built_in outcome → (n c b : ℕ) (ms : List Frames.Message) (no_lanes : built_in.pool.laned ≡ false) (all : AllByRecursion (IsPing built_in) ms) (s : State) (bytes : List ℕ)
    → c + length ms ≤ MAX_PINGS → b + 50 * length ms ≤ 50 * MAX_PINGS
    → Runs (outcome_at built_in outcome) (jobs_of built_in n ms no_lanes all).0 (idle (opened built_in) c b) s bytes → s.closing ≡ false
goes_on outcome tells n c b [] no_lanes all s bytes calls few runs =
    let none : Runs (outcome_at built_in outcome) [] (idle (opened built_in) c b) s bytes =
    subst (λ (jobs : List JobRecord). Runs (outcome_at built_in outcome) jobs (idle (opened built_in) c b) s bytes) (no_jobs built_in n no_lanes all) runs in
    ap (λ (z : State). z.closing) none.0
goes_on outcome tells n c b (m ∷ ms) no_lanes (ping, all) s bytes calls few runs =
    let size = length m.bytes in
    let id = ping.r.id in
    let is = pings_place ping.asked.key ping.place ping.asked.placed in
    let reads : ReadsIn m.order (request (ping_request id (codes "ping"))) m.bytes =
    subst (λ (r : Request). ReadsIn m.order (request r) m.bytes) (ping.asked.asks ∙ ap (ping_request id) is.key_is) ping.reads in
    let job = ping_job n m.order size id 0 100 in
    let jobs = (jobs_of built_in (suc n) ms no_lanes all).0 in
    let same : (jobs_of built_in n (m ∷ ms) no_lanes (ping, all)).0 ≡ job ∷ jobs =
    more_jobs_of built_in n m ms no_lanes ping all ∙ ap (λ (p : Place). ping_job n m.order size id p.target p.level ∷ jobs) is.place_is in
    let some : Runs (outcome_at built_in outcome) (job ∷ jobs) (idle (opened built_in) c b) s bytes =
    subst (λ (js : List JobRecord). Runs (outcome_at built_in outcome) js (idle (opened built_in) c b) s bytes) same runs in
    let sized = ping_size m.order id m.bytes reads in
    elim some [
      | inl refused ↦
          let never : true ≡ false = sym refused.over ∙ not_over c b size (omega (arith, calls)) (omega (arith, few, sized)) in
          absurd cc
      | inr ran ↦
          let told = tells ping.asked.key ping.place ping.asked.placed n size id m.order in
          let at_100 : IsTold built_in outcome job = subst (λ (q : Place). IsTold built_in outcome (ping_job n m.order size id q.target q.level)) is.place_is told in
          let adds = answer_size m.order ran.3.answer (subst (IsAnswered ran.3.answer) at_100 ran.3.came) in
          let onward : Runs (outcome_at built_in outcome) jobs (idle (opened built_in) (c + 1) (b + size + body_len ran.3.answer)) s ran.2 =
          subst (λ (x : State). Runs (outcome_at built_in outcome) jobs x s ran.2) ran.3.moved ran.4 in
          goes_on outcome tells (suc n) (c + 1) (b + size + body_len ran.3.answer) ms no_lanes all s ran.2 (omega (arith, calls)) (omega (arith, few, sized, adds)) onward
    ]

-- ---- the laws
pub pings_replied : PingsReplied
pings_replied setup able outcome tells earlier input ended end entries built p =
    let free = opens_free setup able in
    let run = run_is setup outcome earlier input ended end false entries able tells built p in
    let runs = subst (λ (z : State). Runs (outcome_at setup outcome) (jobs_of setup 0 (stream MAX_MESSAGE input).messages able.single.no_lanes built.pings).0 z run.behind run.replies) free run.runs in
    let all = replied setup outcome tells (opened setup) 0 0 0 (stream MAX_MESSAGE input).messages able.single.no_lanes built.pings run.behind run.replies run.closes runs in
    let same : said pipe_conn entries ≡ run.replies = run.ends ∙ append-nil run.replies in
    (all.replies, all.are, ap (stream MAX_MESSAGE) (same ∙ all.spells) ∙ streams_written MAX_MESSAGE all.replies (lit≤ tt) all.fit)

pub meets_no_limit : MeetsNoLimit
meets_no_limit outcome tells earlier input ended end entries closing built p =
    let run = run_is built_in outcome earlier input ended end closing entries built_in_is_runnable tells built p in
    let few = few_messages MAX_MESSAGE input in
    sym run.closes ∙ goes_on outcome tells 0 0 0 (stream MAX_MESSAGE input).messages built_in_is_runnable.single.no_lanes built.pings run.behind run.replies (omega (arith, few, built.few)) (omega (arith, few, built.few)) run.runs

pub ping_runs_at_100 : PingRunsAt100
ping_runs_at_100 key place is =
    let p = pings_place key place is in
    (p.key_is, ap (λ (x : Place). x.level) p.place_is)
