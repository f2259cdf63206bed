-- A request for `current` is judged to run at the place of its key, so that the messages of such an input mean the offers of their jobs.
use Rattle.std.proofs.Common.{◌≡◌, ℕ, zero, suc, ◌+◌, ◌<◌, ◌≤◌, ◌==◌, Bool, false, List, [], ◌∷◌, ◌++◌, length, Option, Some, None, Result, Ok, Err, slice_get, position, refl, sym, ap, ◌∙◌, subst, arith}
use Rattle.std.specs.Prelude.{codes, if◌then◌else◌, IsSome, option_to_list}
use Rattle.std.specs.Option.{option_map, option_and_then}
use Rattle.std.specs.List.{All, AllByRecursion}
use Rattle.orb_base.specs.JobRecord.{JobRecord}
use Rattle.orb_base.specs.Span.{Span}
use Rattle.orb_base.specs.declared.priority_model.PriorityModel.{PriorityModel}
use Rattle.orb_base.specs.declared.priority_model.PriorityModel.TheVariants.{ClientPropagated, ServerDeclared}
use Rattle.cdr_core.specs.Encapsulation.{order_byte}
use Rattle.giop_frames.specs.Messages as Frames
use Rattle.giop_frames.specs.Pieces.{kind_of}
use Rattle.giop_messages.specs.Layout.{header}
use Rattle.giop_messages.specs.Message.{Request, Message, key, request}
use Rattle.giop_messages.specs.MessageReading.{IsMessage, message_at}
use Rattle.giop_messages.specs.Reading.{ReadsIn}
use Rattle.giop_messages.specs.declared.message_fault.MessageFault.{MessageFault}
use Rattle.giop_messages.proofs.Headed.{IsHeaded}
use Rattle.giop_messages.proofs.WholeAgain.{in_order}
use Rattle.priority_models.specs.Transforms.{mandated}
use Rattle.priority_models.specs.declared.transform.TransformRow.{TransformRow}
use Rattle.service_contexts.specs.Telling.{Tells}
use Rattle.lane_machine.specs.declared.call.LaneCall.{LaneCall}
use Rattle.lane_machine.specs.declared.call.LaneCall.TheVariants.{Offer}
use Rattle.adapter_policies.specs.Index.{number_from}
use Rattle.adapter_policies.specs.SetupData.{SetupData}
use Rattle.pipe_laws.specs.Setup.{pipe_conn}
use Rattle.request_judge.specs.Calls.{job_of}
use Rattle.request_judge.specs.Judging.{Judges, RunsAt, bind_operation}
use Rattle.request_judge.specs.Served.{served_at, served_of, served_as, served_by}
use Rattle.request_judge.specs.declared.verdict.Place.{Place as RunPlace}
use Rattle.request_judge.specs.declared.verdict.Verdict.TheVariants.{Runs}
use Rattle.heard_calls.specs.Hearing.{Told, Hears}
use Rattle.heard_calls.specs.Meaning.{IsMeant, MeansRead}
use Rattle.heard_calls.specs.declared.means.Means.{Means}
use Rattle.heard_calls.specs.declared.means.Means.TheVariants.{Goes}
use Rattle.ping_laws.specs.Built.{IsAsked, IsPing}
use Rattle.ping_laws.specs.PingRun.{ping_job, offers}
use Rattle.ping_laws.specs.declared.place.Place.{Place}
use Rattle.ping_laws.proofs.HearingLaws.{jobs_of, no_jobs, more_jobs_of}
use Rattle.ping_laws.proofs.Places.{Placed, placed_so}

served_there : (setup : SetupData) (object_key : List ℕ) (place : Place) (p : Placed setup object_key place) → served_at setup object_key ≡ Some (served_by place.target p.object p.adapter)
served_there setup object_key place p =
    ap (λ (n : Option ℕ). option_and_then (served_of setup) n) p.found ∙ ap (λ o. option_and_then (served_as setup place.target) o) p.known
    ∙ ap (λ a. option_map (served_by place.target p.object) a) p.served

another_name : codes "current" ≡ bind_operation → ⊥
another_name same = let longer : ◌≡◌ {A = ℕ} 7 19 = ap length same in omega (arith, longer)

run_place : Place → RunPlace
run_place place = record { target = place.target; priority = place.level; lane = 0 }

-- where no priority was sent, the object's is mandated, whatever the model and the transform are
unsent : (model : PriorityModel) (server : ℕ) (rows : List TransformRow) → Some server ≡ mandated model server rows None
unsent ServerDeclared server rows = refl
unsent ClientPropagated server rows = refl

judged : (setup : SetupData) (r : Request) (place : Place) → setup.pool.laned ≡ false → IsAsked setup r place → Judges setup None r (Ok (Runs (run_place place)))
unfolding run_place
judged setup r place no_lanes asked =
    let p = placed_so setup asked.key place asked.placed in
    let level = p.object.priority in
    record {
      served = served_by place.target p.object p.adapter;
      told = record { priority = None; range = None };
      asked = record {
        object_key = asked.key;
        target = ap (λ (x : Request). x.target) asked.asks;
        tells = subst (λ cs. Tells cs (record { priority = None; range = None })) (sym (ap (λ (x : Request). x.contexts) asked.asks)) (record { priority = refl; range = refl });
        found = served_there setup asked.key place p;
      };
      no_bind = λ bind. another_name (sym (ap (λ (x : Request). x.operation) asked.asks) ∙ bind);
      runs = subst (λ (m : Option ℕ). RunsAt setup None (served_by place.target p.object p.adapter) m (Ok (run_place place)))
          (unsent p.adapter.model level p.adapter.inbound)
          (refl, p.level, (tt, p.mapped, ap (λ (laned : Bool). if laned then position (λ lane. lane.priority == level) setup.pool.lanes else Some 0) no_lanes));
    }

-- the header of a message that is read as a request
head_of : (m : Frames.Message) (r : Request) → IsMessage m → ReadsIn m.order (request r) m.bytes → IsHeaded m
unfolding kind_of
head_of m r is reads =
    let kind : m.kind ≡ 0 = sym is.kind ∙ ap kind_of reads.parts in
    record {
      flags = reads.flags;
      behind = reads.named ++ reads.rest;
      octet = reads.octet;
      order_bit = reads.order_bit;
      unfragmented = reads.whole;
      few_kinds = omega (arith, kind);
      long = is.long;
      short = is.short;
      parts = reads.parts ∙ ap (λ (k : ℕ). header m.order reads.flags k (length (reads.named ++ reads.rest)) ++ (reads.named ++ reads.rest)) (sym kind);
    }

-- the call that a request for `current` means
abbrev ping_call : (setup : SetupData) (serial : ℕ) (m : Frames.Message) → IsPing setup m → LaneCall
ping_call setup serial m ping = Offer (ping_job serial m.order (length m.bytes) ping.r.id ping.place.target ping.place.level)

means_ping : (setup : SetupData) (serial : ℕ) (m : Frames.Message) (ping : IsPing setup m) → setup.pool.laned ≡ false → IsMessage m
    → IsMeant setup pipe_conn None serial m (Goes None (Some (ping_call setup serial m ping)))
unfolding run_place
means_ping setup serial m ping no_lanes is =
    let read = in_order m m.order (request ping.r) (head_of m ping.r is ping.reads) ping.reads in
    let meant : Means = Goes None (Some (ping_call setup serial m ping)) in
    subst (λ (r : Result Message MessageFault). MeansRead setup pipe_conn None serial m r meant) (sym read) (
      Ok (Runs (run_place ping.place)),
      judged setup ping.r ping.place no_lanes ping.asked,
      sym (ap (λ (x : Request). Goes None (Some (Offer (job_of pipe_conn serial m.order (length m.bytes) x (run_place ping.place))))) ping.asked.asks),
    )

-- what such messages mean
abbrev pub pings_told : (setup : SetupData) (n : ℕ) (ms : List Frames.Message) (no_lanes : setup.pool.laned ≡ false) → AllByRecursion (IsPing setup) ms → Told
pings_told setup n ms no_lanes all = record { calls = offers (jobs_of setup n ms no_lanes all).0; band = None; ending = None }

abbrev told_with : List JobRecord → Told
told_with jobs = record { calls = offers jobs; band = None; ending = None }

pub hears_pings : (setup : SetupData) (n : ℕ) (ms : List Frames.Message) (no_lanes : setup.pool.laned ≡ false) (all : AllByRecursion (IsPing setup) ms)
    → All IsMessage ms → Hears setup pipe_conn ms None n (pings_told setup n ms no_lanes all)
hears_pings setup n [] no_lanes all are = ap told_with (no_jobs setup n no_lanes all)
hears_pings setup n (m ∷ ms) no_lanes (ping, all) are =
    let later : Hears setup pipe_conn ms None (suc n) (pings_told setup (suc n) ms no_lanes all) =
    hears_pings setup (suc n) ms no_lanes all (λ k d less. are (suc k) d (omega (arith, less))) in
    let counts : suc n ≡ n + 1 = omega arith in (
      Goes None (Some (ping_call setup n m ping)),
      means_ping setup n m ping no_lanes (are 0 m (omega arith)),
      (
        pings_told setup (suc n) ms no_lanes all,
        subst (λ (k : ℕ). Hears setup pipe_conn ms None k (pings_told setup (suc n) ms no_lanes all)) counts later,
        ap told_with (more_jobs_of setup n m ms no_lanes ping all),
      ),
    )
