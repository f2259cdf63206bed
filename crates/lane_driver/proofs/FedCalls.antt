-- The calls of one read after those of another.
use Rattle.std.proofs.Common.{◌≡◌, ℕ, ◌+◌, ◌-◌, ◌≤◌, ◌<◌, Bool, true, false, List, [], ◌∷◌, ◌++◌, Option, length, drop, get_or, refl, sym, ap, ◌∙◌, subst, append-nil, append_assoc}
use Rattle.std.specs.Prelude.{Ok, if◌then◌else◌, ◌==◌}
use Rattle.std.proofs.lemmas.List.{drop_more}
use Rattle.orb_base.specs.Outside.{SinkState, Rose}
use Rattle.orb_base.specs.Pool.{Pool}
use Rattle.lane_machine.specs.declared.call.LaneCall.{LaneCall}
use Rattle.lane_machine.specs.State.{State}
use Rattle.lane_machine.specs.Readiness.{is_ready}
use Rattle.lane_machine.specs.Histories.{History}
use Rattle.text_streams.proofs.CallerLemmas.{wrote_nothing}
use Rattle.lane_driver.specs.declared.course.Course.{Course}
use Rattle.lane_driver.specs.declared.course.Course.TheVariants.{Whole, Stopped}
use Rattle.pipe_laws.specs.Setup.{pipe_conn}
use Rattle.pipe_laws.specs.Said.{said}
use Rattle.pipe_laws.specs.Piped.{Run, applied, before_call}
use Rattle.pipe_laws.specs.Groups.{Group, called, with_room, folded}
use Rattle.pipe_laws.specs.Legality.{IsHeardCall, AreHeardCalls}
use Rattle.lane_driver.specs.Driving.{Servant, run_at, Begins, Began, BeganWriting, StoppedWriting, Drives, IsBetween, Stays, StaysWhole}
use Rattle.lane_driver.specs.Feeding.{taking, group_at, feeding, Fed}
use Rattle.lane_driver.proofs.Fronts.{agrees_first, agrees_then, begins_nothing, begins_none, begins_then}
use Rattle.lane_driver.proofs.Driving.{leads_none, leads_both, legal_then, answers_both, logged_both, logged_none, stays_self, stays_both}
use Rattle.lane_driver.proofs.Grow.{grows_folded}
use Rattle.pipe_laws.proofs.Folds.{closing_stays}
use Rattle.lane_driver.proofs.Items.{wrote_entries, front_entries, stops_later, front_whole, rose_later}
use Rattle.lane_driver.proofs.Calls.{whole_of}

-- the group after one call, as the code makes it
abbrev next_group : Servant → ℕ → ℕ → LaneCall → Run → Group
next_group servant batch left call run = record { run = taking left call servant run; room = if left == 0 then batch else left }

step_is : (servant : Servant) (batch room left : ℕ) (m : State) (h : History) (call : LaneCall) (rest : List LaneCall) → m.closing ≡ false → left ≡ (if is_ready m call then room else batch) - 1
    → folded servant batch (group_at m h room) (call ∷ rest) ≡ folded servant batch (next_group servant batch left call (run_at m h)) rest
step_is servant batch room left m h call rest goes is =
    ap (λ (b : Bool). folded servant batch (if b then group_at m h room else called servant batch (group_at m h room) call) rest) goes
    ∙ ap (λ (n : ℕ). folded servant batch (with_room servant batch n (applied (before_call servant (run_at m h) call) call)) rest) (sym is)

pub fed_none : (batch : ℕ) (outcome : Servant) (s : State) (room : ℕ) (calls : List LaneCall) (log : Option History) (out : SinkState) → IsBetween s → 1 ≤ room → Fed batch outcome s s room room calls calls log log out out
fed_none batch outcome s room calls log out between some = record {
  entries = [];
  leads = leads_none s;
  answers = tt;
  goes = λ servant agrees h. ap (λ (k : History). folded servant batch (group_at s k room) calls) (sym (append-nil h));
  begins = begins_none (feeding batch room calls) s (begins_nothing (feeding batch room calls) s
      (λ servant run. grows_folded servant batch (record { run = run; room = room }) calls));
  logged = logged_none log;
  wrote = wrote_nothing out;
  stays = stays_self s between;
  some = some;
  faults = refl;
}

begins_more : (batch : ℕ) (outcome : Servant) (s m : State) (room among_room left : ℕ) (calls calls_left : List LaneCall) (call : LaneCall) (rest : List LaneCall) (log mid : Option History) (out among : SinkState) (b : History)
    → calls_left ≡ call ∷ rest → m.closing ≡ false → left ≡ (if is_ready m call then among_room else batch) - 1 → (so_far : Fed batch outcome s m room among_room calls calls_left log mid out among)
    → Begins (taking left call) m b → Begins (feeding batch room calls) s (so_far.entries ++ b)
begins_more batch outcome s m room among_room left calls calls_left call rest log mid out among b is open_still left_is so_far began =
    begins_then (feeding batch room calls) s so_far.entries b so_far.begins (λ servant agrees front front_is later h. (
    let k = h ++ so_far.entries in
    let one = began servant front front_is later k in
    let behind = grows_folded servant batch (next_group servant batch left call (run_at m k)) rest in (
      one.0 ++ behind.0,
      ap (λ (g : Group). g.run.history) (so_far.goes servant agrees h
          ∙ ap (folded servant batch (group_at m k among_room)) is
          ∙ step_is servant batch among_room left m k call rest open_still left_is)
          ∙ behind.1
          ∙ ap (λ (x : History). x ++ behind.0) one.1
          ∙ append_assoc (k ++ front) one.0 behind.0,
    )
    ))

pub fed_more : (batch : ℕ) (outcome : Servant) (course : Course) (s m s' : State) (room among_room room' left : ℕ) (calls calls_left : List LaneCall) (call : LaneCall) (rest : List LaneCall) (log mid log' : Option History) (out among out' : SinkState)
    → calls_left ≡ call ∷ rest → course ≡ Whole → m.closing ≡ false → left ≡ (if is_ready m call then among_room else batch) - 1 → room' ≡ (if left == 0 then batch else left) → 1 ≤ room'
    → Fed batch outcome s m room among_room calls calls_left log mid out among → Drives {E = ⊥} (Ok course) (taking left call) outcome m s' mid log' among out' → StaysWhole {E = ⊥} (Ok course) m s'
    → Fed batch outcome s s' room room' calls rest log log' out out'
fed_more batch outcome course s m s' room among_room room' left calls calls_left call rest log mid log' out among out' is whole open_still left_is room_is some so_far drives stays =
    let one = whole_of (taking left call) outcome course m s' mid log' among out' whole drives in
    let stays_now : Stays m s' = subst (λ (x : Course). StaysWhole {E = ⊥} (Ok x) m s') whole stays in
    record {
      entries = so_far.entries ++ one.0.entries;
      leads = leads_both so_far.leads one.0.does_so.leads;
      answers = answers_both outcome so_far.entries one.0.entries so_far.answers one.0.does_so.answers;
      goes = λ servant agrees h.
          so_far.goes servant (agrees_first servant so_far.entries one.0.entries agrees) h
          ∙ ap (folded servant batch (group_at m (h ++ so_far.entries) among_room)) is
          ∙ step_is servant batch among_room left m (h ++ so_far.entries) call rest open_still left_is
          ∙ ap (λ (r : Run). folded servant batch (record { run = r; room = if left == 0 then batch else left }) rest) (one.0.does_so.done servant (agrees_then servant so_far.entries one.0.entries agrees) (h ++ so_far.entries))
          ∙ ap (λ (n : ℕ). folded servant batch (group_at s' ((h ++ so_far.entries) ++ one.0.entries) n) rest) (sym room_is)
          ∙ ap (λ (k : History). folded servant batch (group_at s' k room') rest) (append_assoc h so_far.entries one.0.entries);
      begins = begins_more batch outcome s m room among_room left calls calls_left call rest log mid out among one.0.entries is open_still left_is so_far
          one.0.does_so.begins;
      logged = logged_both so_far.entries one.0.entries log mid log' so_far.logged one.0.logged;
      wrote = wrote_entries so_far.entries one.0.entries out among out' so_far.wrote one.0.wrote;
      stays = stays_both so_far.stays stays_now;
      some = some;
      faults = one.1 ∙ so_far.faults;
    }

-- what was begun of one call more
began_more : (batch : ℕ) (outcome : Servant) (s m : State) (room among_room left : ℕ) (calls calls_left : List LaneCall) (call : LaneCall) (rest : List LaneCall) (log mid : Option History) (out among : SinkState) (b : History)
    → calls_left ≡ call ∷ rest → m.closing ≡ false → left ≡ (if is_ready m call then among_room else batch) - 1 → (so_far : Fed batch outcome s m room among_room calls calls_left log mid out among)
    → Began (taking left call) outcome m b → Began (feeding batch room calls) outcome s (so_far.entries ++ b)
began_more batch outcome s m room among_room left calls calls_left call rest log mid out among b is open_still left_is so_far began = record {
  legal = legal_then b so_far.leads began.legal;
  answers = answers_both outcome so_far.entries b so_far.answers began.answers;
  begins = begins_more batch outcome s m room among_room left calls calls_left call rest log mid out among b is open_still left_is so_far began.begins;
}

pub fed_stopped : (batch : ℕ) (outcome : Servant) (course : Course) (s m s' : State) (room among_room left : ℕ) (calls calls_left : List LaneCall) (call : LaneCall) (rest : List LaneCall) (log mid log' : Option History) (out among out' : SinkState)
    → calls_left ≡ call ∷ rest → course ≡ Stopped → m.closing ≡ false → left ≡ (if is_ready m call then among_room else batch) - 1
    → Fed batch outcome s m room among_room calls calls_left log mid out among → Drives {E = ⊥} (Ok course) (taking left call) outcome m s' mid log' among out'
    → StoppedWriting (feeding batch room calls) outcome s log log' out out' × Rose out.faults out'.faults
fed_stopped batch outcome course s m s' room among_room left calls calls_left call rest log mid log' out among out' is stopped open_still left_is so_far drives =
    let one : StoppedWriting (taking left call) outcome m mid log' among out' × Rose among.faults out'.faults = subst (λ (x : Course). Drives {E = ⊥} (Ok x) (taking left call) outcome m s' mid log' among out') stopped drives in (
      record {
        entries = so_far.entries ++ one.0.entries;
        begins = began_more batch outcome s m room among_room left calls calls_left call rest log mid out among one.0.entries is open_still left_is so_far one.0.begins;
        logged = logged_both so_far.entries one.0.entries log mid log' so_far.logged one.0.logged;
        wrote = stops_later so_far.entries one.0.entries out among out' so_far.wrote one.0.wrote;
      },
      rose_later out.faults among.faults out'.faults so_far.faults one.1,
    )

pub fed_want : (batch : ℕ) (outcome : Servant) (s m : State) (room among_room left : ℕ) (calls calls_left : List LaneCall) (call : LaneCall) (rest : List LaneCall) (log mid : Option History) (out among out' : SinkState)
    → calls_left ≡ call ∷ rest → m.closing ≡ false → left ≡ (if is_ready m call then among_room else batch) - 1
    → Fed batch outcome s m room among_room calls calls_left log mid out among → BeganWriting (taking left call) outcome m among out' → BeganWriting (feeding batch room calls) outcome s out out'
fed_want batch outcome s m room among_room left calls calls_left call rest log mid out among out' is open_still left_is so_far one = record {
  entries = so_far.entries ++ one.entries;
  begins = began_more batch outcome s m room among_room left calls calls_left call rest log mid out among one.entries is open_still left_is so_far one.begins;
  wrote = front_entries so_far.entries one.entries out among out' so_far.wrote one.wrote;
  faults = one.faults ∙ so_far.faults;
}

-- memory was wanting between two calls
pub fed_want_here : (batch : ℕ) (outcome : Servant) (s m : State) (room among_room : ℕ) (calls calls_left : List LaneCall) (log mid : Option History) (out among : SinkState)
    → Fed batch outcome s m room among_room calls calls_left log mid out among → BeganWriting (feeding batch room calls) outcome s out among
fed_want_here batch outcome s m room among_room calls calls_left log mid out among so_far = record {
  entries = so_far.entries;
  begins = record {
    legal = so_far.leads.legal;
    answers = so_far.answers;
    begins = so_far.begins;
  };
  wrote = front_whole (said pipe_conn so_far.entries) out among so_far.wrote;
  faults = so_far.faults;
}

pub fed_closing : (batch : ℕ) (outcome : Servant) (s m : State) (room among_room : ℕ) (calls calls_left : List LaneCall) (log mid : Option History) (out among : SinkState) → m.closing ≡ true
    → Fed batch outcome s m room among_room calls calls_left log mid out among → Fed batch outcome s m room among_room calls [] log mid out among
fed_closing batch outcome s m room among_room calls calls_left log mid out among closing so_far = record {
  entries = so_far.entries;
  leads = so_far.leads;
  answers = so_far.answers;
  goes = λ servant agrees h. so_far.goes servant agrees h ∙ closing_stays servant batch (group_at m (h ++ so_far.entries) among_room) calls_left closing;
  begins = so_far.begins;
  logged = so_far.logged;
  wrote = so_far.wrote;
  stays = so_far.stays;
  some = so_far.some;
  faults = so_far.faults;
}

pub first_left : (calls : List LaneCall) (i : ℕ) (call : LaneCall) → i < length calls → call ≡ get_or calls i call → drop i calls ≡ call ∷ drop (i + 1) calls
first_left calls i call lt is = drop_more calls i call lt ∙ ap (λ (x : LaneCall). x ∷ drop (i + 1) calls) (sym is)

pub heard_left : (pool : Pool) (calls : List LaneCall) (i : ℕ) (call : LaneCall) → drop i calls ≡ call ∷ drop (i + 1) calls → AreHeardCalls pool pipe_conn (drop i calls) → IsHeardCall pool pipe_conn call × AreHeardCalls pool pipe_conn (drop (i + 1) calls)
heard_left pool calls i call is heard = subst (AreHeardCalls pool pipe_conn) is heard

pub shared_left : (calls : List LaneCall) (i : ℕ) (call shared : LaneCall) → i < length calls → call ≡ get_or calls i call → shared ≡ call → drop i calls ≡ shared ∷ drop (i + 1) calls
shared_left calls i call shared lt is same = first_left calls i call lt is ∙ ap (λ (x : LaneCall). x ∷ drop (i + 1) calls) (sym same)

pub shared_room : (m : State) (call shared : LaneCall) (left room batch : ℕ) → left ≡ (if is_ready m call then room else batch) - 1 → shared ≡ call → left ≡ (if is_ready m shared then room else batch) - 1
shared_room m call shared left room batch is same = is ∙ ap (λ (x : LaneCall). (if is_ready m x then room else batch) - 1) (sym same)
