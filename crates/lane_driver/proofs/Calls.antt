-- One call in its group, and the end of the connection.
use Rattle.std.proofs.Common.{◌≡◌, ℕ, Bool, true, false, ◌==◌, List, [], ◌∷◌, ◌++◌, Option, None, refl, sym, ap, ◌∙◌, subst, append-nil}
use Rattle.std.specs.Prelude.{Result, Ok, Err, if◌then◌else◌, option_map, find}
use Rattle.orb_base.specs.Outside.{SinkState, Rose}
use Rattle.orb_base.specs.Pool.{Pool}
use Rattle.orb_base.specs.declared.conn_id.ConnId.{ConnId}
use Rattle.lane_machine.specs.declared.call.How.{How}
use Rattle.lane_machine.specs.declared.call.How.TheVariants.{Shut}
use Rattle.lane_machine.specs.declared.call.LaneCall.{LaneCall}
use Rattle.lane_machine.specs.declared.call.LaneCall.TheVariants.{Offer, Post, Cancel, Take, Finish, Collect, End, Leave}
use Rattle.lane_machine.specs.declared.call.LaneReply.{LaneReply}
use Rattle.lane_machine.specs.State.{State}
use Rattle.orb_base.specs.Conn.{same_conn}
use Rattle.lane_machine.specs.Machine.{step, item_place}
use Rattle.lane_machine.specs.Readiness.{is_ready, IsSound, owed}
use Rattle.lane_machine.specs.Histories.{History}
use Rattle.text_streams.specs.Streams.{WroteText, WroteFrontOf}
use Rattle.text_streams.proofs.CallerLemmas.{wrote_nothing}
use Rattle.lane_driver.specs.declared.course.Course.{Course}
use Rattle.lane_driver.specs.declared.course.Course.TheVariants.{Whole, Stopped}
use Rattle.pipe_laws.specs.Setup.{pipe_conn}
use Rattle.pipe_laws.specs.Said.{said}
use Rattle.pipe_laws.specs.Piped.{Run, applied, settled, before_call, behind_call}
use Rattle.pipe_laws.specs.Legality.{IsHeardCall}
use Rattle.lane_driver.specs.Driving.{Servant, Doer, run_at, entry, Begins, Did, BeganWriting, StoppedWriting, Drives, IsApplied, IsBetween, Stays, StaysWhole}
use Rattle.pipe_laws.specs.Lacking.{came_at}
use Rattle.pipe_laws.specs.Calm.{NoneBusy}
use Rattle.lane_driver.specs.Collecting.{Collects, SettlesWhole}
use Rattle.lane_driver.specs.Feeding.{befores, behinds, taking, ending, ReadyWhole}
use Rattle.lane_machine.specs.Changes.{changes}
use Rattle.lane_driver.proofs.Fronts.{Grows, begins_none, begins_one}
use Rattle.lane_driver.proofs.Driving.{leads_none, leads_one, goes_none, goes_began, does_both, does_began, logged_both, logged_none, applied_is, reached_applied, stays_both}
use Rattle.lane_driver.proofs.Grow.{grows_applied, grows_behind, grows_closed, behind_both}
use Rattle.lane_driver.proofs.Items.{said_one, wrote_entries, front_entries, stops_here, front_nothing, drives_then, stopped_first, want_first, want_at_once, grows_settling}
use Rattle.pipe_laws.proofs.Standing.{heard_sound, heard_ready, heard_calm, heard_ends, last_ready}

-- ---- another name for what is done from this state

begins_as : (one other : Doer) (s : State) (entries : History)
    → ((servant : Servant) (h : History) → other servant (run_at s h) ≡ one servant (run_at s h)) → Begins one s entries → Begins other s entries
begins_as one other s entries same begins servant front is agrees h =
    let b = begins servant front is agrees h in (b.0, ap (λ (r : Run). r.history) (same servant h) ∙ b.1)

pub drives_as : {E : Type 0} (one other : Doer) (outcome : Servant) (result : Result Course E) (s s' : State) (log log' : Option History) (out out' : SinkState)
    → ((servant : Servant) (h : History) → other servant (run_at s h) ≡ one servant (run_at s h)) → Drives result one outcome s s' log log' out out' → Drives result other outcome s s' log log' out out'
drives_as one other outcome (Ok Whole) s s' log log' out out' same (did, le) = (
  record {
    entries = did.entries;
    does_so = record {
      leads = did.does_so.leads;
      answers = did.does_so.answers;
      done = λ servant agrees h. same servant h ∙ did.does_so.done servant agrees h;
      begins = begins_as one other s did.entries same did.does_so.begins;
    };
    logged = did.logged;
    wrote = did.wrote;
  },
  le,
)
drives_as one other outcome (Ok Stopped) s s' log log' out out' same (stopped, rose) = (
  record {
    entries = stopped.entries;
    begins = record {
      legal = stopped.begins.legal;
      answers = stopped.begins.answers;
      begins = begins_as one other s stopped.entries same stopped.begins.begins;
    };
    logged = stopped.logged;
    wrote = stopped.wrote;
  },
  rose,
)
drives_as one other outcome (Err e) s s' log log' out out' same want = record {
  entries = want.entries;
  begins = record {
    legal = want.begins.legal;
    answers = want.begins.answers;
    begins = begins_as one other s want.entries same want.begins.begins;
  };
  wrote = want.wrote;
  faults = want.faults;
}

pub did_nothing : (does : Doer) (outcome : Servant) (s : State) (log : Option History) (out : SinkState) → ((servant : Servant) (h : History) → does servant (run_at s h) ≡ run_at s h) → Did does outcome s s log log out out
did_nothing does outcome s log out same = record {
  entries = [];
  does_so = record {
    leads = leads_none s;
    answers = tt;
    done = λ servant agrees h. same servant h ∙ ap (run_at s) (sym (append-nil h));
    begins = begins_none does s (λ servant agrees h.
        ([], ap (λ (r : Run). r.history) (same servant h) ∙ sym (append-nil h) ∙ sym (append-nil (h ++ []))));
  };
  logged = logged_none log;
  wrote = wrote_nothing out;
}

-- memory was wanting after what was done
pub did_want : (first next : Doer) (outcome : Servant) (s m : State) (log mid : Option History) (out among out' : SinkState) → Did first outcome s m log mid out among → among.faults ≡ out.faults → Grows next → out' ≡ among
    → BeganWriting (λ servant run. next servant (first servant run)) outcome s out out'
did_want first next outcome s m log mid out among out' one le grows same = record {
  entries = one.entries ++ [];
  begins = does_began grows one.does_so (goes_began (goes_none next outcome m grows));
  wrote = front_entries one.entries [] out among out' one.wrote (subst (λ (x : SinkState). WroteFrontOf [] among x) (sym same) (front_nothing [] among));
  faults = ap (λ (x : SinkState). x.faults) same ∙ le;
}

-- a call by which nothing is written, and which is no Finish
abbrev pub WritesNothing : LaneCall → Type 0
WritesNothing (Offer _) = Unit {0}
WritesNothing (Post _) = Unit {0}
WritesNothing (Cancel _ _) = Unit {0}
WritesNothing (End _ _) = Unit {0}
WritesNothing (Leave _) = Unit {0}
WritesNothing (Take _) = Unit {0}
WritesNothing (Finish _ _) = ⊥
WritesNothing (Collect _) = ⊥

silent_said : (call : LaneCall) (r : LaneReply) → WritesNothing call → said pipe_conn (entry call r ∷ []) ≡ []
silent_said (Offer job) r is = refl
silent_said (Post notice) r is = refl
silent_said (Cancel c id) r is = refl
silent_said (End c how) r is = refl
silent_said (Leave slot) r is = refl
silent_said (Take t) r is = refl
silent_said (Finish t answer) r is = absurd is
silent_said (Collect c) r is = absurd is

silent_came : (outcome : Servant) (call : LaneCall) → WritesNothing call → came_at outcome call
silent_came outcome (Offer job) is = tt
silent_came outcome (Post notice) is = tt
silent_came outcome (Cancel c id) is = tt
silent_came outcome (End c how) is = tt
silent_came outcome (Leave slot) is = tt
silent_came outcome (Take t) is = tt
silent_came outcome (Finish t answer) is = absurd is
silent_came outcome (Collect c) is = absurd is

abbrev pub calling : LaneCall → Doer
calling call servant run = applied run call

grows_calling : (call : LaneCall) → Grows (calling call)
grows_calling call servant run = grows_applied run call

call_begins : (s s' : State) (call : LaneCall) (r : LaneReply) → s' ≡ (step s call).0 → r ≡ (step s call).1
    → Begins (calling call) s (entry call r ∷ [])
call_begins s s' call r state reply = begins_one (calling call) s (entry call r) (grows_calling call) (λ servant agrees h.
    ([], ap (λ (r : Run). r.history) (applied_is s s' call r h state reply) ∙ sym (append-nil (h ++ entry call r ∷ []))))

pub did_call : (outcome : Servant) (call : LaneCall) (s s' : State) (log log' : Option History) (r : LaneReply) (out : SinkState) → WritesNothing call → IsApplied s call s' log log' r → Did (calling call) outcome s s' log log' out out
did_call outcome call s s' log log' r out silent applies = record {
  entries = entry call r ∷ [];
  does_so = record {
    leads = leads_one applies;
    answers = (silent_came outcome call silent, tt);
    done = λ servant agrees h. applied_is s s' call r h applies.state applies.reply;
    begins = call_begins s s' call r applies.state applies.reply;
  };
  logged = applies.logged;
  wrote = subst (λ (x : List ℕ). WroteText x out out) (sym (silent_said call r silent)) (wrote_nothing out);
}

did_both : (first next : Doer) (outcome : Servant) (s m s' : State) (log mid log' : Option History) (out among out' : SinkState) → Grows next → Did first outcome s m log mid out among → Did next outcome m s' mid log' among out'
    → Did (λ servant run. next servant (first servant run)) outcome s s' log log' out out'
did_both first next outcome s m s' log mid log' out among out' grows one other = record {
  entries = one.entries ++ other.entries;
  does_so = does_both grows one.does_so other.does_so;
  logged = logged_both one.entries other.entries log mid log' one.logged other.logged;
  wrote = wrote_entries one.entries other.entries out among out' one.wrote other.wrote;
}

heard_silent : (pool : Pool) (call : LaneCall) → IsHeardCall pool pipe_conn call → WritesNothing call
heard_silent pool (Offer job) heard = tt
heard_silent pool (Post notice) heard = tt
heard_silent pool (Cancel c id) heard = tt
heard_silent pool (Leave slot) heard = absurd heard
heard_silent pool (Take t) heard = absurd heard
heard_silent pool (Finish t answer) heard = absurd heard
heard_silent pool (Collect c) heard = absurd heard
heard_silent pool (End c how) heard = absurd heard

-- ---- before the call

pub ready_at_once : (outcome : Servant) (call : LaneCall) (s : State) (log : Option History) (out : SinkState) → is_ready s call ≡ true → Did (befores call) outcome s s log log out out
ready_at_once outcome call s log out ready = did_nothing (befores call) outcome s log out (λ servant h. ap (λ (b : Bool). if b then run_at s h else settled servant (run_at s h)) ready)

pub ready_settled : {E : Type 0} (outcome : Servant) (call : LaneCall) (result : Result Course E) (s s' : State) (log log' : Option History) (out out' : SinkState) → is_ready s call ≡ false
    → Drives result settled outcome s s' log log' out out' → Drives result (befores call) outcome s s' log log' out out'
ready_settled outcome call result s s' log log' out out' unready drives =
    drives_as settled (befores call) outcome result s s' log log' out out' (λ servant h. ap (λ (b : Bool). if b then run_at s h else settled servant (run_at s h)) unready) drives

pub ready_whole : {E : Type 0} (call : LaneCall) (result : Result Course E) (s s' : State) → IsHeardCall s.pool pipe_conn call → SettlesWhole result s s' → ReadyWhole result s s' call
ready_whole call (Ok Whole) s s' heard (stays, empty, owes) = (stays, heard_ready s' pipe_conn call (subst (λ (p : Pool). IsHeardCall p pipe_conn call) (sym stays.pool) heard) owes)
ready_whole call (Ok Stopped) s s' heard whole = tt
ready_whole call (Err e) s s' heard whole = tt

-- ---- behind the call

pub room_stays : (outcome : Servant) (left : ℕ) (s : State) (log : Option History) (out : SinkState) → (left == 0) ≡ false → Did (behinds left) outcome s s log log out out
room_stays outcome left s log out some = did_nothing (behinds left) outcome s log out (λ servant h. ap (λ (b : Bool). if b then settled servant (run_at s h) else run_at s h) some)

pub room_taken : {E : Type 0} (outcome : Servant) (left : ℕ) (result : Result Course E) (s s' : State) (log log' : Option History) (out out' : SinkState) → (left == 0) ≡ true
    → Drives result settled outcome s s' log log' out out' → Drives result (behinds left) outcome s s' log log' out out'
room_taken outcome left result s s' log log' out out' none drives =
    drives_as settled (behinds left) outcome result s s' log log' out out' (λ servant h. ap (λ (b : Bool). if b then settled servant (run_at s h) else run_at s h) none) drives

pub stays_settled : {E : Type 0} (result : Result Course E) (s s' : State) → SettlesWhole result s s' → StaysWhole result s s'
stays_settled (Ok Whole) s s' whole = whole.0
stays_settled (Ok Stopped) s s' whole = tt
stays_settled (Err e) s s' whole = tt

-- ---- the call

abbrev pub lasts : ℕ → LaneCall → Doer
lasts left call servant run = behind_call servant left (applied run call)

grows_lasts : (left : ℕ) (call : LaneCall) → Grows (lasts left call)
grows_lasts left call servant run = behind_both run (applied run call) (behind_call servant left (applied run call)) (grows_applied run call) (grows_behind servant left (applied run call))

-- by how far the first of two came
pub whole_of : (does : Doer) (outcome : Servant) (course : Course) (s s' : State) (log log' : Option History) (out out' : SinkState) → course ≡ Whole
    → Drives {E = ⊥} (Ok course) does outcome s s' log log' out out' → Did does outcome s s' log log' out out' × (out'.faults ≡ out.faults)
whole_of does outcome course s s' log log' out out' is drives = subst (λ (x : Course). Drives {E = ⊥} (Ok x) does outcome s s' log log' out out') is drives

pub stopped_of : (first next : Doer) (outcome : Servant) (course : Course) (s s' : State) (log log' : Option History) (out out' : SinkState) → course ≡ Stopped → Grows next
    → Drives {E = ⊥} (Ok course) first outcome s s' log log' out out' → StoppedWriting (λ servant run. next servant (first servant run)) outcome s log log' out out' × Rose out.faults out'.faults
stopped_of first next outcome course s s' log log' out out' is grows drives =
    let all : StoppedWriting first outcome s log log' out out' × Rose out.faults out'.faults = subst (λ (x : Course). Drives {E = ⊥} (Ok x) first outcome s s' log log' out out') is drives in
    (stopped_first first next outcome s log log' out out' grows all.0, all.1)

pub call_stopped : (outcome : Servant) (left : ℕ) (call : LaneCall) (course : Course) (s s' : State) (log log' : Option History) (out out' : SinkState) → course ≡ Stopped
    → Drives {E = ⊥} (Ok course) (befores call) outcome s s' log log' out out' → StoppedWriting (taking left call) outcome s log log' out out' × Rose out.faults out'.faults
call_stopped outcome left call course s s' log log' out out' is drives = stopped_of (befores call) (lasts left call) outcome course s s' log log' out out' is (grows_lasts left call) drives

pub call_want : (outcome : Servant) (left : ℕ) (call : LaneCall) (s : State) (out out' : SinkState) → BeganWriting (befores call) outcome s out out' → BeganWriting (taking left call) outcome s out out'
call_want outcome left call s out out' want = want_first (befores call) (lasts left call) outcome s out out' (grows_lasts left call) want

pub call_want_then : (outcome : Servant) (left : ℕ) (call : LaneCall) (course : Course) (s m : State) (log mid : Option History) (out among : SinkState) → course ≡ Whole
    → Drives {E = ⊥} (Ok course) (befores call) outcome s m log mid out among → BeganWriting (taking left call) outcome s out among
call_want_then outcome left call course s m log mid out among is drives =
    let one = whole_of (befores call) outcome course s m log mid out among is drives in
    did_want (befores call) (lasts left call) outcome s m log mid out among among one.0 one.1 (grows_lasts left call) refl

pub call_drives : {F : Type 0} (outcome : Servant) (left : ℕ) (call : LaneCall) (course : Course) (result : Result Course F) (s m n s' : State) (log mid next log' : Option History) (r : LaneReply) (out among out' : SinkState)
    → course ≡ Whole → IsHeardCall s.pool pipe_conn call → Drives {E = ⊥} (Ok course) (befores call) outcome s m log mid out among → IsApplied m call n mid next r
    → Drives result (behinds left) outcome n s' next log' among out' → Drives result (taking left call) outcome s s' log log' out out'
call_drives outcome left call course result s m n s' log mid next log' r out among out' is heard drives applies behind =
    let one = whole_of (befores call) outcome course s m log mid out among is drives in
    let two = did_call outcome call m n mid next r among (heard_silent s.pool call heard) applies in
    drives_then (λ servant run. applied (before_call servant run call) call) (behinds left) outcome result s n s' log next log' out among out'
    (λ servant run. grows_behind servant left run)
    (did_both (befores call) (calling call) outcome s m n log mid next out among among (grows_calling call) one.0 two) one.1 behind

pub call_stays : (call : LaneCall) (s s' : State) (log log' : Option History) (r : LaneReply) → IsBetween s → IsHeardCall s.pool pipe_conn call → is_ready s call ≡ true → IsApplied s call s' log log' r → Stays s s'
call_stays call s s' log log' r between heard ready applies =
    let sound = heard_sound s pipe_conn call heard in
    record {
      between = record {
        reached = reached_applied s s' call between.reached ready sound applies.state;
        calm = subst (λ (z : State). NoneBusy z.threads) (sym applies.state) (heard_calm s pipe_conn call heard between.calm);
      };
      pool = ap (λ (z : State). z.pool) applies.state ∙ (changes s call).0;
      ended = ap (λ (z : State). z.ended) applies.state ∙ heard_ends s pipe_conn call heard;
    }

pub ready_of : (call : LaneCall) (course : Course) (s s' : State) → course ≡ Whole → ReadyWhole {E = ⊥} (Ok course) s s' call → Stays s s' × (is_ready s' call ≡ true)
ready_of call course s s' is whole = subst (λ (x : Course). ReadyWhole {E = ⊥} (Ok x) s s' call) is whole

pub stays_then : {E : Type 0} (result : Result Course E) (s m s' : State) → Stays s m → StaysWhole result m s' → StaysWhole result s s'
stays_then (Ok Whole) s m s' first whole = stays_both first whole
stays_then (Ok Stopped) s m s' first whole = tt
stays_then (Err e) s m s' first whole = tt

-- ---- the end

abbrev pub closings : LaneCall → Doer
closings last servant run = applied (settled servant (applied run last)) (Collect pipe_conn)

pub grows_ending : (how : How) → Grows (ending how)
grows_ending how servant run = grows_closed servant how run

pub ends_so : {E : Type 0} (outcome : Servant) (how last : How) (result : Result Course E) (s s' : State) (log log' : Option History) (out out' : SinkState) → last ≡ (if s.closing then Shut else how)
    → Drives result (closings (End pipe_conn last)) outcome s s' log log' out out' → Drives result (ending how) outcome s s' log log' out out'
ends_so outcome how last result s s' log log' out out' is drives =
    drives_as (closings (End pipe_conn last)) (ending how) outcome result s s' log log' out out' (λ servant h. ap (λ (x : How). closings (End pipe_conn x) servant (run_at s h)) (sym is)) drives

pub collect_drives : {E : Type 0} (outcome : Servant) (result : Result Course E) (s s' : State) (log log' : Option History) (out out' : SinkState) → Collects result s s' log log' out out'
    → Drives result (calling (Collect pipe_conn)) outcome s s' log log' out out'
collect_drives outcome (Ok Whole) s s' log log' out out' one = (
  record {
    entries = entry (Collect pipe_conn) one.reply ∷ [];
    does_so = record {
      leads = leads_one one.applied;
      answers = (tt, tt);
      done = λ servant agrees h. applied_is s s' (Collect pipe_conn) one.reply h one.applied.state one.applied.reply;
      begins = call_begins s s' (Collect pipe_conn) one.reply one.applied.state one.applied.reply;
    };
    logged = one.applied.logged;
    wrote = subst (λ (x : List ℕ). WroteText x out out') (sym (said_one one.reply)) one.says.0;
  },
  one.says.1,
)
collect_drives outcome (Ok Stopped) s s' log log' out out' one = (
  record {
    entries = entry (Collect pipe_conn) one.reply ∷ [];
    begins = record {
      legal = (let l = leads_one one.applied in l.legal);
      answers = (tt, tt);
      begins = call_begins s s' (Collect pipe_conn) one.reply one.applied.state one.applied.reply;
    };
    logged = one.applied.logged;
    wrote = stops_here (entry (Collect pipe_conn) one.reply) out out' (subst (λ (x : List ℕ). WroteFrontOf x out out') (sym (said_one one.reply)) one.says.0);
  },
  one.says.1,
)
collect_drives outcome (Err e) s s' log log' out out' same = want_at_once (calling (Collect pipe_conn)) outcome s out out' (grows_calling (Collect pipe_conn)) same

-- the End, and then the end of its group
pub end_settled : {E : Type 0} (outcome : Servant) (last : How) (result : Result Course E) (s m s' : State) (log mid log' : Option History) (r : LaneReply) (out out' : SinkState)
    → IsApplied s (End pipe_conn last) m log mid r → Drives result settled outcome m s' mid log' out out'
    → Drives result (λ servant run. settled servant (applied run (End pipe_conn last))) outcome s s' log log' out out'
end_settled outcome last result s m s' log mid log' r out out' applies drives =
    drives_then (calling (End pipe_conn last)) settled outcome result s m s' log mid log' out out out' grows_settling (did_call outcome (End pipe_conn last) s m log mid r out tt applies) refl drives

abbrev pub ended_by : How → Doer
ended_by last servant run = settled servant (applied run (End pipe_conn last))

pub end_stopped : (outcome : Servant) (last : How) (course : Course) (s s' : State) (log log' : Option History) (out out' : SinkState) → course ≡ Stopped
    → Drives {E = ⊥} (Ok course) (ended_by last) outcome s s' log log' out out' → Drives {E = ⊥} (Ok Stopped) (closings (End pipe_conn last)) outcome s s' log log' out out'
end_stopped outcome last course s s' log log' out out' is drives =
    stopped_of (ended_by last) (calling (Collect pipe_conn)) outcome course s s' log log' out out' is (grows_calling (Collect pipe_conn)) drives

pub end_want : (outcome : Servant) (last : How) (s : State) (out out' : SinkState) → BeganWriting (ended_by last) outcome s out out' → BeganWriting (closings (End pipe_conn last)) outcome s out out'
end_want outcome last s out out' want = want_first (ended_by last) (calling (Collect pipe_conn)) outcome s out out' (grows_calling (Collect pipe_conn)) want

pub end_drives : {F : Type 0} (outcome : Servant) (last : How) (course : Course) (result : Result Course F) (s m s' : State) (log mid log' : Option History) (out among out' : SinkState) → course ≡ Whole
    → Drives {E = ⊥} (Ok course) (ended_by last) outcome s m log mid out among → Collects result m s' mid log' among out' → Drives result (closings (End pipe_conn last)) outcome s s' log log' out out'
end_drives outcome last course result s m s' log mid log' out among out' is drives last_one =
    let one = whole_of (ended_by last) outcome course s m log mid out among is drives in
    drives_then (ended_by last) (calling (Collect pipe_conn)) outcome result s m s' log mid log' out among out' (grows_calling (Collect pipe_conn)) one.0 one.1 (collect_drives outcome result m s' mid log' among out' last_one)

pub end_sound : (s : State) (last : How) → s.ended ≡ [] → IsSound s (End pipe_conn last)
end_sound s last none = ap (λ (es : List (ConnId × How)). option_map (λ e. e.1) (find (λ e. same_conn e.0 pipe_conn) es)) none

pub end_between : (s m : State) (last : How) (log mid : Option History) (r : LaneReply) → IsBetween s → s.ended ≡ [] → IsApplied s (End pipe_conn last) m log mid r → IsBetween m × (m.ended ≡ (pipe_conn, last) ∷ [])
end_between s m last log mid r between none applies = (
  record {
    reached = reached_applied s m (End pipe_conn last) between.reached refl (end_sound s last none) applies.state;
    calm = subst (λ (z : State). NoneBusy z.threads) (sym applies.state) between.calm;
  },
  ap (λ (z : State). z.ended) applies.state ∙ ap (λ (es : List (ConnId × How)). es ++ (pipe_conn, last) ∷ []) none,
)

pub settles_of : (course : Course) (s s' : State) → course ≡ Whole → SettlesWhole {E = ⊥} (Ok course) s s' → Stays s s' × (item_place s' pipe_conn ≡ None) × (owed s' pipe_conn ≡ 0)
settles_of course s s' is whole = subst (λ (x : Course). SettlesWhole {E = ⊥} (Ok x) s s') is whole

pub last_collect : (m s : State) (last : How) → m.ended ≡ (pipe_conn, last) ∷ [] → Stays m s → owed s pipe_conn ≡ 0 → is_ready s (Collect pipe_conn) ≡ true
last_collect m s last ended stays owes = last_ready s last (stays.ended ∙ ended) owes

pub end_want_as : (outcome : Servant) (how last : How) (s m s' : State) (log mid log' : Option History) (r : LaneReply) (out out' : SinkState) → last ≡ (if s.closing then Shut else how)
    → IsApplied s (End pipe_conn last) m log mid r → BeganWriting settled outcome m out out' → BeganWriting (ending how) outcome s out out'
end_want_as outcome how last s m s' log mid log' r out out' is applies want =
    let whole : Result Course (Unit {0}) = Err tt in
    let settles = end_settled outcome last whole s m s' log mid log' r out out' applies want in
    ends_so outcome how last whole s s' log log' out out' is (end_want outcome last s out out' settles)
