-- Collects one after another, and the ends of groups.
use Rattle.std.proofs.Common.{◌≡◌, ℕ, ◌<◌, true, false, List, [], ◌∷◌, ◌++◌, Option, Some, None, length, refl, sym, ap, ◌∙◌, subst, arith, append-nil, append_assoc}
use Rattle.std.specs.Prelude.{Result, Ok, Err, is_some}
use Rattle.orb_base.specs.Outside.{SinkState, Rose}
use Rattle.lane_machine.specs.declared.call.LaneCall.TheVariants.{Collect}
use Rattle.lane_machine.specs.declared.call.LaneReply.{LaneReply}
use Rattle.lane_machine.specs.State.{State}
use Rattle.lane_machine.specs.Machine.{item_place}
use Rattle.lane_machine.specs.Readiness.{is_ready}
use Rattle.lane_machine.specs.Histories.{History}
use Rattle.text_streams.specs.Streams.{WroteText, WroteFrontOf}
use Rattle.text_streams.proofs.CallerLemmas.{wrote_nothing, wrote_start, wrote_behind, wrote_all}
use Rattle.lane_driver.specs.declared.course.Course.{Course}
use Rattle.lane_driver.specs.declared.course.Course.TheVariants.{Whole, Stopped}
use Rattle.pipe_laws.specs.Setup.{pipe_conn}
use Rattle.pipe_laws.specs.Said.{said, handed_bytes}
use Rattle.pipe_laws.specs.Piped.{Run, rested, emptied, settled, first_given}
use Rattle.lane_machine.specs.Entries.{One}
use Rattle.pipe_laws.specs.Calm.{NoneBusy}
use Rattle.lane_driver.specs.Driving.{Servant, Doer, run_at, entry, Goes, Did, BeganWriting, WroteUpToLast, StoppedWriting, Drives, IsApplied, IsBetween, Stays}
use Rattle.lane_driver.specs.Turning.{RunsToRest}
use Rattle.lane_driver.specs.Collecting.{emptying, Says, CollectsBy, Empties, EmptiesWhole, SettlesWhole}
use Rattle.pipe_laws.proofs.Rests.{Handing, handing, collect_ready, hands_over, without, one_item_less, empty_collects, empty_stays}
use Rattle.lane_driver.proofs.Fronts.{Grows, begins_one}
use Rattle.lane_driver.proofs.Driving.{leads_one, goes_none, goes_both, goes_done, goes_began, does_both, does_began, began_first, said_both, logged_both, logged_none, applied_is, reached_applied, stays_self, stays_both}
use Rattle.lane_driver.proofs.Grow.{grows_emptied, grows_settled}
use Rattle.pipe_laws.proofs.Standing.{owes_none}

-- ---- what was written

pub said_one : (r : LaneReply) → said pipe_conn (entry (Collect pipe_conn) r ∷ []) ≡ handed_bytes r
said_one r = append-nil (handed_bytes r)

pub wrote_entries : (a b : History) (out mid out' : SinkState) → WroteText (said pipe_conn a) out mid → WroteText (said pipe_conn b) mid out' → WroteText (said pipe_conn (a ++ b)) out out'
wrote_entries a b out mid out' first then =
    subst (λ (x : List ℕ). WroteText x out out') (sym (said_both pipe_conn a b)) (wrote_behind (said pipe_conn a) (said pipe_conn b) out mid out' first then)

pub front_entries : (a b : History) (out mid out' : SinkState) → WroteText (said pipe_conn a) out mid → WroteFrontOf (said pipe_conn b) mid out' → WroteFrontOf (said pipe_conn (a ++ b)) out out'
front_entries a b out mid out' first then =
    subst (λ (x : List ℕ). WroteFrontOf x out out') (sym (said_both pipe_conn a b)) (then.0, wrote_all (said pipe_conn a) (said pipe_conn b) then.0 out mid out' first then.1)

-- the same where the second ends by a call whose write failed
pub stops_later : (a b : History) (out mid out' : SinkState) → WroteText (said pipe_conn a) out mid → WroteUpToLast b mid out' → WroteUpToLast (a ++ b) out out'
stops_later a b out mid out' first then = record {
  before = a ++ then.before;
  last = then.last;
  front = then.front;
  rest = then.rest;
  ends = ap (λ (h : History). a ++ h) then.ends ∙ sym (append_assoc a then.before (then.last ∷ []));
  parts = then.parts;
  wrote = subst (λ (x : List ℕ). WroteText x out out')
      (sym (append_assoc (said pipe_conn a) (said pipe_conn then.before) then.front) ∙ ap (λ (x : List ℕ). x ++ then.front) (sym (said_both pipe_conn a then.before)))
      (wrote_behind (said pipe_conn a) (said pipe_conn then.before ++ then.front) out mid out' first then.wrote);
}

pub stops_here : (e : One) (out out' : SinkState) → WroteFrontOf (said pipe_conn (e ∷ [])) out out' → WroteUpToLast (e ∷ []) out out'
stops_here e out out' some = record {
  before = [];
  last = e;
  front = some.1.front;
  rest = some.0;
  ends = refl;
  parts = some.1.parts;
  wrote = some.1.wrote;
}

pub front_whole : (bytes : List ℕ) (out out' : SinkState) → WroteText bytes out out' → WroteFrontOf bytes out out'
front_whole bytes out out' wrote = ([], record { front = bytes; parts = sym (append-nil bytes); wrote = wrote })

pub front_nothing : (bytes : List ℕ) (out : SinkState) → WroteFrontOf bytes out out
front_nothing bytes out = (bytes, wrote_start bytes out)

pub rose_later : (before mid after : ℕ) → mid ≡ before → Rose mid after → Rose before after
rose_later before mid after same rose = subst (λ (n : ℕ). Rose n after) same rose

-- ---- one doer behind another

pub drives_then : {E : Type 0} (first then : Doer) (outcome : Servant) (result : Result Course E) (s m s' : State) (log mid log' : Option History) (out among out' : SinkState)
    → Grows then → Did first outcome s m log mid out among → among.faults ≡ out.faults → Drives result then outcome m s' mid log' among out' → Drives result (λ servant run. then servant (first servant run)) outcome s s' log log' out out'
drives_then first then outcome (Ok Whole) s m s' log mid log' out among out' grows one le other = (
  record {
    entries = one.entries ++ other.0.entries;
    does_so = does_both grows one.does_so other.0.does_so;
    logged = logged_both one.entries other.0.entries log mid log' one.logged other.0.logged;
    wrote = wrote_entries one.entries other.0.entries out among out' one.wrote other.0.wrote;
  },
  other.1 ∙ le,
)
drives_then first then outcome (Ok Stopped) s m s' log mid log' out among out' grows one le other = (
  record {
    entries = one.entries ++ other.0.entries;
    begins = does_began grows one.does_so other.0.begins;
    logged = logged_both one.entries other.0.entries log mid log' one.logged other.0.logged;
    wrote = stops_later one.entries other.0.entries out among out' one.wrote other.0.wrote;
  },
  rose_later out.faults among.faults out'.faults le other.1,
)
drives_then first then outcome (Err e) s m s' log mid log' out among out' grows one le other = record {
  entries = one.entries ++ other.entries;
  begins = does_began grows one.does_so other.begins;
  wrote = front_entries one.entries other.entries out among out' one.wrote other.wrote;
  faults = other.faults ∙ le;
}

pub stopped_first : (first then : Doer) (outcome : Servant) (s : State) (log log' : Option History) (out out' : SinkState) → Grows then
    → StoppedWriting first outcome s log log' out out' → StoppedWriting (λ servant run. then servant (first servant run)) outcome s log log' out out'
stopped_first first then outcome s log log' out out' grows one = record { entries = one.entries; begins = began_first then grows one.begins; logged = one.logged; wrote = one.wrote }

pub want_first : (first then : Doer) (outcome : Servant) (s : State) (out out' : SinkState) → Grows then
    → BeganWriting first outcome s out out' → BeganWriting (λ servant run. then servant (first servant run)) outcome s out out'
want_first first then outcome s out out' grows one = record { entries = one.entries; begins = began_first then grows one.begins; wrote = one.wrote; faults = one.faults }

pub want_at_once : (does : Doer) (outcome : Servant) (s : State) (out out' : SinkState) → Grows does → out' ≡ out → BeganWriting does outcome s out out'
want_at_once does outcome s out out' grows same = record {
  entries = [];
  begins = goes_began (goes_none does outcome s grows);
  wrote = subst (λ (x : SinkState). WroteFrontOf [] out x) (sym same) (front_nothing [] out);
  faults = ap (λ (x : SinkState). x.faults) same;
}

-- ---- collects

pub some_there : {X : Type 0} (o : Option X) → is_some o ≡ true → (x : X) × (o ≡ Some x)
some_there None is = absurd cc
some_there (Some x) is = (x, refl)

pub none_there : {X : Type 0} (o : Option X) → is_some o ≡ false → o ≡ None
none_there None is = refl
none_there (Some x) is = absurd cc

pub item_ready : (s : State) → is_some (item_place s pipe_conn) ≡ true → is_ready s (Collect pipe_conn) ≡ true
item_ready s some = let x = some_there (item_place s pipe_conn) some in collect_ready s pipe_conn (handing s pipe_conn x.0 x.1)

pub grows_emptying : Grows emptying
grows_emptying servant run = grows_emptied pipe_conn (length run.state.out) run

-- one Collect is the first of those that are left
goes_once : (outcome : Servant) (s s' : State) (log log' : Option History) (r : LaneReply) → is_some (item_place s pipe_conn) ≡ true → IsApplied s (Collect pipe_conn) s' log log' r
    → Goes emptying outcome s s' (entry (Collect pipe_conn) r ∷ [])
goes_once outcome s s' log log' r some applies =
    let x = some_there (item_place s pipe_conn) some in
    let e : One = entry (Collect pipe_conn) r in
    let goes : (servant : Servant) (h : History) → emptying servant (run_at s h) ≡ emptying servant (run_at s' (h ++ e ∷ [])) =
    λ servant h. empty_collects pipe_conn (run_at s h) (handing s pipe_conn x.0 x.1)
    ∙ ap (emptied pipe_conn) (applied_is s s' (Collect pipe_conn) r h applies.state applies.reply) in
    record {
      leads = leads_one applies;
      answers = (tt, tt);
      goes = λ servant agrees h. goes servant h;
      begins = begins_one emptying s e grows_emptying (λ servant agrees h. (
          let g = grows_emptying servant (run_at s' (h ++ e ∷ [])) in (g.0, ap (λ (r : Run). r.history) (goes servant h) ∙ g.1)
          ));
    }

out_state : (s s' : State) (log log' : Option History) (r : LaneReply) (x : Handing s pipe_conn) → IsApplied s (Collect pipe_conn) s' log log' r → s' ≡ without s pipe_conn x
out_state s s' log log' r x applies = applies.state ∙ ap (λ (p : State × LaneReply). p.0) (hands_over s pipe_conn x)

collect_stays : (s s' : State) (log log' : Option History) (r : LaneReply) → IsBetween s → is_some (item_place s pipe_conn) ≡ true → IsApplied s (Collect pipe_conn) s' log log' r
    → Stays s s' × (first_given s' ≡ first_given s)
collect_stays s s' log log' r between some applies =
    let found = some_there (item_place s pipe_conn) some in
    let x = handing s pipe_conn found.0 found.1 in
    let is = out_state s s' log log' r x applies in (
      record {
        between = record {
          reached = reached_applied s s' (Collect pipe_conn) between.reached (item_ready s some) tt applies.state;
          calm = subst (λ (z : State). NoneBusy z.threads) (sym is) between.calm;
        };
        pool = ap (λ (z : State). z.pool) is;
        ended = ap (λ (z : State). z.ended) is;
      },
      ap first_given is,
    )

pub fewer_items : (s s' : State) (log log' : Option History) (r : LaneReply) → is_some (item_place s pipe_conn) ≡ true → IsApplied s (Collect pipe_conn) s' log log' r → length s'.out < length s.out
fewer_items s s' log log' r some applies =
    let found = some_there (item_place s pipe_conn) some in
    let x = handing s pipe_conn found.0 found.1 in
    let is : length s'.out ≡ length (without s pipe_conn x).out = ap (λ (z : State). length z.out) (out_state s s' log log' r x applies) in
    let less = one_item_less s pipe_conn x in
    omega arith

pub empties_none : (s : State) (log : Option History) (out : SinkState) → IsBetween s → Empties s s log log out out
empties_none s log out between = record {
  entries = [];
  goes_so = λ outcome. goes_none emptying outcome s grows_emptying;
  logged = logged_none log;
  wrote = wrote_nothing out;
  stays = stays_self s between;
  given = refl;
  faults = refl;
}

pub empties_more : (course : Course) (s m s' : State) (log mid log' : Option History) (out among out' : SinkState) → course ≡ Whole → is_some (item_place m pipe_conn) ≡ true
    → Empties s m log mid out among → CollectsBy course m s' mid log' among out' → Empties s s' log log' out out'
empties_more course s m s' log mid log' out among out' whole some so_far one =
    let says : WroteText (handed_bytes one.reply) among out' × (out'.faults ≡ among.faults) = subst (λ (x : Course). Says x (handed_bytes one.reply) among out') whole one.says in
    let wrote : WroteText (said pipe_conn (entry (Collect pipe_conn) one.reply ∷ [])) among out' = subst (λ (x : List ℕ). WroteText x among out') (sym (said_one one.reply)) says.0 in
    let stays = collect_stays m s' mid log' one.reply so_far.stays.between some one.applied in
    record {
      entries = so_far.entries ++ entry (Collect pipe_conn) one.reply ∷ [];
      goes_so = λ outcome. goes_both (so_far.goes_so outcome) (goes_once outcome m s' mid log' one.reply some one.applied);
      logged = logged_both so_far.entries (entry (Collect pipe_conn) one.reply ∷ []) log mid log' so_far.logged one.applied.logged;
      wrote = wrote_entries so_far.entries (entry (Collect pipe_conn) one.reply ∷ []) out among out' so_far.wrote wrote;
      stays = stays_both so_far.stays stays.0;
      given = stays.1 ∙ so_far.given;
      faults = says.1 ∙ so_far.faults;
    }

pub empties_stopped : (outcome : Servant) (course : Course) (s m s' : State) (log mid log' : Option History) (out among out' : SinkState) → course ≡ Stopped → is_some (item_place m pipe_conn) ≡ true
    → Empties s m log mid out among → CollectsBy course m s' mid log' among out' → StoppedWriting emptying outcome s log log' out out' × Rose out.faults out'.faults
empties_stopped outcome course s m s' log mid log' out among out' stopped some so_far one =
    let says : WroteFrontOf (handed_bytes one.reply) among out' × Rose among.faults out'.faults = subst (λ (x : Course). Says x (handed_bytes one.reply) among out') stopped one.says in
    let wrote : WroteFrontOf (said pipe_conn (entry (Collect pipe_conn) one.reply ∷ [])) among out' = subst (λ (x : List ℕ). WroteFrontOf x among out') (sym (said_one one.reply)) says.0 in (
      record {
        entries = so_far.entries ++ entry (Collect pipe_conn) one.reply ∷ [];
        begins = goes_began (goes_both (so_far.goes_so outcome) (goes_once outcome m s' mid log' one.reply some one.applied));
        logged = logged_both so_far.entries (entry (Collect pipe_conn) one.reply ∷ []) log mid log' so_far.logged one.applied.logged;
        wrote = stops_later so_far.entries (entry (Collect pipe_conn) one.reply ∷ []) out among out' so_far.wrote (stops_here (entry (Collect pipe_conn) one.reply) among out' wrote);
      },
      rose_later out.faults among.faults out'.faults so_far.faults says.1,
    )

pub empties_want : (outcome : Servant) (s m : State) (log mid : Option History) (out among out' : SinkState)
    → Empties s m log mid out among → out' ≡ among → BeganWriting emptying outcome s out out'
empties_want outcome s m log mid out among out' so_far same = record {
  entries = so_far.entries;
  begins = goes_began (so_far.goes_so outcome);
  wrote = subst (λ (x : SinkState). WroteFrontOf (said pipe_conn so_far.entries) out x) (sym same) (front_whole (said pipe_conn so_far.entries) out among so_far.wrote);
  faults = ap (λ (x : SinkState). x.faults) same ∙ so_far.faults;
}

pub empties_done : (outcome : Servant) (s s' : State) (log log' : Option History) (out out' : SinkState) → Empties s s' log log' out out' → item_place s' pipe_conn ≡ None
    → Did emptying outcome s s' log log' out out' × (out'.faults ≡ out.faults)
empties_done outcome s s' log log' out out' so_far none = (
  record {
    entries = so_far.entries;
    does_so = goes_done (so_far.goes_so outcome) (λ servant h. empty_stays pipe_conn (length s'.out) (run_at s' h) none);
    logged = so_far.logged;
    wrote = so_far.wrote;
  },
  so_far.faults,
)

-- ---- the end of a group

pub rested_did : (outcome : Servant) (s s' : State) (log log' : Option History) (out : SinkState) → RunsToRest outcome s s' log log' → Did rested outcome s s' log log' out out
rested_did outcome s s' log log' out rest = record {
  entries = rest.entries;
  does_so = rest.does_so;
  logged = rest.logged;
  wrote = subst (λ (x : List ℕ). WroteText x out out) (sym rest.silent) (wrote_nothing out);
}

pub settle_drives : {E : Type 0} (outcome : Servant) (result : Result Course E) (s m s' : State) (log mid log' : Option History) (out out' : SinkState)
    → RunsToRest outcome s m log mid → Drives result emptying outcome m s' mid log' out out' → Drives result settled outcome s s' log log' out out'
settle_drives outcome result s m s' log mid log' out out' rest drives =
    drives_then rested emptying outcome result s m s' log mid log' out out out' grows_emptying (rested_did outcome s m log mid out rest) refl drives

pub grows_settling : Grows settled
grows_settling servant run = grows_settled servant run

pub settles_whole : {E : Type 0} (outcome : Servant) (result : Result Course E) (s m s' : State) (log mid : Option History) → RunsToRest outcome s m log mid → EmptiesWhole result m s' → SettlesWhole result s s'
settles_whole outcome (Ok Whole) s m s' log mid rest (stays, given, empty) =
    (stays_both rest.stays stays, empty, owes_none s' pipe_conn stays.between.reached stays.between.calm (given ∙ rest.none) empty)
settles_whole outcome (Ok Stopped) s m s' log mid rest whole = tt
settles_whole outcome (Err e) s m s' log mid rest whole = tt
