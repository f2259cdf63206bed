-- How what was heard so far is to the whole.
use Rattle.std.proofs.Common.{◌≡◌, ℕ, ◌+◌, List, [], ◌∷◌, ◌++◌, length, Option, Some, None, refl, sym, ap, ◌∙◌, subst, arith, append_assoc, append-nil, length-append, drop, get_or, ◌≤◌, ◌<◌}
use Rattle.std.specs.Prelude.{option_to_list}
use Rattle.std.proofs.lemmas.List.{drop_more}
use Rattle.orb_base.specs.Span.{Span}
use Rattle.orb_base.specs.declared.conn_id.ConnId.{ConnId}
use Rattle.giop_frames.specs.Messages as Frames
use Rattle.lane_machine.specs.declared.call.LaneCall.{LaneCall}
use Rattle.adapter_policies.specs.SetupData.{SetupData}
use Rattle.heard_calls.specs.Hearing.{Told, Hears, in_front, nothing, behind, followed, TakesBy}
use Rattle.heard_calls.specs.Meaning.{IsMeant}
use Rattle.heard_calls.specs.declared.ending.Ending.{Ending}
use Rattle.heard_calls.specs.declared.ending.Ending.TheVariants.{Ended, Broken}
use Rattle.heard_calls.specs.declared.means.Means.{Means}
use Rattle.heard_calls.specs.declared.means.Means.TheVariants.{Goes, Ends, Breaks}

-- after what was heard so far, what the rest means is what all mean; or the reading has ended, and all mean this
abbrev StandsBy : Option Ending → SetupData → ConnId → List Frames.Message → List Frames.Message → Option Span → ℕ → Told → Type 0
StandsBy None setup conn all rest band serial told =
    (later : Told) → Hears setup conn rest told.band (serial + length told.calls) later → Hears setup conn all band serial (in_front told.calls later)
StandsBy (Some ending) setup conn all rest band serial told = Hears setup conn all band serial told

abbrev pub Standing : SetupData → ConnId → List Frames.Message → List Frames.Message → Option Span → ℕ → Told → Type 0
Standing setup conn all rest band serial told = StandsBy told.ending setup conn all rest band serial told

-- one message more, where the reading goes on
goes_by : (setup : SetupData) (conn : ConnId) (all : List Frames.Message) (m : Frames.Message) (rest : List Frames.Message) (band : Option Span) (serial : ℕ) (old : Told) (means : Means)
    → old.ending ≡ None → IsMeant setup conn old.band (serial + length old.calls) m means → StandsBy None setup conn all (m ∷ rest) band serial old
    → Standing setup conn all rest band serial (behind old m.at means)
goes_by setup conn all m rest band serial old (Goes bound call) is meant h =
    subst (λ (e : Option Ending). StandsBy e setup conn all rest band serial (followed old call bound)) (sym is)
    (λ later hears.
    let calls : List LaneCall = option_to_list call in
    let counts : serial + length (old.calls ++ calls) ≡ (serial + length old.calls) + length calls = omega (arith, length-append old.calls calls) in
    let on : Hears setup conn rest bound ((serial + length old.calls) + length calls) later = subst (λ (n : ℕ). Hears setup conn rest bound n later) counts hears in
    subst (λ (c : List LaneCall). Hears setup conn all band serial (record { calls = c; band = later.band; ending = later.ending })) (sym (append_assoc old.calls calls later.calls))
    (h (in_front calls later) (Goes bound call, meant, (later, on, refl))))
goes_by setup conn all m rest band serial old Ends is meant h =
    subst (λ (c : List LaneCall). Hears setup conn all band serial (record { calls = c; band = old.band; ending = Some Ended })) (append-nil old.calls)
    (h (nothing old.band (Some Ended)) (Ends, meant, refl))
goes_by setup conn all m rest band serial old (Breaks fault) is meant h =
    subst (λ (c : List LaneCall). Hears setup conn all band serial (record { calls = c; band = old.band; ending = Some (Broken m.at fault) })) (append-nil old.calls)
    (h (nothing old.band (Some (Broken m.at fault))) (Breaks fault, meant, refl))

-- one message more
on_by : (setup : SetupData) (conn : ConnId) (all : List Frames.Message) (m : Frames.Message) (rest : List Frames.Message) (band : Option Span) (serial : ℕ) (old new : Told) (o : Option Ending)
    → old.ending ≡ o → TakesBy o setup conn serial m old new → StandsBy o setup conn all (m ∷ rest) band serial old → Standing setup conn all rest band serial new
on_by setup conn all m rest band serial old new None is takes h =
    subst (λ (t : Told). Standing setup conn all rest band serial t) (sym takes.2) (goes_by setup conn all m rest band serial old takes.0 is takes.1 h)
on_by setup conn all m rest band serial old new (Some e) is same h =
    subst (λ (t : Told). Standing setup conn all rest band serial t) (sym same)
    (subst (λ (o : Option Ending). StandsBy o setup conn all rest band serial old) (sym is) h)

pub stands_on : (setup : SetupData) (conn : ConnId) (all : List Frames.Message) (n : ℕ) (m : Frames.Message) (band : Option Span) (serial : ℕ) (old new : Told)
    → drop n all ≡ m ∷ drop (n + 1) all → TakesBy old.ending setup conn serial m old new
    → Standing setup conn all (drop n all) band serial old → Standing setup conn all (drop (n + 1) all) band serial new
stands_on setup conn all n m band serial old new next takes h =
    on_by setup conn all m (drop (n + 1) all) band serial old new old.ending refl takes
    (subst (λ (ms : List Frames.Message). StandsBy old.ending setup conn all ms band serial old) next h)

-- the next message is before those after it
pub next_left : (ms : List Frames.Message) (n : ℕ) (m : Frames.Message) → n < length ms → m ≡ get_or ms n m → drop n ms ≡ m ∷ drop (n + 1) ms
next_left ms n m lt is = drop_more ms n m lt ∙ ap (λ (x : Frames.Message). x ∷ drop (n + 1) ms) (sym is)

-- no message is left
done_by : (setup : SetupData) (conn : ConnId) (all : List Frames.Message) (band : Option Span) (serial : ℕ) (told : Told) (o : Option Ending)
    → told.ending ≡ o → StandsBy o setup conn all [] band serial told → Hears setup conn all band serial told
done_by setup conn all band serial told None is h =
    subst (λ (t : Told). Hears setup conn all band serial t) (λ i. record { calls = append-nil told.calls i; band = told.band; ending = sym is i })
    (h (nothing told.band None) refl)
done_by setup conn all band serial told (Some e) is h = h

pub stood : (setup : SetupData) (conn : ConnId) (all rest : List Frames.Message) (band : Option Span) (serial : ℕ) (told : Told)
    → rest ≡ [] → Standing setup conn all rest band serial told → Hears setup conn all band serial told
stood setup conn all rest band serial told none h =
    done_by setup conn all band serial told told.ending refl
    (subst (λ (ms : List Frames.Message). StandsBy told.ending setup conn all ms band serial told) none h)

-- at most one call more
pub few_more : (setup : SetupData) (conn : ConnId) (serial : ℕ) (m : Frames.Message) (old new : Told) → TakesBy old.ending setup conn serial m old new
    → length new.calls ≤ length old.calls + 1
few_more setup conn serial m old new takes = few_by old new old.ending takes
  where
    one : (call : Option LaneCall) → length (option_to_list call) ≤ 1
    one None = grind arith
    one (Some call) = grind arith

    few_means : (old : Told) (at : ℕ) (means : Means) → length (behind old at means).calls ≤ length old.calls + 1
    few_means old at (Goes bound call) = omega (arith, length-append old.calls (option_to_list call), one call)
    few_means old at Ends = omega arith
    few_means old at (Breaks fault) = omega arith

    few_by : (old new : Told) (o : Option Ending) → TakesBy o setup conn serial m old new → length new.calls ≤ length old.calls + 1
    few_by old new None takes = subst (λ (t : Told). length t.calls ≤ length old.calls + 1) (sym takes.2) (few_means old m.at takes.0)
    few_by old new (Some e) same = omega (arith, ap (λ (t : Told). length t.calls) same)
