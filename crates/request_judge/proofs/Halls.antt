-- Where a request runs without lanes, and that this is one place.
use Rattle.std.proofs.Common.{◌≡◌, ℕ, Option, Some, None, Result, Ok, Err, IsSome, refl, sym, ap, ◌∙◌, subst}
use Rattle.service_contexts.specs.declared.contexts.Contexts.{Contexts}
use Rattle.giop_messages.specs.Message.{Request}
use Rattle.priority_maps.specs.Maps.{to_native}
use Rattle.priority_models.specs.Transforms.{mandated}
use Rattle.adapter_policies.specs.SetupData.{SetupData}
use Rattle.request_judge.specs.InHall.{JudgesInHall, Running, RunsAt, RunsAs}
use Rattle.request_judge.specs.Judging.{Asks}
use Rattle.request_judge.specs.Laws.{JudgesInHallOneWay}
use Rattle.request_judge.specs.Served.{Served}
use Rattle.request_judge.specs.declared.refusal.Refusal.{Refusal}
use Rattle.request_judge.specs.declared.refusal.Refusal.TheVariants.{NoKey, BadContext, UnknownObject, NoTransform, NoNative}
use Rattle.request_judge.specs.declared.verdict.Place.{Place}
use Rattle.request_judge.proofs.OneVerdict.{asks_one, is_none}

pub runs_there : (setup : SetupData) (served : Served) (m : Option ℕ) (place : Place) → m ≡ Some place.priority
    → place.target ≡ served.number → place.lane ≡ 0 → IsSome (to_native setup.mapping place.priority) → RunsAt setup served m (Ok place)
runs_there setup served m place is target lane native = rw is (target, refl, lane, native)

pub no_native : (setup : SetupData) (served : Served) (m : Option ℕ) (p : ℕ) → m ≡ Some p → to_native setup.mapping p ≡ None
    → RunsAt setup served m (Err NoNative)
no_native setup served m p is none = rw is (refl, none)

pub without_priority : (setup : SetupData) (served : Served) (m : Option ℕ) → m ≡ None → RunsAt setup served m (Err NoTransform)
without_priority setup served m is = rw is refl

abbrev place_of : ℕ → ℕ → ℕ → Place
place_of target priority lane = record { target = target; priority = priority; lane = lane }

at_one : (setup : SetupData) (served : Served) (m : Option ℕ) (a b : Result Place Refusal) → RunsAt setup served m a → RunsAt setup served m b → a ≡ b
at_one setup served None a b h k = h ∙ sym k
at_one setup served (Some p) (Ok x) (Ok y) h k =
    λ i. Ok (place_of ((h.0 ∙ sym k.0) i) ((h.1 ∙ sym k.1) i) ((h.2 ∙ sym k.2) i))
at_one setup served (Some p) (Ok x) (Err f) h k = absurd (is_none (to_native setup.mapping p) h.3 k.1)
at_one setup served (Some p) (Err e) (Ok y) h k = absurd (is_none (to_native setup.mapping p) k.3 h.1)
at_one setup served (Some p) (Err e) (Err f) h k = ap Err (h.0 ∙ sym k.0)

-- what becomes of a request whose object and contexts are known, or aren't
abbrev Decides : SetupData → Result (Served × Contexts) Refusal → Result Place Refusal → Type 0
Decides setup (Ok (served, told)) answer = RunsAs setup served told.priority answer
Decides setup (Err refusal) answer = answer ≡ Err refusal

record Stages (setup : SetupData) (r : Request) (answer : Result Place Refusal) : Type 0 where
  asked : Result (Served × Contexts) Refusal
  asks : Asks setup r asked
  decides : Decides setup asked answer

by_run : (setup : SetupData) (r : Request) (a : Result Place Refusal) → Running setup r a → Stages setup r a
by_run setup r a h = record { asked = Ok (h.served, h.told); asks = h.asked; decides = h.runs }

stages : (setup : SetupData) (r : Request) (a : Result Place Refusal) → JudgesInHall setup r a → Stages setup r a
stages setup r (Ok place) h = by_run setup r (Ok place) h
stages setup r (Err NoKey) h = record { asked = Err NoKey; asks = h; decides = refl }
stages setup r (Err BadContext) h = record { asked = Err BadContext; asks = h; decides = refl }
stages setup r (Err UnknownObject) h = record { asked = Err UnknownObject; asks = h; decides = refl }
stages setup r (Err NoTransform) h = by_run setup r (Err NoTransform) h
stages setup r (Err NoNative) h = by_run setup r (Err NoNative) h
stages setup r (Err _) h = absurd h

decides_one : (setup : SetupData) (asked : Result (Served × Contexts) Refusal) (a b : Result Place Refusal)
    → Decides setup asked a → Decides setup asked b → a ≡ b
decides_one setup (Ok (s, t)) a b h k = at_one setup s (mandated s.model s.priority s.inbound t.priority) a b h k
decides_one setup (Err refusal) a b h k = h ∙ sym k

pub one_place : JudgesInHallOneWay
one_place setup r a b h k =
    let x = stages setup r a h in
    let y = stages setup r b k in
    decides_one setup y.asked a b (subst (λ z. Decides setup z a) (asks_one setup r x.asked y.asked x.asks y.asks) x.decides) y.decides
