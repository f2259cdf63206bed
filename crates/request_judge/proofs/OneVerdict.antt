-- No request has two verdicts.
use Rattle.std.proofs.Common.{◌≡◌, ◌⊎◌, inl, inr, ℕ, List, [], Option, Some, None, Result, Ok, Err, IsSome, refl, sym, ap, ◌∙◌, subst}
use Rattle.std.proofs.lemmas.Option.{same_Some}
use Rattle.orb_base.specs.Pool.{Pool}
use Rattle.orb_base.specs.Span.{Span}
use Rattle.service_contexts.specs.declared.contexts.Contexts.{Contexts}
use Rattle.service_contexts.proofs.Faults.{one_told, not_both}
use Rattle.giop_messages.specs.Message.{Request, Target, key, profile, addressing}
use Rattle.priority_maps.specs.Maps.{to_native}
use Rattle.priority_models.specs.Transforms.{mandated}
use Rattle.adapter_policies.specs.SetupData.{SetupData}
use Rattle.request_judge.specs.Judging.{Asks, Binding, BindsTo, IsBind, Judges, RunsAs, RunsAt, RunsIn, Running}
use Rattle.request_judge.specs.Laws.{JudgesOneWay}
use Rattle.request_judge.specs.Served.{Served, served_at}
use Rattle.request_judge.specs.declared.refusal.Refusal.{Refusal}
use Rattle.request_judge.specs.declared.refusal.Refusal.TheVariants.{NoKey, BadContext, UnknownObject, NoBand, BandWithoutLane, NoTransform, OutsideBand, NoNative, NoLane}
use Rattle.request_judge.specs.declared.verdict.Place.{Place}
use Rattle.request_judge.specs.declared.verdict.Verdict.{Verdict}
use Rattle.request_judge.specs.declared.verdict.Verdict.TheVariants.{Runs, Binds}

-- ---- the object

abbrev key_in : Target → List ℕ
key_in (key k) = k
key_in (profile t) = []
key_in (addressing index type_id profiles) = []

one_key : (r : Request) (a b : List ℕ) → r.target ≡ key a → r.target ≡ key b → a ≡ b
one_key r a b h k = ap key_in (sym h ∙ k)

one_served : (setup : SetupData) (a b : List ℕ) (x y : Option Served) → a ≡ b → served_at setup a ≡ x → served_at setup b ≡ y → x ≡ y
one_served setup a b x y same h k = sym h ∙ ap (served_at setup) same ∙ k

some_none : {A : Type 0} (x : A) → Some x ≡ None → ⊥
some_none x h = absurd (cc)

pub asks_one : (setup : SetupData) (r : Request) (a b : Result (Served × Contexts) Refusal) → Asks setup r a → Asks setup r b → a ≡ b
asks_one setup r (Ok (s, t)) (Ok (s', t')) h k =
    let same = same_Some s s' (one_served setup h.object_key k.object_key (Some s) (Some s') (one_key r h.object_key k.object_key h.target k.target) h.found k.found) in
    let told = one_told r.contexts t t' h.tells k.tells in
    λ i. Ok (same i, told i)
asks_one setup r (Ok (s, t)) (Err NoKey) h k = absurd (k h.object_key h.target)
asks_one setup r (Ok (s, t)) (Err BadContext) h k = absurd (not_both r.contexts t k.fault h.tells k.first)
asks_one setup r (Ok (s, t)) (Err UnknownObject) h k =
    absurd (some_none s (one_served setup h.object_key k.object_key (Some s) None (one_key r h.object_key k.object_key h.target k.target) h.found k.not_found))
asks_one setup r (Ok (s, t)) (Err _) h k = absurd k
asks_one setup r (Err NoKey) (Ok (s, t)) h k = absurd (h k.object_key k.target)
asks_one setup r (Err NoKey) (Err NoKey) h k = refl
asks_one setup r (Err NoKey) (Err BadContext) h k = absurd (h k.object_key k.target)
asks_one setup r (Err NoKey) (Err UnknownObject) h k = absurd (h k.object_key k.target)
asks_one setup r (Err NoKey) (Err _) h k = absurd k
asks_one setup r (Err BadContext) (Ok (s, t)) h k = absurd (not_both r.contexts t h.fault k.tells h.first)
asks_one setup r (Err BadContext) (Err NoKey) h k = absurd (k h.object_key h.target)
asks_one setup r (Err BadContext) (Err BadContext) h k = refl
asks_one setup r (Err BadContext) (Err UnknownObject) h k = absurd (not_both r.contexts k.told h.fault k.tells h.first)
asks_one setup r (Err BadContext) (Err _) h k = absurd k
asks_one setup r (Err UnknownObject) (Ok (s, t)) h k =
    absurd (some_none s (one_served setup k.object_key h.object_key (Some s) None (one_key r k.object_key h.object_key k.target h.target) k.found h.not_found))
asks_one setup r (Err UnknownObject) (Err NoKey) h k = absurd (k h.object_key h.target)
asks_one setup r (Err UnknownObject) (Err BadContext) h k = absurd (not_both r.contexts h.told k.fault h.tells k.first)
asks_one setup r (Err UnknownObject) (Err UnknownObject) h k = refl
asks_one setup r (Err UnknownObject) (Err _) h k = absurd k
asks_one setup r (Err _) b h k = absurd h

-- ---- a bind

binds_one : (pool : Pool) (range : Option Span) (a b : Result Span Refusal) → BindsTo pool range a → BindsTo pool range b → a ≡ b
binds_one pool range (Ok x) (Ok y) h k = ap Ok (same_Some x y (sym h.0 ∙ k.0))
binds_one pool range (Ok x) (Err NoBand) h k = absurd (some_none x (sym h.0 ∙ k))
binds_one pool range (Ok x) (Err BandWithoutLane) h (y, k, not_served) = absurd (cc)
binds_one pool range (Ok x) (Err _) h k = absurd k
binds_one pool range (Err NoBand) (Ok y) h k = absurd (some_none y (sym k.0 ∙ h))
binds_one pool range (Err NoBand) (Err NoBand) h k = refl
binds_one pool range (Err NoBand) (Err BandWithoutLane) h (y, k, not_served) = absurd (some_none y (sym k ∙ h))
binds_one pool range (Err NoBand) (Err _) h k = absurd k
binds_one pool range (Err BandWithoutLane) (Ok y) (x, h, not_served) k = absurd (cc)
binds_one pool range (Err BandWithoutLane) (Err NoBand) (x, h, not_served) k = absurd (some_none x (sym h ∙ k))
binds_one pool range (Err BandWithoutLane) (Err BandWithoutLane) h k = refl
binds_one pool range (Err BandWithoutLane) (Err _) h k = absurd k
binds_one pool range (Err _) b h k = absurd h

-- ---- a run

pub is_none : {A : Type 0} (o : Option A) → IsSome o → o ≡ None → ⊥
is_none None h k = absurd (cc)
is_none (Some x) h k = absurd (cc)

in_one : (setup : SetupData) (band : Option Span) (p : ℕ) (a b : Result ℕ Refusal) → RunsIn setup band p a → RunsIn setup band p b → a ≡ b
in_one setup band p (Ok x) (Ok y) h k = ap Ok (same_Some x y (sym h.2 ∙ k.2))
in_one setup band p (Ok x) (Err OutsideBand) h k = absurd (k h.0)
in_one setup band p (Ok x) (Err NoNative) h k = absurd (is_none (to_native setup.mapping p) h.1 k.1)
in_one setup band p (Ok x) (Err NoLane) h k = absurd (some_none x (sym h.2 ∙ k.2))
in_one setup band p (Ok x) (Err _) h k = absurd k
in_one setup band p (Err OutsideBand) (Ok y) h k = absurd (h k.0)
in_one setup band p (Err OutsideBand) (Err OutsideBand) h k = refl
in_one setup band p (Err OutsideBand) (Err NoNative) h k = absurd (h k.0)
in_one setup band p (Err OutsideBand) (Err NoLane) h k = absurd (h k.0)
in_one setup band p (Err OutsideBand) (Err _) h k = absurd k
in_one setup band p (Err NoNative) (Ok y) h k = absurd (is_none (to_native setup.mapping p) k.1 h.1)
in_one setup band p (Err NoNative) (Err OutsideBand) h k = absurd (k h.0)
in_one setup band p (Err NoNative) (Err NoNative) h k = refl
in_one setup band p (Err NoNative) (Err NoLane) h k = absurd (is_none (to_native setup.mapping p) k.1 h.1)
in_one setup band p (Err NoNative) (Err _) h k = absurd k
in_one setup band p (Err NoLane) (Ok y) h k = absurd (some_none y (sym k.2 ∙ h.2))
in_one setup band p (Err NoLane) (Err OutsideBand) h k = absurd (k h.0)
in_one setup band p (Err NoLane) (Err NoNative) h k = absurd (is_none (to_native setup.mapping p) h.1 k.1)
in_one setup band p (Err NoLane) (Err NoLane) h k = refl
in_one setup band p (Err NoLane) (Err _) h k = absurd k
in_one setup band p (Err _) b h k = absurd h

abbrev place_with : ℕ → ℕ → ℕ → Place
place_with target priority lane = record { target = target; priority = priority; lane = lane }

-- the answer for a lane, as one for a place
abbrev placed_in : Served → ℕ → Result ℕ Refusal → Result Place Refusal
placed_in served p (Ok lane) = Ok (place_with served.number p lane)
placed_in served p (Err refusal) = Err refusal

-- the lane of an answer
abbrev lane_in : Result Place Refusal → Result ℕ Refusal
lane_in (Ok place) = Ok place.lane
lane_in (Err refusal) = Err refusal

runs_in : (setup : SetupData) (band : Option Span) (served : Served) (p : ℕ) (a : Result Place Refusal) → RunsAt setup band served (Some p) a
    → RunsIn setup band p (lane_in a) × (a ≡ placed_in served p (lane_in a))
runs_in setup band served p (Ok place) h = (h.2, λ i. Ok (place_with (h.0 i) (h.1 i) place.lane))
runs_in setup band served p (Err refusal) h = (h, refl)

at_one : (setup : SetupData) (band : Option Span) (served : Served) (m : Option ℕ) (a b : Result Place Refusal)
    → RunsAt setup band served m a → RunsAt setup band served m b → a ≡ b
at_one setup band served None a b h k = h ∙ sym k
at_one setup band served (Some p) a b h k =
    let x = runs_in setup band served p a h in
    let y = runs_in setup band served p b k in
    x.1 ∙ ap (placed_in served p) (in_one setup band p (lane_in a) (lane_in b) x.0 y.0) ∙ sym y.1

as_one : (setup : SetupData) (band : Option Span) (served : Served) (sent : Option ℕ) (a b : Result Place Refusal)
    → RunsAs setup band served sent a → RunsAs setup band served sent b → a ≡ b
as_one setup band served sent a b h k = at_one setup band served (mandated served.model served.priority served.inbound sent) a b h k

-- ---- the whole

abbrev bound : Result Span Refusal → Result Verdict Refusal
bound (Ok band) = Ok (Binds band)
bound (Err refusal) = Err refusal

abbrev run : Result Place Refusal → Result Verdict Refusal
run (Ok place) = Ok (Runs place)
run (Err refusal) = Err refusal

-- what becomes of a request whose object and contexts are known, or aren't
abbrev Decides : SetupData → Option Span → Request → Result (Served × Contexts) Refusal → Result Verdict Refusal → Type 0
Decides setup band r (Ok (served, told)) verdict =
    (IsBind r × ((b : Result Span Refusal) × BindsTo setup.pool told.range b × (verdict ≡ bound b)))
    ⊎ ((¬ IsBind r) × ((p : Result Place Refusal) × RunsAs setup band served told.priority p × (verdict ≡ run p)))
Decides setup band r (Err refusal) verdict = verdict ≡ Err refusal

record Stages (setup : SetupData) (band : Option Span) (r : Request) (verdict : Result Verdict Refusal) : Type 0 where
  asked : Result (Served × Contexts) Refusal
  asks : Asks setup r asked
  decides : Decides setup band r asked verdict

by_bind : (setup : SetupData) (band : Option Span) (r : Request) (b : Result Span Refusal) → Binding setup r b → Stages setup band r (bound b)
by_bind setup band r b h = record { asked = Ok (h.served, h.told); asks = h.asked; decides = inl (h.bind, (b, h.binds, refl)) }

by_run : (setup : SetupData) (band : Option Span) (r : Request) (p : Result Place Refusal) → Running setup band r p → Stages setup band r (run p)
by_run setup band r p h = record { asked = Ok (h.served, h.told); asks = h.asked; decides = inr (h.no_bind, (p, h.runs, refl)) }

stages : (setup : SetupData) (band : Option Span) (r : Request) (verdict : Result Verdict Refusal) → Judges setup band r verdict → Stages setup band r verdict
stages setup band r (Ok (Runs place)) h = by_run setup band r (Ok place) h
stages setup band r (Ok (Binds b)) h = by_bind setup band r (Ok b) h
stages setup band r (Err NoKey) h = record { asked = Err NoKey; asks = h; decides = refl }
stages setup band r (Err BadContext) h = record { asked = Err BadContext; asks = h; decides = refl }
stages setup band r (Err UnknownObject) h = record { asked = Err UnknownObject; asks = h; decides = refl }
stages setup band r (Err NoBand) h = by_bind setup band r (Err NoBand) h
stages setup band r (Err BandWithoutLane) h = by_bind setup band r (Err BandWithoutLane) h
stages setup band r (Err NoTransform) h = by_run setup band r (Err NoTransform) h
stages setup band r (Err OutsideBand) h = by_run setup band r (Err OutsideBand) h
stages setup band r (Err NoNative) h = by_run setup band r (Err NoNative) h
stages setup band r (Err NoLane) h = by_run setup band r (Err NoLane) h

decides_one : (setup : SetupData) (band : Option Span) (r : Request) (asked : Result (Served × Contexts) Refusal) (a b : Result Verdict Refusal)
    → Decides setup band r asked a → Decides setup band r asked b → a ≡ b
decides_one setup band r (Ok (s, t)) a b (inl h) (inl k) = h.1.2 ∙ ap bound (binds_one setup.pool t.range h.1.0 k.1.0 h.1.1 k.1.1) ∙ sym k.1.2
decides_one setup band r (Ok (s, t)) a b (inl h) (inr k) = absurd (k.0 h.0)
decides_one setup band r (Ok (s, t)) a b (inr h) (inl k) = absurd (h.0 k.0)
decides_one setup band r (Ok (s, t)) a b (inr h) (inr k) = h.1.2 ∙ ap run (as_one setup band s t.priority h.1.0 k.1.0 h.1.1 k.1.1) ∙ sym k.1.2
decides_one setup band r (Err refusal) a b h k = h ∙ sym k

pub one_verdict : JudgesOneWay
one_verdict setup band r a b h k =
    let x = stages setup band r a h in
    let y = stages setup band r b k in
    decides_one setup band r y.asked a b (subst (λ z. Decides setup band r z a) (asks_one setup r x.asked y.asked x.asks y.asks) x.decides) y.decides
