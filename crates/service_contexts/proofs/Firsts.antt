-- What contexts tell, with one more after them.
use Rattle.std.proofs.Common.{◌≡◌, ◌≢◌, ℕ, Bool, eqb, List, [], ◌∷◌, ◌++◌, Option, Some, None, refl, arith, inl, inr}
use Rattle.std.proofs.lemmas.Bool.{eq-eqb, ne_eqb}
use Rattle.std.proofs.lemmas.List.Folds.{find-append}
use Rattle.orb_base.specs.Span.{Span}
use Rattle.orb_base.specs.Tagged.{Context}
use Rattle.service_contexts.specs.declared.contexts.Contexts.{Contexts}
use Rattle.service_contexts.specs.declared.contexts.TheConstants.{PRIORITY_CONTEXT, RANGE_CONTEXT}
use Rattle.service_contexts.specs.Carrying.{CarriesPriority, CarriesBand}
use Rattle.service_contexts.specs.Laws.{IsExactly}
use Rattle.service_contexts.specs.Telling.{first_of, TellsFirst, Tells, IsFaulty, IsFirstFault}

abbrev same : ℕ → Context → Bool
same id context = eqb context.id id

-- a context of another id changes nothing
other_stays : (A : Type 0) (id : ℕ) (Carried : A → List ℕ → Type 0)
    (list : List Context) (next : Context) (o : Option A) → next.id ≢ id
    → TellsFirst id Carried list o → TellsFirst id Carried (list ++ next ∷ []) o
other_stays A id Carried list next None ne h = rw (find-append (same id) list (next ∷ []), h, ne_eqb next.id id ne) refl
other_stays A id Carried list next (Some v) ne h = (h.0, rw (find-append (same id) list (next ∷ []), h.1) refl, h.2)

-- nor does one where the id was met
met_stays : (A : Type 0) (id : ℕ) (Carried : A → List ℕ → Type 0) (list : List Context) (next : Context) (v : A)
    → TellsFirst id Carried list (Some v) → TellsFirst id Carried (list ++ next ∷ []) (Some v)
met_stays A id Carried list next v h = (h.0, rw (find-append (same id) list (next ∷ []), h.1) refl, h.2)

-- the first of its id counts
first_counts : (A : Type 0) (id : ℕ) (Carried : A → List ℕ → Type 0) (list : List Context) (next : Context) (v : A)
    → next.id ≡ id → Carried v next.bytes
    → TellsFirst {A = A} id Carried list None → TellsFirst id Carried (list ++ next ∷ []) (Some v)
first_counts A id Carried list next v is carried none =
    (next, rw (find-append (same id) list (next ∷ []), none, eq-eqb next.id id is) refl, carried)

pub empty_tells : Tells [] (record { priority = None; range = None })
empty_tells = record { priority = refl; range = refl }

-- ---- one more context

-- of neither id
pub other_tells : (list : List Context) (next : Context) (told : Contexts) → next.id ≢ PRIORITY_CONTEXT
    → next.id ≢ RANGE_CONTEXT → Tells list told → Tells (list ++ next ∷ []) told
other_tells list next told p r h = record {
  priority = other_stays ℕ PRIORITY_CONTEXT CarriesPriority list next told.priority p h.priority;
  range = other_stays Span RANGE_CONTEXT CarriesBand list next told.range r h.range;
}

-- of priorities, when one was met
pub priority_met : (list : List Context) (next : Context) (told : Contexts) (level : ℕ) → next.id ≡ PRIORITY_CONTEXT
    → told.priority ≡ Some level
    → Tells list told → Tells (list ++ next ∷ []) told
priority_met list next told level is met h =
    let at : TellsFirst PRIORITY_CONTEXT CarriesPriority list (Some level) = rw met at h.priority in
    record {
      priority = rw met (met_stays ℕ PRIORITY_CONTEXT CarriesPriority list next level at);
      range = other_stays Span RANGE_CONTEXT CarriesBand list next told.range (λ e. absurd (omega (arith, e, is)))
          h.range;
    }

-- of bands, when one was met
pub band_met : (list : List Context) (next : Context) (told : Contexts) (band : Span) → next.id ≡ RANGE_CONTEXT
    → told.range ≡ Some band
    → Tells list told → Tells (list ++ next ∷ []) told
band_met list next told band is met h =
    let at : TellsFirst RANGE_CONTEXT CarriesBand list (Some band) = rw met at h.range in
    record {
      priority = other_stays ℕ PRIORITY_CONTEXT CarriesPriority list next told.priority
          (λ e. absurd (omega (arith, e, is))) h.priority;
      range = rw met (met_stays Span RANGE_CONTEXT CarriesBand list next band at);
    }

-- the first of priorities
pub priority_counts : (list : List Context) (next : Context) (told : Contexts) (level : ℕ)
    → next.id ≡ PRIORITY_CONTEXT → told.priority ≡ None → CarriesPriority level next.bytes
    → Tells list told → Tells (list ++ next ∷ []) (record { priority = Some level; range = told.range })
priority_counts list next told level is none carried h =
    let unmet : TellsFirst {A = ℕ} PRIORITY_CONTEXT CarriesPriority list None = rw none at h.priority in
    record {
      priority = first_counts ℕ PRIORITY_CONTEXT CarriesPriority list next level is carried unmet;
      range = other_stays Span RANGE_CONTEXT CarriesBand list next told.range (λ e. absurd (omega (arith, e, is)))
          h.range;
    }

-- the first of bands
pub band_counts : (list : List Context) (next : Context) (told : Contexts) (band : Span) → next.id ≡ RANGE_CONTEXT
    → told.range ≡ None → CarriesBand band next.bytes
    → Tells list told → Tells (list ++ next ∷ []) (record { priority = told.priority; range = Some band })
band_counts list next told band is none carried h =
    let unmet : TellsFirst {A = Span} RANGE_CONTEXT CarriesBand list None = rw none at h.range in
    record {
      priority = other_stays ℕ PRIORITY_CONTEXT CarriesPriority list next told.priority
          (λ e. absurd (omega (arith, e, is))) h.priority;
      range = first_counts Span RANGE_CONTEXT CarriesBand list next band is carried unmet;
    }

-- ---- the first without a reading

-- a context that counts and has no reading, after those that told so much
faulty_next : (list behind : List Context) (next : Context) (told : Contexts) → first_of next.id list ≡ None
    → IsFaulty next → Tells list told → IsFirstFault (list ++ next ∷ behind) (record { id = next.id })
faulty_next list behind next told counts faulty h = record {
  before = list;
  context = next;
  behind = behind;
  parts = refl;
  told = refl;
  counts = counts;
  faulty = faulty;
  so_far = told;
  earlier = h;
}

pub priority_faulty : (list behind : List Context) (next : Context) (told : Contexts) (answer : Option ℕ)
    → next.id ≡ PRIORITY_CONTEXT → told.priority ≡ None
    → answer ≡ None → IsExactly answer (λ level. CarriesPriority level next.bytes) → Tells list told
    → IsFirstFault (list ++ next ∷ behind) (record { id = next.id })
priority_faulty list behind next told answer is none absent exact h =
    let unmet : first_of PRIORITY_CONTEXT list ≡ None = rw none at h.priority in
    let faulty : (level : ℕ) → ¬ CarriesPriority level next.bytes = λ level c. let e = (exact level).1 c in absurd cc in
    faulty_next list behind next told (rw is unmet) (inl (is, faulty)) h

pub band_faulty : (list behind : List Context) (next : Context) (told : Contexts) (answer : Option Span)
    → next.id ≡ RANGE_CONTEXT → told.range ≡ None
    → answer ≡ None → IsExactly answer (λ band. CarriesBand band next.bytes) → Tells list told
    → IsFirstFault (list ++ next ∷ behind) (record { id = next.id })
band_faulty list behind next told answer is none absent exact h =
    let unmet : first_of RANGE_CONTEXT list ≡ None = rw none at h.range in
    let faulty : (band : Span) → ¬ CarriesBand band next.bytes = λ band c. let e = (exact band).1 c in absurd cc in
    faulty_next list behind next told (rw is unmet) (inr (is, faulty)) h
