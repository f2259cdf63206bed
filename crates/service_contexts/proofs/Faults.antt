-- Contexts tell one thing, or have one first fault.
use Rattle.std.proofs.Common.{◌≡◌, ℕ, ◌+◌, ◌<◌, ◌≤◌, eqb, List, [], ◌∷◌, ◌++◌, length, take, drop, get_or, Option, Some, None}
use Rattle.std.proofs.Common.{Result, Ok, Err, ◌↔◌, refl, sym}
use Rattle.std.proofs.Common.{ap, subst, ◌∙◌, ◌⊎◌, inl, inr}
use Rattle.std.proofs.lemmas.Bool.{eq-eqb}
use Rattle.std.proofs.lemmas.List.Folds.{find-append}
use Rattle.orb_base.specs.Span.{Span}
use Rattle.orb_base.specs.Tagged.{Context}
use Rattle.service_contexts.specs.declared.contexts.Contexts.{Contexts}
use Rattle.service_contexts.specs.declared.contexts.ContextFault.{ContextFault}
use Rattle.service_contexts.specs.declared.contexts.TheConstants.{PRIORITY_CONTEXT, RANGE_CONTEXT}
use Rattle.service_contexts.specs.Carrying.{CarriesPriority, CarriesBand}
use Rattle.service_contexts.specs.Laws.{TellOneThing}
use Rattle.service_contexts.specs.Telling.{first_of, TellsFirst, Tells, IsFaulty, IsFirstFault}
use Rattle.cdr_core.proofs.CallerLemmas.{around, all_of}
use Rattle.service_contexts.proofs.Steps.{some_is}
use Rattle.service_contexts.proofs.Carried.{priority_law, band_law}

-- ---- one thing is told

one_first : (A : Type 0) (id : ℕ) (Carried : A → List ℕ → Type 0)
    → ((v w : A) (bytes : List ℕ) → Carried v bytes → Carried w bytes → v ≡ w)
    → (list : List Context) (a b : Option A) → TellsFirst id Carried list a → TellsFirst id Carried list b → a ≡ b
one_first A id Carried one_way list None None h k = refl
one_first A id Carried one_way list None (Some w) h k = let there = k.1 in absurd cc
one_first A id Carried one_way list (Some v) None h k = let there = h.1 in absurd cc
one_first A id Carried one_way list (Some v) (Some w) h k =
    let context : h.0 ≡ k.0 = some_is h.0 k.0 (sym h.1 ∙ k.1) in
    ap (λ x. Some x) (one_way v w k.0.bytes (subst (λ (c : Context). Carried v c.bytes) context h.2) k.2)

pub one_told : (list : List Context) (a b : Contexts) → Tells list a → Tells list b → a ≡ b
one_told list a b h k =
    let priority =
    one_first ℕ PRIORITY_CONTEXT CarriesPriority priority_law.one_way list a.priority b.priority h.priority
    k.priority in
    let range = one_first Span RANGE_CONTEXT CarriesBand band_law.one_way list a.range b.range h.range k.range in
    λ i. record { priority = priority i; range = range i }

-- ---- what has a fault is not told

first_there : (before behind : List Context) (context : Context) → first_of context.id before ≡ None
    → first_of context.id (before ++ context ∷ behind) ≡ Some context
first_there before behind context none =
    rw (
      find-append (λ (c : Context). eqb c.id context.id) before (context ∷ behind),
      none,
      eq-eqb context.id context.id refl,
    ) refl

none_carried : (A : Type 0) (id : ℕ) (Carried : A → List ℕ → Type 0)
    (list : List Context) (context : Context) (o : Option A) → first_of context.id list ≡ Some context
    → context.id ≡ id
    → ((v : A) → ¬ Carried v context.bytes) → TellsFirst id Carried list o → ⊥
none_carried A id Carried list context None first is never h =
    let there : first_of id list ≡ Some context = subst (λ (k : ℕ). first_of k list ≡ Some context) is first in
    absurd cc
none_carried A id Carried list context (Some v) first is never h =
    let there : first_of id list ≡ Some context = subst (λ (k : ℕ). first_of k list ≡ Some context) is first in
    let same : h.0 ≡ context = some_is h.0 context (sym h.1 ∙ there) in
    never v (subst (λ (c : Context). Carried v c.bytes) same h.2)

faulty_untold : (list : List Context) (told : Contexts) (context : Context)
    → first_of context.id list ≡ Some context → IsFaulty context → Tells list told → ⊥
faulty_untold list told context first (inl f) h =
    none_carried ℕ PRIORITY_CONTEXT CarriesPriority list context told.priority first f.0 f.1 h.priority
faulty_untold list told context first (inr f) h =
    none_carried Span RANGE_CONTEXT CarriesBand list context told.range first f.0 f.1 h.range

pub not_both : (list : List Context) (told : Contexts) (f : ContextFault) → Tells list told → ¬ IsFirstFault list f
not_both list told f h k =
    let there : first_of k.context.id list
    ≡ Some k.context = rw k.parts (first_there k.before k.behind k.context k.counts) in
    faulty_untold list told k.context there k.faulty h

-- ---- one first fault

-- of two places in a list one is before the other, or they are one
places : (a b x y : List Context) (c d : Context) → a ++ c ∷ x ≡ b ++ d ∷ y
    → (c ≡ d) ⊎ (((m : List Context) × (b ≡ a ++ c ∷ m)) ⊎ ((m : List Context) × (a ≡ b ++ d ∷ m)))
places [] [] x y c d e = inl cc
places [] (h ∷ b) x y c d e = let same : h ≡ c = cc in inr (inl (b, ap (λ (z : Context). z ∷ b) same))
places (h ∷ a) [] x y c d e = let same : h ≡ d = cc in inr (inr (a, ap (λ (z : Context). z ∷ a) same))
places (h ∷ a) (k ∷ b) x y c d e =
    let head : h ≡ k = cc in
    let rest : a ++ c ∷ x ≡ b ++ d ∷ y = cc in
    elim (places a b x y c d rest) [
      | inl s ↦ inl s
      | inr s ↦ elim s [
        | inl m ↦ inr (inl (m.0, ap (λ (z : Context). z ∷ b) (sym head) ∙ ap (λ (z : List Context). h ∷ z) m.1))
        | inr m ↦ inr (inr (m.0, ap (λ (z : Context). z ∷ a) head ∙ ap (λ (z : List Context). k ∷ z) m.1))
      ]
    ]

pub one_fault : (list : List Context) (f g : ContextFault) → IsFirstFault list f → IsFirstFault list g → f ≡ g
one_fault list f g h k =
    let both : h.before ++ h.context ∷ h.behind ≡ k.before ++ k.context ∷ k.behind = sym h.parts ∙ k.parts in
    elim (places h.before k.before h.behind k.behind h.context k.context both) [
      | inl same ↦ let id : f.id ≡ g.id = h.told ∙ ap (λ (c : Context). c.id) same
          ∙ sym k.told in λ i. record { id = id i }
      | inr s ↦ elim s [
        | inl m ↦
            let there : first_of h.context.id k.before
            ≡ Some h.context = rw m.1 (first_there h.before m.0 h.context h.counts) in
            absurd (faulty_untold k.before k.so_far h.context there h.faulty k.earlier)
        | inr m ↦
            let there : first_of k.context.id h.before
            ≡ Some k.context = rw m.1 (first_there k.before m.0 k.context k.counts) in
            absurd (faulty_untold h.before h.so_far k.context there k.faulty h.earlier)
      ]
    ]

pub tell_one_thing : (list : List Context) → TellOneThing list
tell_one_thing list = record {
  told = λ a b h k. one_told list a b h k;
  fault = λ f g h k. one_fault list f g h k;
  not_both = λ a f h k. not_both list a f h k;
}

-- ---- an answer that is right is the only one

abbrev pub Answer : Type 0
Answer = Result Contexts ContextFault

ok_is : (a b : Contexts) (r : Answer) → r ≡ Ok a → r ≡ Ok b → a ≡ b
ok_is a b r p q = cc

err_is : (f g : ContextFault) (r : Answer) → r ≡ Err f → r ≡ Err g → f ≡ g
err_is f g r p q = cc

pub told_told : (list : List Context) (a : Contexts) (r : Answer) → r ≡ Ok a → Tells list a → (b : Contexts)
    → (r ≡ Ok b) ↔ Tells list b
told_told list a r e h b =
    (λ is. subst (Tells list) (ok_is a b r e is) h, λ k. e ∙ ap (λ (x : Contexts). Ok x) (one_told list a b h k))

pub told_fault : (list : List Context) (a : Contexts) (r : Answer) → r ≡ Ok a → Tells list a → (f : ContextFault)
    → (r ≡ Err f) ↔ IsFirstFault list f
told_fault list a r e h f = (λ is. absurd cc, λ k. absurd (not_both list a f h k))

pub fault_told : (list : List Context) (f : ContextFault) (r : Answer) → r ≡ Err f → IsFirstFault list f
    → (b : Contexts) → (r ≡ Ok b) ↔ Tells list b
fault_told list f r e h b = (λ is. absurd cc, λ k. absurd (not_both list b f k h))

pub fault_fault : (list : List Context) (f : ContextFault) (r : Answer) → r ≡ Err f → IsFirstFault list f
    → (g : ContextFault) → (r ≡ Err g) ↔ IsFirstFault list g
fault_fault list f r e h g = (
  λ is. subst (IsFirstFault list) (err_is f g r e is) h,
  λ k. e
      ∙ ap (λ (x : ContextFault). Err x) (one_fault list f g h k),
)

-- ---- a loop over the list

-- what is told of all its items is told of the list
pub told_of_all : (list items : List Context) (i : ℕ) (told : Contexts) → length items ≤ i → i ≤ length items → items ≡ list
    → Tells (take i items) told → Tells list told
told_of_all list items i told low high is h =
    subst (λ (l : List Context). Tells l told) (all_of items i low high ∙ is) h

-- the fault at an item is that of the list
pub fault_of_one : (list items : List Context) (i : ℕ) (x : Context) (f : ContextFault) → i < length items
    → x ≡ get_or items i x → items ≡ list → IsFirstFault (take i items ++ x ∷ drop (i + 1) items) f → IsFirstFault list f
fault_of_one list items i x f less at is h =
    subst (λ (l : List Context). IsFirstFault l f) (sym (around items i x less at) ∙ is) h
