-- What contexts tell that a reader is at, taken one by one.
use Rattle.std.proofs.Common.{◌≡◌, ℕ, ◌-◌, ◌+◌, ◌≤◌, ◌<◌, List, [], ◌∷◌, ◌++◌, None, Ok, Err, is_ok, IsOk, refl, sym, ap, subst, ◌∙◌, append_assoc, arith}
use Rattle.orb_base.specs.Tagged.{Context}
use Rattle.cdr_core.specs.declared.fault.CdrFault.{CdrFault}
use Rattle.cdr_core.specs.Cursor.{Cursor, Reads}
use Rattle.cdr_core.specs.Reading.{count_at}
use Rattle.cdr_core.specs.Sequence.{◌>>=◌, times}
use Rattle.cdr_core.specs.Lists.{Item, item_at, made_at, list_at, context_of, read_or_none, IsAtList}
use Rattle.cdr_core.proofs.CallerLemmas.{with_front, goes_on, ends, is_done}
use Rattle.service_contexts.specs.declared.contexts.Contexts.{Contexts}
use Rattle.service_contexts.specs.declared.contexts.ContextFault.{ContextFault}
use Rattle.service_contexts.specs.Telling.{Tells, IsFirstFault}
use Rattle.service_contexts.proofs.Firsts.{empty_tells}

-- ---- the count

-- after the count of a list are so many
pub counted_list : (c : Cursor) (n : ℕ) (d : Cursor) → count_at c ≡ Ok (n, d)
    → list_at (made_at context_of) c ≡ times (made_at context_of) n d
unfolding list_at
counted_list c n d e = ap (λ (r : Reads ℕ). r >>= λ x. times (made_at context_of) x.0 x.1) e

-- no list is where no count is
pub no_count : (c : Cursor) (f : CdrFault) → count_at c ≡ Err f → IsAtList context_of c → ⊥
unfolding list_at
no_count c f e there =
    let none : list_at (made_at context_of) c ≡ Err f =
    ap (λ (r : Reads ℕ). r >>= λ x. times (made_at context_of) x.0 x.1) e in
    let no = sym (ap (λ (r : Reads (List Context)). is_ok r) none) ∙ there in
    absurd cc

-- ---- one context more

-- some contexts before given this, and the reading of the others leads to that of all
pub record SoFar (told : Contexts) (left : ℕ) (c : Cursor) (total : Reads (List Context)) : Type 0 where
  pub front : List Context
  pub leads : with_front front (times (made_at context_of) left c) ≡ total
  pub tells : Tells front told

none_before : (reading : Reads (List Context)) → with_front [] reading ≡ reading
none_before (Ok x) = refl
none_before (Err e) = refl

pub start : (count : ℕ) (c : Cursor)
    → SoFar (record { priority = None; range = None }) (count - 0) c (times (made_at context_of) count c)
start count c = record {
  front = [];
  leads =
      none_before (times (made_at context_of) (count - 0) c)
      ∙ ap (λ (n : ℕ). times (made_at context_of) n c) (let same : count - 0 ≡ count = omega arith in same);
  tells = empty_tells;
}

one_taken : (c : Cursor) (x : Item) (d : Cursor) → item_at c ≡ Ok (x, d) → made_at context_of c ≡ Ok (context_of x, d)
one_taken c x d e = ap (λ (r : Reads Item). r >>= λ y. Ok (context_of y.0, y.1)) e

none_taken : (c : Cursor) (f : CdrFault) → item_at c ≡ Err f → made_at context_of c ≡ Err f
none_taken c f e = ap (λ (r : Reads Item). r >>= λ y. Ok (context_of y.0, y.1)) e

pub goes_on_so : (told more : Contexts) (count i : ℕ) (c : Cursor) (x : Item) (d : Cursor) (total : Reads (List Context))
    → i < count → item_at c ≡ Ok (x, d) → SoFar told (count - i) c total
    → ((list : List Context) → Tells list told → Tells (list ++ context_of x ∷ []) more)
    → SoFar more (count - (i + 1)) d total
goes_on_so told more count i c x d total lt e h next = record {
  front = h.front ++ context_of x ∷ [];
  leads =
      goes_on (made_at context_of) h.front count i c (context_of x) d total lt (one_taken c x d e) h.leads;
  tells = next h.front h.tells;
}

-- each of those that are counted is there
pub none_missing : (told : Contexts) (count i : ℕ) (c : Cursor) (f : CdrFault) (total : Reads (List Context)) → i < count
    → item_at c ≡ Err f → SoFar told (count - i) c total → IsOk total → ⊥
none_missing told count i c f total lt e h there =
    let none = ends (made_at context_of) f h.front count i c total lt (none_taken c f e) h.leads in
    let no = sym (ap (λ (r : Reads (List Context)). is_ok r) none) ∙ there in
    absurd cc

-- what is read is what comes before, and more
others_read : (front : List Context) (others total : Reads (List Context)) → with_front front others ≡ total → IsOk total
    → (rest : List Context) × (read_or_none total ≡ front ++ rest)
others_read front (Ok x) total e there = (x.0, ap (λ (r : Reads (List Context)). read_or_none r) (sym e))
others_read front (Err f) total e there =
    let no = ap (λ (r : Reads (List Context)). is_ok r) e ∙ there in absurd cc

-- the fault of a context that is there is the first one of all
pub fault_so : (told : Contexts) (f : ContextFault) (count i : ℕ) (c : Cursor) (x : Item) (d : Cursor)
    (total : Reads (List Context)) → i < count → item_at c ≡ Ok (x, d) → SoFar told (count - i) c total → IsOk total
    → ((list behind : List Context) → Tells list told → IsFirstFault (list ++ context_of x ∷ behind) f)
    → IsFirstFault (read_or_none total) f
fault_so told f count i c x d total lt e h there faulty =
    let on = goes_on (made_at context_of) h.front count i c (context_of x) d total lt (one_taken c x d e) h.leads in
    let rest = others_read (h.front ++ context_of x ∷ []) (times (made_at context_of) (count - (i + 1)) d) total on there in
    let parts : read_or_none total ≡ h.front ++ context_of x ∷ rest.0 =
    rest.1 ∙ append_assoc h.front (context_of x ∷ []) rest.0 in
    subst (λ (l : List Context). IsFirstFault l f) (sym parts) (faulty h.front rest.0 h.tells)

-- all of them tell what was given at the end
pub told_so : (told : Contexts) (count i : ℕ) (c : Cursor) (total : Reads (List Context)) → count ≤ i
    → SoFar told (count - i) c total → Tells (read_or_none total) told
told_so told count i c total le h =
    let all = is_done (made_at context_of) h.front count i c total le h.leads in
    subst (λ (l : List Context). Tells l told) (sym (ap (λ (r : Reads (List Context)). read_or_none r) all)) h.tells
