-- Runs that begin with a prefix of entries.
use Rattle.std.proofs.Common.{◌≡◌, [], ◌∷◌, ◌++◌, inl, inr, refl, sym, ap, ◌∙◌, subst, append-nil, append_assoc}
use Rattle.std.specs.Prelude.{◌⊎◌}
use Rattle.lane_machine.specs.State.{State}
use Rattle.lane_machine.specs.Histories.{History}
use Rattle.lane_machine.specs.Entries.{One}
use Rattle.pipe_laws.specs.Piped.{Run}
use Rattle.pipe_laws.specs.Lacking.{Agrees}
use Rattle.pipe_laws.specs.Begun.{IsFront}
use Rattle.lane_driver.specs.Driving.{Servant, Doer, run_at, Begins}

pub agrees_first : (servant : Servant) (a b : History) → Agrees servant (a ++ b) → Agrees servant a
agrees_first servant [] b agrees = tt
agrees_first servant (e ∷ a) b (here, agrees) = (here, agrees_first servant a b agrees)

pub agrees_then : (servant : Servant) (a b : History) → Agrees servant (a ++ b) → Agrees servant b
agrees_then servant [] b agrees = agrees
agrees_then servant (e ∷ a) b (here, agrees) = agrees_then servant a b agrees

-- a doer takes nothing of a history away
abbrev pub Grows : Doer → Type 0
Grows does = (servant : Servant) (run : Run) → (more : History) × ((does servant run).history ≡ run.history ++ more)

-- a prefix of two histories is one of the first, or goes on in the second
front_cases : (front a b : History) → IsFront front (a ++ b) → IsFront front a ⊎ ((rest : History) × (front ≡ a ++ rest) × IsFront rest b)
front_cases [] a b is = inl tt
front_cases (e ∷ es) [] b is = inr (e ∷ es, refl, is)
front_cases (e ∷ es) (first ∷ a) b (same, is) = elim (front_cases es a b is) [
  | inl x ↦ inl (same, x)
  | inr x ↦ inr (x.0, ap (λ (z : One). z ∷ es) same ∙ ap (λ (zs : History). first ∷ zs) x.1, x.2)
]

pub front_same : (h : History) → IsFront h h
front_same [] = tt
front_same (e ∷ es) = (refl, front_same es)

-- what begins with these entries, for each servant that gives their answers
abbrev pub BeginsAll : Doer → State → History → Type 0
BeginsAll does s entries = (servant : Servant) → Agrees servant entries → (h : History)
    → (more : History) × ((does servant (run_at s h)).history ≡ (h ++ entries) ++ more)

pub begins_nothing : (does : Doer) (s : State) → Grows does → BeginsAll does s []
begins_nothing does s grows servant agrees h =
    let g = grows servant (run_at s h) in (g.0, g.1 ∙ ap (λ (k : History). k ++ g.0) (sym (append-nil h)))

pub begins_none : (does : Doer) (s : State) → BeginsAll does s [] → Begins does s []
begins_none does s all servant [] is agrees h = all servant tt h
begins_none does s all servant (e ∷ es) is agrees h = absurd is

pub begins_one : (does : Doer) (s : State) (e : One) → Grows does → BeginsAll does s (e ∷ []) → Begins does s (e ∷ [])
begins_one does s e grows all servant [] is agrees h = begins_nothing does s grows servant tt h
begins_one does s e grows all servant (first ∷ []) (same, is) agrees h =
    let g = all servant (subst (λ (z : One). Agrees servant (z ∷ [])) same agrees) h in
    (g.0, g.1 ∙ ap (λ (z : One). (h ++ z ∷ []) ++ g.0) (sym same))
begins_one does s e grows all servant (first ∷ second ∷ es) (same, is) agrees h = absurd is

pub begins_two : (does : Doer) (s : State) (e f : One) → Grows does → BeginsAll does s (e ∷ []) → BeginsAll does s (e ∷ f ∷ [])
    → Begins does s (e ∷ f ∷ [])
begins_two does s e f grows one all servant [] is agrees h = begins_nothing does s grows servant tt h
begins_two does s e f grows one all servant (first ∷ []) (same, is) agrees h =
    begins_one does s e grows one servant (first ∷ []) (same, tt) agrees h
begins_two does s e f grows one all servant (first ∷ second ∷ []) (same, (also, is)) agrees h =
    let both : first ∷ second ∷ [] ≡ e ∷ f ∷ [] = ap (λ (z : One). z ∷ second ∷ []) same ∙ ap (λ (z : One). e ∷ z ∷ []) also in
    let g = all servant (subst (Agrees servant) both agrees) h in
    (g.0, g.1 ∙ ap (λ (zs : History). (h ++ zs) ++ g.0) (sym both))
begins_two does s e f grows one all servant (first ∷ second ∷ third ∷ es) (same, (also, is)) agrees h = absurd is

-- after the first entries
abbrev pub BeginsBehind : Doer → State → History → History → Type 0
BeginsBehind does s a b = (servant : Servant) → Agrees servant a → (rest : History) → IsFront rest b → Agrees servant rest → (h : History)
    → (more : History) × ((does servant (run_at s h)).history ≡ ((h ++ a) ++ rest) ++ more)

pub begins_then : (does : Doer) (s : State) (a b : History) → Begins does s a → BeginsBehind does s a b → Begins does s (a ++ b)
begins_then does s a b first later servant front is agrees h = elim (front_cases front a b is) [
  | inl x ↦ first servant front x agrees h
  | inr x ↦ (
      let both = subst (Agrees servant) x.1 agrees in
      let g = later servant (agrees_first servant a x.0 both) x.0 x.2 (agrees_then servant a x.0 both) h in
      (g.0, g.1 ∙ ap (λ (k : History). k ++ g.0) (append_assoc h a x.0 ∙ ap (λ (f : History). h ++ f) (sym x.1)))
      )
]

-- one doer after another
pub begins_first : (first next : Doer) (s : State) (a : History) → Grows next → Begins first s a
    → Begins (λ servant run. next servant (first servant run)) s a
begins_first first next s a grows one servant front is agrees h =
    let g = one servant front is agrees h in
    let f = grows servant (first servant (run_at s h)) in
    (g.0 ++ f.0, f.1 ∙ ap (λ (k : History). k ++ f.0) g.1 ∙ append_assoc (h ++ front) g.0 f.0)

pub begins_both : (first next : Doer) (s m : State) (a b : History) → Grows next → Begins first s a
    → ((servant : Servant) → Agrees servant a → (h : History) → first servant (run_at s h) ≡ run_at m (h ++ a)) → Begins next m b
    → Begins (λ servant run. next servant (first servant run)) s (a ++ b)
begins_both first next s m a b grows one done other =
    begins_then (λ servant run. next servant (first servant run)) s a b (begins_first first next s a grows one)
    (λ servant agrees rest is later h. (
    let g = other servant rest is later (h ++ a) in
    (g.0, ap (λ (r : Run). (next servant r).history) (done servant agrees h) ∙ g.1)
    ))
