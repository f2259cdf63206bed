-- One thing is defined, and what comes of it is shown by what comes of another.
use Rattle.std.proofs.Common.{◌≡◌, Some, None, Ok, Err, refl, sym, ap, subst}
use Rattle.script_values.specs.Operations.{Comes, ◌>>=◌}
use Rattle.script_laws.specs.Defined.{Defined, ◌and_then◌}

abbrev pub Good : {A B : Type 0} → (A → B) → (A → Type 0) → Defined A → Comes B → Type 0
Good sh P None t = ⊥
Good sh P (Some (Err l)) t = t ≡ Err l
Good sh P (Some (Ok x)) t = (t ≡ Ok (sh x)) × P x

pub bind : {A B C D : Type 0} (sh : A → B) (P : A → Type 0) (tell : C → D) (Q : C → Type 0) (s : Defined A) (t : Comes B) (f : A → Defined C) (g : B → Comes D)
    → Good sh P s t → ((x : A) → P x → Good tell Q (f x) (g (sh x))) → Good tell Q (s and_then f) (t >>= g)
bind sh P tell Q None t f g h step = absurd h
bind sh P tell Q (Some (Err l)) t f g h step = ap (λ r. r >>= g) h
bind sh P tell Q (Some (Ok x)) t f g h step = subst (λ r. Good tell Q (f x) (r >>= g)) (sym h.0) (step x h.1)

-- the same of what is more
pub weaken : {A B : Type 0} (sh : A → B) (P Q : A → Type 0) (s : Defined A) (t : Comes B) → Good sh P s t → ((x : A) → P x → Q x) → Good sh Q s t
weaken sh P Q None t h f = h
weaken sh P Q (Some (Err l)) t h f = h
weaken sh P Q (Some (Ok x)) t h f = (h.0, f x h.1)

abbrev pub itself : {A : Type 0} → A → A
itself x = x

-- what is defined by the same
pub just : {A : Type 0} (P : A → Type 0) (t : Comes A) → ((x : A) → t ≡ Ok x → P x) → Good itself P (Some t) t
just P (Ok x) f = (refl, f x refl)
just P (Err l) f = refl

-- it is what comes
pub same : {A : Type 0} (P : A → Type 0) (s : Defined A) (t : Comes A) → Good itself P s t → s ≡ Some t
same P None t h = absurd h
same P (Some (Err l)) t h = ap Some (sym h)
same P (Some (Ok x)) t h = ap Some (sym h.0)
