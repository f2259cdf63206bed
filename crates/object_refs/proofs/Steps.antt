-- Readings, one after the other.
use Rattle.std.proofs.Common.{◌≡◌, Bool, true, false, cond, Option, Some, None, Result, Ok, Err, refl, sym, ◌∙◌}
use Rattle.std.proofs.lemmas.Option.{same_Some}
use Rattle.std.specs.Prelude.{IfOk, option_and_then}
use Rattle.std.specs.Prelude.{IfErr, IfSome}
use Rattle.cdr_core.proofs.CallerLemmas.{ok_is}
use Rattle.object_refs.specs.declared.fault.RefError.{RefError}
use Rattle.object_refs.specs.declared.fault.RefError.TheVariants.{Refused, NoMemory}
use Rattle.object_refs.specs.declared.fault.RefFault.{RefFault}
use Rattle.object_refs.specs.Answers.{Answers, fault_of}
use Rattle.object_refs.specs.Laws.{IsExactly, RefusesExactly}
use Rattle.object_refs.specs.Reading.{Read}

-- a value that a test lets by
pub passed : {A : Type 0} (b : Bool) (x y : A) (f : RefFault) → cond b (Ok x) (Err f) ≡ Ok y → (b ≡ true) × (x ≡ y)
passed true x y f e = (refl, ok_is x y e)
passed false x y f e = absurd cc

pub passed_some : {A : Type 0} (b : Bool) (x y : A) → ◌≡◌ {A = Option A} (cond b (Some x) None) (Some y)
    → (b ≡ true) × (x ≡ y)
passed_some true x y e = (refl, same_Some x y e)
passed_some false x y e = absurd cc

pub then_some : {A B : Type 0} (o : Option A) (f : A → Option B) (y : B) → option_and_then f o ≡ Some y
    → (x : A) × (o ≡ Some x) × (f x ≡ Some y)
then_some (Some x) f y e = (x, refl, e)
then_some None f y e = absurd cc

-- a call that answers what an exact reading gives answers what is so
pub found_so : {X A : Type 0} (view : X → A) (r : Result X RefError) (reading : Read A) (Fact : A → Type 0)
    → IsExactly reading Fact → Answers view r reading → IfOk r (λ x. Fact (view x))
found_so view (Ok x) reading Fact exact e = (exact (view x)).0 e
found_so view (Err f) reading Fact exact e = tt

-- and what is so is answered
pub only_so : {X A : Type 0} (view : X → A) (r : Result X RefError) (reading : Read A) (Fact : A → Type 0)
    → IsExactly reading Fact → Answers view r reading → (a : A) → Fact a → Answers view r (Ok a)
only_so view (Ok x) reading Fact exact e a h = sym ((exact a).1 h) ∙ e
only_so view (Err (Refused f)) reading Fact exact e a h = sym ((exact a).1 h) ∙ e
only_so view (Err NoMemory) reading Fact exact e a h = tt

-- a fault that is given is the first one
pub fails_so : {X A : Type 0} (view : X → A) (r : Result X RefError) (reading : Read A) (Bad : RefFault → Type 0)
    → RefusesExactly reading Bad → Answers view r reading → IfErr r (λ e. IfSome (fault_of e) Bad)
fails_so view (Ok x) reading Bad exact e = tt
fails_so view (Err (Refused f)) reading Bad exact e = (exact f).0 e
fails_so view (Err NoMemory) reading Bad exact e = tt

-- and the first one is given
pub told_so : {X A : Type 0} (view : X → A) (r : Result X RefError) (reading : Read A) (Bad : RefFault → Type 0)
    → RefusesExactly reading Bad → Answers view r reading → (f : RefFault) → Bad f → Answers {Y = A} view r (Err f)
told_so view (Ok x) reading Bad exact e f h = sym ((exact f).1 h) ∙ e
told_so view (Err (Refused g)) reading Bad exact e f h = sym ((exact f).1 h) ∙ e
told_so view (Err NoMemory) reading Bad exact e f h = tt

-- a test that lets nothing by, and what there is none of
pub failed : {A : Type 0} (b : Bool) (x : A) (f g : RefFault) → cond b (Ok x) (Err f) ≡ Err g → (b ≡ false) × (g ≡ f)
failed true x f g e = absurd cc
failed false x f g e = (refl, cc)

pub none_of : {A : Type 0} (o : Option A) → ((x : A) → o ≡ Some x → ⊥) → o ≡ None
none_of (Some x) never = absurd (never x refl)
none_of None never = refl

pub some_none : {A : Type 0} (o : Option A) (x : A) → o ≡ None → o ≡ Some x → ⊥
some_none o x e h = absurd cc
