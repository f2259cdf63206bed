-- What readings and spellings of contexts and policy values have to do with each other.
use Rattle.std.specs.Prelude.{◌≡◌, ℕ, List, ◌++◌, Option, Some}
use Rattle.cdr_core.specs.Answers as Cdr
use Rattle.orb_base.specs.Tagged.{Context}
use Rattle.orb_base.specs.declared.order.Order.{Order}
use Rattle.cdr_core.specs.Field.{Field}
use Rattle.cdr_core.specs.Cursor.{Cursor, AreBytes}
use Rattle.cdr_core.specs.Encapsulation.{encapsulation}
use Rattle.service_contexts.specs.declared.contexts.Contexts.{Contexts}
use Rattle.service_contexts.specs.declared.contexts.ContextFault.{ContextFault}
use Rattle.service_contexts.specs.Carrying.{Carries}
use Rattle.service_contexts.specs.Reading.{Taken, carried}
use Rattle.service_contexts.specs.Telling.{Tells, IsFirstFault}

-- the answer is the value of which the fact holds, and None where it holds of none
abbrev pub IsExactly : {A : Type 0} → Option A → (A → Type 0) → Type 0
IsExactly {A} = Cdr.IsExactly {A = A} {B = Option A} (λ value. Some value)

-- a value is read as it is spelled: its reading takes what the bytes carry; what is spelled, in either order and whatever
-- follows, is read as that value and carries it; bytes carry at most one
pub record IsReadAsSpelled (A : Type 0) (IsLawful : A → Type 0) (fields : A → List Field) (one : Cursor → Taken A)
    : Type 0 where
  pub exact : (bytes : List ℕ) → AreBytes bytes
      → IsExactly (carried one bytes) (λ value. Carries A IsLawful fields value bytes)
  pub back : (order : Order) (value : A) (behind : List ℕ) → IsLawful value
      → carried one (encapsulation order (fields value) ++ behind) ≡ Some value
  pub carried_back : (order : Order) (value : A) (behind : List ℕ) → IsLawful value
      → Carries A IsLawful fields value (encapsulation order (fields value) ++ behind)
  pub one_way : (v w : A) (bytes : List ℕ) → Carries A IsLawful fields v bytes → Carries A IsLawful fields w bytes
      → v ≡ w

-- contexts tell one thing, or have one first fault, and not both
pub record TellOneThing (list : List Context) : Type 0 where
  pub told : (a b : Contexts) → Tells list a → Tells list b → a ≡ b
  pub fault : (f g : ContextFault) → IsFirstFault list f → IsFirstFault list g → f ≡ g
  pub not_both : (a : Contexts) (f : ContextFault) → Tells list a → ¬ IsFirstFault list f
