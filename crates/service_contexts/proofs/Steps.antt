-- Readings that give an option, one after the other.
use Rattle.std.proofs.Common.{◌≡◌, Bool, true, false, cond, Option, Some, None, Result, Ok, Err, refl, ap}
use Rattle.std.specs.Option.{is_some}
use Rattle.std.specs.Result.{result_ok}
use Rattle.service_contexts.specs.Reading.{◌>>=◌}

some : {A : Type 0} → A → Option A
some x = Some x

pub some_is : {A : Type 0} (x y : A) → Some x ≡ Some y → x ≡ y
some_is x y e = cc

-- a reading that has a value
pub bind_some : {A B : Type 0} (o : Option A) (f : A → Option B) (y : B) → (o >>= f) ≡ Some y
    → (x : A) × (o ≡ Some x) × (f x ≡ Some y)
bind_some (Some x) f y e = (x, refl, e)
bind_some None f y e = absurd cc

-- a result that is not a fault
pub ok_of : {A E : Type 0} (r : Result A E) (x : A) → result_ok r ≡ Some x → r ≡ Ok x
ok_of (Ok y) x e = ap (λ z. Ok z) (some_is y x e)
ok_of (Err f) x e = absurd cc

-- a value that passes a test, and one that must not
pub passed : {A : Type 0} (b : Bool) (x y : A) → cond b (Some x) None ≡ Some y → (b ≡ true) × (x ≡ y)
passed true x y e = (refl, some_is x y e)
passed false x y e = absurd cc

pub not_failed : {A : Type 0} (b : Bool) (x y : A) → cond b None (Some x) ≡ Some y → (b ≡ false) × (x ≡ y)
not_failed true x y e = absurd cc
not_failed false x y e = (refl, some_is x y e)

-- what a test for a value tells
pub some_there : {A : Type 0} (o : Option A) → is_some o ≡ true → (v : A) × (o ≡ Some v)
some_there (Some v) e = (v, refl)
some_there None e = absurd cc

pub none_there : {A : Type 0} (o : Option A) → is_some o ≡ false → o ≡ None
none_there (Some v) e = absurd cc
none_there None e = refl
