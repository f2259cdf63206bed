-- What a check that passes has found.
use Rattle.std.proofs.Common.{◌≡◌, Bool, true, false, ◌||◌, Option, Some, None, Ok, Err, refl, ap}
use Rattle.servant_scripts.specs.declared.phrase.At.{At}
use Rattle.script_checks.specs.declared.fault.CheckCause.{CheckCause}
use Rattle.script_checks.specs.Scene.{Checks, ◌>>=◌, or_refused, if_holds}

pub ok_is : {A : Type 0} (x y : A) → ◌≡◌ {A = Checks A} (Ok x) (Ok y) → x ≡ y
ok_is x y e = cc

-- both parts passed
pub both : {A B : Type 0} (r : Checks A) (f : A → Checks B) (y : B) → (r >>= f) ≡ Ok y → (x : A) × (r ≡ Ok x) × (f x ≡ Ok y)
both (Ok x) f y e = (x, refl, e)
both (Err d) f y e = absurd cc

pub if_ok : {A : Type 0} (b : Bool) (c : CheckCause) (at : At) (x y : A) → if_holds b c at x ≡ Ok y → (b ≡ true) × (x ≡ y)
if_ok true c at x y e = (refl, ok_is x y e)
if_ok false c at x y e = absurd cc

pub or_ok : {A : Type 0} (c : CheckCause) (at : At) (o : Option A) (y : A) → or_refused c at o ≡ Ok y → o ≡ Some y
or_ok c at (Some x) y e = ap Some (ok_is x y e)
or_ok c at None y e = absurd cc

pub both_false : (a b : Bool) → (a || b) ≡ false → (a ≡ false) × (b ≡ false)
both_false true b e = absurd cc
both_false false b e = (refl, e)
