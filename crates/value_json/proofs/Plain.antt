-- A value of a type whose values are numbers.
use Rattle.std.proofs.Common.{◌≡◌, refl}
use Rattle.cdr_values.specs.Trees.{Scalar, scalar, Value, truth, number, letter, text, items, chosen, label}
use Rattle.value_json.specs.Shown.{shown, plain_data}

pub plain_shown : (s : Scalar) (v : Value) → plain_data (scalar s) v ≡ shown v (scalar s)
plain_shown s (truth b) = refl
plain_shown s (number z) = refl
plain_shown s (letter c) = refl
plain_shown s (label n) = refl
plain_shown s (text bytes) = refl
plain_shown s (items vs) = refl
plain_shown s (chosen z vs) = refl
