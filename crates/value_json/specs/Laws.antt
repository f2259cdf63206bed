-- What values and their JSON have to do with each other: own profile.
use Rattle.std.specs.Prelude.{◌≡◌, ◌&&◌, Bool, true, IsTrue, Some}
use Rattle.serde_json.specs.Data.{Data}
use Rattle.cdr_values.specs.Fitting.{is_of}
use Rattle.cdr_values.specs.Lawful.{is_lawful}
use Rattle.cdr_values.specs.Trees.{Kind, Value, truth, number, letter, text, items, chosen, label, Values, no_values, value}
use Rattle.value_json.specs.Meant.{meant}
use Rattle.value_json.specs.Shown.{shown}
use Rattle.value_json.specs.Texts.{are_bytes}

-- whether the strings of a value are bytes, as those of a program's values are
abbrev mutual
  pub has_bytes : Value → Bool
  has_bytes (truth b) = true
  has_bytes (number z) = true
  has_bytes (letter c) = true
  has_bytes (text bytes) = are_bytes bytes
  has_bytes (items vs) = have_bytes vs
  has_bytes (chosen z vs) = have_bytes vs
  has_bytes (label n) = true

  pub have_bytes : Values → Bool
  have_bytes no_values = true
  have_bytes (value v vs) = has_bytes v && have_bytes vs

-- what is printed of a value of a lawful type reads back as that value
abbrev pub ReadsBack : Type 0
ReadsBack = (k : Kind) (v : Value) → IsTrue (is_lawful k) → IsTrue (has_bytes v) → IsTrue (is_of v k) → meant k (shown v k) ≡ Some v

-- what is read of a type is of that type
abbrev pub MeansOfType : Type 0
MeansOfType = (k : Kind) (d : Data) (v : Value) → meant k d ≡ Some v → IsTrue (is_of v k)
