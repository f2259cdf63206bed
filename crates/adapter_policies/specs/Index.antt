-- The numbers of objects by their keys.
use Rattle.std.specs.Prelude.{◌≡◌, ℕ, List, Vec, Option, Some, if◌then◌else◌}
use Rattle.std.specs.declared.alloc.Global.{Global}
use Rattle.std.specs.List.{position_from}
use Rattle.std.specs.declared.hash.BuildHasherDefault.{BuildHasherDefault}
use Rattle.std.specs.declared.hash.FoldHasher.{FoldHasher}
use Rattle.std.specs.HashMap.{HashMap, get_by}
use Rattle.config_tables.specs.Keys.{same_text}
use Rattle.adapter_policies.specs.declared.object_spec.ObjectSpec.{ObjectSpec}

-- a map from keys to numbers
abbrev pub Numbers : Type 0
Numbers = HashMap (Vec ℕ Global) ℕ (BuildHasherDefault FoldHasher)

-- the number that a map has for a key
abbrev pub number_in : Numbers → List ℕ → Option ℕ
number_in numbers key = get_by (λ k. same_text key k.items) numbers

-- the number of the first object with a key, where objects are counted from a number on
abbrev pub number_from : ℕ → List ObjectSpec → List ℕ → Option ℕ
number_from n objects key = position_from (λ o. same_text o.key key) n objects

-- a map has a number for a key, and for every other key what it had
unfoldable pub Keeps : List ℕ → ℕ → Numbers → Numbers → Type 0
Keeps bytes n old new = (key : List ℕ) → number_in new key ≡ (if same_text bytes key then Some n else number_in old key)

-- a map has the number of each object by its key, where objects are counted from a number on
unfoldable pub IsIndexed : Numbers → ℕ → List ObjectSpec → Type 0
IsIndexed numbers n objects = (key : List ℕ) → number_in numbers key ≡ number_from n objects key
