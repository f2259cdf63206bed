-- What comes of an evaluation in which nothing stands for what isn't there.
use Rattle.std.specs.Prelude.{ℕ, length, nat_lt, List, [], ◌∷◌, Option, Some, None, Ok, Err, slice_get, slice_set, if◌then◌else◌}
use Rattle.std.specs.Option.{option_map, option_and_then}
use Rattle.cdr_values.specs.Trees.{Value}
use Rattle.script_values.specs.Operations.{Comes}

-- a result, or a limit that is met; and none of both where a value is of another kind than its place asks for, or a variable, a
-- member, an item or a type isn't there
abbrev pub Defined : Type 0 → Type 0
Defined A = Option (Comes A)

infixl 10 ◌and_then◌
-- the second is asked of what the first gave
abbrev pub ◌and_then◌ : {A B : Type 0} → Defined A → (A → Defined B) → Defined B
None and_then f = None
(Some (Err l)) and_then f = Some (Err l)
(Some (Ok x)) and_then f = f x

-- what is there
abbrev pub there : {A : Type 0} → Option A → Defined A
there o = option_map Ok o

-- ---- places, in each of which a value was put, or none yet

-- what was put in the place at an index
abbrev pub got : List (Option Value) → ℕ → Option Value
got os n = option_and_then (λ o. o) (slice_get os n)

-- a value in the place at an index, where there is that place
abbrev pub put : List (Option Value) → ℕ → Value → Option (List (Option Value))
put os n v = if nat_lt n (length os) then Some (slice_set os n (Some v)) else None

-- all values, where one was put in each place
abbrev pub all_put : List (Option Value) → Option (List Value)
all_put [] = Some []
all_put (None ∷ os) = None
all_put (Some v ∷ os) = option_map (λ vs. v ∷ vs) (all_put os)
