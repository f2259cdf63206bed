-- Which member of a union a number chooses: CORBA 3.0.3, section 3.11.2.2.
use Rattle.std.specs.Prelude.{ℕ, ℤ, zero, suc, Bool, List, [], ◌∷◌, Option, Some, None, position}
use Rattle.std.specs.Option.{option_or}
use Rattle.std.specs.List.{list_any}
use Rattle.std.specs.Ordering.{int_eq}
use Rattle.cdr_values.specs.Trees.{Kind, Cases, no_cases, case, Branch}

-- whether a number is among the labels
abbrev pub has_label : ℤ → List ℤ → Bool
has_label z labels = list_any (λ l. int_eq l z) labels

-- the cases in order
abbrev pub branches : Cases → List Branch
branches no_cases = []
branches (case labels is_default name k cs) = (labels, is_default, name, k) ∷ branches cs

-- the index of the first case with the number among its labels, or else of the first default; None where there is none
abbrev pub choose : ℤ → Cases → Option ℕ
choose z cs = option_or (position (λ c. has_label z c.0) (branches cs)) (position (λ c. c.1) (branches cs))

-- the type of the member of the case at an index
abbrev pub nth_kind : ℕ → Cases → Option Kind
nth_kind i no_cases = None
nth_kind zero (case labels is_default name k cs) = Some k
nth_kind (suc i) (case labels is_default name k cs) = nth_kind i cs

-- the type of the chosen member, where one is chosen
abbrev pub kind_at : Option ℕ → Cases → Option Kind
kind_at (Some i) cs = nth_kind i cs
kind_at None cs = None
