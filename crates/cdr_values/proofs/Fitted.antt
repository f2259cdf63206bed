-- A value is one of a type exactly where some bytes spell it.
use Rattle.std.proofs.Common.{◌≡◌, ℕ, Bool, List, Option, Some, None, refl, sym, subst, is_some}
use Rattle.std.specs.Prelude.{IsTrue, ◌↔◌}
use Rattle.orb_base.specs.declared.order.Order.{Order}
use Rattle.cdr_core.specs.Field.{Field}
use Rattle.cdr_core.specs.Spelling.{IsSpelled, fields_bytes}
use Rattle.cdr_core.proofs.CallerLemmas.{spelled_zeros}
use Rattle.cdr_values.specs.Trees.{Kind, Value}
use Rattle.cdr_values.specs.Spelling.{fields_of}
use Rattle.cdr_values.specs.Fitting.{FitsWhereSpelled}

-- some bytes spell the fields that are asked for
abbrev Spelled : Order → ℕ → Option (List Field) → Type 0
Spelled order place o = (bytes : List ℕ) × ((fields : List Field) × (o ≡ Some fields) × IsSpelled order place fields bytes)

no_fields : (order : Order) (place : ℕ) → Spelled order place None → ⊥
no_fields order place h = let e = h.1.1 in cc

some_spelled : (order : Order) (place : ℕ) (o : Option (List Field)) → IsTrue (is_some o) ↔ Spelled order place o
some_spelled order place (Some fs) = (λ h. (fields_bytes order place fs, (fs, refl, spelled_zeros order place fs)), λ h. refl)
some_spelled order place None = (λ h. absurd cc, λ h. absurd (no_fields order place h))

pub fits_where_spelled : (b : Bool) (k : Kind) (v : Value) → b ≡ is_some (fields_of v k) → FitsWhereSpelled b k v
fits_where_spelled b k v e = λ order place.
    subst (λ (x : Bool). IsTrue x ↔ Spelled order place (fields_of v k)) (sym e) (some_spelled order place (fields_of v k))
