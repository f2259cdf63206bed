-- Which values are of a type: CORBA 3.0.3, section 15.3.
use Rattle.std.specs.Prelude.{ℕ, Bool, IsTrue, is_some, List, ◌↔◌}
use Rattle.orb_base.specs.declared.order.Order.{Order}
use Rattle.cdr_values.specs.Trees.{Kind, Value}
use Rattle.cdr_values.specs.Spelling.{fields_of, Cdr}

-- whether a value is one of a type
abbrev pub is_of : Value → Kind → Bool
is_of v k = is_some (fields_of v k)

-- some bytes spell the value from a place on
abbrev pub HasSpelling : Order → ℕ → Kind → Value → Type 0
HasSpelling order place k v = (bytes : List ℕ) × Cdr order place k v bytes

-- the answer is true exactly where some bytes spell the value, in each order and from each place on
abbrev pub FitsWhereSpelled : Bool → Kind → Value → Type 0
FitsWhereSpelled answer k v = (order : Order) (place : ℕ) → IsTrue answer ↔ HasSpelling order place k v
