-- Which interfaces an interface is one of, as a test: CORBA 3.0.3, chapter 4, object reference operations.
use Rattle.std.specs.Prelude.{ℕ, zero, suc, ◌&&◌, ◌||◌, Bool, List, length}
use Rattle.std.specs.List.{list_any}
use Rattle.std.specs.Str.{bytes_eq}
use Rattle.cdr_values.specs.Trees.{Name}
use Rattle.idl_types.specs.Things.{Thing}
use Rattle.idl_types.specs.Finding.{object_id, is_interface, bases_named}

-- whether at most so many bases, each named by the one before, lead from the one interface to the other
abbrev pub leads_within : ℕ → List Thing → Name → Name → Bool
leads_within zero ts id other = bytes_eq id other
leads_within (suc n) ts id other = bytes_eq id other || list_any (λ next. leads_within n ts next other) (bases_named ts id)

-- whether the interface of an id is one of the other's: it is an object, itself, and what its bases are. Bases lead no further
-- than there are things
abbrev pub is_one_of : List Thing → Name → Name → Bool
is_one_of ts id other = is_interface ts id && (bytes_eq other object_id || leads_within (length ts) ts id other)
