-- Values and members side by side: how the loop that tests them ends.
use Rattle.std.proofs.Common.{◌≡◌, ℕ, suc, Bool, true, false, List, [], ◌∷◌, map, length, eqb, refl, sym, ◌∙◌, arith, is_some}
use Rattle.cdr_values.specs.declared.kind.Member.{Member}
use Rattle.cdr_values.specs.declared.value.IdlValue.{IdlValue}
use Rattle.cdr_values.specs.Trees.{values_of, members_of}
use Rattle.cdr_values.specs.Kinds.{members_view}
use Rattle.cdr_values.specs.Values.{values_view}
use Rattle.cdr_values.specs.Spelling.{fields_members}

abbrev pub Struct : List IdlValue → List Member → Bool
Struct vs ms = is_some (fields_members (values_of (values_view vs)) (members_of (members_view ms)))

members_all : (vs : List IdlValue) (ms : List Member) (total : Bool) → vs ≡ [] → ms ≡ [] → Struct vs ms ≡ total → true ≡ total
members_all vs ms total is it h = let here : Struct vs ms ≡ true = rw (is, it) refl in sym here ∙ h

members_many : (vs behind : List IdlValue) (v : IdlValue) (ms : List Member) (total : Bool) → vs ≡ v ∷ behind → ms ≡ [] → Struct vs ms ≡ total → false ≡ total
members_many vs behind v ms total is it h = let here : Struct vs ms ≡ false = rw (is, it) refl in sym here ∙ h

not_zero : (n : ℕ) → eqb (suc n) 0 ≡ false
not_zero n = grind arith

pub members_end : (vs : List IdlValue) (ms : List Member) (total : Bool) → ms ≡ [] → Struct vs ms ≡ total → eqb (length vs) 0 ≡ total
members_end [] ms total it h = members_all [] ms total refl it h
members_end (v ∷ vs) ms total it h = not_zero (length vs) ∙ members_many (v ∷ vs) vs v ms total refl it h
