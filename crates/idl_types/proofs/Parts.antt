-- Members of structs and exceptions, by their index.
use Rattle.std.proofs.Common.{◌≡◌, ◌∙◌, ℕ, suc, zero, Bool, ◌||◌, List, [], ◌∷◌, Some, refl, ap}
use Rattle.std.specs.Prelude.{map, slice_get}
use Rattle.std.specs.Option.{option_map}
use Rattle.cdr_values.specs.declared.kind.Member.{Member}
use Rattle.cdr_values.specs.declared.kind.Case.{Case}
use Rattle.cdr_values.specs.declared.kind.IdlType.TheFolds.{fold_out-Member, fold_out-Case}
use Rattle.cdr_values.specs.Trees.{Kind, Branch, members_of, cases_of}
use Rattle.cdr_values.specs.Kinds.{kind_step, case_step, member_step, kind_of, member_of, case_of, members_view, cases_view}
use Rattle.std.specs.List.{list_any}
use Rattle.idl_types.specs.declared.param.Param.{Param}
use Rattle.idl_types.specs.Views.{param_of}
use Rattle.cdr_values.specs.Lawful.{member_names}
use Rattle.idl_types.specs.Apart.{case_names}
use Rattle.idl_types.specs.References.{member_kind}

kind_in : (m : Member) → (member_of m).1 ≡ kind_of m.kind
kind_in m = ap (λ (x : List ℕ × Kind). x.1) (fold_out-Member Kind Branch (List ℕ × Kind) kind_step case_step member_step m)

-- by its index in the list of members
pub member_by_index : (ms : List Member) (i : ℕ) → option_map (λ m. m.1) (slice_get (members_view ms) i) ≡ option_map (λ (m : Member). kind_of m.kind) (slice_get ms i)
member_by_index [] i = refl
member_by_index (m ∷ ms) zero = ap Some (kind_in m)
member_by_index (m ∷ ms) (suc i) = member_by_index ms i

-- by its index among the members of a type
pub member_by_place : (ms : List (List ℕ × Kind)) (i : ℕ) → member_kind i (members_of ms) ≡ option_map (λ m. m.1) (slice_get ms i)
member_by_place [] i = refl
member_by_place (m ∷ ms) zero = refl
member_by_place (m ∷ ms) (suc i) = member_by_place ms i

name_in : (m : Member) → (member_of m).0 ≡ m.name
name_in m = ap (λ (x : List ℕ × Kind). x.0) (fold_out-Member Kind Branch (List ℕ × Kind) kind_step case_step member_step m)

-- a test of the names of members
pub any_member : (p : List ℕ → Bool) (ms : List Member) → list_any p (member_names (members_of (members_view ms))) ≡ list_any (λ (m : Member). p m.name) ms
any_member p [] = refl
any_member p (m ∷ ms) = rw (name_in m, any_member p ms) refl

name_in_case : (c : Case) → (case_of c).2 ≡ c.member.name
name_in_case c = ap (λ (x : Branch). x.2) (fold_out-Case Kind Branch (List ℕ × Kind) kind_step case_step member_step c) ∙ name_in c.member

-- a test of the names of the members of cases
pub any_case : (p : List ℕ → Bool) (cs : List Case) → list_any p (case_names (cases_of (cases_view cs))) ≡ list_any (λ (c : Case). p c.member.name) cs
any_case p [] = refl
any_case p (c ∷ cs) = rw (name_in_case c, any_case p cs) refl

-- a test of the names of parameters
pub any_param : (p : List ℕ → Bool) (ps : List Param) → list_any p (map (λ x. x.name) (map param_of ps)) ≡ list_any (λ (x : Param). p x.name) ps
any_param p [] = refl
any_param p (x ∷ xs) = ap (λ (b : Bool). p x.name || b) (any_param p xs)
