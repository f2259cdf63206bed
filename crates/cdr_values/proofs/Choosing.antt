-- The case of a union that a number chooses, in the tree of its type.
use Rattle.std.proofs.Common.{◌≡◌, ℕ, ℤ, suc, ◌+◌, Bool, true, false, not, cond, ltb, List, [], ◌∷◌, map, length, Option, Some, None, refl, sym, ap, ◌∙◌}
use Rattle.std.specs.Option.{option_or}
use Rattle.std.specs.List.{position}
use Rattle.orb_base.proofs.Places.{position_map}
use Rattle.cdr_values.specs.declared.kind.Case.{Case}
use Rattle.cdr_values.specs.declared.kind.IdlType.TheFolds.{fold_out-Case}
use Rattle.cdr_values.specs.Trees.{Kind, Branch, cases_of}
use Rattle.cdr_values.specs.Kinds.{kind_step, case_step, member_step, case_of, cases_view}
use Rattle.cdr_values.specs.Choice.{has_label, branches, choose}

pub branches_back : (bs : List Branch) → branches (cases_of bs) ≡ bs
branches_back [] = refl
branches_back (b ∷ bs) = ap (λ (cs : List Branch). b ∷ cs) (branches_back bs)

pub labels_of : (c : Case) → (case_of c).0 ≡ c.labels.items
labels_of c = ap (λ (x : Branch). x.0) (fold_out-Case Kind Branch (List ℕ × Kind) kind_step case_step member_step c)

pub default_of : (c : Case) → (case_of c).1 ≡ c.is_default
default_of c = ap (λ (x : Branch). x.1) (fold_out-Case Kind Branch (List ℕ × Kind) kind_step case_step member_step c)

at_labels : (z : ℤ) (cs : List Case) → position (λ (b : Branch). has_label z b.0) (branches (cases_of (cases_view cs))) ≡ position (λ (c : Case). has_label z c.labels.items) cs
at_labels z cs = rw (branches_back (cases_view cs)) (position_map (λ (b : Branch). has_label z b.0) (λ (c : Case). has_label z c.labels.items) case_of (λ c. ap (has_label z) (labels_of c)) cs)

at_default : (cs : List Case) → position (λ (b : Branch). b.1) (branches (cases_of (cases_view cs))) ≡ position (λ (c : Case). c.is_default) cs
at_default cs = rw (branches_back (cases_view cs)) (position_map (λ (b : Branch). b.1) (λ (c : Case). c.is_default) case_of default_of cs)

pub chooses : (z : ℤ) (cs : List Case) (a b : Option ℕ) → a ≡ position (λ (c : Case). has_label z c.labels.items) cs → b ≡ position (λ (c : Case). c.is_default) cs
    → option_or a b ≡ choose z (cases_of (cases_view cs))
chooses z cs a b e d = rw (at_labels z cs, at_default cs, ← e, ← d) refl
