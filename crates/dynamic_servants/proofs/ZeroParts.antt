-- The members and cases of types, and their zeros.
use Rattle.std.proofs.Common.{◌≡◌, ℕ, zero, suc, pos, ◌-◌, ◌<◌, List, [], ◌∷◌, ◌++◌, Option, Some, None, refl, sym, ◌∙◌, append_assoc, arith}
use Rattle.std.specs.Prelude.{position}
use Rattle.std.proofs.lemmas.List.{append-nil}
use Rattle.cdr_values.specs.declared.kind.Case.{Case}
use Rattle.cdr_values.specs.declared.kind.Member.{Member}
use Rattle.cdr_values.specs.Choice.{choose, has_label}
use Rattle.cdr_values.specs.Kinds.{kind_of, members_view, cases_view}
use Rattle.cdr_values.specs.Trees.{Value, Values, no_values, value, members_of, cases_of}
use Rattle.cdr_values.proofs.Choosing.{chooses}
use Rattle.cdr_values.proofs.Members.{kind_in}
use Rattle.cdr_values.proofs.Loops.{member_kind}
use Rattle.dynamic_servants.specs.Zeros.{zero_of, zeros_of, zero_case}

-- the case that the number 0 chooses
pub chosen_by_label : (cs : List Case) (i : ℕ) → position (λ (c : Case). has_label (pos 0) c.labels.items) cs ≡ Some i → choose (pos 0) (cases_of (cases_view cs)) ≡ Some i
chosen_by_label cs i e = sym (chooses (pos 0) cs (Some i) (position (λ (c : Case). c.is_default) cs) (sym e) refl)

pub chosen_by_default : (cs : List Case) (o : Option ℕ) → position (λ (c : Case). has_label (pos 0) c.labels.items) cs ≡ None → o ≡ position (λ (c : Case). c.is_default) cs
    → o ≡ choose (pos 0) (cases_of (cases_view cs))
chosen_by_default cs o e d = chooses (pos 0) cs None o (sym e) d

-- ---- members, one after the other

pub members_on : (front : List Value) (ms : List Member) (m : Member) (more : List Member) (v : Value) (all : List Value) → ms ≡ m ∷ more → v ≡ zero_of (kind_of m.kind)
    → front ++ zeros_of (members_of (members_view ms)) ≡ all → (front ++ v ∷ []) ++ zeros_of (members_of (members_view more)) ≡ all
unfolding zeros_of
members_on front ms m more v all is e so_far =
    let here : front ++ zeros_of (members_of (members_view ms)) ≡ (front ++ v ∷ []) ++ zeros_of (members_of (members_view more)) =
    rw (is, member_kind m, e) (sym (append_assoc front (zero_of (kind_of m.kind) ∷ []) (zeros_of (members_of (members_view more))))) in
    sym here ∙ so_far

pub members_done : (front : List Value) (ms : List Member) (all : List Value) → ms ≡ [] → front ++ zeros_of (members_of (members_view ms)) ≡ all → front ≡ all
unfolding zeros_of
members_done front ms all none so_far = sym (append-nil front) ∙ (let here : front ++ [] ≡ front ++ zeros_of (members_of (members_view ms)) = rw none refl in here) ∙ so_far

-- ---- the case at an index

pub case_on : (cs more : List Case) (x : Case) (i : ℕ) (all : Values) → cs ≡ x ∷ more → 0 < i
    → zero_case (cases_of (cases_view cs)) (Some i) ≡ all → zero_case (cases_of (cases_view more)) (Some (i - 1)) ≡ all
unfolding zero_case
case_on cs more x zero all is some h = absurd (omega arith)
case_on cs more x (suc i) all is some h =
    let same : suc i - 1 ≡ i = omega arith in
    let here : zero_case (cases_of (cases_view cs)) (Some (suc i)) ≡ zero_case (cases_of (cases_view more)) (Some i) = rw is refl in
    rw same (sym here ∙ h)

pub case_found : (cs more : List Case) (x : Case) (i : ℕ) (v : Value) (all : Values) → cs ≡ x ∷ more → i ≡ 0 → v ≡ zero_of (kind_of x.member.kind)
    → zero_case (cases_of (cases_view cs)) (Some i) ≡ all → value v no_values ≡ all
unfolding zero_case
case_found cs more x i v all is none e h =
    let first : zero_case (cases_of (cases_view cs)) (Some i) ≡ value v no_values = rw (none, is, kind_in x, e) refl in
    sym first ∙ h

pub case_none : (cs : List Case) (i : ℕ) (all : Values) → cs ≡ [] → zero_case (cases_of (cases_view cs)) (Some i) ≡ all → no_values ≡ all
unfolding zero_case
case_none cs i all none h =
    let last : zero_case (cases_of (cases_view cs)) (Some i) ≡ no_values = rw none refl in
    sym last ∙ h
