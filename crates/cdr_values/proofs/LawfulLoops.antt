-- Names and labels that differ, as loops test it.
use Rattle.std.proofs.Common.{◌≡◌, ℕ, ℤ, suc, ◌+◌, ◌<◌, Bool, true, false, not, ◌&&◌, ◌||◌, cond, leb, List, [], ◌∷◌, ◌++◌, map, length, refl, sym, ap, ◌∙◌, arith}
use Rattle.std.specs.Prelude.{count_by}
use Rattle.std.specs.List.{list_any}
use Rattle.std.specs.Ordering.{int_eq}
use Rattle.std.specs.Str.{bytes_eq}
use Rattle.std.proofs.lemmas.List.Folds.{list_any-append}
use Rattle.std.proofs.lemmas.List.Sums.{sum_by-cons}
use Rattle.cdr_values.specs.declared.kind.Case.{Case}
use Rattle.cdr_values.specs.declared.kind.Member.{Member}
use Rattle.cdr_values.specs.declared.kind.IdlType.TheFolds.{fold_out-Member}
use Rattle.cdr_values.specs.Choice.{has_label, branches}
use Rattle.cdr_values.specs.Kinds.{kind_step, case_step, member_step, member_of, case_of, members_view, cases_view}
use Rattle.cdr_values.specs.Lawful.{differ, are_new, member_names, all_labels, has_one_default, has_member}
use Rattle.cdr_values.specs.Trees.{Kind, Branch, members_of, cases_of}
use Rattle.cdr_values.proofs.Choosing.{branches_back, labels_of, default_of}

-- ---- a test of all that are left, and of all

-- one that is after is the same
stopped : (here total found more : Bool) → here ≡ (not found && more) → found ≡ true → here ≡ total → false ≡ total
stopped here total found more is there so_far = let none : here ≡ false = is ∙ rw there refl in sym none ∙ so_far

-- none is
stepped : (here total found more : Bool) → here ≡ (not found && more) → found ≡ false → here ≡ total → more ≡ total
stepped here total found more is gone so_far = let rest : here ≡ more = is ∙ rw gone refl in sym rest ∙ so_far

-- ---- texts

pub text_stop : (text : List ℕ) (rest behind : List (List ℕ)) (found total : Bool) → rest ≡ text ∷ behind → found ≡ list_any (λ (y : List ℕ). bytes_eq y text) behind → found ≡ true
    → differ bytes_eq rest ≡ total → false ≡ total
text_stop text rest behind found total is told there so_far =
    stopped (differ bytes_eq rest) total found (differ bytes_eq behind) (rw (is, ← told) refl) there so_far

pub text_step : (text : List ℕ) (rest behind : List (List ℕ)) (found total : Bool) → rest ≡ text ∷ behind → found ≡ list_any (λ (y : List ℕ). bytes_eq y text) behind → found ≡ false
    → differ bytes_eq rest ≡ total → differ bytes_eq behind ≡ total
text_step text rest behind found total is told gone so_far =
    stepped (differ bytes_eq rest) total found (differ bytes_eq behind) (rw (is, ← told) refl) gone so_far

pub text_done : (rest : List (List ℕ)) (total : Bool) → length rest < 1 → differ bytes_eq rest ≡ total → true ≡ total
text_done [] total few so_far = so_far
text_done (x ∷ xs) total few so_far = absurd (omega arith)

-- ---- names of members

abbrev pub names_of : List Member → List (List ℕ)
names_of ms = member_names (members_of (members_view ms))

member_name : (m : Member) → (member_of m).0 ≡ m.name
member_name m = ap (λ (x : List ℕ × Kind). x.0) (fold_out-Member Kind Branch (List ℕ × Kind) kind_step case_step member_step m)

names_any : (name : List ℕ) (ms : List Member) → list_any (λ (y : List ℕ). bytes_eq y name) (names_of ms) ≡ list_any (λ (m : Member). bytes_eq m.name name) ms
names_any name [] = refl
names_any name (m ∷ ms) = rw (member_name m, names_any name ms) refl

pub any_name : (name : List ℕ) (ms : List Member) (r : Bool) → r ≡ list_any (λ (m : Member). bytes_eq m.name name) ms → r ≡ list_any (λ (y : List ℕ). bytes_eq y name) (names_of ms)
any_name name ms r e = e ∙ sym (names_any name ms)

names_front : (m : Member) (rest behind : List Member) (found : Bool) → rest ≡ m ∷ behind → found ≡ list_any (λ (y : List ℕ). bytes_eq y m.name) (names_of behind)
    → differ bytes_eq (names_of rest) ≡ (not found && differ bytes_eq (names_of behind))
names_front m rest behind found is told = rw (is, member_name m, told) refl

pub name_stop : (m : Member) (rest behind : List Member) (found total : Bool) → rest ≡ m ∷ behind → found ≡ list_any (λ (y : List ℕ). bytes_eq y m.name) (names_of behind) → found ≡ true
    → differ bytes_eq (names_of rest) ≡ total → false ≡ total
name_stop m rest behind found total is told there so_far =
    stopped (differ bytes_eq (names_of rest)) total found (differ bytes_eq (names_of behind)) (names_front m rest behind found is told) there so_far

pub name_step : (m : Member) (rest behind : List Member) (found total : Bool) → rest ≡ m ∷ behind → found ≡ list_any (λ (y : List ℕ). bytes_eq y m.name) (names_of behind) → found ≡ false
    → differ bytes_eq (names_of rest) ≡ total → differ bytes_eq (names_of behind) ≡ total
name_step m rest behind found total is told gone so_far =
    stepped (differ bytes_eq (names_of rest)) total found (differ bytes_eq (names_of behind)) (names_front m rest behind found is told) gone so_far

pub name_done : (rest : List Member) (total : Bool) → length rest < 1 → differ bytes_eq (names_of rest) ≡ total → true ≡ total
name_done [] total few so_far = so_far
name_done (x ∷ xs) total few so_far = absurd (omega arith)

pub none_there : (ms : List Member) → length ms ≡ 0 → has_member (members_of (members_view ms)) ≡ false
none_there [] e = refl
none_there (m ∷ ms) e = absurd (omega arith)

pub some_there : (ms : List Member) → (length ms ≡ 0 → ⊥) → has_member (members_of (members_view ms)) ≡ true
some_there [] e = absurd (e refl)
some_there (m ∷ ms) e = refl

-- ---- labels

pub in_either : (z : ℤ) (xs ys : List ℤ) (a b : Bool) → a ≡ has_label z xs → b ≡ has_label z ys → (a || b) ≡ has_label z (xs ++ ys)
in_either z xs ys a b e d = rw (e, d) (sym (list_any-append (λ (l : ℤ). int_eq l z) xs ys))

abbrev pub labels_in : List Case → List ℤ
labels_in cs = all_labels (cases_of (cases_view cs))

labels_any : (z : ℤ) (cs : List Case) → has_label z (labels_in cs) ≡ list_any (λ (c : Case). has_label z c.labels.items) cs
labels_any z [] = refl
labels_any z (c ∷ cs) =
    list_any-append (λ (l : ℤ). int_eq l z) (case_of c).0 (labels_in cs) ∙ rw (labels_of c, labels_any z cs) refl

-- a label that was passed on is the same label
pub any_label : (z y : ℤ) (cs : List Case) (r : Bool) → y ≡ z → r ≡ list_any (λ (c : Case). has_label y c.labels.items) cs → r ≡ has_label z (labels_in cs)
any_label z y cs r same e = e ∙ sym (labels_any y cs) ∙ ap (λ (q : ℤ). has_label q (labels_in cs)) same

and_assoc : (a b c : Bool) → (a && (b && c)) ≡ ((a && b) && c)
and_assoc true b c = refl
and_assoc false b c = refl

differ_joined : (xs ys : List ℤ) → differ int_eq (xs ++ ys) ≡ (are_new xs ys && differ int_eq ys)
differ_joined [] ys = refl
differ_joined (x ∷ xs) ys =
    ap (λ (b : Bool). not (list_any (λ (y : ℤ). int_eq y x) (xs ++ ys)) && b) (differ_joined xs ys)
    ∙ and_assoc (not (list_any (λ (y : ℤ). int_eq y x) (xs ++ ys))) (are_new xs ys) (differ int_eq ys)

not_not : (b : Bool) → not (not b) ≡ b
not_not true = refl
not_not false = refl

branch_front : (c : Case) (ls : List ℤ) (rest behind : List Case) (new : Bool) → ls ≡ c.labels.items → rest ≡ c ∷ behind → new ≡ are_new ls (labels_in behind)
    → differ int_eq (labels_in rest) ≡ (not (not new) && differ int_eq (labels_in behind))
branch_front c ls rest behind new same is told =
    rw (is, labels_of c, not_not new, told, same) (differ_joined c.labels.items (labels_in behind))

pub branch_stop : (c : Case) (ls : List ℤ) (rest behind : List Case) (new total : Bool) → ls ≡ c.labels.items → rest ≡ c ∷ behind → new ≡ are_new ls (labels_in behind) → new ≡ false
    → differ int_eq (labels_in rest) ≡ total → false ≡ total
branch_stop c ls rest behind new total same is told gone so_far =
    stopped (differ int_eq (labels_in rest)) total (not new) (differ int_eq (labels_in behind)) (branch_front c ls rest behind new same is told) (ap not gone) so_far

pub branch_step : (c : Case) (ls : List ℤ) (rest behind : List Case) (new total : Bool) → ls ≡ c.labels.items → rest ≡ c ∷ behind → new ≡ are_new ls (labels_in behind) → new ≡ true
    → differ int_eq (labels_in rest) ≡ total → differ int_eq (labels_in behind) ≡ total
branch_step c ls rest behind new total same is told there so_far =
    stepped (differ int_eq (labels_in rest)) total (not new) (differ int_eq (labels_in behind)) (branch_front c ls rest behind new same is told) (ap not there) so_far

pub branch_done : (rest : List Case) (total : Bool) → length rest < 1 → differ int_eq (labels_in rest) ≡ total → true ≡ total
branch_done [] total few so_far = so_far
branch_done (x ∷ xs) total few so_far = absurd (omega arith)

pub label_stop : (z : ℤ) (rest others behind : List ℤ) (found total : Bool) → rest ≡ z ∷ others → found ≡ has_label z (others ++ behind) → found ≡ true
    → are_new rest behind ≡ total → false ≡ total
label_stop z rest others behind found total is told there so_far =
    stopped (are_new rest behind) total found (are_new others behind) (rw (is, told) refl) there so_far

pub label_step : (z : ℤ) (rest others behind : List ℤ) (found total : Bool) → rest ≡ z ∷ others → found ≡ has_label z (others ++ behind) → found ≡ false
    → are_new rest behind ≡ total → are_new others behind ≡ total
label_step z rest others behind found total is told gone so_far =
    stepped (are_new rest behind) total found (are_new others behind) (rw (is, told) refl) gone so_far

pub label_done : (rest behind : List ℤ) (total : Bool) → length rest < 1 → are_new rest behind ≡ total → true ≡ total
label_done [] behind total few so_far = so_far
label_done (x ∷ xs) behind total few so_far = absurd (omega arith)

-- ---- defaults

count_branches : (cs : List Case) → count_by (λ (b : Branch). b.1) (cases_view cs) ≡ count_by (λ (c : Case). c.is_default) cs
count_branches [] = refl
count_branches (c ∷ cs) =
    sum_by-cons (λ (b : Branch). cond b.1 1 0) (case_of c) (cases_view cs)
    ∙ ap (λ (n : ℕ). cond (case_of c).1 1 0 + n) (count_branches cs)
    ∙ ap (λ (b : Bool). cond b 1 0 + count_by (λ (x : Case). x.is_default) cs) (default_of c)
    ∙ sym (sum_by-cons (λ (x : Case). cond x.is_default 1 0) c cs)

pub one_default : (n : ℕ) (cs : List Case) → n ≡ count_by (λ (c : Case). c.is_default) cs → leb n 1 ≡ has_one_default (cases_of (cases_view cs))
one_default n cs e = rw (branches_back (cases_view cs), count_branches cs, e) refl
