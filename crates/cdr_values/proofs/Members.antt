-- The member of a union.
use Rattle.std.proofs.Common.{◌≡◌, ℕ, ℤ, pos, zero, suc, ◌-◌, Bool, true, false, eqb, ◌+◌, ◌<◌, List, [], ◌∷◌, map, length, Option, Some, None, Ok, Err, refl, sym, ap, ◌∙◌, arith}
use Rattle.std.specs.Prelude.{nat_abs}
use Rattle.std.specs.Int.{from_bool}
use Rattle.cdr_core.specs.Cursor.{Cursor, Reads}
use Rattle.cdr_values.specs.declared.fault.DecodeFault.{DecodeFault}
use Rattle.cdr_values.specs.declared.fault.DecodeFault.TheVariants.{Cdr, NoMemory}
use Rattle.cdr_values.specs.declared.kind.Case.{Case}
use Rattle.cdr_values.specs.declared.kind.Member.{Member}
use Rattle.cdr_values.specs.declared.kind.IdlType.TheFolds.{fold_out-Case, fold_out-Member}
use Rattle.cdr_values.specs.Trees.{Kind, scalar, enumeration, label, Branch, Cases, union, Value, Values, chosen, no_values, value, cases_of}
use Rattle.cdr_values.specs.Kinds.{kind_step, case_step, member_step, kind_of, case_of, member_of, cases_view}
use Rattle.cdr_values.specs.Choice.{choose}
use Rattle.cdr_values.specs.Reading.{label_at, scalar_at, tag_at, read, read_chosen, as_read}
use Rattle.cdr_values.specs.Gives.{Refuses}

as_again : (r : Reads ℕ) → as_read label r ≡ as_read (λ z. label (nat_abs z)) (as_read pos r)
as_again (Ok x) = refl
as_again (Err f) = refl

-- a boolean is told by its number
pub bit_back : (b : Bool) → eqb (from_bool b) 1 ≡ b
bit_back true = refl
bit_back false = refl

-- the enumerators of a type
pub labels_read : (name : List ℕ) (labels : List (List ℕ)) (c : Cursor) → as_read label (label_at (length labels) c) ≡ read (scalar (enumeration name labels)) c
unfolding read scalar_at
labels_read name labels c = as_again (label_at (length labels) c)

pub kind_in : (c : Case) → (case_of c).3 ≡ kind_of c.member.kind
kind_in c =
    ap (λ (x : Branch). x.3) (fold_out-Case Kind Branch (List ℕ × Kind) kind_step case_step member_step c)
    ∙ ap (λ (x : List ℕ × Kind). x.1) (fold_out-Member Kind Branch (List ℕ × Kind) kind_step case_step member_step c.member)

-- ---- the case at an index, as the loop finds it

pub case_on : (cs more : List Case) (x : Case) (i : ℕ) (c : Cursor) (total : Reads Values) → cs ≡ x ∷ more → 0 < i
    → read_chosen (cases_of (cases_view cs)) (Some i) c ≡ total → read_chosen (cases_of (cases_view more)) (Some (i - 1)) c ≡ total
unfolding read_chosen
case_on cs more x zero c total is some h = absurd (omega arith)
case_on cs more x (suc i) c total is some h =
    let same : suc i - 1 ≡ i = omega arith in
    let here : read_chosen (cases_of (cases_view cs)) (Some (suc i)) c ≡ read_chosen (cases_of (cases_view more)) (Some i) c = rw is refl in
    rw same (sym here ∙ h)

here_is : (cs more : List Case) (x : Case) (c : Cursor) → cs ≡ x ∷ more
    → read_chosen (cases_of (cases_view cs)) (Some 0) c ≡ as_read (λ v. value v no_values) (read (kind_of x.member.kind) c)
unfolding read_chosen
here_is cs more x c is = rw (is, kind_in x) refl

pub case_found : (cs more : List Case) (x : Case) (i : ℕ) (c d : Cursor) (v : Value) (total : Reads Values) → cs ≡ x ∷ more → i ≡ 0
    → read (kind_of x.member.kind) c ≡ Ok (v, d) → read_chosen (cases_of (cases_view cs)) (Some i) c ≡ total → total ≡ Ok (value v no_values, d)
case_found cs more x i c d v total is none r h =
    let first : read_chosen (cases_of (cases_view cs)) (Some i) c ≡ Ok (value v no_values, d) = rw (none, here_is cs more x c is, r) refl in
    sym h ∙ first

pub case_fails : (e : DecodeFault) (cs more : List Case) (x : Case) (i : ℕ) (c : Cursor) (total : Reads Values) → cs ≡ x ∷ more → i ≡ 0
    → Refuses e (read (kind_of x.member.kind) c) → read_chosen (cases_of (cases_view cs)) (Some i) c ≡ total → Refuses e total
case_fails NoMemory cs more x i c total is none r h = tt
case_fails (Cdr f) cs more x i c total is none r h =
    let first : read_chosen (cases_of (cases_view cs)) (Some i) c ≡ Err f = rw (none, here_is cs more x c is, r) refl in
    sym h ∙ first

pub case_none : (cs : List Case) (i : ℕ) (c : Cursor) (total : Reads Values) → cs ≡ [] → read_chosen (cases_of (cases_view cs)) (Some i) c ≡ total → total ≡ Ok (no_values, c)
unfolding read_chosen
case_none cs i c total none h =
    let last : read_chosen (cases_of (cases_view cs)) (Some i) c ≡ Ok (no_values, c) = rw none refl in
    sym h ∙ last

-- ---- the union

pub tag_fails : (name : List ℕ) (d : Kind) (cs : Cases) (c : Cursor) (e : DecodeFault) → Refuses e (tag_at d c) → Refuses e (read (union name d cs) c)
unfolding read
tag_fails name d cs c NoMemory h = tt
tag_fails name d cs c (Cdr f) h = rw h refl

pub chosen_fails : (name : List ℕ) (d : Kind) (cs : Cases) (c e : Cursor) (z : ℤ) (f : DecodeFault) → tag_at d c ≡ Ok (z, e)
    → Refuses f (read_chosen cs (choose z cs) e) → Refuses f (read (union name d cs) c)
unfolding read
chosen_fails name d cs c e z NoMemory t r = tt
chosen_fails name d cs c e z (Cdr f) t r = rw (t, r) refl

pub chosen_read : (name : List ℕ) (d : Kind) (cs : Cases) (c e g : Cursor) (z : ℤ) (vs : Values) → tag_at d c ≡ Ok (z, e)
    → read_chosen cs (choose z cs) e ≡ Ok (vs, g) → read (union name d cs) c ≡ Ok (chosen z vs, g)
unfolding read
chosen_read name d cs c e g z vs t r = rw (t, r) refl
