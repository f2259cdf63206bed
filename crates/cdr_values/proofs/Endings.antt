-- Values one after the other, as a loop puts them: whatever ends the values that are left ends all of them.
use Rattle.std.proofs.Common.{◌≡◌, ℕ, zero, suc, ◌-◌, ◌≤◌, ◌<◌, List, [], ◌∷◌, length, get_or, take, take_all, drop, Option, Some, None, Ok, Err, refl, sym, subst, arith}
use Rattle.orb_base.specs.declared.no_memory.NoMemory.{NoMemory}
use Rattle.cdr_core.specs.Field.{Field}
use Rattle.cdr_core.specs.Writing.{Page}
use Rattle.cdr_core.proofs.CallerLemmas.{written_none}
use Rattle.cdr_values.specs.declared.kind.Case.{Case}
use Rattle.cdr_values.specs.declared.kind.Member.{Member}
use Rattle.cdr_values.specs.declared.value.IdlValue.{IdlValue}
use Rattle.cdr_values.specs.Trees.{Kind, Value, value, no_values, values_of, members_of, cases_of}
use Rattle.cdr_values.specs.Kinds.{kind_of, members_view, cases_view}
use Rattle.cdr_values.specs.Values.{value_of, values_view}
use Rattle.cdr_values.specs.Choice.{nth_kind}
use Rattle.cdr_values.specs.Spelling.{both, fields_of, fields_each, fields_members, fields_chosen}
use Rattle.cdr_values.specs.Writing.{Wrote}
use Rattle.cdr_values.proofs.Loops.{member_kind}
use Rattle.cdr_values.proofs.Members.{kind_in}
use Rattle.cdr_values.proofs.Wrote.{Answer, both_wrote, both_front}

-- whatever ends what is left from here ends all from the start
abbrev pub Ends : Page → Option (List Field) → Page → Option (List Field) → Type 0
Ends here left start all = (r : Answer) (end : Page) → Wrote r here end left → Wrote r start end all

-- the first of several, as a pattern finds it
pub front_of : {A : Type 0} (xs : List A) (x d : A) → 1 ≤ length xs → x ≡ get_or xs 0 d → xs ≡ x ∷ take (length xs - 1) (drop 1 xs)
front_of [] x d some same = absurd (omega arith)
front_of (y ∷ xs) x d some same =
    let all : take (suc (length xs) - 1) xs ≡ xs = take_all _ xs (omega arith) in
    rw (same, all)

-- nothing is left
done : (here start : Page) (left all : Option (List Field)) → left ≡ Some [] → Ends here left start all → Wrote (Ok tt) start here all
done here start left all none so_far = so_far (Ok tt) here (subst (λ (o : Option (List Field)). Wrote (Ok tt) here here o) (sym none) (written_none here))

-- what is left is no value
void : (r : Answer) (here end start : Page) (left all : Option (List Field)) → left ≡ None → Ends here left start all → Wrote r start end all
void r here end start left all none so_far = so_far r end (subst (λ (o : Option (List Field)). Wrote r here end o) (sym none) tt)

-- one more is put
step : (here next start : Page) (one more left all : Option (List Field)) → left ≡ both one more → Wrote (Ok tt) here next one → Ends here left start all → Ends next more start all
step here next start one more left all is put so_far = λ r end h.
    so_far r end (subst (λ (o : Option (List Field)). Wrote r here end o) (sym is) (both_wrote r here next end one more put h))

-- one more is put in part
stop : (e : NoMemory) (here next start : Page) (one more left all : Option (List Field)) → left ≡ both one more → Wrote (Err e) here next one → Ends here left start all → Wrote (Err e) start next all
stop e here next start one more left all is put so_far =
    so_far (Err e) next (subst (λ (o : Option (List Field)). Wrote (Err e) here next o) (sym is) (both_front e here next one more put))

-- ---- elements

abbrev pub each_left : Kind → List IdlValue → Option (List Field)
each_left k vs = fields_each (values_of (values_view vs)) k

pub first_element : (k : Kind) (vs more : List IdlValue) (v : IdlValue) → vs ≡ v ∷ more → each_left k vs ≡ both (fields_of (value_of v) k) (each_left k more)
first_element k vs more v is = rw is refl

pub each_step : (k : Kind) (vs more : List IdlValue) (v : IdlValue) (here next start : Page) (all : Option (List Field)) → vs ≡ v ∷ more
    → Wrote (Ok tt) here next (fields_of (value_of v) k) → Ends here (each_left k vs) start all → Ends next (each_left k more) start all
each_step k vs more v here next start all is put so_far =
    step here next start (fields_of (value_of v) k) (each_left k more) (each_left k vs) all (first_element k vs more v is) put so_far

pub each_stop : (e : NoMemory) (k : Kind) (vs more : List IdlValue) (v : IdlValue) (here next start : Page) (all : Option (List Field)) → vs ≡ v ∷ more
    → Wrote (Err e) here next (fields_of (value_of v) k) → Ends here (each_left k vs) start all → Wrote (Err e) start next all
each_stop e k vs more v here next start all is put so_far =
    stop e here next start (fields_of (value_of v) k) (each_left k more) (each_left k vs) all (first_element k vs more v is) put so_far

pub each_done : (k : Kind) (vs : List IdlValue) (here start : Page) (all : Option (List Field)) → vs ≡ [] → Ends here (each_left k vs) start all → Wrote (Ok tt) start here all
each_done k vs here start all none so_far = done here start (each_left k vs) all (rw none refl) so_far

-- ---- members

abbrev pub members_left : List IdlValue → List Member → Option (List Field)
members_left vs ms = fields_members (values_of (values_view vs)) (members_of (members_view ms))

pub first_member : (vs behind : List IdlValue) (ms more : List Member) (v : IdlValue) (m : Member) → vs ≡ v ∷ behind → ms ≡ m ∷ more
    → members_left vs ms ≡ both (fields_of (value_of v) (kind_of m.kind)) (members_left behind more)
first_member vs behind ms more v m is it = rw (is, it, member_kind m) refl

pub members_step : (vs behind : List IdlValue) (ms more : List Member) (v : IdlValue) (m : Member) (here next start : Page) (all : Option (List Field)) → vs ≡ v ∷ behind → ms ≡ m ∷ more
    → Wrote (Ok tt) here next (fields_of (value_of v) (kind_of m.kind)) → Ends here (members_left vs ms) start all → Ends next (members_left behind more) start all
members_step vs behind ms more v m here next start all is it put so_far =
    step here next start (fields_of (value_of v) (kind_of m.kind)) (members_left behind more) (members_left vs ms) all (first_member vs behind ms more v m is it) put so_far

pub members_stop : (e : NoMemory) (vs behind : List IdlValue) (ms more : List Member) (v : IdlValue) (m : Member) (here next start : Page) (all : Option (List Field)) → vs ≡ v ∷ behind → ms ≡ m ∷ more
    → Wrote (Err e) here next (fields_of (value_of v) (kind_of m.kind)) → Ends here (members_left vs ms) start all → Wrote (Err e) start next all
members_stop e vs behind ms more v m here next start all is it put so_far =
    stop e here next start (fields_of (value_of v) (kind_of m.kind)) (members_left behind more) (members_left vs ms) all (first_member vs behind ms more v m is it) put so_far

too_few : (vs : List IdlValue) (ms more : List Member) (m : Member) → length vs < 1 → ms ≡ m ∷ more → members_left vs ms ≡ None
too_few [] ms more m few it = rw it refl
too_few (v ∷ vs) ms more m few it = absurd (omega arith)

pub members_few : (r : Answer) (vs : List IdlValue) (ms more : List Member) (m : Member) (here end start : Page) (all : Option (List Field)) → length vs < 1 → ms ≡ m ∷ more
    → Ends here (members_left vs ms) start all → Wrote r start end all
members_few r vs ms more m here end start all few it so_far = void r here end start (members_left vs ms) all (too_few vs ms more m few it) so_far

pub members_done : (vs : List IdlValue) (ms : List Member) (here start : Page) (all : Option (List Field)) → ms ≡ [] → Ends here (members_left vs ms) start all → Wrote (Ok tt) start here all
members_done [] ms here start all none so_far = done here start (members_left [] ms) all (rw none refl) so_far
members_done (v ∷ vs) ms here start all none so_far = void (Ok tt) here here start (members_left (v ∷ vs) ms) all (rw none refl) so_far

-- ---- the member of a union

abbrev pub case_left : Value → ℕ → List Case → Option (List Field)
case_left v i cs = fields_chosen (value v no_values) (nth_kind i (cases_of (cases_view cs)))

pub case_on : (v : Value) (i : ℕ) (cs more : List Case) (x : Case) (here start : Page) (all : Option (List Field)) → cs ≡ x ∷ more → 0 < i
    → Ends here (case_left v i cs) start all → Ends here (case_left v (i - 1) more) start all
case_on v zero cs more x here start all is some so_far = absurd (omega arith)
case_on v (suc i) cs more x here start all is some so_far =
    let same : suc i - 1 ≡ i = omega arith in
    let there : case_left v (suc i) cs ≡ case_left v i more = rw is refl in
    rw same λ r end h. so_far r end (subst (λ (o : Option (List Field)). Wrote r here end o) (sym there) h)

pub case_here : (r : Answer) (v : Value) (i : ℕ) (cs more : List Case) (x : Case) (here end start : Page) (all : Option (List Field)) → cs ≡ x ∷ more → i ≡ 0
    → Wrote r here end (fields_of v (kind_of x.member.kind)) → Ends here (case_left v i cs) start all → Wrote r start end all
case_here r v i cs more x here end start all is first h so_far =
    let there : case_left v i cs ≡ fields_of v (kind_of x.member.kind) = rw (first, is, kind_in x) refl in
    so_far r end (subst (λ (o : Option (List Field)). Wrote r here end o) (sym there) h)

pub case_none : (r : Answer) (v : Value) (i : ℕ) (cs : List Case) (here end start : Page) (all : Option (List Field)) → cs ≡ [] → Ends here (case_left v i cs) start all → Wrote r start end all
case_none r v i cs here end start all none so_far = void r here end start (case_left v i cs) all (rw none refl) so_far
