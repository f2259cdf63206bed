-- Items and members, one after another.
use Rattle.std.proofs.Common.{◌≡◌, ◌==◌, Bool, true, false, if◌then◌else◌, codes, Result, subst, ℕ, ℤ, zero, suc, ◌-◌, ◌<◌, List, [], ◌∷◌, ◌++◌, length, Option, Some, None, option_map, option_and_then, String, Global, Bor, string_bytes, refl, ap, sym, ◌∙◌, append_assoc, nat_cmp, arith}
use Rattle.std.proofs.lemmas.List.{append-nil}
use Rattle.std.specs.BTreeMap.{is_at}
use Rattle.std.specs.Cmp.Lexicographic.{slice_cmp}
use Rattle.std.specs.Map.{lookup}
use Rattle.serde_json.specs.Data.{Data, Items, no_items, item, Members as JsonMembers, member as json_member, put}
use Rattle.serde_json.specs.Events.{items_len, members_len}
use Rattle.serde_json.specs.Find.{get_member}
use Rattle.serde_json.specs.View.{view, items_of, items_view, members_view as json_members}
use Rattle.serde_json.specs.declared.value.Value.{Value}
use Rattle.serde_json.proofs.Views.{view-lookup, view_of_ref, items_len-items_view, members_len-members_view}
use Rattle.cdr_values.specs.declared.kind.Case.{Case}
use Rattle.cdr_values.specs.declared.kind.Member.{Member}
use Rattle.cdr_values.specs.declared.kind.IdlType.TheFolds.{fold_out-Member}
use Rattle.cdr_values.specs.declared.value.IdlValue.{IdlValue}
use Rattle.cdr_values.specs.Kinds.{kind_step, case_step, member_step, kind_of, member_of, members_view, cases_view}
use Rattle.cdr_values.specs.Choice.{choose, kind_at}
use Rattle.cdr_values.specs.Lawful.{member_names}
use Rattle.cdr_values.specs.Trees.{Kind, Branch, Cases, members_of, cases_of, values_of}
use Rattle.cdr_values.specs.Trees as trees
use Rattle.cdr_values.specs.Values.{value_of, values_view}
use Rattle.cdr_values.proofs.Members.{kind_in}
use Rattle.value_json.specs.Gives.{Refuses, Gives}
use Rattle.value_json.specs.Meant.{meant, meant_members, meant_choice, with_first, each_in, then_choice, with_member, without_member}
use Rattle.value_json.specs.Shown.{ahead, shown, shown_each, shown_members, shown_chosen, value_member}
use Rattle.value_json.specs.Numerals.{number_data}
use Rattle.value_json.specs.Texts.{text_of}
use Rattle.value_json.specs.declared.fault.JsonError.{JsonError}
use Rattle.value_json.specs.declared.fault.JsonError.TheVariants.{NotOfType, NoMemory}

-- ---- objects

pub found_member : (r : Option (Bor Value)) (k : List ℕ) (es : List (String Global × Value)) → option_map (λ x. x.now) r ≡ lookup (is_at (λ x. slice_cmp nat_cmp k (string_bytes x))) es
    → option_map (λ x. view x.now) r ≡ get_member k (json_members es)
found_member r k es found = view_of_ref r ∙ ap (option_map view) found ∙ view-lookup k es

pub object_len : (es : List (String Global × Value)) → members_len (json_members es) ≡ length es
object_len = members_len-members_view

pub list_len : (vs : List Value) → items_len (items_view vs) ≡ length vs
list_len = items_len-items_view

pub names_len : (ms : List Member) → length (member_names (members_of (members_view ms))) ≡ length ms
names_len [] = refl
names_len (m ∷ ms) = ap suc (names_len ms)

pub kind_of_member : (m : Member) → (member_of m).1 ≡ kind_of m.kind
kind_of_member m = ap (λ (x : List ℕ × Kind). x.1) (fold_out-Member Kind Branch (List ℕ × Kind) kind_step case_step member_step m)

pub name_of_member : (m : Member) → (member_of m).0 ≡ m.name
name_of_member m = ap (λ (x : List ℕ × Kind). x.0) (fold_out-Member Kind Branch (List ℕ × Kind) kind_step case_step member_step m)

-- ---- what is refused

pub refuses_then : {A B : Type 0} (f : A → Option B) (o : Option A) (e : JsonError) → Refuses e o → Refuses e (option_and_then f o)
refuses_then f o NoMemory h = tt
refuses_then f o NotOfType h = rw h refl

pub refuses_map : {A B : Type 0} (f : A → B) (o : Option A) (e : JsonError) → Refuses e o → Refuses e (option_map f o)
refuses_map f o NoMemory h = tt
refuses_map f o NotOfType h = rw h refl

-- ---- what is read

-- what was read, and what is read after it
abbrev pub onto : {A : Type 0} → List A → Option (List A) → Option (List A)
onto before more = option_map (λ xs. before ++ xs) more

pub regroup : {A : Type 0} (before : List A) (x : A) (more : Option (List A)) → onto before (with_first (Some x) more) ≡ onto (before ++ x ∷ []) more
regroup before x None = refl
regroup before x (Some xs) = rw append_assoc

module _ (one : Data → Option trees.Value) (before : List trees.Value) (left later : List Value) (d : Value) (total : Option (List trees.Value)) (here : left ≡ d ∷ later)
    (so_far : onto before (each_in one (items_view left)) ≡ total) where
  pub items_on : (x : trees.Value) → one (view d) ≡ Some x → onto (before ++ x ∷ []) (each_in one (items_view later)) ≡ total
  items_on x e =
      let step : onto before (each_in one (items_view left)) ≡ onto (before ++ x ∷ []) (each_in one (items_view later)) =
      rw (here, e) (regroup before x (each_in one (items_view later))) in
      sym step ∙ so_far

  pub items_fail : (e : JsonError) → Refuses e (one (view d)) → Refuses e total
  items_fail NoMemory e = tt
  items_fail NotOfType e = let step : onto before (each_in one (items_view left)) ≡ None = rw (here, e) refl in sym so_far ∙ step

pub items_done : (one : Data → Option trees.Value) (before : List trees.Value) (left : List Value) (total : Option (List trees.Value)) → left ≡ []
    → onto before (each_in one (items_view left)) ≡ total → total ≡ Some before
items_done one before left total none so_far =
    let here : onto before (each_in one (items_view left)) ≡ Some before = rw none (ap Some (append-nil before)) in
    sym so_far ∙ here

-- what a member is read as
abbrev pub at_member : Member → JsonMembers → Option trees.Value
at_member m os = option_and_then (meant (kind_of m.kind)) (get_member (text_of m.name) os)

members_first : (m : Member) (ms : List Member) (os : JsonMembers) → meant_members (members_of (members_view (m ∷ ms))) os ≡ with_first (at_member m os) (meant_members (members_of (members_view ms)) os)
unfolding meant_members
members_first m ms os = rw (kind_of_member m, name_of_member m) refl

module _ (before : List trees.Value) (left later : List Member) (m : Member) (os : JsonMembers) (total : Option (List trees.Value)) (here : left ≡ m ∷ later)
    (so_far : onto before (meant_members (members_of (members_view left)) os) ≡ total) where
  pub members_on : (x : trees.Value) → at_member m os ≡ Some x → onto (before ++ x ∷ []) (meant_members (members_of (members_view later)) os) ≡ total
  members_on x e =
      let step : onto before (meant_members (members_of (members_view left)) os) ≡ onto (before ++ x ∷ []) (meant_members (members_of (members_view later)) os) =
      rw (here, members_first m later os, e) (regroup before x (meant_members (members_of (members_view later)) os)) in
      sym step ∙ so_far

  pub members_fail : (e : JsonError) → Refuses e (at_member m os) → Refuses e total
  members_fail NoMemory e = tt
  members_fail NotOfType e = let step : onto before (meant_members (members_of (members_view left)) os) ≡ None = rw (here, members_first m later os, e) refl in sym so_far ∙ step

pub members_done : (before : List trees.Value) (left : List Member) (os : JsonMembers) (total : Option (List trees.Value)) → left ≡ []
    → onto before (meant_members (members_of (members_view left)) os) ≡ total → total ≡ Some before
unfolding meant_members
members_done before left os total none so_far =
    let here : onto before (meant_members (members_of (members_view left)) os) ≡ Some before = rw none (ap Some (append-nil before)) in
    sym so_far ∙ here

-- ---- the case at an index

pub case_on : (cs more : List Case) (x : Case) (i : ℕ) (z : ℤ) (os : JsonMembers) (total : Option trees.Value) → cs ≡ x ∷ more → 0 < i
    → meant_choice (cases_of (cases_view cs)) (Some i) z os ≡ total → meant_choice (cases_of (cases_view more)) (Some (i - 1)) z os ≡ total
unfolding meant_choice
case_on cs more x zero z os total is some h = absurd (omega arith)
case_on cs more x (suc i) z os total is some h =
    let same : suc i - 1 ≡ i = omega arith in
    let here : meant_choice (cases_of (cases_view cs)) (Some (suc i)) z os ≡ meant_choice (cases_of (cases_view more)) (Some i) z os = rw is refl in
    rw same (sym here ∙ h)

pub case_here : (cs more : List Case) (x : Case) (i : ℕ) (z : ℤ) (os : JsonMembers) (total : Option trees.Value) → cs ≡ x ∷ more → i ≡ 0
    → meant_choice (cases_of (cases_view cs)) (Some i) z os ≡ total → with_member z (meant (kind_of x.member.kind)) os ≡ total
unfolding meant_choice
case_here cs more x i z os total is none h =
    let here : meant_choice (cases_of (cases_view cs)) (Some i) z os ≡ with_member z (meant (kind_of x.member.kind)) os = rw (none, is, kind_in x) refl in
    sym here ∙ h

pub case_none : (cs : List Case) (i : ℕ) (z : ℤ) (os : JsonMembers) (total : Option trees.Value) → cs ≡ []
    → meant_choice (cases_of (cases_view cs)) (Some i) z os ≡ total → total ≡ without_member z os
unfolding meant_choice
case_none cs i z os total none h =
    let last : meant_choice (cases_of (cases_view cs)) (Some i) z os ≡ without_member z os = rw none refl in
    sym h ∙ last

-- ---- the same, of a number that is passed on

abbrev Answer : Type 0
Answer = Result IdlValue JsonError

pub case_gives : (r : Answer) (cs more : List Case) (x : Case) (i : ℕ) (z w : ℤ) (os : JsonMembers) (total : Option trees.Value) → cs ≡ x ∷ more → i ≡ 0 → w ≡ z
    → meant_choice (cases_of (cases_view cs)) (Some i) z os ≡ total → Gives value_of r (with_member w (meant (kind_of x.member.kind)) os) → Gives value_of r total
case_gives r cs more x i z w os total is none same h g =
    let here : with_member w (meant (kind_of x.member.kind)) os ≡ total = rw same (case_here cs more x i z os total is none h) in
    subst (λ (o : Option trees.Value). Gives value_of r o) here g

pub none_gives : (r : Answer) (cs : List Case) (i : ℕ) (z w : ℤ) (os : JsonMembers) (total : Option trees.Value) → cs ≡ [] → w ≡ z
    → meant_choice (cases_of (cases_view cs)) (Some i) z os ≡ total → Gives value_of r (without_member w os) → Gives value_of r total
none_gives r cs i z w os total none same h g =
    let here : without_member w os ≡ total = rw same (sym (case_none cs i z os total none h)) in
    subst (λ (o : Option trees.Value). Gives value_of r o) here g

pub bare_gives : (r : Answer) (cs : Cases) (z w : ℤ) (os : JsonMembers) → w ≡ z → Gives value_of r (without_member w os) → Gives value_of r (meant_choice cs None z os)
unfolding meant_choice
bare_gives r cs z w os same g = subst (λ (y : ℤ). Gives value_of r (without_member y os)) same g

pub nth_gives : (r : Answer) (cs : Cases) (i : ℕ) (z w : ℤ) (os : JsonMembers) → w ≡ z → Gives value_of r (meant_choice cs (Some i) w os) → Gives value_of r (meant_choice cs (Some i) z os)
nth_gives r cs i z w os same g = subst (λ (y : ℤ). Gives value_of r (meant_choice cs (Some i) y os)) same g

pub choice_gives : (r : Answer) (cs : Cases) (tag : Data → Option ℤ) (os : JsonMembers) (z y w : ℤ) (o : Option ℕ) → Some z ≡ option_and_then tag (get_member (codes "case") os)
    → y ≡ z → w ≡ z → o ≡ choose y cs → Gives value_of r (meant_choice cs o w os) → Gives value_of r (then_choice (λ x. meant_choice cs (choose x cs) x) tag os)
choice_gives r cs tag os z y w o found one two index g =
    let here : meant_choice cs o w os ≡ then_choice (λ x. meant_choice cs (choose x cs) x) tag os = rw (← found, index, one, two) refl in
    subst (λ (m : Option trees.Value). Gives value_of r m) here g

pub with_gives : (one : Data → Option trees.Value) (os : JsonMembers) (z w : ℤ) (d : Data) (x v : trees.Value) → w ≡ z → (members_len os == 2) ≡ true
    → get_member (codes "value") os ≡ Some d → one d ≡ Some x → v ≡ trees.chosen w (trees.value x trees.no_values) → with_member z one os ≡ Some v
with_gives one os z w d x v same two found means is = rw (two, found, means, is, same) refl

pub with_few : (one : Data → Option trees.Value) (os : JsonMembers) (z : ℤ) → (members_len os == 2) ≡ false → with_member z one os ≡ None
with_few one os z few = rw few refl

one_none : (one : Data → Option trees.Value) (os : JsonMembers) (z : ℤ) (b : Bool) → get_member (codes "value") os ≡ None
    → (if b then option_map (λ v. trees.chosen z (trees.value v trees.no_values)) (option_and_then one (get_member (codes "value") os)) else None) ≡ None
one_none one os z true e = rw e refl
one_none one os z false e = refl

pub with_none : (one : Data → Option trees.Value) (os : JsonMembers) (z : ℤ) → get_member (codes "value") os ≡ None → with_member z one os ≡ None
with_none one os z none = one_none one os z (members_len os == 2) none

-- ---- what is shown

pub ahead_push : (ds : List Data) (d : Data) (more : Items) → ahead (ds ++ d ∷ []) more ≡ ahead ds (item d more)
ahead_push [] d more = refl
ahead_push (e ∷ ds) d more = ap (item e) (ahead_push ds d more)

pub ahead_none : (ds : List Data) → ahead ds no_items ≡ items_of ds
ahead_none [] = refl
ahead_none (d ∷ ds) = ap (item d) (ahead_none ds)

pub each_on : (before : List Data) (k : Kind) (left later : List IdlValue) (v : IdlValue) (d : Data) (total : Items) → left ≡ v ∷ later → d ≡ shown (value_of v) k
    → ahead before (shown_each (values_of (values_view left)) k) ≡ total → ahead (before ++ d ∷ []) (shown_each (values_of (values_view later)) k) ≡ total
each_on before k left later v d total is e h =
    let here : ahead before (shown_each (values_of (values_view left)) k) ≡ ahead (before ++ d ∷ []) (shown_each (values_of (values_view later)) k) =
    rw (is, e) (sym (ahead_push before (shown (value_of v) k) (shown_each (values_of (values_view later)) k))) in
    sym here ∙ h

pub each_done : (before : List Data) (k : Kind) (left : List IdlValue) (total : Items) → left ≡ []
    → ahead before (shown_each (values_of (values_view left)) k) ≡ total → items_of before ≡ total
each_done before k left total none h =
    let here : ahead before (shown_each (values_of (values_view left)) k) ≡ items_of before = rw none (ahead_none before) in
    sym here ∙ h

pub put_on : (vs later : List IdlValue) (v : IdlValue) (ms more : List Member) (m : Member) (os new total : JsonMembers) → vs ≡ v ∷ later → ms ≡ m ∷ more
    → new ≡ put (text_of m.name) (shown (value_of v) (kind_of m.kind)) os
    → shown_members (values_of (values_view vs)) (members_of (members_view ms)) os ≡ total
    → shown_members (values_of (values_view later)) (members_of (members_view more)) new ≡ total
put_on vs later v ms more m os new total is it e h =
    let here : shown_members (values_of (values_view vs)) (members_of (members_view ms)) os ≡ shown_members (values_of (values_view later)) (members_of (members_view more)) new =
    rw (is, it, e, kind_of_member m, name_of_member m) refl in
    sym here ∙ h

pub put_few : (vs : List IdlValue) (ms : List Member) (os total : JsonMembers) → vs ≡ []
    → shown_members (values_of (values_view vs)) (members_of (members_view ms)) os ≡ total → os ≡ total
put_few vs ms os total none h =
    let here : shown_members (values_of (values_view vs)) (members_of (members_view ms)) os ≡ os = rw none refl in
    sym here ∙ h

pub put_all : (vs : List IdlValue) (ms : List Member) (os total : JsonMembers) → ms ≡ []
    → shown_members (values_of (values_view vs)) (members_of (members_view ms)) os ≡ total → os ≡ total
put_all [] ms os total none h = put_few [] ms os total refl h
put_all (v ∷ vs) ms os total none h =
    let here : shown_members (values_of (values_view (v ∷ vs))) (members_of (members_view ms)) os ≡ os = rw none refl in
    sym here ∙ h

pub chosen_shown : (os : JsonMembers) (d : Kind) (cs : Cases) (v : trees.Value) (z y w : ℤ) (i : Option ℕ) (o : Option Data) → y ≡ z → w ≡ z
    → os ≡ json_member (codes "case") (number_data d y) (value_member o) → value_member o ≡ shown_chosen (trees.value v trees.no_values) (kind_at i cs) → i ≡ choose w cs
    → os ≡ json_member (codes "case") (number_data d z) (shown_chosen (trees.value v trees.no_values) (kind_at (choose z cs) cs))
chosen_shown os d cs v z y w i o one two is member index = rw (is, member, index, one, two) refl
