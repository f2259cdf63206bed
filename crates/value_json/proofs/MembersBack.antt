-- The members of a struct, put into an object, are found there.
use Rattle.std.proofs.Common.{◌≡◌, ◌∙◌, ℕ, suc, ◌+◌, true, false, true≢false, not, List, length, Some, None, Ordering, Less, Equal, Greater, nat_cmp, refl, sym, ap, arith, bytes_eq, is_some}
use Rattle.std.specs.List.{list_any}
use Rattle.std.specs.Cmp.Lexicographic.{slice_cmp}
use Rattle.std.specs.Ordering.{match_ordering}
use Rattle.std.proofs.lemmas.Bool.{and_parts, or_parts, not-true}
use Rattle.std.proofs.lemmas.Str.{encodes_same}
use Rattle.std.proofs.lemmas.Slice.Eq.{bytes_eq-Decides}
use Rattle.serde_json.specs.Data.{Data, Members as JsonMembers, no_members as no_json, member as json_member, put}
use Rattle.serde_json.specs.Events.{members_len}
use Rattle.serde_json.specs.Find.{get_member}
use Rattle.serde_json.proofs.Views.{get_member-put_other}
use Rattle.cdr_values.specs.Lawful.{differ, member_names}
use Rattle.cdr_values.specs.Spelling.{fields_of, fields_members}
use Rattle.cdr_values.specs.Trees.{Members, no_members, member, Values, no_values, value}
use Rattle.value_json.specs.Shown.{shown, shown_members}
use Rattle.value_json.specs.Texts.{text_of}
use Rattle.value_json.proofs.Fields.{both_some}

-- ---- other names are other keys

pub other_key : (x y : List ℕ) → bytes_eq x y ≡ false → text_of y ≡ text_of x → ⊥
other_key x y e same = true≢false (sym ((bytes_eq-Decides x y).1 (sym (encodes_same y x same))) ∙ e)

-- ---- how many members an object has

put_len_at : (o : Ordering) (k l : List ℕ) (d e : Data) (os : JsonMembers) → match_ordering o (get_member k os) (Some e) (get_member k os) ≡ None
    → (get_member k os ≡ None → members_len (put k d os) ≡ suc (members_len os))
    → members_len (match_ordering o (json_member k d (json_member l e os)) (json_member l d os) (json_member l e (put k d os))) ≡ suc (members_len (json_member l e os))
put_len_at Less k l d e os none later = refl
put_len_at Equal k l d e os none later = absurd (cc)
put_len_at Greater k l d e os none later = ap suc (later none)

pub put_len : (k : List ℕ) (d : Data) (os : JsonMembers) → get_member k os ≡ None → members_len (put k d os) ≡ suc (members_len os)
put_len k d no_json none = refl
put_len k d (json_member l e os) none = put_len_at (slice_cmp nat_cmp k l) k l d e os none (put_len k d os)

-- no member of a struct is in the object
abbrev pub Absent : Members → JsonMembers → Type 0
Absent no_members os = Unit {0}
Absent (member name k ms) os = (get_member (text_of name) os ≡ None) × Absent ms os

pub absent_none : (ms : Members) → Absent ms no_json
absent_none no_members = tt
absent_none (member name k ms) = (refl, absent_none ms)

absent_put : (ms : Members) (name : List ℕ) (d : Data) (os : JsonMembers) → list_any (λ y. bytes_eq y name) (member_names ms) ≡ false → Absent ms os
    → Absent ms (put (text_of name) d os)
absent_put no_members name d os new h = tt
absent_put (member other k ms) name d os new h =
    let parts = or_parts (bytes_eq other name) _ new in
    (get_member-put_other (text_of other) (text_of name) d os (λ same. other_key other name parts.0 (sym same)) ∙ h.0, absent_put ms name d os parts.1 h.1)

-- as many as the struct has, and those that were there
pub members_count : (vs : Values) (ms : Members) (os : JsonMembers) → is_some (fields_members vs ms) ≡ true → differ bytes_eq (member_names ms) ≡ true → Absent ms os
    → members_len (shown_members vs ms os) ≡ length (member_names ms) + members_len os
members_count no_values no_members os h d a = omega arith
members_count no_values (member name k ms) os h d a = absurd (true≢false (sym h))
members_count (value v vs) no_members os h d a = absurd (true≢false (sym h))
members_count (value v vs) (member name k ms) os h d a =
    let parts = both_some (fields_of v k) (fields_members vs ms) h in
    let names = and_parts (not (list_any (λ y. bytes_eq y name) (member_names ms))) _ d in
    let os' = put (text_of name) (shown v k) os in
    let more = members_count vs ms os' parts.1 names.1 (absent_put ms name (shown v k) os (not-true _ names.0) a.1) in
    let one = put_len (text_of name) (shown v k) os a.0 in
    omega (arith, more, one)

-- ---- a key that no later member has keeps its value

pub kept : (vs : Values) (ms : Members) (os : JsonMembers) (name : List ℕ) → list_any (λ y. bytes_eq y name) (member_names ms) ≡ false
    → get_member (text_of name) (shown_members vs ms os) ≡ get_member (text_of name) os
kept no_values ms os name new = refl
kept (value v vs) no_members os name new = refl
kept (value v vs) (member other k ms) os name new =
    let parts = or_parts (bytes_eq other name) _ new in
    kept vs ms (put (text_of other) (shown v k) os) name parts.1
    ∙ get_member-put_other (text_of name) (text_of other) (shown v k) os (λ same. other_key other name parts.0 same)
