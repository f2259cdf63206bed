-- What is sent has its type.
use Rattle.std.proofs.Common.{◌≡◌, ◌<◌, ℕ, suc, ◌+◌, Bool, true, false, cond, not, ltb, List, [], ◌∷◌, ◌++◌, length, position, Option, Some, None, Ok, Err, refl, sym, ap, ◌∙◌, subst, slice_get, is_some, add-one, add-zero, arith}
use Rattle.std.specs.List.{position_or_len}
use Rattle.std.proofs.lemmas.Bool.{ltb-true}
use Rattle.std.specs.Option.{option_map}
use Rattle.std.proofs.lemmas.Option.{none-some, same_Some}
use Rattle.orb_base.specs.declared.order.Order.{Order}
use Rattle.orb_base.specs.declared.outcome.Outcome.{Outcome}
use Rattle.orb_base.specs.declared.outcome.Outcome.TheVariants.{Returned, User}
use Rattle.cdr_core.specs.Field.{Field}
use Rattle.cdr_core.specs.Spelling.{fields_bytes}
use Rattle.cdr_values.specs.Trees.{Name, Kind, words, Value, text, items, values_of, list_of, members_of}
use Rattle.cdr_values.specs.Spelling.{fields_of, both, behind}
use Rattle.cdr_values.specs.Fitting.{is_of}
use Rattle.idl_types.specs.declared.way.Way.{Way}
use Rattle.idl_types.specs.declared.way.Way.TheVariants as way
use Rattle.idl_types.specs.Things.{Thing, ParamView, ExceptionView}
use Rattle.idl_types.specs.References.{member_kind}
use Rattle.script_values.proofs.Lists.{list_of_values}
use Rattle.script_values.specs.Operations.{Comes, ◌>>=◌, or_blank, member_at}
use Rattle.script_checks.specs.Scene.{Var}
use Rattle.script_checks.specs.Dues.{param_due}
use Rattle.script_checks.specs.Methods.{param_set, param_var}
use Rattle.dynamic_servants.specs.Replies.{Typed, all_fields, out_of, outs_from, members_from, exception_values, within, spelled, body_of}
use Rattle.dynamic_servants.specs.Ending.{returns, raises}
use Rattle.script_laws.specs.Defined.{◌and_then◌, got}
use Rattle.script_laws.specs.Outcome.{defined_out, both_lists, defined_outs, defined_members, defined_exception, defined_body, defined_return, defined_raise}
use Rattle.script_laws.specs.Kinds.{Every, FitsDue, Holds, Stands}
use Rattle.script_laws.proofs.Good.{Good, itself}
use Rattle.script_laws.proofs.Holes.{shown, got_shows, Fits}
use Rattle.script_laws.proofs.Names.{both_every}

-- anything
abbrev pub Any : {A : Type 0} → A → Type 0
Any x = Unit {0}

-- a value is of its type
abbrev pub IsTyped : Typed → Type 0
IsTyped x = is_of x.1 x.0 ≡ true

some_of : (o : Option (List Field)) → is_some o ≡ true → (fs : List Field) × (o ≡ Some fs)
some_of (Some fs) e = (fs, refl)
some_of None e = absurd cc

fields_are : (xs : List Typed) → Every IsTyped xs → (fs : List Field) × (all_fields xs ≡ Some fs)
fields_are [] h = ([], refl)
fields_are (x ∷ xs) h =
    let a = some_of (fields_of x.1 x.0) h.0 in
    let b = fields_are xs h.1 in
    (a.0 ++ b.0, ap (λ (o : Option (List Field)). both o (all_fields xs)) a.1 ∙ ap (behind a.0) b.1)

answer_good : (make : List ℕ → Outcome) (w : Comes (List ℕ)) → Good itself Any ((Some w) and_then λ b. Some (Ok (make b))) (w >>= λ b. Ok (make b))
answer_good make (Ok b) = (refl, tt)
answer_good make (Err l) = refl

sent_good : (make : List ℕ → Outcome) (order : Order) (o : Option (List Typed)) (xs : List Typed) → o ≡ Some xs → Every IsTyped xs
    → Good itself Any (defined_body order o and_then λ b. Some (Ok (make b))) (body_of order xs >>= λ b. Ok (make b))
sent_good make order o xs is typed =
    let fs = fields_are xs typed in
    subst (λ (p : Option (List Typed)). Good itself Any (defined_body order p and_then λ b. Some (Ok (make b))) (body_of order xs >>= λ b. Ok (make b))) (sym is)
    (subst (λ (p : Option (List Field)). Good itself Any ((option_map (λ gs. within (fields_bytes order 24 gs)) p) and_then λ b. Some (Ok (make b))) (spelled order p >>= λ b. Ok (make b))) (sym fs.1)
    (answer_good make (within (fields_bytes order 24 fs.0))))

pub return_sent : (order : Order) (o : Option (List Typed)) (xs : List Typed) → o ≡ Some xs → Every IsTyped xs → Good itself Any (defined_return order o) (returns order xs)
return_sent order o xs is typed = sent_good (λ b. Returned b) order o xs is typed

pub lists_sent : (a b : Option (List Typed)) (xs ys : List Typed) → a ≡ Some xs → b ≡ Some ys → both_lists a b ≡ Some (xs ++ ys)
lists_sent a b xs ys e g = ap (λ (o : Option (List Typed)). both_lists o b) e ∙ ap (option_map (λ (zs : List Typed). xs ++ zs)) g

-- ---- parameters

-- the parameters as variables, from an index on
abbrev pub params_from : ℕ → ℕ → ℕ → List ParamView → List Var
params_from place o n [] = []
params_from place o n (p ∷ ps) = param_var place o n p ∷ params_from place o (suc n) ps

out_by : (ts : List Thing) (place o n : ℕ) (k : Kind) (w : Way) (slot : Option Value) (v : Value) → FitsDue ts k (param_set w (param_due place o n)) v → slot ≡ Some v
    → (defined_out w k slot ≡ Some (out_of w k v)) × Every IsTyped (out_of w k v)
out_by ts place o n k way.Input slot v f is = (refl, tt)
out_by ts place o n k way.Output slot v f is = (ap (option_map (λ (u : Value). (k, u) ∷ [])) is, (f.1, tt))
out_by ts place o n k way.Both slot v f is = (ap (option_map (λ (u : Value). (k, u) ∷ [])) is, (f.1, tt))

out_sent : (ts : List Thing) (place o n : ℕ) (p : ParamView) (slot : Option Value) (v : Value) → Holds ts (param_var place o n p) slot → slot ≡ Some v
    → (defined_out p.way p.kind slot ≡ Some (out_of p.way p.kind v)) × Every IsTyped (out_of p.way p.kind v)
out_sent ts place o n p slot v h is =
    let held : Holds ts (param_var place o n p) (Some v) = subst (Holds ts (param_var place o n p)) is h in
    out_by ts place o n p.kind p.way slot v held.1 is

slot_of : (ts : List Thing) (x : Var) (o : Option Value) → Holds ts x o → (v : Value) × (o ≡ Some v)
slot_of ts x None h = absurd h
slot_of ts x (Some v) h = (v, refl)

-- each parameter that comes out has a value of its type
pub outs_sent : (ts : List Thing) (place o : ℕ) (os : List (Option Value)) (ps : List ParamView) (n : ℕ) (rest : List (Option Value)) → Stands ts (params_from place o n ps) rest
    → ((j : ℕ) → got os (n + j) ≡ got rest j) → (defined_outs n ps os ≡ Some (outs_from n ps (shown os))) × Every IsTyped (outs_from n ps (shown os))
outs_sent ts place o os [] n rest st same = (refl, tt)
outs_sent ts place o os (p ∷ ps) n [] st same = absurd st
outs_sent ts place o os (p ∷ ps) n (slot ∷ rest) st same =
    let v = slot_of ts (param_var place o n p) slot st.0 in
    let here : got os n ≡ slot = ap (got os) (sym (add-zero n)) ∙ same 0 in
    let value : member_at (shown os) n ≡ v.0 = got_shows os n v.0 (here ∙ v.1) in
    let one = out_sent ts place o n p slot v.0 st.0 v.1 in
    let more = outs_sent ts place o os ps (n + 1) rest (subst (λ (m : ℕ). Stands ts (params_from place o m ps) rest) (sym (add-one n)) st.1)
    (λ j. ap (got os) (let e : (n + 1) + j ≡ n + suc j = omega arith in e) ∙ same (suc j)) in
    let first : defined_out p.way p.kind (got os n) ≡ Some (out_of p.way p.kind (member_at (shown os) n)) =
    ap (defined_out p.way p.kind) here ∙ one.0 ∙ ap (λ (u : Value). Some (out_of p.way p.kind u)) (sym value) in (
      lists_sent (defined_out p.way p.kind (got os n)) (defined_outs (n + 1) ps os) (out_of p.way p.kind (member_at (shown os) n)) (outs_from (n + 1) ps (shown os)) first more.0,
      both_every IsTyped (out_of p.way p.kind (member_at (shown os) n)) (outs_from (n + 1) ps (shown os)) (subst (λ (u : Value). Every IsTyped (out_of p.way p.kind u)) (sym value) one.1) more.1,
    )

-- ---- exceptions

value_at_place : (all rest : List Value) (n : ℕ) (v : Value) → ((j : ℕ) → slice_get all (n + j) ≡ slice_get (v ∷ rest) j) → member_at all n ≡ v
value_at_place all rest n v same = ap or_blank (ap (slice_get all) (sym (add-zero n)) ∙ same 0)

members_sent : (all : List Value) (ms : List (Name × Kind)) (n : ℕ) (rest : List Value) → ((j : ℕ) → slice_get all (n + j) ≡ slice_get rest j) → length rest ≡ length ms
    → Fits (λ (i : ℕ). member_kind i (members_of ms)) rest → (defined_members ms rest ≡ Some (members_from n ms all)) × Every IsTyped (members_from n ms all)
members_sent all [] n [] same long fits = (refl, tt)
members_sent all [] n (v ∷ rest) same long fits = absurd (omega (arith, long))
members_sent all (m ∷ ms) n [] same long fits = absurd (omega (arith, long))
members_sent all (m ∷ ms) n (v ∷ rest) same long fits =
    let value : member_at all n ≡ v = value_at_place all rest n v same in
    let more = members_sent all ms (n + 1) rest (λ j. ap (slice_get all) (let e : (n + 1) + j ≡ n + suc j = omega arith in e) ∙ same (suc j)) (omega (arith, long)) (λ i w e. fits (suc i) w e) in
    let f = fits 0 v refl in
    let fit : is_of v m.1 ≡ true = subst (λ (k : Kind). is_of v k ≡ true) (sym (same_Some m.1 f.0 f.1)) f.2 in (
      ap (option_map (λ (xs : List Typed). (m.1, v) ∷ xs)) more.0 ∙ ap (λ (u : Value). Some ((m.1, u) ∷ members_from (n + 1) ms all)) (sym value),
      (subst (λ (u : Value). is_of u m.1 ≡ true) (sym value) fit, more.1),
    )

pub raise_sent : (order : Order) (e : ExceptionView) (vs : List Value) → is_of (text e.id) (words 0) ≡ true → length vs ≡ length e.members → Fits (λ (i : ℕ). member_kind i (members_of e.members)) vs
    → Good itself Any (defined_raise order (Some e) (items (values_of vs))) (raises order (Some e) (items (values_of vs)))
raise_sent order e vs id long fits =
    let same : list_of (values_of vs) ≡ vs = list_of_values vs in
    let m = members_sent vs e.members 0 vs (λ j. ap (slice_get vs) (let z : 0 + j ≡ j = omega arith in z)) long fits in
    let typed : Every IsTyped (members_from 0 e.members (list_of (values_of vs))) = subst (λ (ws : List Value). Every IsTyped (members_from 0 e.members ws)) (sym same) m.1 in
    let is : defined_members e.members (list_of (values_of vs)) ≡ Some (members_from 0 e.members (list_of (values_of vs))) =
    subst (λ (ws : List Value). defined_members e.members ws ≡ Some (members_from 0 e.members ws)) (sym same) m.0 in
    sent_good (λ b. User b) order (defined_exception e (items (values_of vs))) (exception_values e.id e.members (items (values_of vs)))
    (ap (option_map (λ (xs : List Typed). (words 0, text e.id) ∷ xs)) is) (id, typed)

-- ---- positions

one_at : {X : Type 0} (p : X → Bool) (x : X) (xs : List X) (b : Bool) → p x ≡ b
    → (position_or_len p xs < length xs → (y : X) × (slice_get xs (position_or_len p xs) ≡ Some y) × (p y ≡ true)) → cond (not b) (1 + position_or_len p xs) 0 < suc (length xs)
    → (y : X) × (slice_get (x ∷ xs) (cond (not b) (1 + position_or_len p xs) 0) ≡ Some y) × (p y ≡ true)
one_at p x xs true e f l = (x, refl, e)
one_at p x xs false e f l =
    let h = f (omega (arith, l)) in
    (h.0, ap (slice_get (x ∷ xs)) (let z : 1 + position_or_len p xs ≡ suc (position_or_len p xs) = omega arith in z) ∙ h.1, h.2)

found_at : {X : Type 0} (p : X → Bool) (xs : List X) → position_or_len p xs < length xs → (x : X) × (slice_get xs (position_or_len p xs) ≡ Some x) × (p x ≡ true)
found_at p [] l = absurd (omega (arith, l))
found_at p (x ∷ xs) l = one_at p x xs (p x) refl (found_at p xs) l

placed : {X : Type 0} (p : X → Bool) (xs : List X) (b : Bool) (i : ℕ) → ltb (position_or_len p xs) (length xs) ≡ b → cond b (Some (position_or_len p xs)) None ≡ Some i
    → (i < length xs) × (x : X) × (slice_get xs i ≡ Some x) × (p x ≡ true)
placed p xs true i e h =
    let l : position_or_len p xs < length xs = ltb-true (position_or_len p xs) (length xs) e in
    let is : position_or_len p xs ≡ i = same_Some (position_or_len p xs) i h in
    let f = found_at p xs l in
    (subst (λ (n : ℕ). n < length xs) is l, f.0, ap (slice_get xs) (sym is) ∙ f.1, f.2)
placed p xs false i e h = absurd (none-some i h)

-- what a position is that of
pub position_is : {X : Type 0} (p : X → Bool) (xs : List X) (i : ℕ) → position p xs ≡ Some i → (i < length xs) × (x : X) × (slice_get xs i ≡ Some x) × (p x ≡ true)
position_is p xs i e = placed p xs (ltb (position_or_len p xs) (length xs)) i refl e
