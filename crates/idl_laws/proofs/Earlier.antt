-- The declarations before a point stay, since only the end of one that hasn't ended is read.
use Rattle.std.proofs.Common.{◌≡◌, ◌<◌, ℕ, ◌+◌, ◌-◌, Bool, true, false, not, ◌++◌, length, Option, Some, None, Ok, refl, sym, subst, ◌∙◌, arith}
use Rattle.std.specs.Prelude.{nat_lt}
use Rattle.std.proofs.lemmas.Option.{none-some, same_Some}
use Rattle.grammar.specs.Language.{Placed}
use Rattle.grammar.specs.Reading.{◌>>=◌}
use Rattle.grammar.specs.Grammar.{tokens_of, acts}
use Rattle.grammar.proofs.Basics.{acts_split, ok_is, tokens_append}
use Rattle.cdr_values.specs.Trees.{scalar, structure, union, enumeration, members_of, cases_of}
use Rattle.idl_tokens.specs.declared.kind.Kind.{Kind}
use Rattle.idl_grammar.specs.declared.fault.IdlCause.{IdlCause}
use Rattle.idl_grammar.specs.declared.fault.IdlCause.TheVariants as cause
use Rattle.idl_grammar.specs.declared.label.IdlLabel.{IdlLabel}
use Rattle.idl_grammar.specs.declared.label.IdlLabel.TheVariants as l
use Rattle.idl_grammar.specs.IdlRules.{file}
use Rattle.idl_scopes.specs.declared.place.Place.{Place}
use Rattle.idl_scopes.specs.Declaring.{finished}
use Rattle.idl_scopes.specs.Table as table
use Rattle.idl_scopes.specs.Table.{Sort, unfinished, Table}
use Rattle.idl_scopes.specs.Finding.{sort_at, outer, module_in}
use Rattle.idl_scopes.specs.Taking.{is_taken, is_taken_part}
use Rattle.idl_constants.specs.Fitting.{fit}
use Rattle.idl_names.specs.Sizes.{Sized, plus, leaf}
use Rattle.idl_names.specs.State.{Thing, nothing, type, exception, enumerator, Built, nothing_built}
use Rattle.idl_names.specs.Changes.{Done, place_of, unless, newest, opened, thing_at, place_at, with_name, declare_in, declare, entered, enter, become, leave, ended, ends, counted, measured}
use Rattle.idl_names.specs.ScopedNames as names
use Rattle.idl_names.specs.Values as values
use Rattle.idl_names.specs.Bodies as bodies
use Rattle.idl_names.specs.Interfaces as interfaces
use Rattle.idl_names.specs.Labels.{act, judge}
use Rattle.idl_names.specs.Declaring.{idl}
use Rattle.idl_reader.proofs.EachToken.{EachToken}
use Rattle.idl_reader.proofs.Triples.{each_second}
use Rattle.idl_reader.proofs.NameTokens.{is_name, IsPlainName, plain_names}
use Rattle.idl_reader.proofs.KeptNames.{IsOrderly}
use Rattle.idl_reader.proofs.KeptLabels.{declares}
use Rattle.idl_reader.proofs.Places.{Spot, outside, heading, based, named, inside, part, same_spot, spot_is, goes, goes_alone, spots, only_at_names}
use Rattle.idl_reader.proofs.QuietLabels.{Same, itself, leaves_then, leaves_unless, leaves_measured, leaves_counted, leaves_fitting, quiet_act, quiet_judge}
use Rattle.idl_reader.proofs.Standing.{Stands, stands_alone, nothing_orderly}
use Rattle.idl_reader.proofs.Steps.{Gives, gives_ok, gives_err, gives_then}
use Rattle.idl_laws.specs.Earlier.{Keeps, DeclarationsStay}
use Rattle.idl_laws.proofs.Chains.{sentence_leads, so_between}
use Rattle.idl_laws.proofs.Points.{within_leads, kind_stands}
use Rattle.idl_laws.proofs.Kept.{keeps_itself, keeps_then, keeps_same, keeps_added, keeps_finished, added_sort, sort_added, sort_finished}

-- the end of the newest declaration hasn't been read
abbrev pub NewestUnread : Built → Type 0
NewestUnread s = sort_at s.scopes (newest s) ≡ unfinished

-- nor that of the open one
abbrev pub OpenUnread : Built → Type 0
OpenUnread s = sort_at s.scopes (opened s) ≡ unfinished

-- so at each spot
abbrev pub Unread : Spot → Built → Type 0
Unread outside s = Unit {0}
Unread heading s = NewestUnread s
Unread based s = NewestUnread s
Unread named s = NewestUnread s
Unread inside s = OpenUnread s
Unread part s = NewestUnread s × OpenUnread s

-- the table where the open declaration ends, and where the newest does
abbrev table_ended : Sort → Built → Table
table_ended sort x = finished x.scopes (opened x) sort

abbrev table_named : Sort → Built → Table
table_named sort x = finished x.scopes (newest x) sort

-- what a step keeps
abbrev Kept : Built → Built → Type 0
Kept s c = Keeps s.scopes c.scopes

unread_same : (m : Spot) (s c : Built) → s.scopes ≡ c.scopes → s.here ≡ c.here → Unread m s → Unread m c
unread_same outside s c e f h = tt
unread_same heading s c e f h = subst (λ (t : Table). sort_at t (length t.declared - 1) ≡ unfinished) e h
unread_same based s c e f h = subst (λ (t : Table). sort_at t (length t.declared - 1) ≡ unfinished) e h
unread_same named s c e f h = subst (λ (t : Table). sort_at t (length t.declared - 1) ≡ unfinished) e h
unread_same inside s c e f h =
    subst (λ (t : Table). sort_at t (c.here - 1) ≡ unfinished) e (subst (λ (n : ℕ). sort_at s.scopes (n - 1) ≡ unfinished) f h)
unread_same part s c e f h = (
  subst (λ (t : Table). sort_at t (length t.declared - 1) ≡ unfinished) e h.0,
  subst (λ (t : Table). sort_at t (c.here - 1) ≡ unfinished) e (subst (λ (n : ℕ). sort_at s.scopes (n - 1) ≡ unfinished) f h.1),
)

-- ---- names that are declared

-- one declaration more, the newest, with the same scope open
pub record More (scope : ℕ) (sort : Sort) (t : Placed Kind) (s c : Built) : Type 0 where
  pub is : c.scopes ≡ (with_name scope sort nothing t s).scopes
  pub here : c.here ≡ s.here

more_kept : (scope : ℕ) (sort : Sort) (t : Placed Kind) (s c : Built) → More scope sort t s c → Kept s c
more_kept scope sort t s c m = subst (λ (u : Table). Keeps s.scopes u) (sym m.is) (keeps_added scope t.text (place_of t) sort s.scopes)

more_newest : (scope : ℕ) (t : Placed Kind) (s c : Built) → More scope unfinished t s c → NewestUnread c
more_newest scope t s c m =
    let newest_is = added_sort scope t.text (place_of t) unfinished s.scopes in
    subst (λ (u : Table). sort_at u (length u.declared - 1) ≡ unfinished) (sym m.is) newest_is

more_open : (scope : ℕ) (sort : Sort) (t : Placed Kind) (s c : Built) → More scope sort t s c → opened s < length s.scopes.declared
    → OpenUnread s → OpenUnread c
more_open scope sort t s c m less h =
    subst (λ (u : Table). sort_at u (opened c) ≡ unfinished) (sym m.is)
    (subst (λ (n : ℕ). sort_at (with_name scope sort nothing t s).scopes (n - 1) ≡ unfinished) (sym m.here)
    (sort_added scope t.text (place_of t) sort s.scopes (opened s) less ∙ h))

-- a change after a condition
after_unless : (P : Built → Type 0) (b : Bool) (d : IdlCause) (p : Place) (s : Built) (f : Built → Built) → P (f s)
    → Gives P (unless b d p s >>= (λ x. Ok (f x)))
after_unless P true d p s f h = gives_err P _
after_unless P false d p s f h = gives_ok P (f s) h

declares_more : (scope : ℕ) (sort : Sort) (thing : Thing) (t : Placed Kind) (s : Built)
    → Gives (More scope sort t s) (declare_in scope sort thing t s)
declares_more scope sort thing t s =
    let is : More scope sort t s (with_name scope sort thing t s) = record { is = refl; here = refl } in
    let taken = is_taken s.scopes t.text scope in
    after_unless (More scope sort t s) taken cause.Clash (place_of t) s (λ x. with_name scope sort thing t x) is

param_more : (t : Placed Kind) (s : Built) → Gives (More s.here table.other t s) (interfaces.declare_param t s)
param_more t s =
    let is : More s.here table.other t s (with_name s.here table.other nothing t s) = record { is = refl; here = refl } in
    let taken = is_taken_part s.scopes t.text s.here in
    after_unless (More s.here table.other t s) taken cause.Clash (place_of t) s (λ x. with_name x.here table.other nothing t x) is

-- ---- declarations that end

ended_kept : (sort : Sort) (s x : Built) → Same s x → OpenUnread s → Keeps s.scopes (table_ended sort x)
ended_kept sort s x h u =
    subst (λ (t : Table). Keeps t (table_ended sort x)) (sym h.scopes)
    (keeps_finished x.scopes (opened x) sort (unread_same inside s x h.scopes h.here u))

named_kept : (sort : Sort) (s x : Built) → Same s x → NewestUnread s → Keeps s.scopes (table_named sort x)
named_kept sort s x h u =
    subst (λ (t : Table). Keeps t (table_named sort x)) (sym h.scopes)
    (keeps_finished x.scopes (newest x) sort (unread_same named s x h.scopes h.here u))

-- the scope that is open in a body isn't the newest name's
open_after : (s x : Built) → Same s x → Stands part s → OpenUnread s → sort_at (table_named table.other x) (opened x) ≡ unfinished
open_after s x h st u =
    let some = st.0.1.some in
    let less = st.1.1 in
    let paired = st.0.0.paired in
    let other : newest s ≡ opened s → ⊥ = λ e. absurd (omega arith) in
    let there = sort_finished s.scopes (newest s) (opened s) table.other other ∙ u in
    subst (λ (n : ℕ). sort_at (table_named table.other x) (n - 1) ≡ unfinished) h.here
    (subst (λ (t : Table). sort_at (finished t (length t.declared - 1) table.other) (opened s) ≡ unfinished) h.scopes there)

type_kept : (k : Sized) (s : Built) → OpenUnread s → Gives (Kept s) (bodies.ends_type k s)
type_kept k s u =
    let p = place_at s (opened s) in
    gives_then (Same s) (Kept s) (measured k p s >>= counted k.leaves p) (ends table.other (type k))
    (leaves_then s (measured k p s) (counted k.leaves p) (leaves_measured s k p s (itself s)) (λ x h. leaves_counted s k.leaves p x h))
    (λ x h. gives_ok (Kept s) (ended table.other (type k) x) (ended_kept table.other s x h u))

exception_kept : (s : Built) → OpenUnread s → Gives (Kept s) (bodies.end_exception s)
exception_kept s u =
    let p = place_at s (opened s) in
    let thing = exception s.parts.members in
    let first = unless (nat_lt 65536 s.parts.leaves) cause.TooLarge p s in
    gives_then (Same s) (Kept s) (first >>= counted s.parts.leaves p) (ends table.other thing)
    (leaves_then s first (counted s.parts.leaves p) (leaves_unless s (nat_lt 65536 s.parts.leaves) cause.TooLarge p s (itself s))
    (λ x h. leaves_counted s s.parts.leaves p x h))
    (λ x h. gives_ok (Kept s) (ended table.other thing x) (ended_kept table.other s x h u))

operation_kept : (s : Built) → OpenUnread s → Gives (Kept s) (interfaces.end_operation s)
operation_kept s u =
    let n = plus s.parts.leaves 1 in
    let p = place_at s (opened s) in
    gives_then (Same s) (Kept s) (counted n p s) interfaces.operation_ended (leaves_counted s n p s (itself s))
    (λ x h.
    let held = interfaces.with_operation (outer x.scopes x.here) (opened x) x in
    gives_ok (Kept s) (ended table.operation (interfaces.operation_read x) held) (ended_kept table.operation s x h u))

typedef_kept : (s : Built) → NewestUnread s → Gives (Kept s) (bodies.typedef s)
typedef_kept s u =
    let k = bodies.declared_type s in
    let p = place_at s (newest s) in
    gives_then (Same s) (Kept s) (bodies.measured_name s >>= counted k.leaves p) (bodies.type_named k)
    (leaves_then s (bodies.measured_name s) (counted k.leaves p) (leaves_measured s k p s (itself s))
    (λ x h. leaves_counted s k.leaves p x h))
    (λ x h. gives_ok (Kept s) (bodies.named (type k) x) (named_kept table.other s x h u))

const_kept : (s : Built) → NewestUnread s → Gives (Kept s) (values.end_const s)
const_kept s u =
    let p = place_at s (newest s) in
    let f = fit s.type.kind s.value.value in
    gives_then (Same s) (Kept s) (values.fitting f s >>= counted 1 p) values.constant_named
    (leaves_then s (values.fitting f s) (counted 1 p) (leaves_fitting s f s (itself s)) (λ x h. leaves_counted s 1 p x h))
    (λ x h. gives_ok (Kept s) (become (newest x) table.other _ x) (named_kept table.other s x h u))

-- what a step leads to
abbrev Step : Spot → Built → Built → Type 0
Step n s c = Unread n c × Kept s c

member_steps : (s : Built) → Stands part s → Unread part s → Gives (Step inside s) (bodies.member s)
member_steps s st u =
    gives_then (Same s) (Step inside s) (bodies.measured_name s) bodies.member_named
    (leaves_measured s (bodies.declared_type s) (place_at s (newest s)) s (itself s))
    (λ x h. gives_ok (Step inside s) _ (open_after s x h st u.1, named_kept table.other s x h u.0))

case_steps : (s : Built) → Stands part s → Unread part s → Gives (Step inside s) (bodies.case_member s)
case_steps s st u =
    gives_then (Same s) (Step inside s) (bodies.measured_name s) bodies.case_named
    (leaves_measured s (bodies.declared_type s) (place_at s (newest s)) s (itself s))
    (λ x h. gives_ok (Step inside s) _ (open_after s x h st u.1, named_kept table.other s x h u.0))

-- ---- at a token

module_kept : (t : Placed Kind) (s : Built) (o : Option ℕ) → Gives (Kept s) (names.open_module t s o)
module_kept t s (Some i) = gives_ok (Kept s) (record s { here = i + 1 }) (keeps_itself s.scopes)
module_kept t s None =
    gives_then (More s.here table.module_ t s) (Kept s) (declare_in s.here table.module_ nothing t s) enter
    (declares_more s.here table.module_ nothing t s)
    (λ x m. gives_ok (Kept s) (entered x) (more_kept s.here table.module_ t s x m))

open_steps : (t : Placed Kind) (s : Built) → Gives (Step inside s) (declare t s >>= enter)
open_steps t s =
    gives_then (More s.here unfinished t s) (Step inside s) (declare t s) enter (declares_more s.here unfinished nothing t s)
    (λ x m. gives_ok (Step inside s) (entered x) (more_newest s.here t s x m, more_kept s.here unfinished t s x m))

enumerator_steps : (t : Placed Kind) (s : Built) → opened s < length s.scopes.declared → OpenUnread s
    → Gives (Step inside s) (bodies.enumerate t s)
enumerator_steps t s less u =
    let scope = outer s.scopes s.here in
    let thing = enumerator (bodies.open_id s) (length s.parts.enumerators) in
    gives_then (More scope table.other t s) (Step inside s) (declare_in scope table.other thing t s) (bodies.label_named t)
    (declares_more scope table.other thing t s)
    (λ x m. gives_ok (Step inside s) _ (more_open scope table.other t s x m less u, more_kept scope table.other t s x m))

param_steps : (t : Placed Kind) (s : Built) → opened s < length s.scopes.declared → OpenUnread s
    → Gives (Step inside s) (interfaces.param t s)
param_steps t s less u =
    gives_then (More s.here table.other t s) (Step inside s) (interfaces.declare_param t s) (interfaces.param_named t) (param_more t s)
    (λ x m. gives_ok (Step inside s) _ (more_open s.here table.other t s x m less u, more_kept s.here table.other t s x m))

attribute_kept : (t : Placed Kind) (s : Built) → Gives (Kept s) (interfaces.attribute t s)
attribute_kept t s =
    let thing = interfaces.attribute_of s.parts.readonly t.text s.type in
    let first = declare_in s.here table.operation thing t s in
    gives_then (Kept s) (Kept s) (first >>= interfaces.attribute_counted t) interfaces.attribute_held
    (gives_then (More s.here table.operation t s) (Kept s) first (interfaces.attribute_counted t)
    (declares_more s.here table.operation thing t s)
    (λ x m c e.
    let h = leaves_counted x (interfaces.operation_leaves (thing_at x (newest x))) (place_of t) x (itself x) c e in
    subst (λ (u : Table). Keeps s.scopes u) h.scopes (more_kept s.here table.operation t s x m)))
    (λ x k. gives_ok (Kept s) (interfaces.with_operation x.here (newest x) x) k)

goes_to : (m n : Spot) (s c : Built) → Some m ≡ Some n → Step m s c → Step n s c
goes_to m n s c e h = subst (λ (z : Spot). Step z s c) (same_Some m n e) h

inside_within : (s : Built) → IsOrderly s → 0 < s.here → opened s < length s.scopes.declared
inside_within s o some = let i = o.inside in omega arith

step_at : (label : IdlLabel) (m n : Spot) → goes label m ≡ Some n → (t : Placed Kind) (s c : Built) → Stands m s → Unread m s
    → act label t s ≡ Ok c → Step n s c
step_at l.Module outside n e t s c h u a = goes_to outside n s c e (tt, module_kept t s (module_in s.scopes t.text s.here) c a)
step_at l.Module m n e t s c h u a = absurd (none-some n e)
step_at l.EndModule outside n e t s c h u a = goes_to outside n s c e (tt, gives_ok (Kept s) (leave s) (keeps_itself s.scopes) c a)
step_at l.EndModule m n e t s c h u a = absurd (none-some n e)
step_at l.EndInterface outside n e t s c h u a = goes_to outside n s c e (tt, gives_ok (Kept s) (leave s) (keeps_itself s.scopes) c a)
step_at l.EndInterface m n e t s c h u a = absurd (none-some n e)
step_at l.Interface outside n e t s c h u a =
    let m = declares_more s.here unfinished nothing t s c a in
    goes_to heading n s c e (more_newest s.here t s c m, more_kept s.here unfinished t s c m)
step_at l.Interface m n e t s c h u a = absurd (none-some n e)
step_at l.OpenInterface based n e t s c h u a =
    goes_to outside n s c e (tt, gives_ok (Kept s) _ (keeps_finished s.scopes (newest s) (table.interface s.parts.given) u) c a)
step_at l.OpenInterface m n e t s c h u a = absurd (none-some n e)
step_at l.Declare outside n e t s c h u a =
    let m = declares_more s.here unfinished nothing t s c a in
    goes_to named n s c e (more_newest s.here t s c m, more_kept s.here unfinished t s c m)
step_at l.Declare inside n e t s c h u a =
    let m = declares_more s.here unfinished nothing t s c a in
    let opens = more_open s.here unfinished t s c m (inside_within s h.0 h.1.some) u in
    goes_to part n s c e ((more_newest s.here t s c m, opens), more_kept s.here unfinished t s c m)
step_at l.Declare m n e t s c h u a = absurd (none-some n e)
step_at l.Open outside n e t s c h u a = goes_to inside n s c e (open_steps t s c a)
step_at l.Open m n e t s c h u a = absurd (none-some n e)
step_at l.EndStruct inside n e t s c h u a =
    let k : Sized =
    record { kind = structure (bodies.open_id s) (members_of s.parts.members); leaves = s.parts.leaves; levels = plus s.parts.levels 1 } in
    goes_to outside n s c e (tt, type_kept k s u c a)
step_at l.EndStruct m n e t s c h u a = absurd (none-some n e)
step_at l.EndException inside n e t s c h u a = goes_to outside n s c e (tt, exception_kept s u c a)
step_at l.EndException m n e t s c h u a = absurd (none-some n e)
step_at l.EndUnion inside n e t s c h u a =
    let kind = union (bodies.open_id s) s.parts.discriminator (cases_of s.parts.cases) in
    let k : Sized = record { kind = kind; leaves = plus s.parts.leaves 1; levels = plus s.parts.levels 1 } in
    goes_to outside n s c e (tt, type_kept k s u c a)
step_at l.EndUnion m n e t s c h u a = absurd (none-some n e)
step_at l.EndEnum inside n e t s c h u a =
    goes_to outside n s c e (tt, type_kept (leaf (scalar (enumeration (bodies.open_id s) s.parts.enumerators))) s u c a)
step_at l.EndEnum m n e t s c h u a = absurd (none-some n e)
step_at l.Enumerator inside n e t s c h u a = goes_to inside n s c e (enumerator_steps t s (inside_within s h.0 h.1.some) u c a)
step_at l.Enumerator m n e t s c h u a = absurd (none-some n e)
step_at l.Attribute outside n e t s c h u a = goes_to outside n s c e (tt, attribute_kept t s c a)
step_at l.Attribute m n e t s c h u a = absurd (none-some n e)
step_at l.Param inside n e t s c h u a = goes_to inside n s c e (param_steps t s (inside_within s h.0 h.1.some) u c a)
step_at l.Param m n e t s c h u a = absurd (none-some n e)
step_at (l.Refuse d) m n e t s c h u a = absurd cc
step_at label m n e t s c h u a =
    let q = quiet_act label t s refl c a in
    goes_to m n s c e (unread_same m s c q.scopes q.here u, keeps_same s.scopes c.scopes q.scopes)

-- ---- without a token

-- the same names, and the same scope is open
abbrev Alike : Built → Built → Type 0
Alike s c = (s.scopes ≡ c.scopes) × (s.here ≡ c.here)

base_alike : (thing : Thing) (s : Built) → Gives (Alike s) (interfaces.base_named thing s)
base_alike thing s =
    let clash : Built → Done = λ z. unless (interfaces.base_clashes z) cause.Clash z.last z in
    let first = unless (not (interfaces.is_interface thing)) cause.WrongKind s.last s in
    gives_then (Same s) (Alike s) (first >>= clash) interfaces.with_base
    (leaves_then s first clash (leaves_unless s (not (interfaces.is_interface thing)) cause.WrongKind s.last s (itself s))
    (λ x h. leaves_unless s (interfaces.base_clashes x) cause.Clash x.last x h))
    (λ x h. gives_ok (Alike s) _ (h.scopes, h.here))

step_alone : (label : IdlLabel) (m n : Spot) → goes_alone label m ≡ Some n → (s c : Built) → Stands m s → Unread m s → judge label s ≡ Ok c
    → Step n s c
step_alone l.Base heading n e s c h u a =
    let q = base_alike (names.meaning s) s c a in
    goes_to heading n s c e (unread_same heading s c q.0 q.1 u, keeps_same s.scopes c.scopes q.0)
step_alone l.Base m n e s c h u a = absurd (none-some n e)
step_alone l.Inherit heading n e s c h u a =
    let q = quiet_judge l.Inherit s refl c a in
    goes_to based n s c e (unread_same heading s c q.scopes q.here u, keeps_same s.scopes c.scopes q.scopes)
step_alone l.Inherit m n e s c h u a = absurd (none-some n e)
step_alone l.Typedef named n e s c h u a = goes_to outside n s c e (tt, typedef_kept s u c a)
step_alone l.Typedef m n e s c h u a = absurd (none-some n e)
step_alone l.Member part n e s c h u a = goes_to inside n s c e (member_steps s h u c a)
step_alone l.Member m n e s c h u a = absurd (none-some n e)
step_alone l.CaseMember part n e s c h u a = goes_to inside n s c e (case_steps s h u c a)
step_alone l.CaseMember m n e s c h u a = absurd (none-some n e)
step_alone l.EndConst named n e s c h u a = goes_to outside n s c e (tt, const_kept s u c a)
step_alone l.EndConst m n e s c h u a = absurd (none-some n e)
step_alone l.EndOperation inside n e s c h u a = goes_to outside n s c e (tt, operation_kept s u c a)
step_alone l.EndOperation m n e s c h u a = absurd (none-some n e)
step_alone label m n e s c h u a =
    let q = quiet_judge label s refl c a in
    goes_to m n s c e (unread_same m s c q.scopes q.here u, keeps_same s.scopes c.scopes q.scopes)

-- ---- from a point to a later one

-- what is so at a spot, and is kept from a point on
abbrev From : Table → Spot → Built → Type 0
From t m c = (Stands m c × Unread m c) × Keeps t c.scopes

from_below : (t : Table) (m n : Spot) → same_spot m n ≡ true → (s : Built) → From t m s → From t n s
from_below t m n e s h = subst (λ (k : Spot). From t k s) (spot_is m n e) h

from_at : (t : Table) (k : Kind) (label : IdlLabel) (m n : Spot) → spots.at k label m ≡ Some n → (w : Placed Kind)
    → idl.same w.kind k ≡ true → IsPlainName w
    → (s c : Built) → From t m s → act label w s ≡ Ok c → From t n c
from_at t k label m n e w same p s c h a =
    let g = only_at_names (declares label) (is_name k) (goes label m) n e in
    let q = step_at label m n g.0 w s c h.0.0 h.0.1 a in
    ((kind_stands k label m n e w same p s c h.0.0 a, q.0), keeps_then t s.scopes c.scopes h.1 q.1)

from_alone : (t : Table) (label : IdlLabel) (m n : Spot) → goes_alone label m ≡ Some n → (s c : Built) → From t m s → judge label s ≡ Ok c
    → From t n c
from_alone t label m n e s c h a =
    let q = step_alone label m n e s c h.0.0 h.0.1 a in
    ((stands_alone label m n e s c h.0.0 a, q.0), keeps_then t s.scopes c.scopes h.1 q.1)

pub declarations_stay : DeclarationsStay
declarations_stay text before between rest s c p q =
    let start = nothing_built.scopes in
    let keeps = λ (t : Table). so_between idl spots IsPlainName (From t) (from_below t) (from_at t) (from_alone t) in
    let chain = sentence_leads idl spots within_leads 64 file outside outside refl (before ++ (between ++ rest)) p.spelled in
    let tokens = subst (EachToken IsPlainName) p.tokens_are (plain_names text) in
    let first =
    keeps start before (between ++ rest) outside outside nothing_built s chain tokens ((nothing_orderly, tt), keeps_itself start)
    p.acts_are in
    let later =
    each_second IsPlainName (tokens_of before) (tokens_of (between ++ rest))
    (subst (EachToken IsPlainName) (tokens_append before (between ++ rest)) tokens) in
    let m = acts_split idl before between nothing_built c q.acts_are in
    let same : m.0 ≡ s = ok_is m.0 s (sym m.1 ∙ p.acts_are) in
    let goes_on : acts idl between s ≡ Ok c = subst (λ (z : Built). acts idl between z ≡ Ok c) same m.2 in
    let second = keeps s.scopes between rest first.0 outside s c first.2 later (first.1.0, keeps_itself s.scopes) goes_on in
    second.1.1
