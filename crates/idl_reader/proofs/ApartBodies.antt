-- The names of members, cases and enumerators are told apart in each body of a text.
use Rattle.std.proofs.Common.{◌≡◌, ℕ, ◌+◌, ◌-◌, ◌<◌, true, List, [], ◌∷◌, ◌++◌, length, Option, Some, None, Ok, refl, sym, ap, subst, ◌∙◌}
use Rattle.std.specs.Prelude.{nat_lt}
use Rattle.std.proofs.lemmas.Option.{none-some, same_Some, slice_get_within}
use Rattle.grammar.specs.Language.{Placed}
use Rattle.grammar.specs.Reading.{◌>>=◌}
use Rattle.grammar.proofs.Basics.{bind_ok, ok_is}
use Rattle.cdr_values.specs.Trees as trees
use Rattle.cdr_values.specs.Trees.{scalar, structure, union, enumeration, members_of, cases_of, Branch}
use Rattle.cdr_values.specs.Lawful.{member_names}
use Rattle.idl_tokens.specs.declared.kind.Kind.{Kind}
use Rattle.idl_grammar.specs.declared.fault.IdlCause.TheVariants as cause
use Rattle.idl_grammar.specs.declared.label.IdlLabel.{IdlLabel}
use Rattle.idl_grammar.specs.declared.label.IdlLabel.TheVariants as l
use Rattle.idl_scopes.specs.declared.place.Place.{Place}
use Rattle.idl_scopes.specs.Table as table
use Rattle.idl_scopes.specs.Table.{Sort, Table, module_}
use Rattle.idl_scopes.specs.Finding.{lowered, name_at, outer, module_in}
use Rattle.idl_scopes.specs.Taking.{is_taken, is_taken_part}
use Rattle.idl_scopes.specs.Declaring.{added}
use Rattle.idl_scopes.proofs.NotTaken.{absent_here}
use Rattle.idl_constants.specs.Fitting.{fit}
use Rattle.idl_types.specs.Apart.{case_names}
use Rattle.idl_names.specs.Sizes.{Sized, plus, leaf}
use Rattle.idl_names.specs.State.{Thing, nothing, type, exception, enumerator, Built}
use Rattle.idl_names.specs.Changes.{Done, place_of, unless, newest, opened, thing_at, place_at, with_name, declare_in, declare, entered, open_body, leave, ended, ends, counted, measured}
use Rattle.idl_names.specs.ScopedNames as names
use Rattle.idl_names.specs.Values as values
use Rattle.idl_names.specs.Bodies as bodies
use Rattle.idl_names.specs.Interfaces as interfaces
use Rattle.idl_names.specs.Labels.{act, judge}
use Rattle.idl_names.specs.Whole.{Declares}
use Rattle.idl_reader.proofs.Steps.{Gives, gives_ok, gives_then}
use Rattle.idl_reader.proofs.KeptNames.{IsOrderly, unless_ok}
use Rattle.idl_reader.proofs.QuietLabels.{body_of, Same, itself, leaves_then, leaves_unless, leaves_counted, leaves_measured, leaves_fitting, quiet_act, quiet_judge}
use Rattle.idl_reader.proofs.Places.{Spot, outside, heading, based, named, inside, part, goes, goes_alone}
use Rattle.idl_reader.proofs.Standing.{Stands, IsOpened, standing_keeps}
use Rattle.idl_reader.proofs.DeclaredNames.{AreNamed, none_named, named_more, named_behind, declared_is, newest_name, outer_finished, outer_added}
use Rattle.idl_reader.proofs.ToldTypes.{AreTypesTold, AreBodiesApart, ends_body, told_at, told_alone, nothing_told}

abbrev pub Body : Type 0
Body = List (List ℕ × trees.Kind) × List Branch × List (List ℕ) × List ℕ × List ℕ

abbrev pub no_body : Body
no_body = ([], [], [], [], [])

-- the names of members and cases are declared in the open scope, and enumerators in the one around it
pub record InBody (t : Table) (here : ℕ) (b : Body) : Type 0 where
  members : AreNamed t.keys here (member_names (members_of b.0))
  cases : AreNamed t.keys here (case_names (cases_of b.1))
  enumerators : AreNamed t.keys (outer t here) b.2

-- and the newest name is none of them
pub record InPart (t : Table) (here : ℕ) (b : Body) : Type 0 where
  whole : InBody t here b
  member : AreNamed t.keys here (member_names (members_of b.0) ++ name_at t (length t.declared - 1) ∷ [])
  case_is : AreNamed t.keys here (case_names (cases_of b.1) ++ name_at t (length t.declared - 1) ∷ [])

abbrev pub NamesAt : Spot → Built → Type 0
NamesAt inside s = InBody s.scopes s.here (body_of s.parts)
NamesAt part s = InPart s.scopes s.here (body_of s.parts)
NamesAt outside s = body_of s.parts ≡ no_body
NamesAt heading s = Unit {0}
NamesAt based s = Unit {0}
NamesAt named s = body_of s.parts ≡ no_body

-- where the same is declared
names_same : (m : Spot) (s c : Built) → Same s c → NamesAt m s → NamesAt m c
names_same inside s c k h = subst (λ (b : Body). InBody c.scopes c.here b) k.body (subst (λ (n : ℕ). InBody c.scopes n (body_of s.parts)) k.here (subst (λ (t : Table). InBody t s.here (body_of s.parts)) k.scopes h))
names_same part s c k h = subst (λ (b : Body). InPart c.scopes c.here b) k.body (subst (λ (n : ℕ). InPart c.scopes n (body_of s.parts)) k.here (subst (λ (t : Table). InPart t s.here (body_of s.parts)) k.scopes h))
names_same outside s c k h = sym k.body ∙ h
names_same heading s c k h = tt
names_same based s c k h = tt
names_same named s c k h = sym k.body ∙ h

empty_body : (t : Table) (here : ℕ) (b : Body) → b ≡ no_body → InBody t here b
empty_body t here b e = subst (InBody t here) (sym e) (record { members = none_named t.keys here; cases = none_named t.keys here; enumerators = none_named t.keys (outer t here) })

-- a name more
body_added : (scope : ℕ) (name : List ℕ) (at : Place) (sort : Sort) (t : Table) (here : ℕ) (b : Body) → here - 1 < length t.declared → InBody t here b → InBody (added scope name at sort t) here b
body_added scope name at sort t here b less h =
    let one = (scope, lowered name) ∷ [] in
    record {
      members = named_more t.keys one here (member_names (members_of b.0)) h.members;
      cases = named_more t.keys one here (case_names (cases_of b.1)) h.cases;
      enumerators = subst (λ (n : ℕ). AreNamed (t.keys ++ one) n b.2) (sym (outer_added scope name at sort t here less)) (named_more t.keys one (outer t here) b.2 h.enumerators);
    }

open_within : (s : Built) → IsOrderly s → IsOpened s → s.here - 1 < length s.scopes.declared
open_within s o h = subst (λ (n : ℕ). s.here - 1 < n) o.paired (slice_get_within s.things (s.here - 1) nothing h.there)

members_behind : (ms : List (List ℕ × trees.Kind)) (m : List ℕ × trees.Kind) → member_names (members_of (ms ++ m ∷ [])) ≡ member_names (members_of ms) ++ m.0 ∷ []
members_behind [] m = refl
members_behind (x ∷ ms) m = ap (λ (ns : List (List ℕ)). x.0 ∷ ns) (members_behind ms m)

cases_behind : (cs : List Branch) (c : Branch) → case_names (cases_of (cs ++ c ∷ [])) ≡ case_names (cases_of cs) ++ c.2 ∷ []
cases_behind [] c = refl
cases_behind (x ∷ cs) c = ap (λ (ns : List (List ℕ)). x.2 ∷ ns) (cases_behind cs c)

-- the name of a member or a case is declared
declare_part : (t : Placed Kind) (s c : Built) → s.here - 1 < length s.scopes.declared → declare t s ≡ Ok c → InBody s.scopes s.here (body_of s.parts) → InPart c.scopes c.here (body_of c.parts)
declare_part t s c less e h =
    let q = declared_is s.here table.unfinished nothing t s c e in
    let absent = absent_here s.scopes t.text s.here q.0 in
    let new = added s.here t.text (place_of t) table.unfinished s.scopes in
    let same : t.text ≡ name_at new (length new.declared - 1) = sym (newest_name s.here t.text (place_of t) table.unfinished s.scopes) in
    subst (λ (x : Built). InPart x.scopes x.here (body_of x.parts)) q.1 (record {
      whole = body_added s.here t.text (place_of t) table.unfinished s.scopes s.here (body_of s.parts) less h;
      member = subst (λ (n : List ℕ). AreNamed new.keys s.here (member_names (members_of s.parts.members) ++ n ∷ [])) same (named_behind s.scopes.keys s.here t.text (member_names (members_of s.parts.members)) absent h.members);
      case_is = subst (λ (n : List ℕ). AreNamed new.keys s.here (case_names (cases_of s.parts.cases) ++ n ∷ [])) same (named_behind s.scopes.keys s.here t.text (case_names (cases_of s.parts.cases)) absent h.cases);
    })

-- it is a member, or a case
member_body : (s c : Built) → bodies.member s ≡ Ok c → InPart s.scopes s.here (body_of s.parts) → InBody c.scopes c.here (body_of c.parts)
member_body s c e h =
    let k = bodies.declared_type s in
    let m = bind_ok (bodies.measured_name s) bodies.member_named c e in
    let u = unless_ok _ cause.TooLarge (place_at s (newest s)) s m.0 m.1 in
    let q = subst (λ (x : Built). bodies.member_named x ≡ Ok c) (sym u.1) m.2 in
    let name = name_at s.scopes (newest s) in
    subst (λ (x : Built). InBody x.scopes x.here (body_of x.parts)) (ok_is _ c q) (record {
      members = subst (AreNamed s.scopes.keys s.here) (sym (members_behind s.parts.members (name, k.kind))) h.member;
      cases = h.whole.cases;
      enumerators = subst (λ (n : ℕ). AreNamed s.scopes.keys n s.parts.enumerators) (sym (outer_finished s.scopes (newest s) table.other s.here)) h.whole.enumerators;
    })

case_body : (s c : Built) → bodies.case_member s ≡ Ok c → InPart s.scopes s.here (body_of s.parts) → InBody c.scopes c.here (body_of c.parts)
case_body s c e h =
    let k = bodies.declared_type s in
    let m = bind_ok (bodies.measured_name s) bodies.case_named c e in
    let u = unless_ok _ cause.TooLarge (place_at s (newest s)) s m.0 m.1 in
    let q = subst (λ (x : Built). bodies.case_named x ≡ Ok c) (sym u.1) m.2 in
    let name = name_at s.scopes (newest s) in
    subst (λ (x : Built). InBody x.scopes x.here (body_of x.parts)) (ok_is _ c q) (record {
      members = h.whole.members;
      cases = subst (AreNamed s.scopes.keys s.here) (sym (cases_behind s.parts.cases (s.parts.labels, s.parts.is_default, name, k.kind))) h.case_is;
      enumerators = subst (λ (n : ℕ). AreNamed s.scopes.keys n s.parts.enumerators) (sym (outer_finished s.scopes (newest s) table.other s.here)) h.whole.enumerators;
    })

-- an enumerator is declared in the scope around
enumerate_body : (t : Placed Kind) (s c : Built) → s.here - 1 < length s.scopes.declared → bodies.enumerate t s ≡ Ok c → InBody s.scopes s.here (body_of s.parts) → InBody c.scopes c.here (body_of c.parts)
enumerate_body t s c less e h =
    let thing = enumerator (bodies.open_id s) (length s.parts.enumerators) in
    let scope = outer s.scopes s.here in
    let m = bind_ok (declare_in scope table.other thing t s) (bodies.label_named t) c e in
    let q = declared_is scope table.other thing t s m.0 m.1 in
    let absent = absent_here s.scopes t.text scope q.0 in
    let r = subst (λ (x : Built). bodies.label_named t x ≡ Ok c) (sym q.1) m.2 in
    let b = body_added scope t.text (place_of t) table.other s.scopes s.here (body_of s.parts) less h in
    let new = added scope t.text (place_of t) table.other s.scopes in
    subst (λ (x : Built). InBody x.scopes x.here (body_of x.parts)) (ok_is _ c r) (record {
      members = b.members;
      cases = b.cases;
      enumerators = subst (λ (n : ℕ). AreNamed new.keys n (s.parts.enumerators ++ t.text ∷ [])) (sym (outer_added scope t.text (place_of t) table.other s.scopes s.here less))
          (named_behind s.scopes.keys scope t.text s.parts.enumerators absent h.enumerators);
    })

-- a parameter is declared in the open scope
param_body : (t : Placed Kind) (s c : Built) → s.here - 1 < length s.scopes.declared → interfaces.param t s ≡ Ok c → InBody s.scopes s.here (body_of s.parts) → InBody c.scopes c.here (body_of c.parts)
param_body t s c less e h =
    let first = unless (is_taken_part s.scopes t.text s.here) cause.Clash (place_of t) s in
    let second : Built → Done = λ x. Ok (with_name x.here table.other nothing t x) in
    let m = bind_ok (interfaces.declare_param t s) (interfaces.param_named t) c e in
    let n = bind_ok first second m.0 m.1 in
    let u = unless_ok (is_taken_part s.scopes t.text s.here) cause.Clash (place_of t) s n.0 n.1 in
    let y : with_name s.here table.other nothing t s ≡ m.0 = ap (λ (x : Built). with_name x.here table.other nothing t x) u.1 ∙ ok_is _ m.0 n.2 in
    let z = ap (λ (x : Built). record x { parts = interfaces.with_param t.text x.type x.parts }) y ∙ ok_is _ c m.2 in
    let b = body_added s.here t.text (place_of t) table.other s.scopes s.here (body_of s.parts) less h in
    subst (λ (x : Built). InBody x.scopes x.here (body_of x.parts)) z (record { members = b.members; cases = b.cases; enumerators = b.enumerators })

-- outside of bodies none is read
abbrev BodySame : Built → Built → Type 0
BodySame s c = body_of c.parts ≡ body_of s.parts

abbrev NoBody : Built → Type 0
NoBody c = body_of c.parts ≡ no_body

same_behind : (s : Built) (r : Done) (f : Built → Built) → Gives (Same s) r → ((x : Built) → body_of (f x).parts ≡ body_of x.parts) → Gives (BodySame s) (r >>= (λ x. Ok (f x)))
same_behind s r f h a = gives_then (Same s) (BodySame s) r (λ x. Ok (f x)) h (λ x k. gives_ok (BodySame s) (f x) (a x ∙ sym k.body))

same_further : (s : Built) (r : Done) (f : Built → Built) → Gives (BodySame s) r → ((x : Built) → body_of (f x).parts ≡ body_of x.parts) → Gives (BodySame s) (r >>= (λ x. Ok (f x)))
same_further s r f h a = gives_then (BodySame s) (BodySame s) r (λ x. Ok (f x)) h (λ x k. gives_ok (BodySame s) (f x) (a x ∙ k))

declare_in_same : (scope : ℕ) (sort : Sort) (thing : Thing) (t : Placed Kind) (s : Built) → Gives (BodySame s) (declare_in scope sort thing t s)
declare_in_same scope sort thing t s =
    same_behind s (unless (is_taken s.scopes t.text scope) cause.Clash (place_of t) s) (λ x. with_name scope sort thing t x) (leaves_unless s (is_taken s.scopes t.text scope) cause.Clash (place_of t) s (itself s)) (λ x. refl)

open_same : (t : Placed Kind) (s : Built) → Gives (BodySame s) (open_body t s)
open_same t s = same_further s (declare t s) entered (declare_in_same s.here table.unfinished nothing t s) (λ x. refl)

module_same : (t : Placed Kind) (s : Built) (o : Option ℕ) → Gives (BodySame s) (names.open_module t s o)
module_same t s (Some i) = gives_ok (BodySame s) (record s { here = i + 1 }) refl
module_same t s None = same_further s (declare_in s.here module_ nothing t s) entered (declare_in_same s.here module_ nothing t s) (λ x. refl)

attribute_same : (t : Placed Kind) (s : Built) → Gives (BodySame s) (interfaces.attribute t s)
attribute_same t s =
    let thing = interfaces.attribute_of s.parts.readonly t.text s.type in
    same_further s (declare_in s.here table.operation thing t s >>= interfaces.attribute_counted t) (λ x. interfaces.with_operation x.here (newest x) x)
    (gives_then (BodySame s) (BodySame s) (declare_in s.here table.operation thing t s) (interfaces.attribute_counted t) (declare_in_same s.here table.operation thing t s)
    (λ x g y e. sym (leaves_counted x (interfaces.operation_leaves (thing_at x (newest x))) (place_of t) x (itself x) y e).body ∙ g)) (λ x. refl)

counted_behind : (s : Built) (n : ℕ) (p : Place) (r : Done) → Gives (Same s) r → Gives (Same s) (r >>= counted n p)
counted_behind s n p r h = leaves_then s r (counted n p) h (λ x k. leaves_counted s n p x k)

typedef_same : (s : Built) → Gives (BodySame s) (bodies.typedef s)
typedef_same s =
    let k = bodies.declared_type s in
    let p = place_at s (newest s) in
    same_behind s (bodies.measured_name s >>= counted k.leaves p) (bodies.named (type k)) (counted_behind s k.leaves p (bodies.measured_name s) (leaves_measured s k p s (itself s))) (λ x. refl)

const_same : (s : Built) → Gives (BodySame s) (values.end_const s)
const_same s =
    let p = place_at s (newest s) in
    same_behind s (values.fitting (fit s.type.kind s.value.value) s >>= counted 1 p) _
    (counted_behind s 1 p (values.fitting (fit s.type.kind s.value.value) s) (leaves_fitting s (fit s.type.kind s.value.value) s (itself s))) (λ x. refl)

ends_none : (s : Built) (r : Done) (sort : Sort) (thing : Thing) → Gives (Same s) r → Gives NoBody (r >>= ends sort thing)
ends_none s r sort thing h = gives_then (Same s) NoBody r (ends sort thing) h (λ x k. gives_ok NoBody (ended sort thing x) refl)

type_none : (k : Sized) (s : Built) → Gives NoBody (bodies.ends_type k s)
type_none k s =
    let p = place_at s (opened s) in
    ends_none s (measured k p s >>= counted k.leaves p) table.other (type k) (counted_behind s k.leaves p (measured k p s) (leaves_measured s k p s (itself s)))

exception_none : (s : Built) → Gives NoBody (bodies.end_exception s)
exception_none s =
    let p = place_at s (opened s) in
    let first = unless (nat_lt 65536 s.parts.leaves) cause.TooLarge p s in
    ends_none s (first >>= counted s.parts.leaves p) table.other (exception s.parts.members) (counted_behind s s.parts.leaves p first (leaves_unless s (nat_lt 65536 s.parts.leaves) cause.TooLarge p s (itself s)))

operation_none : (s : Built) → Gives NoBody (interfaces.end_operation s)
operation_none s =
    gives_then (Same s) NoBody (counted (plus s.parts.leaves 1) (place_at s (opened s)) s) interfaces.operation_ended (leaves_counted s (plus s.parts.leaves 1) (place_at s (opened s)) s (itself s))
    (λ x k. gives_ok NoBody _ refl)

-- what each label keeps so at its token
pub names_at : (label : IdlLabel) (m n : Spot) → goes label m ≡ Some n → (t : Placed Kind) → (s c : Built) → Stands m s → NamesAt m s → act label t s ≡ Ok c → NamesAt n c
names_at l.Module outside n e t s c w h a = subst (λ (k : Spot). NamesAt k c) (same_Some outside n e) (module_same t s (module_in s.scopes t.text s.here) c a ∙ h)
names_at l.Module m n e t s c w h a = absurd (none-some n e)
names_at l.EndModule outside n e t s c w h a = subst (λ (k : Spot). NamesAt k c) (same_Some outside n e) (gives_ok NoBody (leave s) refl c a)
names_at l.EndModule m n e t s c w h a = absurd (none-some n e)
names_at l.EndInterface outside n e t s c w h a = subst (λ (k : Spot). NamesAt k c) (same_Some outside n e) (gives_ok NoBody (leave s) refl c a)
names_at l.EndInterface m n e t s c w h a = absurd (none-some n e)
names_at l.Interface outside n e t s c w h a = subst (λ (k : Spot). NamesAt k c) (same_Some heading n e) tt
names_at l.Interface m n e t s c w h a = absurd (none-some n e)
names_at l.OpenInterface based n e t s c w h a = subst (λ (k : Spot). NamesAt k c) (same_Some outside n e) (gives_ok NoBody _ refl c a)
names_at l.OpenInterface m n e t s c w h a = absurd (none-some n e)
names_at l.Declare outside n e t s c w h a = subst (λ (k : Spot). NamesAt k c) (same_Some named n e) (declare_in_same s.here table.unfinished nothing t s c a ∙ h)
names_at l.Declare inside n e t s c w h a = subst (λ (k : Spot). NamesAt k c) (same_Some part n e) (declare_part t s c (open_within s w.0 w.1) a h)
names_at l.Declare m n e t s c w h a = absurd (none-some n e)
names_at l.Open outside n e t s c w h a = subst (λ (k : Spot). NamesAt k c) (same_Some inside n e) (empty_body c.scopes c.here (body_of c.parts) (open_same t s c a ∙ h))
names_at l.Open m n e t s c w h a = absurd (none-some n e)
names_at l.EndStruct inside n e t s c w h a =
    subst (λ (k : Spot). NamesAt k c) (same_Some outside n e)
    (type_none (record { kind = structure (bodies.open_id s) (members_of s.parts.members); leaves = s.parts.leaves; levels = plus s.parts.levels 1 }) s c a)
names_at l.EndStruct m n e t s c w h a = absurd (none-some n e)
names_at l.EndException inside n e t s c w h a = subst (λ (k : Spot). NamesAt k c) (same_Some outside n e) (exception_none s c a)
names_at l.EndException m n e t s c w h a = absurd (none-some n e)
names_at l.EndUnion inside n e t s c w h a =
    subst (λ (k : Spot). NamesAt k c) (same_Some outside n e)
    (type_none (record { kind = union (bodies.open_id s) s.parts.discriminator (cases_of s.parts.cases); leaves = plus s.parts.leaves 1; levels = plus s.parts.levels 1 }) s c a)
names_at l.EndUnion m n e t s c w h a = absurd (none-some n e)
names_at l.EndEnum inside n e t s c w h a =
    subst (λ (k : Spot). NamesAt k c) (same_Some outside n e) (type_none (leaf (scalar (enumeration (bodies.open_id s) s.parts.enumerators))) s c a)
names_at l.EndEnum m n e t s c w h a = absurd (none-some n e)
names_at l.Enumerator inside n e t s c w h a = subst (λ (k : Spot). NamesAt k c) (same_Some inside n e) (enumerate_body t s c (open_within s w.0 w.1) a h)
names_at l.Enumerator m n e t s c w h a = absurd (none-some n e)
names_at l.Attribute outside n e t s c w h a = subst (λ (k : Spot). NamesAt k c) (same_Some outside n e) (attribute_same t s c a ∙ h)
names_at l.Attribute m n e t s c w h a = absurd (none-some n e)
names_at l.Param inside n e t s c w h a = subst (λ (k : Spot). NamesAt k c) (same_Some inside n e) (param_body t s c (open_within s w.0 w.1) a h)
names_at l.Param m n e t s c w h a = absurd (none-some n e)
names_at (l.Refuse d) m n e t s c w h a = absurd cc
names_at label m n e t s c w h a = subst (λ (k : Spot). NamesAt k c) (same_Some m n e) (names_same m s c (quiet_act label t s refl c a) h)

-- and without a token
pub names_alone : (label : IdlLabel) (m n : Spot) → goes_alone label m ≡ Some n → (s c : Built) → Stands m s → NamesAt m s → judge label s ≡ Ok c → NamesAt n c
names_alone l.Base heading n e s c w h a = subst (λ (k : Spot). NamesAt k c) (same_Some heading n e) tt
names_alone l.Base m n e s c w h a = absurd (none-some n e)
names_alone l.Inherit heading n e s c w h a = subst (λ (k : Spot). NamesAt k c) (same_Some based n e) tt
names_alone l.Inherit m n e s c w h a = absurd (none-some n e)
names_alone l.Typedef named n e s c w h a = subst (λ (k : Spot). NamesAt k c) (same_Some outside n e) (typedef_same s c a ∙ h)
names_alone l.Typedef m n e s c w h a = absurd (none-some n e)
names_alone l.Member part n e s c w h a = subst (λ (k : Spot). NamesAt k c) (same_Some inside n e) (member_body s c a h)
names_alone l.Member m n e s c w h a = absurd (none-some n e)
names_alone l.CaseMember part n e s c w h a = subst (λ (k : Spot). NamesAt k c) (same_Some inside n e) (case_body s c a h)
names_alone l.CaseMember m n e s c w h a = absurd (none-some n e)
names_alone l.EndConst named n e s c w h a = subst (λ (k : Spot). NamesAt k c) (same_Some outside n e) (const_same s c a ∙ h)
names_alone l.EndConst m n e s c w h a = absurd (none-some n e)
names_alone l.EndOperation inside n e s c w h a = subst (λ (k : Spot). NamesAt k c) (same_Some outside n e) (operation_none s c a)
names_alone l.EndOperation m n e s c w h a = absurd (none-some n e)
names_alone label m n e s c w h a = subst (λ (k : Spot). NamesAt k c) (same_Some m n e) (names_same m s c (quiet_judge label s refl c a) h)

-- a body that ends has its names told apart
ends_inside : (label : IdlLabel) (m n : Spot) → goes label m ≡ Some n → (s : Built) → NamesAt m s → ends_body label ≡ true → AreBodiesApart s
ends_inside l.EndStruct inside n e s h q = record { members = h.members.apart; cases = h.cases.apart; enumerators = h.enumerators.apart }
ends_inside l.EndStruct m n e s h q = absurd (none-some n e)
ends_inside l.EndException inside n e s h q = record { members = h.members.apart; cases = h.cases.apart; enumerators = h.enumerators.apart }
ends_inside l.EndException m n e s h q = absurd (none-some n e)
ends_inside l.EndUnion inside n e s h q = record { members = h.members.apart; cases = h.cases.apart; enumerators = h.enumerators.apart }
ends_inside l.EndUnion m n e s h q = absurd (none-some n e)
ends_inside l.EndEnum inside n e s h q = record { members = h.members.apart; cases = h.cases.apart; enumerators = h.enumerators.apart }
ends_inside l.EndEnum m n e s h q = absurd (none-some n e)
ends_inside label m n e s h q = absurd cc

-- the types of a text
pub told_text : (text : List ℕ) (new : Built) → Declares text new → AreTypesTold new
told_text text new w =
    (standing_keeps (λ m s. AreTypesTold s × NamesAt m s)
    (λ label m n e t s c st h a. (told_at label t s (ends_inside label m n e s h.1) h.0 c a, names_at label m n e t s c st h.1 a))
    (λ label m n e s c st h a. (told_alone label s h.0 c a, names_alone label m n e s c st h.1 a)) (nothing_told, refl) text new w).0
