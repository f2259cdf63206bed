-- What a label at which a name is declared, or a declaration ends, makes of the things and of the bases that were read.
use Rattle.std.proofs.Common.{◌≡◌, ◌⊎◌, inl, inr, ℕ, ◌+◌, ◌-◌, arith, true, not, List, [], ◌∷◌, ◌++◌, length, length-append, set, Option, Some, None, Ok, refl, sym, ap, subst, ◌∙◌}
use Rattle.std.specs.Prelude.{nat_lt, slice_get}
use Rattle.std.proofs.lemmas.Bool.{cond_both, not-false}
use Rattle.grammar.proofs.Basics.{bind_ok, ok_is}
use Rattle.grammar.specs.Language.{Placed}
use Rattle.grammar.specs.Reading.{◌>>=◌}
use Rattle.cdr_values.specs.Trees.{Kind}
use Rattle.idl_tokens.specs.declared.kind.Kind as token
use Rattle.idl_grammar.specs.declared.fault.IdlCause.TheVariants as cause
use Rattle.idl_scopes.specs.declared.place.Place.{Place}
use Rattle.idl_scopes.specs.Table as table
use Rattle.idl_scopes.specs.Table.{Table, Sort, module_}
use Rattle.idl_scopes.specs.Finding.{outer, scopes_of}
use Rattle.idl_scopes.specs.Taking.{is_taken, is_taken_part}
use Rattle.idl_constants.specs.ConstValues.{Value}
use Rattle.idl_constants.specs.Fitting.{fit}
use Rattle.idl_names.specs.Sizes.{Sized, plus}
use Rattle.idl_names.specs.State.{Thing, nothing, interface, type, exception, constant, enumerator, Built}
use Rattle.idl_names.specs.Changes.{place_of, refused, thing_in, unless, newest, opened, thing_at, place_at, with_name, declare_in, declare, entered, enter, open_body, ended, ends, counted, measured}
use Rattle.idl_names.specs.ScopedNames as names
use Rattle.idl_names.specs.Values as values
use Rattle.idl_names.specs.Bodies as bodies
use Rattle.idl_names.specs.Interfaces as interfaces
use Rattle.idl_reader.proofs.Steps.{Gives, gives_ok, gives_err, gives_then}
use Rattle.idl_reader.proofs.KeptNames.{unless_ok}
use Rattle.idl_reader.proofs.QuietLabels.{Counts, counts_behind, same_leaves, Same, itself, LeavesCounted, counted_counts, Leaves, leaves_unless, leaves_measured, leaves_fitting}

-- one thing more, and the open scope and the bases as before; no leaves are counted
pub record Adds (thing : Thing) (s c : Built) : Type 0 where
  pub newest_is : newest c ≡ length s.scopes.declared
  pub counts : Counts 0 s c
  pub things : c.things ≡ s.things ++ thing ∷ []
  pub here : c.here ≡ s.here
  pub bases : c.parts.bases ≡ s.parts.bases

-- one of the things is set, and so many leaves are counted; the open scope and the bases are as before
pub record Sets (n i : ℕ) (thing : Thing) (s c : Built) : Type 0 where
  pub counts : Counts n s c
  pub things : c.things ≡ set s.things i thing
  pub here : c.here ≡ s.here
  pub bases : c.parts.bases ≡ s.parts.bases

-- one of the things is set at the end of a body, so many leaves are counted, and no bases are left
pub record Ends (n i : ℕ) (thing : Thing) (s c : Built) : Type 0 where
  pub counts : Counts n s c
  pub things : c.things ≡ set s.things i thing
  pub bases : c.parts.bases ≡ []

-- where the leaves are the same
pub counts_as : (n : ℕ) (s x c : Built) → Counts n s x → x.leaves ≡ c.leaves → Counts n s c
counts_as n s x c h e = let a = h.more in record { more = omega arith; within = λ w. let b = h.within w in omega arith }

-- the place of the newest name, where the same is declared
pub newest_same : (s x : Built) → Same s x → newest x ≡ newest s
newest_same s x h = ap (λ (t : Table). length t.declared - 1) (sym h.scopes)

-- and of the open declaration
pub opened_same : (s x : Built) → Same s x → opened x ≡ opened s
opened_same s x h = ap (λ (n : ℕ). n - 1) (sym h.here)

-- a name that is declared is the newest
newest_named : (scope : ℕ) (sort : Sort) (thing : Thing) (t : Placed token.Kind) (s x : Built) → Same s x → newest (with_name scope sort thing t x) ≡ length s.scopes.declared
newest_named scope sort thing t s x h =
    let n = length-append x.scopes.declared (record { scope = scope; name = t.text; place = place_of t; sort = sort } ∷ []) in
    let m : length s.scopes.declared ≡ length x.scopes.declared = ap (λ (u : Table). length u.declared) h.scopes in
    omega arith

-- a name is declared
pub declare_in_adds : (scope : ℕ) (sort : Sort) (thing : Thing) (t : Placed token.Kind) (s : Built) → Gives (Adds thing s) (declare_in scope sort thing t s)
declare_in_adds scope sort thing t s =
    gives_then (Same s) (Adds thing s) (unless (is_taken s.scopes t.text scope) cause.Clash (place_of t) s) (λ x. Ok (with_name scope sort thing t x))
    (leaves_unless s (is_taken s.scopes t.text scope) cause.Clash (place_of t) s (itself s))
    (λ x h. gives_ok (Adds thing s) (with_name scope sort thing t x) (record { newest_is = newest_named scope sort thing t s x h; things = ap (λ (ts : List Thing). ts ++ thing ∷ []) (sym h.things); here = sym h.here; bases = sym h.bases; counts = counts_as 0 s x _ h.counts refl }))

pub declare_adds : (t : Placed token.Kind) (s : Built) → Gives (Adds nothing s) (declare t s)
declare_adds t s = declare_in_adds s.here table.unfinished nothing t s

-- a name is declared, and its body opens
pub record Opens (s c : Built) : Type 0 where
  pub counts : Counts 0 s c
  pub things : c.things ≡ s.things ++ nothing ∷ []
  pub here : c.here ≡ length c.scopes.declared
  pub bases : c.parts.bases ≡ s.parts.bases

pub open_opens : (t : Placed token.Kind) (s : Built) → Gives (Opens s) (open_body t s)
open_opens t s =
    gives_then (Adds nothing s) (Opens s) (declare t s) enter (declare_adds t s)
    (λ x h. gives_ok (Opens s) (entered x) (record { things = h.things; here = refl; bases = h.bases; counts = counts_as 0 s x (entered x) h.counts refl }))

pub enumerate_adds : (t : Placed token.Kind) (s : Built) → Gives (Adds (enumerator (bodies.open_id s) (length s.parts.enumerators)) s) (bodies.enumerate t s)
enumerate_adds t s =
    let thing = enumerator (bodies.open_id s) (length s.parts.enumerators) in
    gives_then (Adds thing s) (Adds thing s) (declare_in (outer s.scopes s.here) table.other thing t s) (bodies.label_named t) (declare_in_adds (outer s.scopes s.here) table.other thing t s)
    (λ x h. gives_ok (Adds thing s) _ (record { newest_is = h.newest_is; things = h.things; here = h.here; bases = h.bases; counts = counts_as 0 s x _ h.counts refl }))

pub param_adds : (t : Placed token.Kind) (s : Built) → Gives (Adds nothing s) (interfaces.param t s)
param_adds t s =
    gives_then (Adds nothing s) (Adds nothing s) (interfaces.declare_param t s) (interfaces.param_named t)
    (gives_then (Same s) (Adds nothing s) (unless (is_taken_part s.scopes t.text s.here) cause.Clash (place_of t) s) (λ x. Ok (with_name x.here table.other nothing t x))
    (leaves_unless s (is_taken_part s.scopes t.text s.here) cause.Clash (place_of t) s (itself s))
    (λ x h. gives_ok (Adds nothing s) (with_name x.here table.other nothing t x) (record { newest_is = newest_named x.here table.other nothing t s x h; things = ap (λ (ts : List Thing). ts ++ nothing ∷ []) (sym h.things); here = sym h.here; bases = sym h.bases; counts = counts_as 0 s x _ h.counts refl })))
    (λ x h. gives_ok (Adds nothing s) _ (record { newest_is = h.newest_is; things = h.things; here = h.here; bases = h.bases; counts = counts_as 0 s x _ h.counts refl }))

-- the newest name becomes this
named_sets : (n : ℕ) (thing : Thing) (s x c : Built) → LeavesCounted n s x → c.things ≡ set x.things (newest x) thing → c.here ≡ x.here → c.parts.bases ≡ x.parts.bases → x.leaves ≡ c.leaves → Sets n (newest s) thing s c
named_sets n thing s x c k a b d e = let h = k.0 in record {
  counts = counts_as n s x c k.1 e;
  things = a ∙ ap (λ (ts : List Thing). set ts (newest x) thing) (sym h.things) ∙ ap (λ (n : ℕ). set s.things n thing) (newest_same s x h);
  here = b ∙ sym h.here;
  bases = d ∙ sym h.bases;
}

leaves_measured_name : (s : Built) → Leaves s (bodies.measured_name s)
leaves_measured_name s = leaves_measured s (bodies.declared_type s) (place_at s (newest s)) s (itself s)

pub typedef_sets : (s : Built) → Gives (Sets (bodies.declared_type s).leaves (newest s) (type (bodies.declared_type s)) s) (bodies.typedef s)
typedef_sets s =
    let k = bodies.declared_type s in
    let p = place_at s (newest s) in
    gives_then (LeavesCounted k.leaves s) (Sets k.leaves (newest s) (type k) s) (bodies.measured_name s >>= counted k.leaves p) (bodies.type_named k)
    (gives_then (Same s) (LeavesCounted k.leaves s) (bodies.measured_name s) (counted k.leaves p) (leaves_measured_name s) (λ x h. counted_counts s k.leaves p x h))
    (λ x h. gives_ok (Sets k.leaves (newest s) (type k) s) (bodies.named (type k) x) (named_sets k.leaves (type k) s x (bodies.named (type k) x) h refl refl refl refl))

pub member_sets : (s : Built) → Gives (Sets 0 (newest s) nothing s) (bodies.member s)
member_sets s =
    gives_then (Same s) (Sets 0 (newest s) nothing s) (bodies.measured_name s) bodies.member_named (leaves_measured_name s)
    (λ x h. gives_ok (Sets 0 (newest s) nothing s) _ (named_sets 0 nothing s x _ (h, h.counts) refl refl refl refl))

pub case_member_sets : (s : Built) → Gives (Sets 0 (newest s) nothing s) (bodies.case_member s)
case_member_sets s =
    gives_then (Same s) (Sets 0 (newest s) nothing s) (bodies.measured_name s) bodies.case_named (leaves_measured_name s)
    (λ x h. gives_ok (Sets 0 (newest s) nothing s) _ (named_sets 0 nothing s x _ (h, h.counts) refl refl refl refl))

-- the newest name becomes a constant
pub record SetsConstant (s c : Built) : Type 0 where
  pub kind : Kind
  pub value : Value
  pub sets : Sets 1 (newest s) (constant kind value) s c

pub end_const_sets : (s : Built) → Gives (SetsConstant s) (values.end_const s)
end_const_sets s =
    let p = place_at s (newest s) in
    gives_then (LeavesCounted 1 s) (SetsConstant s) (values.fitting (fit s.type.kind s.value.value) s >>= counted 1 p) values.constant_named
    (gives_then (Same s) (LeavesCounted 1 s) (values.fitting (fit s.type.kind s.value.value) s) (counted 1 p) (leaves_fitting s (fit s.type.kind s.value.value) s (itself s)) (λ x h. counted_counts s 1 p x h))
    (λ x h. gives_ok (SetsConstant s) _ (record { kind = x.type.kind; value = x.value.value; sets = named_sets 1 (constant x.type.kind x.value.value) s x _ h refl refl refl refl }))

-- the open declaration becomes this, and its body ends
ended_ends : (n : ℕ) (sort : Sort) (thing : Thing) (s x : Built) → LeavesCounted n s x → Ends n (opened s) thing s (ended sort thing x)
ended_ends n sort thing s x k = let h = k.0 in record {
  counts = counts_as n s x (ended sort thing x) k.1 refl;
  things = ap (λ (ts : List Thing). set ts (opened x) thing) (sym h.things) ∙ ap (λ (i : ℕ). set s.things i thing) (opened_same s x h);
  bases = refl;
}

pub type_ends : (k : Sized) (s : Built) → Gives (Ends k.leaves (opened s) (type k) s) (bodies.ends_type k s)
type_ends k s =
    let p = place_at s (opened s) in
    gives_then (LeavesCounted k.leaves s) (Ends k.leaves (opened s) (type k) s) (measured k p s >>= counted k.leaves p) (ends table.other (type k))
    (gives_then (Same s) (LeavesCounted k.leaves s) (measured k p s) (counted k.leaves p) (leaves_measured s k p s (itself s)) (λ x h. counted_counts s k.leaves p x h))
    (λ x h. gives_ok (Ends k.leaves (opened s) (type k) s) (ended table.other (type k) x) (ended_ends k.leaves table.other (type k) s x h))

pub exception_ends : (s : Built) → Gives (Ends s.parts.leaves (opened s) (exception s.parts.members) s) (bodies.end_exception s)
exception_ends s =
    let p = place_at s (opened s) in
    let thing = exception s.parts.members in
    gives_then (LeavesCounted s.parts.leaves s) (Ends s.parts.leaves (opened s) thing s) (unless (nat_lt 65536 s.parts.leaves) cause.TooLarge p s >>= counted s.parts.leaves p) (ends table.other thing)
    (gives_then (Same s) (LeavesCounted s.parts.leaves s) (unless (nat_lt 65536 s.parts.leaves) cause.TooLarge p s) (counted s.parts.leaves p)
    (leaves_unless s (nat_lt 65536 s.parts.leaves) cause.TooLarge p s (itself s)) (λ x h. counted_counts s s.parts.leaves p x h))
    (λ x h. gives_ok (Ends s.parts.leaves (opened s) thing s) (ended table.other thing x) (ended_ends s.parts.leaves table.other thing s x h))

-- a thing with one operation more
abbrev pub gained : ℕ → ℕ → List Thing → List Thing
gained i at ts = set ts i (interfaces.and_operation at (thing_in (slice_get ts i)))

-- what is added is so too where the same is declared
adds_same : (thing : Thing) (s x y : Built) → Adds thing s x → Same x y → Adds thing s y
adds_same thing s x y h k = record { newest_is = newest_same x y k ∙ h.newest_is; things = sym k.things ∙ h.things; here = sym k.here ∙ h.here; bases = sym k.bases ∙ h.bases; counts = counts_behind 0 s x y h.counts k.counts }

-- an attribute is declared and counted, and its interface has it
pub record AddsAttribute (t : Placed token.Kind) (s c : Built) : Type 0 where
  pub things : c.things ≡ gained (s.here - 1) (length s.scopes.declared) (s.things ++ interfaces.attribute_of s.parts.readonly t.text s.type ∷ [])
  pub bases : c.parts.bases ≡ s.parts.bases
  pub counts : Counts (interfaces.operation_leaves (thing_in (slice_get (s.things ++ interfaces.attribute_of s.parts.readonly t.text s.type ∷ []) (length s.scopes.declared)))) s c

attribute_held : (t : Placed token.Kind) (s x y : Built) → Adds (interfaces.attribute_of s.parts.readonly t.text s.type) s x → LeavesCounted (interfaces.operation_leaves (thing_at x (newest x))) x y
    → AddsAttribute t s (interfaces.with_operation y.here (newest y) y)
attribute_held t s x y d q =
    let thing = interfaces.attribute_of s.parts.readonly t.text s.type in
    let k = length s.scopes.declared in
    let a = adds_same thing s x y d q.0 in
    let at : thing_at x (newest x) ≡ thing_in (slice_get (s.things ++ thing ∷ []) k)
    = ap (λ (ts : List Thing). thing_in (slice_get ts (newest x))) d.things ∙ ap (λ (i : ℕ). thing_in (slice_get (s.things ++ thing ∷ []) i)) d.newest_is in
    record {
      things = ap (λ (ts : List Thing). gained (y.here - 1) (newest y) ts) a.things ∙ ap (λ (i : ℕ). gained (i - 1) (newest y) (s.things ++ thing ∷ [])) a.here
          ∙ ap (λ (i : ℕ). gained (s.here - 1) i (s.things ++ thing ∷ [])) a.newest_is;
      bases = a.bases;
      counts = counts_as (interfaces.operation_leaves (thing_in (slice_get (s.things ++ thing ∷ []) k))) s y (interfaces.with_operation y.here (newest y) y)
          (subst (λ (z : Thing). Counts (interfaces.operation_leaves z) s y) at (counts_behind (interfaces.operation_leaves (thing_at x (newest x))) s x y d.counts q.1)) refl;
    }

pub attribute_adds : (t : Placed token.Kind) (s : Built) → Gives (AddsAttribute t s) (interfaces.attribute t s)
attribute_adds t s c e =
    let thing = interfaces.attribute_of s.parts.readonly t.text s.type in
    let first = declare_in s.here table.operation thing t s in
    let m = bind_ok (first >>= interfaces.attribute_counted t) interfaces.attribute_held c e in
    let n = bind_ok first (interfaces.attribute_counted t) m.0 m.1 in
    subst (AddsAttribute t s) (ok_is _ c m.2)
    (attribute_held t s n.0 m.0 (declare_in_adds s.here table.operation thing t s n.0 n.1)
    (counted_counts n.0 (interfaces.operation_leaves (thing_at n.0 (newest n.0))) (place_of t) n.0 (itself n.0) m.0 n.2))

-- an operation ends and is counted, and its interface has it
pub record EndsOperation (s c : Built) : Type 0 where
  pub around : ℕ
  pub read : Built
  pub things : c.things ≡ set (gained around (opened s) s.things) (opened s) (interfaces.operation_read read)
  pub bases : c.parts.bases ≡ []
  pub read_parts : read.parts ≡ s.parts
  pub counts : Counts (plus s.parts.leaves 1) s c

counted_parts : (n : ℕ) (p : Place) (s : Built) → Gives (λ x. x.parts ≡ s.parts) (counted n p s)
counted_parts n p s =
    cond_both (nat_lt 1048576 (s.leaves + n)) (refused cause.TooLarge p) (Ok (record s { leaves = s.leaves + n })) (Gives (λ x. x.parts ≡ s.parts))
    (λ e. gives_err (λ x. x.parts ≡ s.parts) _) (λ e. gives_ok (λ x. x.parts ≡ s.parts) (record s { leaves = s.leaves + n }) refl)

pub operation_ends : (s : Built) → Gives (EndsOperation s) (interfaces.end_operation s)
operation_ends s c e =
    let n = plus s.parts.leaves 1 in
    let p = place_at s (opened s) in
    let m = bind_ok (counted n p s) interfaces.operation_ended c e in
    let x = m.0 in
    let q = counted_counts s n p s (itself s) x m.1 in
    let same = counted_parts n p s x m.1 in
    gives_ok (EndsOperation s) _ (record {
      around = outer x.scopes x.here - 1;
      read = x;
      things = ap (λ (ts : List Thing). set (gained (outer x.scopes x.here - 1) (opened x) ts) (opened x) (interfaces.operation_read x)) (sym q.0.things)
          ∙ ap (λ (i : ℕ). set (gained (outer x.scopes x.here - 1) i s.things) i (interfaces.operation_read x)) (opened_same s x q.0);
      bases = refl;
      read_parts = same;
      counts = counts_as n s x _ q.1 refl;
    }) c m.2

pub interface_opens : (s : Built) → Gives (Ends 0 (newest s) (interface s.parts.bases (interfaces.inherited s)) s) (interfaces.open_interface s)
interface_opens s = gives_ok (Ends 0 (newest s) (interface s.parts.bases (interfaces.inherited s)) s) _ (record { things = refl; bases = refl; counts = same_leaves s _ refl })

-- one base more, which is an interface
pub record AddsBase (s c : Built) : Type 0 where
  pub counts : Counts 0 s c
  pub things : c.things ≡ s.things
  pub here : c.here ≡ s.here
  pub scopes : c.scopes ≡ s.scopes
  pub is : interfaces.is_interface (names.meaning s) ≡ true
  pub bases : c.parts.bases ≡ s.parts.bases ++ names.meant s ∷ []

pub base_adds : (s : Built) → Gives (AddsBase s) (interfaces.base_named (names.meaning s) s)
base_adds s c e =
    let first = unless (not (interfaces.is_interface (names.meaning s))) cause.WrongKind s.last s in
    let second = λ (x : Built). unless (interfaces.base_clashes x) cause.Clash x.last x in
    let m = bind_ok (first >>= second) interfaces.with_base c e in
    let n = bind_ok first second m.0 m.1 in
    let u = unless_ok (not (interfaces.is_interface (names.meaning s))) cause.WrongKind s.last s n.0 n.1 in
    let v = unless_ok (interfaces.base_clashes n.0) cause.Clash n.0.last n.0 m.0 n.2 in
    let same : s ≡ m.0 = u.1 ∙ v.1 in
    subst (λ (x : Built). AddsBase s x) (ap (λ (x : Built). names.renewed (record x { parts = interfaces.and_base (names.meant x) (scopes_of x.scopes (names.meant x)) x.parts })) same ∙ ok_is _ c m.2)
    (record { counts = same_leaves s _ refl; things = refl; here = refl; scopes = refl; is = not-false (interfaces.is_interface (names.meaning s)) u.0; bases = refl })

-- a module opens, anew or again
pub record OpensModule (s c : Built) : Type 0 where
  pub counts : Counts 0 s c
  pub things : (c.things ≡ s.things) ⊎ (c.things ≡ s.things ++ nothing ∷ [])
  pub bases : c.parts.bases ≡ s.parts.bases

pub module_opens : (t : Placed token.Kind) (s : Built) (o : Option ℕ) → Gives (OpensModule s) (names.open_module t s o)
module_opens t s (Some i) = gives_ok (OpensModule s) _ (record { things = inl refl; bases = refl; counts = same_leaves s _ refl })
module_opens t s None =
    gives_then (Adds nothing s) (OpensModule s) (declare_in s.here module_ nothing t s) enter (declare_in_adds s.here module_ nothing t s)
    (λ x h. gives_ok (OpensModule s) (entered x) (record { things = inr h.things; bases = h.bases; counts = counts_as 0 s x (entered x) h.counts refl }))
