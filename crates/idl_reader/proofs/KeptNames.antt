-- Scopes stay in order at each label of the grammar, where a name is declared at a token of a name.
use Rattle.std.proofs.Common.{◌≡◌, ℕ, ◌+◌, ◌-◌, ◌≤◌, arith, Bool, true, false, List, [], ◌∷◌, ◌++◌, length, length-append, map, codes, set, Option, Some, None, Ok, Err, refl, sym, ap, subst, ◌∙◌}
use Rattle.std.specs.Prelude.{◌||◌, nat_lt, slice_get}
use Rattle.std.specs.List.{list_any}
use Rattle.std.proofs.lemmas.Bool.{cond_both, both_ways, or_parts}
use Rattle.std.proofs.lemmas.Slice.Eq.{bytes_eq-Decides}
use Rattle.std.specs.Str.{str_eq_ignore_ascii_case}
use Rattle.std.proofs.lemmas.List.{map-append, length-map, length-set}
use Rattle.grammar.specs.Language.{Placed}
use Rattle.grammar.specs.Reading.{◌>>=◌}
use Rattle.grammar.proofs.Basics.{bind_ok, ok_is}
use Rattle.idl_tokens.specs.declared.kind.Kind.{Kind}
use Rattle.idl_grammar.specs.declared.fault.IdlFault.{IdlFault}
use Rattle.idl_grammar.specs.declared.fault.IdlCause.{IdlCause}
use Rattle.idl_grammar.specs.declared.fault.IdlCause.TheVariants as cause
use Rattle.idl_scopes.specs.declared.place.Place.{Place}
use Rattle.idl_scopes.specs.Table.{Sort, Declared, Table}
use Rattle.idl_scopes.specs.Table as table
use Rattle.idl_scopes.specs.Finding.{lowered, is_at, above, outer}
use Rattle.idl_scopes.specs.Taking.{is_in, is_owner, is_operation_in, is_taken, is_taken_part}
use Rattle.idl_scopes.specs.Declaring.{finished_in}
use Rattle.idl_scopes.proofs.NotTaken.{absent_here}
use Rattle.idl_constants.specs.Fitting.{Fit}
use Rattle.idl_names.specs.Sizes.{Sized}
use Rattle.idl_names.specs.State.{Thing, nothing, Built}
use Rattle.idl_names.specs.Changes.{Done, place_of, refused, unless, newest, opened, with_name, declare_in, declare, entered, enter, set_thing, become, leave, ended, ends, counted, measured}
use Rattle.idl_names.specs.Values as values
use Rattle.idl_names.specs.Bodies as bodies
use Rattle.idl_reader.proofs.NameTokens.{IsNameText}
use Rattle.idl_reader.proofs.Tables.{known, known_in, key_of, AreInOrder, one_more_name, IsFree, free_more, same_known, known_added, in_order}
use Rattle.idl_reader.proofs.Steps.{Gives, gives_ok, gives_err, gives_then, gives_unless}

-- the scopes are in order, each declaration has its key and its thing, the open scope is one of them, and the built-in module is none
pub record IsOrderly (s : Built) : Type 0 where
  pub names : AreInOrder (known_in s.scopes.declared)
  pub keyed : s.scopes.keys ≡ map key_of (known_in s.scopes.declared)
  pub inside : s.here ≤ length s.scopes.declared
  pub free : IsFree (known_in s.scopes.declared)
  pub paired : length s.things ≡ length s.scopes.declared

-- the same scopes and things are so too
pub like : (s c : Built) → IsOrderly s → s.scopes ≡ c.scopes → s.here ≡ c.here → s.things ≡ c.things → IsOrderly c
like s c o a b d =
    let x : length s.scopes.declared ≡ length c.scopes.declared = ap (λ (t : Table). length t.declared) a in
    let y : length s.things ≡ length c.things = ap (λ (ts : List Thing). length ts) d in
    let i = o.inside in
    let p = o.paired in
    record {
      names = subst (λ (t : Table). AreInOrder (known_in t.declared)) a o.names;
      keyed = subst (λ (t : Table). t.keys ≡ map key_of (known_in t.declared)) a o.keyed;
      inside = omega arith;
      free = subst (λ (t : Table). IsFree (known_in t.declared)) a o.free;
      paired = omega arith;
    }

-- what is built is so
abbrev pub Kept : Done → Type 0
Kept r = Gives IsOrderly r

pub kept_ok : (s : Built) → IsOrderly s → Kept (Ok s)
kept_ok s o = gives_ok IsOrderly s o

pub kept_err : (f : IdlFault) → Kept (Err f)
kept_err f = gives_err IsOrderly f

pub kept_then : (r : Done) (f : Built → Done) → Kept r → ((x : Built) → IsOrderly x → Kept (f x)) → Kept (r >>= f)
kept_then r f h k = gives_then IsOrderly IsOrderly r f h k

pub kept_unless : (b : Bool) (d : IdlCause) (p : Place) (s : Built) → IsOrderly s → Kept (unless b d p s)
kept_unless b d p s o = gives_unless IsOrderly b d p s o

pub kept_counted : (n : ℕ) (p : Place) (s : Built) → IsOrderly s → Kept (counted n p s)
kept_counted n p s o =
    cond_both (nat_lt 1048576 (s.leaves + n)) (refused cause.TooLarge p) (Ok (record s { leaves = s.leaves + n })) Kept
    (λ e. kept_err _) (λ e. kept_ok (record s { leaves = s.leaves + n }) (like s (record s { leaves = s.leaves + n }) o refl refl refl))

pub kept_measured : (k : Sized) (p : Place) (s : Built) → IsOrderly s → Kept (measured k p s)
kept_measured k p s o = kept_unless _ cause.TooLarge p s o

pub kept_fitting : (f : Fit) (s : Built) → IsOrderly s → Kept (values.fitting f s)
kept_fitting (Ok x) s o = kept_ok s o
kept_fitting (Err m) s o = kept_err _

-- a name that isn't in its scope, with its thing
pub added_orderly : (scope : ℕ) (sort : Sort) (thing : Thing) (t : Placed Kind) (s : Built) → IsOrderly s → scope ≤ length s.scopes.declared → IsNameText t.text
    → is_in s.scopes t.text scope ≡ false → (scope ≡ 0 → lowered t.text ≡ codes "orb" → ⊥) → IsOrderly (with_name scope sort thing t s)
added_orderly scope sort thing t s o inside plain absent free =
    let ds = s.scopes.declared in
    let d : Declared = record { scope = scope; name = t.text; place = place_of t; sort = sort } in
    let e = known_added scope t.text (place_of t) sort s.scopes in
    let n : length (known_in ds) ≡ length ds = length-map ds known in
    let m : length (ds ++ d ∷ []) ≡ length ds + 1 = length-append ds (d ∷ []) in
    let k : length (s.things ++ thing ∷ []) ≡ length s.things + 1 = length-append s.things (thing ∷ []) in
    let i = o.inside in
    let p = o.paired in
    record {
      names = subst AreInOrder (sym e) (one_more_name (known_in ds) scope t.text o.names (omega arith) plain (subst (λ (ks : List (ℕ × List ℕ)). list_any (is_at scope (lowered t.text)) ks ≡ false) o.keyed absent));
      keyed = ap (λ (ks : List (ℕ × List ℕ)). ks ++ (scope, lowered t.text) ∷ []) o.keyed ∙ sym (map-append key_of (known_in ds) ((scope, t.text) ∷ [])) ∙ ap (map key_of) (sym e);
      inside = omega arith;
      free = subst IsFree (sym e) (free_more (known_in ds) scope t.text o.free free);
      paired = omega arith;
    }

-- in the file's scope the name of the built-in module is taken
owner_free : (t : Table) (name : List ℕ) (scope : ℕ) → is_taken t name scope ≡ false → scope ≡ 0 → lowered name ≡ codes "orb" → ⊥
owner_free t name scope h z low =
    let p = or_parts (is_taken_part t name scope) (is_owner t name scope || list_any (is_operation_in t name) (above t scope)) h in
    let q = or_parts (is_owner t name scope) (list_any (is_operation_in t name) (above t scope)) p.1 in
    let e : str_eq_ignore_ascii_case name (codes "orb") ≡ false = subst (λ (k : ℕ). is_owner t name k ≡ false) z q.0 in
    both_ways (str_eq_ignore_ascii_case name (codes "orb")) e ((bytes_eq-Decides (lowered name) (codes "orb")).1 low)

pub unless_ok : (b : Bool) (d : IdlCause) (p : Place) (s c : Built) → unless b d p s ≡ Ok c → (b ≡ false) × (s ≡ c)
unless_ok true d p s c e = absurd cc
unless_ok false d p s c e = (refl, ok_is s c e)

pub kept_declare_in : (scope : ℕ) (sort : Sort) (thing : Thing) (t : Placed Kind) (s : Built) → IsOrderly s → scope ≤ length s.scopes.declared → IsNameText t.text
    → Kept (declare_in scope sort thing t s)
kept_declare_in scope sort thing t s o inside plain c e =
    let m = bind_ok (unless (is_taken s.scopes t.text scope) cause.Clash (place_of t) s) (λ x. Ok (with_name scope sort thing t x)) c e in
    let u = unless_ok (is_taken s.scopes t.text scope) cause.Clash (place_of t) s m.0 m.1 in
    let o' : IsOrderly m.0 = subst IsOrderly u.1 o in
    kept_ok (with_name scope sort thing t m.0)
    (subst (λ (x : Built). IsOrderly (with_name scope sort thing t x)) u.1 (added_orderly scope sort thing t s o inside plain (absent_here s.scopes t.text scope u.0) (owner_free s.scopes t.text scope u.0))) c m.2

pub kept_declare : (t : Placed Kind) (s : Built) → IsOrderly s → IsNameText t.text → Kept (declare t s)
kept_declare t s o plain = kept_declare_in s.here table.unfinished nothing t s o o.inside plain

pub kept_enter : (s : Built) → IsOrderly s → Kept (enter s)
kept_enter s o = kept_ok (entered s) (record { names = o.names; keyed = o.keyed; inside = omega arith; free = o.free; paired = o.paired })

-- the scope around the open one
pub outer_inside : (s : Built) → IsOrderly s → outer s.scopes s.here ≤ length s.scopes.declared
outer_inside s o = let h = (in_order s.scopes o.names).inwards (s.here - 1) in let i = o.inside in omega arith

pub left_orderly : (s : Built) → IsOrderly s → IsOrderly (leave s)
left_orderly s o = record { names = o.names; keyed = o.keyed; inside = outer_inside s o; free = o.free; paired = o.paired }

pub finished_length : (ds : List Declared) (i : ℕ) (sort : Sort) (o : Option Declared) → length (finished_in ds i sort o) ≡ length ds
finished_length ds i sort None = refl
finished_length ds i sort (Some d) = length-set ds i (record d { sort = sort })

pub became_orderly : (i : ℕ) (sort : Sort) (thing : Thing) (s : Built) → IsOrderly s → IsOrderly (become i sort thing s)
became_orderly i sort thing s o =
    let e = same_known s.scopes i sort in
    let n = finished_length s.scopes.declared i sort (slice_get s.scopes.declared i) in
    let k : length (set s.things i thing) ≡ length s.things = length-set s.things i thing in
    let j = o.inside in
    let p = o.paired in
    record {
      names = subst AreInOrder (sym e) o.names;
      keyed = o.keyed ∙ ap (map key_of) (sym e);
      inside = omega arith;
      free = subst IsFree (sym e) o.free;
      paired = omega arith;
    }

pub kept_ends : (sort : Sort) (thing : Thing) (s : Built) → IsOrderly s → Kept (ends sort thing s)
kept_ends sort thing s o = kept_ok (ended sort thing s) (left_orderly (become (opened s) sort thing s) (became_orderly (opened s) sort thing s o))

pub named_orderly : (thing : Thing) (s : Built) → IsOrderly s → IsOrderly (bodies.named thing s)
named_orderly thing s o = let b = become (newest s) table.other thing s in like b (record b { lengths = [] }) (became_orderly (newest s) table.other thing s o) refl refl refl

pub set_orderly : (i : ℕ) (thing : Thing) (s : Built) → IsOrderly s → IsOrderly (set_thing i thing s)
set_orderly i thing s o =
    let k : length (set s.things i thing) ≡ length s.things = length-set s.things i thing in
    let p = o.paired in
    record { names = o.names; keyed = o.keyed; inside = o.inside; free = o.free; paired = omega arith }
