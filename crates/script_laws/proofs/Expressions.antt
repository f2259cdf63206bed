-- A checked expression has a value without defaults, of its kind.
use Rattle.std.proofs.Common.{◌≡◌, ◌<◌, ◌≤◌, ◌^◌, ℕ, pos, suc, ◌==◌, Bool, true, false, cond, List, [], ◌∷◌, ◌++◌, length, Option, Some, None, Result, Ok, Err, refl, sym, ap, ◌∙◌, subst, slice_get, arith}
use Rattle.std.proofs.lemmas.Bool.{eqb-true}
use Rattle.std.specs.Option.{option_map}
use Rattle.std.proofs.lemmas.Option.{none-some, same_Some}
use Rattle.cdr_values.specs.Trees.{Kind, scalar, words, sequence, array, structure, union, Members, Value, truth, number, text, label}
use Rattle.cdr_values.specs.Fitting.{is_of}
use Rattle.idl_types.specs.declared.type_ref.TypeRef.{TypeRef}
use Rattle.idl_types.specs.Things.{Thing, constant, named, exception, interface, ConstantView, TypeView}
use Rattle.idl_types.specs.References.{member_kind, members_in, kind_at}
use Rattle.servant_scripts.specs.declared.phrase.At.{At}
use Rattle.servant_scripts.specs.declared.phrase.Part.{Part}
use Rattle.servant_scripts.specs.Trees.{Scoped, Said, said, Shape, say_number, say_truth, say_text, say_priority, say_name, say_unary, say_binary, say_member, say_new, say_list, Fields, no_fields, field, Saids, no_saids, one_said, place_of}
use Rattle.script_names.specs.declared.meaning.Meaning.{Meaning}
use Rattle.script_names.specs.declared.meaning.Meaning.TheVariants as means
use Rattle.script_names.specs.Finding.{meant}
use Rattle.script_names.specs.Known.{known}
use Rattle.script_values.specs.Trees as run
use Rattle.script_values.specs.Trees.{Term, literal, priority, slot, unary, binary, member_of, build, terms_of}
use Rattle.script_values.specs.Operations.{applied, as_items, member_at}
use Rattle.script_values.specs.Evaluation.{value_at, filled, beside}
use Rattle.script_checks.specs.declared.fault.CheckCause.{CheckCause}
use Rattle.script_checks.specs.declared.fault.CheckCause.TheVariants as cause
use Rattle.script_checks.specs.Kinds.{same_kind, number_kind, truth_kind, text_kind, element_of, is_list_len}
use Rattle.script_checks.specs.Scene.{Scene, Var, Typed, ◌>>=◌, or_refused, if_holds, find_var}
use Rattle.script_checks.specs.Dues.{short, member_due, element_due}
use Rattle.script_checks.specs.Naming.{known_or, meaning_at, last_part, enum_in, constant_in, value_of, variable_of, or_value, as_struct, struct_in, struct_of, struct_named}
use Rattle.script_checks.specs.Operators.{with_unary, with_member, want_in, asks, needs, suits, gives, find_member}
use Rattle.script_checks.specs.Built.{members_len, is_given, new_member, complete, list_due, list_of}
use Rattle.script_checks.specs.Checking.{typed, shaped, of_kind, given, fields, elements}
use Rattle.script_laws.specs.Defined.{there, got}
use Rattle.script_laws.specs.Operators.{defined_unary, defined_beside, defined_member}
use Rattle.script_laws.specs.Evaluation.{defined_value, defined_fill}
use Rattle.script_laws.specs.Kinds.{Every, HasKind, Stands}
use Rattle.script_laws.specs.Things.{IsSound}
use Rattle.script_laws.proofs.Good.{Good, bind, weaken, itself}
use Rattle.script_laws.proofs.Checks.{both, if_ok, or_ok, ok_is}
use Rattle.script_laws.proofs.Shapes.{every_from, list_is, struct_is, found_member, member_within, fits_kind, members_all}
use Rattle.script_laws.proofs.Operands.{Gives, unary_good, member_good, binary_good}
use Rattle.script_laws.proofs.Holes.{shown, got_shows, get_within, PartOk, Distinct, built_good}
use Rattle.script_laws.proofs.Names.{IsEnum, known_enum, meant_all}
use Rattle.script_laws.proofs.References.{member_ref, element_ref}
use Rattle.script_laws.proofs.Snoc.{every_snoc, every_weaker, distinct_snoc, new_behind, snoc_long}
use Rattle.script_laws.proofs.Scopes.{Found, variable_held}

-- what a scene is of sound things
pub record Ground (s : Scene) : Type 0 where
  pub sound : IsSound s.things
  pub names : s.known ≡ known s.things

-- ---- what parts of the check have found

known_ok : (c : CheckCause) (r : Result Meaning At) (m : Meaning) → known_or c r ≡ Ok m → r ≡ Ok m
known_ok c (Ok n) m e = ap Ok (ok_is n m e)
known_ok c (Err at) m e = absurd cc

pub meant_ok : (s : Scene) (n : Scoped) (m : Meaning) → meaning_at s n ≡ Ok m → meant s.known s.interface n ≡ Ok m
meant_ok s n m e = known_ok cause.UnknownName (meant s.known s.interface n) m e

pub means_enum : (s : Scene) → Ground s → (n : Scoped) (m : Meaning) → meaning_at s n ≡ Ok m → IsEnum s.things m
means_enum s g n m e = meant_all (IsEnum s.things) s.known (λ id o h. known_enum s.things id o (ap (λ k. k.meaning id) (sym g.names) ∙ h)) s.interface n m (meant_ok s n m e)

constant_is : (o : Option Thing) (x : Typed) → constant_in o ≡ Some x → (c : ConstantView) × (o ≡ Some (constant c)) × ((literal c.value, c.kind) ≡ x)
constant_is (Some (constant c)) x e = (c, refl, same_Some (literal c.value, c.kind) x e)
constant_is (Some (named t)) x e = absurd (none-some x e)
constant_is (Some (exception t)) x e = absurd (none-some x e)
constant_is (Some (interface t)) x e = absurd (none-some x e)
constant_is None x e = absurd (none-some x e)

pub struct_same : (d k : Kind) → as_struct d ≡ Some k → d ≡ k
struct_same (structure name ms) k e = same_Some (structure name ms) k e
struct_same (scalar s) k e = absurd (none-some k e)
struct_same (words n) k e = absurd (none-some k e)
struct_same (sequence j n) k e = absurd (none-some k e)
struct_same (array j n) k e = absurd (none-some k e)
struct_same (union name d cs) k e = absurd (none-some k e)

struct_placed : (i : ℕ) (d : Kind) (o : Option Kind) (k : ℕ × Kind) → option_map (λ (j : Kind). (i, j)) o ≡ Some k → (i ≡ k.0) × (o ≡ Some k.1)
struct_placed i d (Some j) k e = let h : (i, j) ≡ k = same_Some (i, j) k e in (ap (λ (x : ℕ × Kind). x.0) h, ap (λ (x : ℕ × Kind). Some x.1) h)
struct_placed i d None k e = absurd (none-some k e)

struct_in_is : (i : ℕ) (o : Option Thing) (k : ℕ × Kind) → struct_in i o ≡ Some k → (t : TypeView) × (o ≡ Some (named t)) × (i ≡ k.0) × (as_struct t.kind ≡ Some k.1)
struct_in_is i (Some (named t)) k e = let h = struct_placed i t.kind (as_struct t.kind) k e in (t, refl, h.0, h.1)
struct_in_is i (Some (constant t)) k e = absurd (none-some k e)
struct_in_is i (Some (exception t)) k e = absurd (none-some k e)
struct_in_is i (Some (interface t)) k e = absurd (none-some k e)
struct_in_is i None k e = absurd (none-some k e)

struct_of_is : (ts : List Thing) (m : Meaning) (k : ℕ × Kind) → struct_of ts m ≡ Some k → (t : TypeView) × (slice_get ts k.0 ≡ Some (named t)) × (as_struct t.kind ≡ Some k.1)
struct_of_is ts (means.Thing i) k e = let h = struct_in_is i (slice_get ts i) k e in (h.0, ap (slice_get ts) (sym h.2) ∙ h.1, h.3)
struct_of_is ts (means.Enumerator i n) k e = absurd (none-some k e)
struct_of_is ts means.Other k e = absurd (none-some k e)

-- a name of a struct is that of a type
pub struct_at : (s : Scene) (n : Scoped) (k : ℕ × Kind) → struct_named s n ≡ Ok k → (t : TypeView) × (slice_get s.things k.0 ≡ Some (named t)) × (as_struct t.kind ≡ Some k.1)
struct_at s n k e =
    let q = both (meaning_at s n) (λ (m : Meaning). or_refused cause.Kind (last_part n) (struct_of s.things m)) k e in
    struct_of_is s.things q.0 k (or_ok cause.Kind (last_part n) (struct_of s.things q.0) k q.2)

not_given : (b : Bool) → cond b false true ≡ true → b ≡ false
not_given true e = sym e
not_given false e = refl

-- a field gives a member that is there, and that wasn't given
new_is : (ms : Members) (parts : List run.Part) (p : Part) (n : ℕ) → new_member ms parts p ≡ Ok n → (k : Kind) × (member_kind n ms ≡ Some k) × (is_given parts n ≡ false)
new_is ms parts p n e =
    let q = both (or_refused cause.Members p.at (find_member 0 ms p.name)) (λ (m : ℕ × Kind). if_holds (cond (is_given parts m.0) false true) cause.Members p.at m.0) n e in
    let at = or_ok cause.Members p.at (find_member 0 ms p.name) q.0 q.1 in
    let f = found_member 0 ms p.name q.0 at in
    let h = if_ok (cond (is_given parts q.0.0) false true) cause.Members p.at q.0.0 n q.2 in
    let place : f.0 ≡ n = (let i = f.1 in let j : f.0 ≡ q.0.0 = omega (arith, i) in j) ∙ h.1 in
    (q.0.1, subst (λ (i : ℕ). member_kind i ms ≡ Some q.0.1) place f.2, subst (λ (i : ℕ). is_given parts i ≡ false) h.1 (not_given (is_given parts q.0.0) h.0))

list_due_is : (ts : List Thing) (want : Option TypeRef) (at : At) (r : TypeRef × Kind) → list_due ts want at ≡ Ok r → (kind_at ts r.0 ≡ Some r.1) × (e : Kind) × (element_of r.1 ≡ Some e)
list_due_is ts None at r e = absurd cc
list_due_is ts (Some due) at r e =
    let q = both (or_refused cause.Kind at (kind_at ts due)) (λ (k : Kind). or_refused cause.Kind at (element_of k) >>= λ (d : Kind). Ok (due, k)) r e in
    let u = both (or_refused cause.Kind at (element_of q.0)) (λ (d : Kind). Ok (due, q.0)) r q.2 in
    let h : (due, q.0) ≡ r = ok_is (due, q.0) r u.2 in
    let is : kind_at ts due ≡ Some q.0 = or_ok cause.Kind at (kind_at ts due) q.0 q.1 in
    (subst (λ (x : TypeRef × Kind). kind_at ts x.0 ≡ Some x.1) h is, u.0, ap (λ (x : TypeRef × Kind). element_of x.1) (sym h) ∙ or_ok cause.Kind at (element_of q.0) u.0 u.1)

needs_is : (o : Option Kind) (at : At) (x : Typed) (t : Term) → needs o at x ≡ Ok t → (k : Kind) × (o ≡ Some k) × (same_kind k x.1 ≡ true) × (x.0 ≡ t)
needs_is None at x t e = absurd cc
needs_is (Some k) at x t e = let h = if_ok (same_kind k x.1) cause.Kind at x.0 t e in (k, refl, h.0, h.1)

-- ---- expressions

module _ (s : Scene) (g : Ground s) (p : ℕ) (vs : List Var) (os : List (Option Value)) (st : Stands s.things vs os) where
  -- an expression has a value, which is of its kind
  abbrev Sound : Typed → Type 0
  Sound x = Gives x.1 (defined_value p os x.0) (value_at p (shown os) x.0)

  -- it has a value of some kind
  abbrev HasValue : Term → Type 0
  HasValue t = Good itself (λ (v : Value). Unit {0}) (defined_value p os t) (value_at p (shown os) t)

  literal_good : (v : Value) (k : Kind) → HasKind k v → Sound (literal v, k)
  unfolding defined_value value_at
  literal_good v k h = (refl, h)

  meaning_good : (m : Meaning) (x : Typed) → IsEnum s.things m → value_of s.things m ≡ Some x → Sound x
  meaning_good (means.Thing i) x h e =
      let c = constant_is (slice_get s.things i) x e in
      subst Sound c.2 (literal_good c.0.value c.0.kind (g.sound.constants i c.0 c.1))
  meaning_good (means.Enumerator i n) x h e =
      let enum : enum_in (slice_get s.things i) ≡ Some h.0.kind = ap enum_in h.3 in
      let is : (literal (label (short n)), h.0.kind) ≡ x = same_Some (literal (label (short n)), h.0.kind) x (ap (option_map (λ (k : Kind). (literal (label (short n)), k))) (sym enum) ∙ e) in
      subst Sound is (literal_good (label (short n)) h.0.kind (subst (λ (k : Kind). HasKind k (label (short n))) (sym h.4) (short n, refl)))
  meaning_good means.Other x h e = absurd (none-some x e)

  variable_is : (rooted : Bool) (parts : List Part) (r : Found) → variable_of vs rooted parts ≡ Some r → (q : Part) × (find_var 0 vs q.name ≡ Some r)
  variable_is false (q ∷ []) r e = (q, e)
  variable_is false [] r e = absurd (none-some r e)
  variable_is false (q ∷ q2 ∷ parts) r e = absurd (none-some r e)
  variable_is true [] r e = absurd (none-some r e)
  variable_is true (q ∷ []) r e = absurd (none-some r e)
  variable_is true (q ∷ q2 ∷ parts) r e = absurd (none-some r e)

  slot_good : (r : Found) (q : Part) → find_var 0 vs q.name ≡ Some r → Sound (slot r.0, r.1)
  unfolding defined_value value_at
  slot_good r q e =
      let h = variable_held s.things 0 vs q.name r os e st in
      let place : r.0 ≡ h.0 = (let i = h.1 in omega (arith, i)) in
      let last : Gives r.1 (there (Some h.2)) (Ok (member_at (shown os) h.0)) = (ap Ok (got_shows os h.0 h.2 h.3), h.4) in
      subst (λ (n : ℕ). Gives r.1 (there (got os n)) (Ok (member_at (shown os) n))) (sym place)
      (subst (λ (o : Option Value). Gives r.1 (there o) (Ok (member_at (shown os) h.0))) (sym h.3) last)

  name_good : (n : Scoped) (o : Option Found) (x : Typed) → variable_of vs n.rooted n.parts ≡ o → or_value s n o ≡ Ok x → Sound x
  name_good n (Some r) x is e =
      let q = variable_is n.rooted n.parts r is in
      subst Sound (ok_is (slot r.0, r.1) x e) (slot_good r q.0 q.1)
  name_good n None x is e =
      let q = both (meaning_at s n) (λ (m : Meaning). or_refused cause.Kind (last_part n) (value_of s.things m)) x e in
      meaning_good q.0 x (means_enum s g n q.0 q.1) (or_ok cause.Kind (last_part n) (value_of s.things q.0) x q.2)

  -- the parts of a list
  abbrev Listed : Kind → List run.Part → Type 0
  Listed e parts = Every (PartOk (λ (i : ℕ). Some e) p os) parts × Distinct parts × Every (λ (q : run.Part). q.0 < length parts) parts

  -- the parts of a struct or an exception
  abbrev pub Given : Members → List run.Part → Type 0
  Given ms parts = Every (PartOk (λ (i : ℕ). member_kind i ms) p os) parts × Distinct parts

  pub places_within : (ms : Members) (parts : List run.Part) → Every (PartOk (λ (i : ℕ). member_kind i ms) p os) parts → length parts ≡ members_len ms → Every (λ (q : run.Part). q.0 < length parts) parts
  places_within ms parts ok count = every_weaker (PartOk (λ (i : ℕ). member_kind i ms) p os) (λ (q : run.Part). q.0 < length parts) parts
      (λ q h. subst (λ (n : ℕ). q.0 < n) (sym count) (member_within ms q.0 h.kind h.place)) ok

  mutual
    unfolding typed shaped of_kind given fields elements defined_value defined_fill value_at filled

    pub typed_good : (want : Option TypeRef) (e : Said) (x : Typed) → typed s vs want e ≡ Ok x → Sound x
    typed_good want (said at shape) x h = shaped_good want at shape x h

    shaped_good : (want : Option TypeRef) (at : At) (e : Shape) (x : Typed) → shaped s vs want at e ≡ Ok x → Sound x
    shaped_good want at (say_number z) x h = subst Sound (ok_is (literal (number z), number_kind) x h) (refl, (z, refl))
    shaped_good want at (say_truth b) x h = subst Sound (ok_is (literal (truth b), truth_kind) x h) (refl, (b, refl))
    shaped_good want at (say_text t) x h = subst Sound (ok_is (literal (text t), text_kind) x h) (refl, (t, refl))
    shaped_good want at say_priority x h = subst Sound (ok_is (priority, number_kind) x h) (refl, (pos p, refl))
    shaped_good want at (say_name n) x h = name_good n (variable_of vs n.rooted n.parts) x refl h
    shaped_good want at (say_unary o a) x h =
        let q = both (typed s vs (want_in o want) a) (with_unary o (place_of a)) x h in
        let first = typed_good (want_in o want) a q.0 q.1 in
        let k = if_ok (suits o q.0.1) cause.Kind (place_of a) (unary o q.0.0, gives o q.0.1) x q.2 in
        subst Sound k.1 (bind itself (HasKind q.0.1) itself (HasKind (gives o q.0.1)) (defined_value p os q.0.0) (value_at p (shown os) q.0.0) (defined_unary o) (applied o) first (unary_good o q.0.1 k.0))
    shaped_good want at (say_binary o a b) x h =
        let q = both (typed s vs None a) (λ (y : Typed). asks o (place_of a) y >>= λ (k : Kind × Kind). of_kind s vs k.0 b >>= λ (z : Term). Ok (binary o y.0 z, k.1)) x h in
        let r = both (asks o (place_of a) q.0) (λ (k : Kind × Kind). of_kind s vs k.0 b >>= λ (z : Term). Ok (binary o q.0.0 z, k.1)) x q.2 in
        let u = both (of_kind s vs r.0.0 b) (λ (z : Term). Ok (binary o q.0.0 z, r.0.1)) x r.2 in
        let first = typed_good None a q.0 q.1 in
        let second = of_kind_good r.0.0 b u.0 u.1 in
        subst Sound (ok_is (binary o q.0.0 u.0, r.0.1) x u.2)
        (bind itself (HasKind q.0.1) itself (HasKind r.0.1) (defined_value p os q.0.0) (value_at p (shown os) q.0.0) (defined_beside o (defined_value p os u.0)) (beside o (value_at p (shown os) u.0)) first
        (binary_good o (place_of a) q.0 r.0 second.0 r.1 second.1 (defined_value p os u.0) (value_at p (shown os) u.0) second.2))
    shaped_good want at (say_member a m) x h =
        let q = both (typed s vs None a) (with_member (place_of a) m) x h in
        let first = typed_good None a q.0 q.1 in
        let r = both (or_refused cause.Kind (place_of a) (as_struct q.0.1)) (λ (k : Kind). or_refused cause.UnknownName m.at (find_member 0 (members_in k) m.name) >>= λ (n : ℕ × Kind). Ok (member_of q.0.0 n.0, n.1)) x q.2 in
        let is = or_ok cause.Kind (place_of a) (as_struct q.0.1) r.0 r.1 in
        let u = both (or_refused cause.UnknownName m.at (find_member 0 (members_in r.0) m.name)) (λ (n : ℕ × Kind). Ok (member_of q.0.0 n.0, n.1)) x r.2 in
        let f = found_member 0 (members_in r.0) m.name u.0 (or_ok cause.UnknownName m.at (find_member 0 (members_in r.0) m.name) u.0 u.1) in
        let place : f.0 ≡ u.0.0 = (let i = f.1 in omega (arith, i)) in
        let kind : member_kind u.0.0 (members_in r.0) ≡ Some u.0.1 = subst (λ (i : ℕ). member_kind i (members_in r.0) ≡ Some u.0.1) place f.2 in
        subst Sound (ok_is (member_of q.0.0 u.0.0, u.0.1) x u.2)
        (bind itself (HasKind q.0.1) itself (HasKind u.0.1) (defined_value p os q.0.0) (value_at p (shown os) q.0.0) (defined_member u.0.0) (λ (v : Value). Ok (member_at (as_items v) u.0.0)) first (member_good q.0.1 r.0 u.0.1 u.0.0 is kind))
    shaped_good want at (say_new n fs close) x h =
        let q = both (struct_named s n) (λ (k : ℕ × Kind). fields s vs k.0 (members_in k.1) fs [] >>= complete (members_in k.1) close >>= λ (ps : List run.Part). Ok (build (terms_of ps), k.1)) x h in
        let r = both (fields s vs q.0.0 (members_in q.0.1) fs [] >>= complete (members_in q.0.1) close) (λ (ps : List run.Part). Ok (build (terms_of ps), q.0.1)) x q.2 in
        let u = both (fields s vs q.0.0 (members_in q.0.1) fs []) (complete (members_in q.0.1) close) r.0 r.1 in
        let c = if_ok (length u.0 == members_len (members_in q.0.1)) cause.Members close u.0 r.0 u.2 in
        let count : length u.0 ≡ members_len (members_in q.0.1) = eqb-true (length u.0) (members_len (members_in q.0.1)) c.0 in
        let t = struct_at s n q.0 q.1 in
        let same : t.0.kind ≡ q.0.1 = struct_same t.0.kind q.0.1 t.2 in
        let near : q.0.0 < 2 ^ 32 = (let a = get_within s.things q.0.0 (named t.0) t.1 in let b = g.sound.places in omega (arith, a, b)) in
        let few : members_len (members_in t.0.kind) ≤ 2 ^ 32 = g.sound.members q.0.0 t.0 t.1 in
        let refs : (i : ℕ) (k : Kind) → member_kind i (members_in q.0.1) ≡ Some k → kind_at s.things (member_due q.0.0 i) ≡ member_kind i (members_in q.0.1) = λ i k is.
        let here : member_kind i (members_in t.0.kind) ≡ Some k = ap (λ (d : Kind). member_kind i (members_in d)) same ∙ is in
        let within = member_within (members_in t.0.kind) i k here in
        member_ref s.things q.0.0 i t.0 t.1 near (omega (arith, within, few)) ∙ ap (λ (d : Kind). member_kind i (members_in d)) same in
        let parts = fields_good q.0.0 (members_in q.0.1) fs [] u.0 refs u.1 tt tt in
        let struct : as_struct q.0.1 ≡ Some q.0.1 = ap as_struct (sym same) ∙ t.2 in
        let sound : Sound (build (terms_of u.0), q.0.1) =
        built_good (λ (i : ℕ). member_kind i (members_in q.0.1)) (HasKind q.0.1) p os u.0 parts.0 parts.1 (places_within (members_in q.0.1) u.0 parts.0 count)
        (λ ws long fits. struct_is q.0.1 q.0.1 ws struct (members_all (members_in q.0.1) ws (long ∙ count) fits)) in
        subst Sound (ok_is (build (terms_of r.0), q.0.1) x r.2) (subst (λ (ps : List run.Part). Sound (build (terms_of ps), q.0.1)) c.1 sound)
    shaped_good want at (say_list es) x h =
        let q = both (list_due s.things want at) (λ (k : TypeRef × Kind). elements s vs (element_due k.0) es [] >>= list_of k.1 at) x h in
        let u = both (elements s vs (element_due q.0.0) es []) (list_of q.0.1 at) x q.2 in
        let due = list_due_is s.things want at q.0 q.1 in
        let c = if_ok (is_list_len q.0.1 (length u.0)) cause.Kind at (build (terms_of u.0), q.0.1) x u.2 in
        let parts = elements_good (element_due q.0.0) es [] u.0 due.1 (element_ref s.things g.sound q.0.0 q.0.1 due.1 due.0 due.2) u.1 tt tt tt in
        let sound : Sound (build (terms_of u.0), q.0.1) =
        built_good (λ (i : ℕ). Some due.1) (HasKind q.0.1) p os u.0 parts.0 parts.1 parts.2
        (λ ws long fits. list_is q.0.1 due.1 ws due.2 (every_from (HasKind due.1) ws (λ m v is. let f = fits m v is in
        fits_kind v due.1 (subst (λ (d : Kind). is_of v d ≡ true) (sym (same_Some due.1 f.0 f.1)) f.2)))) in
        subst Sound c.1 sound

    pub of_kind_good : (k : Kind) (e : Said) (t : Term) → of_kind s vs k e ≡ Ok t → (d : Kind) × (same_kind k d ≡ true) × Gives d (defined_value p os t) (value_at p (shown os) t)
    of_kind_good k (said at shape) t h =
        let q = both (shaped s vs None at shape) (needs (Some k) at) t h in
        let c = if_ok (same_kind k q.0.1) cause.Kind at q.0.0 t q.2 in
        (q.0.1, c.0, subst (λ (u : Term). Gives q.0.1 (defined_value p os u) (value_at p (shown os) u)) c.1 (shaped_good None at shape q.0 q.1))

    pub given_good : (due : TypeRef) (e : Said) (t : Term) → given s vs due e ≡ Ok t → (k : Kind) × (kind_at s.things due ≡ Some k) × HasValue t
    given_good due (said at shape) t h =
        let q = both (shaped s vs (Some due) at shape) (needs (kind_at s.things due) at) t h in
        let c = needs_is (kind_at s.things due) at q.0 t q.2 in
        (c.0, c.1, subst HasValue c.3 (weaken itself (HasKind q.0.1) (λ (v : Value). Unit {0}) (defined_value p os q.0.0) (value_at p (shown os) q.0.0) (shaped_good (Some due) at shape q.0 q.1) (λ v k. tt)))

    pub fields_good : (place : ℕ) (ms : Members) (fs : Fields) (parts done : List run.Part)
        → ((i : ℕ) (k : Kind) → member_kind i ms ≡ Some k → kind_at s.things (member_due place i) ≡ member_kind i ms)
        → fields s vs place ms fs parts ≡ Ok done → Every (PartOk (λ (i : ℕ). member_kind i ms) p os) parts → Distinct parts → Given ms done
    fields_good place ms no_fields parts done refs h ok distinct = subst (Given ms) (ok_is parts done h) (ok, distinct)
    fields_good place ms (field n e fs) parts done refs h ok distinct =
        let a = both (new_member ms parts n) (λ (i : ℕ). given s vs (member_due place i) e >>= λ (t : Term). fields s vs place ms fs (parts ++ (i, kind_at s.things (member_due place i), t) ∷ [])) done h in
        let new = new_is ms parts n a.0 a.1 in
        let b = both (given s vs (member_due place a.0) e) (λ (t : Term). fields s vs place ms fs (parts ++ (a.0, kind_at s.things (member_due place a.0), t) ∷ [])) done a.2 in
        let v = given_good (member_due place a.0) e b.0 b.1 in
        let part : run.Part = (a.0, kind_at s.things (member_due place a.0), b.0) in
        let good : PartOk (λ (i : ℕ). member_kind i ms) p os part = record { kind = v.0; due = v.1; place = sym (refs a.0 new.0 new.1) ∙ v.1; value = v.2 } in
        fields_good place ms fs (parts ++ part ∷ []) done refs b.2 (every_snoc (PartOk (λ (i : ℕ). member_kind i ms) p os) parts part ok good) (distinct_snoc parts part distinct new.2)

    elements_good : (due : TypeRef) (es : Saids) (parts done : List run.Part) (e : Kind) → kind_at s.things due ≡ Some e → elements s vs due es parts ≡ Ok done
        → Every (PartOk (λ (i : ℕ). Some e) p os) parts → Distinct parts → Every (λ (q : run.Part). q.0 < length parts) parts → Listed e done
    elements_good due no_saids parts done e is h ok distinct within = subst (Listed e) (ok_is parts done h) (ok, distinct, within)
    elements_good due (one_said a es) parts done e is h ok distinct within =
        let b = both (given s vs due a) (λ (t : Term). elements s vs due es (parts ++ (length parts, kind_at s.things due, t) ∷ [])) done h in
        let v = given_good due a b.0 b.1 in
        let part : run.Part = (length parts, kind_at s.things due, b.0) in
        let good : PartOk (λ (i : ℕ). Some e) p os part = record { kind = v.0; due = v.1; place = sym is ∙ v.1; value = v.2 } in
        let long : length (parts ++ part ∷ []) ≡ suc (length parts) = snoc_long parts part in
        let near : Every (λ (q : run.Part). q.0 < length (parts ++ part ∷ [])) (parts ++ part ∷ []) =
        every_snoc (λ (q : run.Part). q.0 < length (parts ++ part ∷ [])) parts part
        (every_weaker (λ (q : run.Part). q.0 < length parts) (λ (q : run.Part). q.0 < length (parts ++ part ∷ [])) parts (λ q l. omega (arith, l, long)) within) (omega (arith, long)) in
        elements_good due es (parts ++ part ∷ []) done e is b.2 (every_snoc (PartOk (λ (i : ℕ). Some e) p os) parts part ok good) (distinct_snoc parts part distinct (new_behind parts (length parts) within)) near
