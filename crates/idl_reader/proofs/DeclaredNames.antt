-- Names of one scope that are told apart, case aside, since each was free where it was declared.
use Rattle.std.proofs.Common.{◌≡◌, ℕ, zero, suc, ◌+◌, ◌-◌, ◌<◌, arith, true, false, List, [], ◌∷◌, ◌++◌, length, length-append, Option, Some, None, Ok, refl, sym, ap, ◌∙◌}
use Rattle.std.specs.Prelude.{slice_get}
use Rattle.std.specs.List.{list_any}
use Rattle.std.specs.Option.{option_map}
use Rattle.std.proofs.lemmas.Option.{slice_get-map}
use Rattle.grammar.specs.Language.{Placed}
use Rattle.grammar.proofs.Basics.{bind_ok, ok_is}
use Rattle.idl_tokens.specs.declared.kind.Kind.{Kind}
use Rattle.idl_grammar.specs.declared.fault.IdlCause.TheVariants as cause
use Rattle.idl_scopes.specs.declared.place.Place.{Place}
use Rattle.idl_scopes.specs.Table.{Sort, Declared, Table}
use Rattle.idl_scopes.specs.Finding.{lowered, is_at, scope_in, scope_at, name_in, name_at, outer}
use Rattle.idl_scopes.specs.Taking.{is_taken}
use Rattle.idl_scopes.specs.Declaring.{added, finished}
use Rattle.idl_types.specs.Apart.{are_apart}
use Rattle.idl_names.specs.State.{Thing, Built}
use Rattle.idl_names.specs.Changes.{Done, place_of, unless, with_name, declare_in}
use Rattle.idl_reader.proofs.Tables.{known, known_in, same_known}
use Rattle.idl_reader.proofs.ThingLists.{get_last}
use Rattle.idl_reader.proofs.KeptNames.{unless_ok}
use Rattle.idl_reader.proofs.ParamsApart.{AreKeys, keys_more, keys_behind, keys_last, apart_more}

-- these names are told apart, and declared in a scope
pub record AreNamed (ks : List (ℕ × List ℕ)) (scope : ℕ) (ns : List (List ℕ)) : Type 0 where
  pub apart : are_apart ns ≡ true
  pub keys : AreKeys ks scope ns

pub none_named : (ks : List (ℕ × List ℕ)) (scope : ℕ) → AreNamed ks scope []
none_named ks scope = record { apart = refl; keys = tt }

pub named_more : (ks more : List (ℕ × List ℕ)) (scope : ℕ) (ns : List (List ℕ)) → AreNamed ks scope ns → AreNamed (ks ++ more) scope ns
named_more ks more scope ns h = record { apart = h.apart; keys = keys_more ks more scope ns h.keys }

-- a name that was free there is one more
pub named_behind : (ks : List (ℕ × List ℕ)) (scope : ℕ) (name : List ℕ) (ns : List (List ℕ)) → list_any (is_at scope (lowered name)) ks ≡ false → AreNamed ks scope ns
    → AreNamed (ks ++ (scope, lowered name) ∷ []) scope (ns ++ name ∷ [])
named_behind ks scope name ns absent h = record {
  apart = apart_more ks scope name ns absent h.keys h.apart;
  keys = keys_behind (ks ++ (scope, lowered name) ∷ []) scope ns name (keys_more ks ((scope, lowered name) ∷ []) scope ns h.keys) (keys_last ks scope name);
}

-- a name that is declared was free, and this is what is built
pub declared_is : (scope : ℕ) (sort : Sort) (thing : Thing) (t : Placed Kind) (s c : Built) → declare_in scope sort thing t s ≡ Ok c → (is_taken s.scopes t.text scope ≡ false) × (with_name scope sort thing t s ≡ c)
declared_is scope sort thing t s c e =
    let first = unless (is_taken s.scopes t.text scope) cause.Clash (place_of t) s in
    let second : Built → Done = λ x. Ok (with_name scope sort thing t x) in
    let m = bind_ok first second c e in
    let u = unless_ok (is_taken s.scopes t.text scope) cause.Clash (place_of t) s m.0 m.1 in
    (u.0, ap (λ (x : Built). with_name scope sort thing t x) u.1 ∙ ok_is _ c m.2)

-- the name that was added is the newest
pub newest_name : (scope : ℕ) (name : List ℕ) (place : Place) (sort : Sort) (t : Table) → name_at (added scope name place sort t) (length (added scope name place sort t).declared - 1) ≡ name
newest_name scope name place sort t =
    let d : Declared = record { scope = scope; name = name; place = place; sort = sort } in
    let n : length (t.declared ++ d ∷ []) ≡ length t.declared + 1 = length-append t.declared (d ∷ []) in
    let k : length (t.declared ++ d ∷ []) - 1 ≡ length t.declared = omega arith in
    ap (λ (i : ℕ). name_at (added scope name place sort t) i) k ∙ ap (λ (o : Option Declared). name_in o) (get_last t.declared d)

-- the scope of a declaration by what is known of it
abbrev pub known_scope : Option (ℕ × List ℕ) → ℕ
known_scope None = 0
known_scope (Some p) = p.0

scope_known : (o : Option Declared) → scope_in o ≡ known_scope (option_map known o)
scope_known None = refl
scope_known (Some d) = refl

pub scope_by_known : (t : Table) (i : ℕ) → scope_at t i ≡ known_scope (slice_get (known_in t.declared) i)
scope_by_known t i = scope_known (slice_get t.declared i) ∙ ap known_scope (sym (slice_get-map known t.declared i))

-- a declaration that ends keeps all scopes
pub outer_finished : (t : Table) (i : ℕ) (sort : Sort) (scope : ℕ) → outer (finished t i sort) scope ≡ outer t scope
outer_finished t i sort scope =
    scope_by_known (finished t i sort) (scope - 1) ∙ ap (λ (ps : List (ℕ × List ℕ)). known_scope (slice_get ps (scope - 1))) (same_known t i sort) ∙ sym (scope_by_known t (scope - 1))

-- and so does one that is added, of those before it
pub outer_added : (place : ℕ) (name : List ℕ) (at : Place) (sort : Sort) (t : Table) (scope : ℕ) → scope - 1 < length t.declared → outer (added place name at sort t) scope ≡ outer t scope
outer_added place name at sort t scope less =
    get_of t.declared (record { scope = place; name = name; place = at; sort = sort }) (scope - 1) less
  where
    get_of : (ds : List Declared) (d : Declared) (i : ℕ) → i < length ds → scope_in (slice_get (ds ++ d ∷ []) i) ≡ scope_in (slice_get ds i)
    get_of [] d i less = omega arith
    get_of (x ∷ ds) d zero less = refl
    get_of (x ∷ ds) d (suc i) less = get_of ds d i (omega arith)
