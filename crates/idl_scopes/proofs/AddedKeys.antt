-- A key that isn't there is added after the others, and a declaration after the others.
use Rattle.std.proofs.Common.{◌≡◌, ℕ, Bool, false, List, [], ◌∷◌, ◌++◌, map, sym, ap, ◌∙◌}
use Rattle.std.specs.Prelude.{if◌then◌else◌}
use Rattle.std.specs.List.{list_any}
use Rattle.std.proofs.lemmas.List.{map-append}
use Rattle.indexmap.specs.IndexSet.{insert_key}
use Rattle.idl_scopes.specs.Finding.{is_at}
use Rattle.idl_scopes.specs.Declarations.{known_of, declared_of, sort_of}
use Rattle.idl_scopes.specs.declared.known.Known.{Known}
use Rattle.idl_scopes.specs.declared.declared.Declared.{Declared}
use Rattle.orb_base.proofs.Places.{any_map}

adds_behind : (eq : Known → Known → Bool) (k : Known) (ks : List Known) → ((x : Known) → eq k x ≡ is_at k.scope k.name.items (known_of x))
    → list_any (is_at k.scope k.name.items) (map known_of ks) ≡ false → map known_of (insert_key eq ks k) ≡ map known_of ks ++ known_of k ∷ []
adds_behind eq k ks is absent =
    let there : list_any (eq k) ks ≡ list_any (λ x. is_at k.scope k.name.items (known_of x)) ks = (λ j. list_any (λ x. is x j) ks) in
    ap (λ b. map known_of (if b then ks else ks ++ k ∷ [])) (there ∙ sym (any_map (is_at k.scope k.name.items) known_of ks) ∙ absent)
    ∙ map-append known_of ks (k ∷ [])

pub key_added : (eq : Known → Known → Bool) (k : Known) (scope : ℕ) (name : List ℕ) (ks later : List Known) → later ≡ insert_key eq ks k → k.scope ≡ scope → k.name.items ≡ name
    → list_any (is_at scope name) (map known_of ks) ≡ false → ((x : Known) → eq k x ≡ is_at k.scope k.name.items (known_of x)) → map known_of later ≡ map known_of ks ++ (scope, name) ∷ []
key_added eq k scope name ks later is is_scope is_name absent same =
    ap (map known_of) is ∙ adds_behind eq k ks same ((λ j. list_any (is_at (is_scope j) (is_name j)) (map known_of ks)) ∙ absent)
    ∙ (λ j. map known_of ks ++ (is_scope j, is_name j) ∷ [])

pub declared_added : (ds later : List Declared) (d : Declared) (name : List ℕ) → later ≡ ds ++ d ∷ [] → d.name.items ≡ name
    → map declared_of later ≡ map declared_of ds ++ record { scope = d.scope; name = name; place = d.place; sort = sort_of d.sort } ∷ []
declared_added ds later d name is is_name =
    ap (map declared_of) is ∙ map-append declared_of ds (d ∷ []) ∙ (λ j. map declared_of ds ++ record { scope = d.scope; name = is_name j; place = d.place; sort = sort_of d.sort } ∷ [])
