-- The bases of interfaces, listed from the first thing on.
use Rattle.std.proofs.Common.{◌≡◌, ◌∙◌, ℕ, Bool, true, false, ◌||◌, List, [], ◌∷◌, ◌++◌, cond, not, filter, Option, Some, inl, inr, refl, sym, ap}
use mathlib.Core.Path.{fun_ext}
use Rattle.std.specs.Prelude.{◌⊎◌, Vec, if◌then◌else◌, reverse}
use Rattle.std.specs.List.{list_any, flat_map}
use Rattle.std.specs.Map.{lookup}
use Rattle.std.specs.Option.{option_map_or}
use Rattle.std.specs.Str.{bytes_eq}
use Rattle.std.specs.declared.alloc.Global.{Global}
use Rattle.std.proofs.lemmas.Bool.{cases_Bool, both_ways, or_right}
use Rattle.std.proofs.lemmas.List.{reverse-append}
use Rattle.std.proofs.lemmas.List.Folds.{list_any-append}
use Rattle.std.proofs.lemmas.Slice.Eq.{bytes_eq-Decides}
use Rattle.indexmap.specs.IndexMap.{insert_entry}
use Rattle.cdr_values.specs.Trees.{Name, Names}
use Rattle.idl_types.specs.Names.{names_in, once, with_name, with_names}
use Rattle.idl_types.specs.Things.{Thing, constant, named, exception, interface}
use Rattle.idl_types.proofs.EachOnce.{with_both, one_by_one}
use Rattle.script_names.specs.declared.bases.Bases.{Bases}
use Rattle.script_names.specs.Inherited.{inherited, bases_of}
use Rattle.script_names.specs.Views.{listed, with_thing}

abbrev Entry : Type 0
Entry = Vec ℕ Global × Bases

abbrev same : Vec ℕ Global → Vec ℕ Global → Bool
same a b = bytes_eq a.items b.items

-- what is looked up by an id
pub looked : (id : Name) (es : List Entry) → option_map_or (λ (b : Bases). names_in b.ids.keys) (lookup (λ (k : Vec ℕ Global). bytes_eq id k.items) es) [] ≡ listed es id
looked id [] = refl
looked id (e ∷ es) = on (bytes_eq id e.0.items) (looked id es)
  where
    on : (b : Bool) → option_map_or (λ (b : Bases). names_in b.ids.keys) (lookup (λ (k : Vec ℕ Global). bytes_eq id k.items) es) [] ≡ listed es id
        → option_map_or (λ (b : Bases). names_in b.ids.keys) (if b then Some e.1 else lookup (λ (k : Vec ℕ Global). bytes_eq id k.items) es) [] ≡ (if b then names_in e.1.ids.keys else listed es id)
    on true h = refl
    on false h = h

-- two tests of which one fails, in the other order
swap : (x y z : Names) (a b : Bool) → (a ≡ false) ⊎ (b ≡ false) → (if a then x else (if b then y else z)) ≡ (if b then y else (if a then x else z))
swap x y z true true (inl e) = absurd (both_ways true e refl)
swap x y z true true (inr e) = absurd (both_ways true e refl)
swap x y z true false h = refl
swap x y z false true h = refl
swap x y z false false h = refl

-- a list that is put in is what is listed for its id
pub put_listed : (k : Vec ℕ Global) (v : Bases) (es : List Entry) (id : Name) → listed (insert_entry same es k v) id ≡ (if bytes_eq id k.items then names_in v.ids.keys else listed es id)
put_listed k v [] id = refl
put_listed k v (e ∷ es) id = elim (cases_Bool (bytes_eq k.items e.0.items)) [
  | inl t ↦ ap (λ (b : Bool). listed (if b then (e.0, v) ∷ es else e ∷ insert_entry same es k v) id) t
      ∙ ap (λ (n : Name). if bytes_eq id n then names_in v.ids.keys else listed es id) (sym ((bytes_eq-Decides k.items e.0.items).0 t)) ∙ on (bytes_eq id k.items)
      ∙ ap (λ (n : Name). if bytes_eq id k.items then names_in v.ids.keys else (if bytes_eq id n then names_in e.1.ids.keys else listed es id)) ((bytes_eq-Decides k.items e.0.items).0 t)
  | inr f ↦ ap (λ (b : Bool). listed (if b then (e.0, v) ∷ es else e ∷ insert_entry same es k v) id) f
      ∙ ap (λ (ns : Names). if bytes_eq id e.0.items then names_in e.1.ids.keys else ns) (put_listed k v es id)
      ∙ apart f (cases_Bool (bytes_eq id e.0.items)) (cases_Bool (bytes_eq id k.items))
]
  where
    on : (b : Bool) → (if b then names_in v.ids.keys else listed es id) ≡ (if b then names_in v.ids.keys else (if b then names_in e.1.ids.keys else listed es id))
    on true = refl
    on false = refl

    -- an id isn't both
    apart : bytes_eq k.items e.0.items ≡ false → (bytes_eq id e.0.items ≡ true) ⊎ (bytes_eq id e.0.items ≡ false) → (bytes_eq id k.items ≡ true) ⊎ (bytes_eq id k.items ≡ false)
        → (if bytes_eq id e.0.items then names_in e.1.ids.keys else (if bytes_eq id k.items then names_in v.ids.keys else listed es id))
        ≡ (if bytes_eq id k.items then names_in v.ids.keys else (if bytes_eq id e.0.items then names_in e.1.ids.keys else listed es id))
    apart f (inl a) (inl b) =
        absurd (both_ways (bytes_eq k.items e.0.items) f ((bytes_eq-Decides k.items e.0.items).1 (sym ((bytes_eq-Decides id k.items).0 b) ∙ (bytes_eq-Decides id e.0.items).0 a)))
    apart f (inl a) (inr b) = swap (names_in e.1.ids.keys) (names_in v.ids.keys) (listed es id) (bytes_eq id e.0.items) (bytes_eq id k.items) (inr b)
    apart f (inr a) (inl b) = swap (names_in e.1.ids.keys) (names_in v.ids.keys) (listed es id) (bytes_eq id e.0.items) (bytes_eq id k.items) (inl a)
    apart f (inr a) (inr b) = swap (names_in e.1.ids.keys) (names_in v.ids.keys) (listed es id) (bytes_eq id e.0.items) (bytes_eq id k.items) (inl a)

-- a name that is there stays
stays : (n x : Name) (ns : Names) → list_any (bytes_eq n) ns ≡ true → list_any (bytes_eq n) (with_name ns x) ≡ true
stays n x ns there = on (list_any (bytes_eq x) ns)
  where
    on : (b : Bool) → list_any (bytes_eq n) (if b then ns else ns ++ x ∷ []) ≡ true
    on true = there
    on false = list_any-append (bytes_eq n) ns (x ∷ []) ∙ ap (λ (b : Bool). b || list_any (bytes_eq n) (x ∷ [])) there

-- names after names that have this one already
skip : (n : Name) (ns xs : Names) → list_any (bytes_eq n) ns ≡ true → with_names ns (filter (λ m. not (bytes_eq m n)) xs) ≡ with_names ns xs
skip n ns [] there = refl
skip n ns (x ∷ xs) there = elim (cases_Bool (bytes_eq x n)) [
  | inl t ↦ ap (λ (b : Bool). with_names ns (cond (not b) (x ∷ filter (λ m. not (bytes_eq m n)) xs) (filter (λ m. not (bytes_eq m n)) xs))) t
      ∙ skip n ns xs there
      ∙ ap (λ (b : Bool). with_names (if b then ns else ns ++ x ∷ []) xs) (sym (ap (λ (y : Name). list_any (bytes_eq y) ns) ((bytes_eq-Decides x n).0 t) ∙ there))
  | inr f ↦ ap (λ (b : Bool). with_names ns (cond (not b) (x ∷ filter (λ m. not (bytes_eq m n)) xs) (filter (λ m. not (bytes_eq m n)) xs))) f
      ∙ skip n (with_name ns x) xs (stays n x ns there)
]

-- a name that was put in is there
put_there : (x : Name) (ns : Names) → list_any (bytes_eq x) (with_name ns x) ≡ true
put_there x ns = elim (cases_Bool (list_any (bytes_eq x) ns)) [
  | inl t ↦ stays x x ns t
  | inr f ↦ ap (λ (b : Bool). list_any (bytes_eq x) (if b then ns else ns ++ x ∷ [])) f
      ∙ list_any-append (bytes_eq x) ns (x ∷ []) ∙ or_right (list_any (bytes_eq x) ns) (list_any (bytes_eq x) (x ∷ [])) (ap (λ (b : Bool). b || false) ((bytes_eq-Decides x x).1 refl))
]

-- names each once, one by one after others
each_once : (ns xs : Names) → with_names ns (once xs) ≡ with_names ns xs
each_once ns [] = refl
each_once ns (x ∷ xs) = skip x (with_name ns x) (once xs) (put_there x ns) ∙ each_once (with_name ns x) xs

-- what each base has, each once or as it comes
behind_each : (f : Name → Names) (ns bs : Names) → with_names ns (flat_map (λ b. b ∷ once (f b)) bs) ≡ with_names ns (flat_map (λ b. b ∷ f b) bs)
behind_each f ns [] = refl
behind_each f ns (b ∷ bs) =
    with_both ns (b ∷ once (f b)) (flat_map (λ b. b ∷ once (f b)) bs)
    ∙ ap (λ (ms : Names). with_names ms (flat_map (λ b. b ∷ once (f b)) bs)) (each_once (with_name ns b) (f b))
    ∙ behind_each f (with_names ns (b ∷ f b)) bs
    ∙ sym (with_both ns (b ∷ f b) (flat_map (λ b. b ∷ f b) bs))

once_each : (f : Name → Names) (bs : Names) → once (flat_map (λ b. b ∷ once (f b)) bs) ≡ once (flat_map (λ b. b ∷ f b) bs)
once_each f bs = sym (one_by_one (flat_map (λ b. b ∷ once (f b)) bs)) ∙ behind_each f [] bs ∙ one_by_one (flat_map (λ b. b ∷ f b) bs)

-- one thing more after the others
one_thing : (older : List Thing) (t : Thing) (id : Name) → with_thing (λ n. once (inherited older n)) t id ≡ once (inherited (t ∷ older) id)
one_thing older (constant c) id = refl
one_thing older (named t) id = refl
one_thing older (exception e) id = refl
one_thing older (interface i) id = on (bytes_eq id i.id)
  where
    on : (b : Bool) → (if b then once (flat_map (λ n. n ∷ once (inherited older n)) i.bases) else once (inherited older id))
        ≡ once (if b then flat_map (λ n. n ∷ inherited older n) i.bases else inherited older id)
    on true = once_each (inherited older) i.bases
    on false = refl

pub next_thing : (ts : List Thing) (t : Thing) (known : Name → Names) → ((id : Name) → known id ≡ bases_of ts id) → (id : Name) → with_thing known t id ≡ bases_of (ts ++ t ∷ []) id
next_thing ts t known is id =
    ap (λ (f : Name → Names). with_thing f t id) (fun_ext is)
    ∙ one_thing (reverse ts) t id
    ∙ ap (λ (older : List Thing). once (inherited older id)) (sym (reverse-append ts (t ∷ [])))
