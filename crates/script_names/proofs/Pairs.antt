-- Pairs that are put into an index one by one.
use Rattle.std.proofs.Common.{◌≡◌, ◌∙◌, ℕ, Bool, true, false, ◌||◌, List, [], ◌∷◌, ◌++◌, map, Option, Some, None, inl, inr, refl, sym, ap, append_assoc}
use Rattle.std.specs.Prelude.{◌⊎◌, Vec, is_some, if◌then◌else◌}
use Rattle.std.specs.Option.{option_or}
use Rattle.std.specs.List.{list_any}
use Rattle.std.specs.Map.{lookup}
use Rattle.std.specs.Str.{bytes_eq}
use Rattle.std.specs.declared.alloc.Global.{Global}
use Rattle.std.proofs.lemmas.Bool.{cases_Bool, or_parts, or_cases}
use Rattle.std.proofs.lemmas.List.{append-nil}
use Rattle.std.proofs.lemmas.Slice.Eq.{bytes_eq-Decides}
use Rattle.indexmap.specs.IndexMap.{insert_entry}
use Rattle.script_names.specs.declared.meaning.Meaning.{Meaning}
use Rattle.script_names.specs.Meanings.{Pair, meaning_in}
use Rattle.script_names.specs.Views.{pair_of, pairs_of, with_pair, with_pairs}

abbrev Entry : Type 0
Entry = Vec ℕ Global × Meaning

abbrev same : Vec ℕ Global → Vec ℕ Global → Bool
same a b = bytes_eq a.items b.items

-- whether an id is among pairs
abbrev is_in : List ℕ → List Pair → Bool
is_in id ps = list_any (λ q. bytes_eq id q.0) ps

there_is : (id : List ℕ) (es : List Entry) → is_some (lookup (λ (k : Vec ℕ Global). bytes_eq id k.items) es) ≡ is_in id (pairs_of es)
there_is id [] = refl
there_is id (e ∷ es) = on (bytes_eq id e.0.items) (there_is id es)
  where
    on : (b : Bool) → is_some (lookup (λ (k : Vec ℕ Global). bytes_eq id k.items) es) ≡ is_in id (pairs_of es)
        → is_some (if b then Some e.1 else lookup (λ (k : Vec ℕ Global). bytes_eq id k.items) es) ≡ (b || is_in id (pairs_of es))
    on true h = refl
    on false h = h

-- what is looked up by an id
pub looked : (id : List ℕ) (es : List Entry) → lookup (λ (k : Vec ℕ Global). bytes_eq id k.items) es ≡ meaning_in (pairs_of es) id
looked id [] = refl
looked id (e ∷ es) = ap (λ (o : Option Meaning). if bytes_eq id e.0.items then Some e.1 else o) (looked id es)

put_new : (k : Vec ℕ Global) (m : Meaning) (es : List Entry) → is_in k.items (pairs_of es) ≡ false → pairs_of (insert_entry same es k m) ≡ pairs_of es ++ (k.items, m) ∷ []
put_new k m [] none = refl
put_new k m (e ∷ es) none =
    let p = or_parts (bytes_eq k.items e.0.items) (is_in k.items (pairs_of es)) none in
    ap (λ (b : Bool). pairs_of (if b then (e.0, m) ∷ es else e ∷ insert_entry same es k m)) p.0 ∙ ap (λ (ps : List Pair). pair_of e ∷ ps) (put_new k m es p.1)

-- an id that is there stays as it is
pub put_again : (id : List ℕ) (m : Meaning) (es : List Entry) → is_some (lookup (λ (k : Vec ℕ Global). bytes_eq id k.items) es) ≡ true → pairs_of es ≡ with_pair (pairs_of es) (id, m)
put_again id m es there = sym (ap (λ (b : Bool). if b then pairs_of es else pairs_of es ++ (id, m) ∷ []) (sym (there_is id es) ∙ there))

-- and one that isn't there goes after the others
pub put_behind : (k : Vec ℕ Global) (m : Meaning) (es : List Entry) → is_some (lookup (λ (x : Vec ℕ Global). bytes_eq k.items x.items) es) ≡ false
    → pairs_of (insert_entry same es k m) ≡ with_pair (pairs_of es) (k.items, m)
put_behind k m es none =
    let h : is_in k.items (pairs_of es) ≡ false = sym (there_is k.items es) ∙ none in
    put_new k m es h ∙ sym (ap (λ (b : Bool). if b then pairs_of es else pairs_of es ++ (k.items, m) ∷ []) h)

-- pairs after others, a part at a time
pub with_both : (ps xs ys : List Pair) → with_pairs ps (xs ++ ys) ≡ with_pairs (with_pairs ps xs) ys
with_both ps [] ys = refl
with_both ps (x ∷ xs) ys = with_both (with_pair ps x) xs ys

meaning_behind : (id : List ℕ) (xs ys : List Pair) → meaning_in (xs ++ ys) id ≡ option_or (meaning_in xs id) (meaning_in ys id)
meaning_behind id [] ys = refl
meaning_behind id (x ∷ xs) ys = on (bytes_eq id x.0) (meaning_behind id xs ys)
  where
    on : (b : Bool) → meaning_in (xs ++ ys) id ≡ option_or (meaning_in xs id) (meaning_in ys id)
        → (if b then Some x.1 else meaning_in (xs ++ ys) id) ≡ option_or (if b then Some x.1 else meaning_in xs id) (meaning_in ys id)
    on true h = refl
    on false h = h

told : (id : List ℕ) (ps : List Pair) (o : Option Meaning) → is_in id ps ≡ true → option_or (meaning_in ps id) o ≡ meaning_in ps id
told id [] o there = absurd (cc)
told id (p ∷ ps) o there = elim (cases_Bool (bytes_eq id p.0)) [
  | inl t ↦ ap (λ (b : Bool). option_or (if b then Some p.1 else meaning_in ps id) o) t ∙ sym (ap (λ (b : Bool). if b then Some p.1 else meaning_in ps id) t)
  | inr f ↦ ap (λ (b : Bool). option_or (if b then Some p.1 else meaning_in ps id) o) f ∙ told id ps o (sym (ap (λ (b : Bool). b || is_in id ps) f) ∙ there)
      ∙ sym (ap (λ (b : Bool). if b then Some p.1 else meaning_in ps id) f)
]

nothing_more : (o : Option Meaning) → option_or o None ≡ o
nothing_more None = refl
nothing_more (Some m) = refl

-- what is put in changes nothing of what is there
one_more : (id : List ℕ) (ps : List Pair) (x : Pair) → meaning_in (with_pair ps x) id ≡ meaning_in (ps ++ x ∷ []) id
one_more id ps x = elim (cases_Bool (is_in x.0 ps)) [
  | inl t ↦ ap (λ (b : Bool). meaning_in (if b then ps else ps ++ x ∷ []) id) t ∙ sym (meaning_behind id ps (x ∷ []) ∙ again t (cases_Bool (bytes_eq id x.0)))
  | inr f ↦ ap (λ (b : Bool). meaning_in (if b then ps else ps ++ x ∷ []) id) f
]
  where
    again : is_in x.0 ps ≡ true → (bytes_eq id x.0 ≡ true) ⊎ (bytes_eq id x.0 ≡ false) → option_or (meaning_in ps id) (meaning_in (x ∷ []) id) ≡ meaning_in ps id
    again there (inl t) = told id ps (meaning_in (x ∷ []) id) (ap (λ (n : List ℕ). is_in n ps) ((bytes_eq-Decides id x.0).0 t) ∙ there)
    again there (inr f) = ap (λ (b : Bool). option_or (meaning_in ps id) (if b then Some x.1 else None)) f ∙ nothing_more (meaning_in ps id)

-- so an id stands for what the first pair says of it
pub first_tells : (id : List ℕ) (ps xs : List Pair) → meaning_in (with_pairs ps xs) id ≡ meaning_in (ps ++ xs) id
first_tells id ps [] = ap (λ (qs : List Pair). meaning_in qs id) (sym (append-nil ps))
first_tells id ps (x ∷ xs) =
    first_tells id (with_pair ps x) xs
    ∙ meaning_behind id (with_pair ps x) xs
    ∙ ap (λ (o : Option Meaning). option_or o (meaning_in xs id)) (one_more id ps x)
    ∙ sym (meaning_behind id (ps ++ x ∷ []) xs)
    ∙ ap (λ (qs : List Pair). meaning_in qs id) (append_assoc ps (x ∷ []) xs)
