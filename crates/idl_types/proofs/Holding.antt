-- What a repository keeps goes on with one thing more.
use Rattle.std.proofs.Common.{◌≡◌, Ok, Err, None, inl, inr, ℕ, ◌+◌, ◌<◌, ◌≤◌, Bool, true, false, not, ◌&&◌, ◌||◌, List, [], ◌∷◌, ◌++◌, length, map, refl, sym, ap, ◌∙◌, subst, arith, length-append, append_assoc, take, zero, suc}
use Rattle.std.specs.Prelude.{Result, IsOk, codes, Vec, if◌then◌else◌, nat_le, sum_by}
use Rattle.std.specs.List.{list_any, list_all}
use Rattle.std.specs.Map.{keys_of}
use Rattle.std.specs.Char.{to_ascii_lowercase}
use Rattle.std.specs.Str.{bytes_eq, str_eq_ignore_ascii_case, str_to_ascii_lowercase}
use Rattle.std.specs.declared.alloc.Global.{Global}
use Rattle.std.proofs.lemmas.List.{append-nil, map-append}
use Rattle.std.proofs.lemmas.List.Sums.{sum_by-append}
use Rattle.std.proofs.lemmas.List.Folds.{list_all-append, list_any-append}
use Rattle.std.proofs.lemmas.Bool.{and_parts, and_from, or_parts, or_from, or_left, or_right, not-true, not_from_false, both_ways, false_from_ne_true, leb-true, le-leb, or_cases}
use Rattle.std.proofs.lemmas.Slice.Eq.{bytes_eq-Decides}
use Rattle.orb_base.specs.declared.no_memory.NoMemory.{NoMemory}
use Rattle.indexmap.specs.IndexMap.{insert_entry}
use Rattle.cdr_values.specs.Lawful.{differ}
use Rattle.idl_types.specs.declared.held.Held.{Held}
use Rattle.idl_types.specs.Things.{Thing, constant, named, exception, interface, id_of, operations_of}
use Rattle.idl_types.specs.Names.{names_in, operation_names}
use Rattle.idl_types.specs.Apart.{are_apart}
use Rattle.idl_types.specs.Sound.{is_sound_thing, is_sound_operation, is_reserved, ping_id, built_in_ids, is_built_in, is_own, has_bases_in, are_based, file_leaves, counted_leaves, most_file_leaves}
use Rattle.idl_types.specs.Inherited.{inherits_in}
use Rattle.idl_types.specs.Declaring.{is_new, is_derived_in, may_hold, IsAdded}
use Rattle.idl_types.specs.Entries.{Entry, entry_thing, entry_things, AreKeyed, AreFolded, InsertsBehind, PutsBehind, SetsLeft}
use Rattle.idl_types.specs.BuiltIn.{ping, names, bare_exception}
use Rattle.idl_types.specs.Counting.{thing_leaves}
use Rattle.idl_types.specs.Finding.{has_id, place_named}
use Rattle.orb_base.proofs.Places.{any_map}
use Rattle.idl_types.proofs.Places.{any_more, none_any}
use Rattle.idl_types.proofs.Inheriting.{inherited_on}

-- the operations of a sound thing have different names
pub sound_names : (t : Thing) → is_sound_thing t ≡ true → differ bytes_eq (operation_names (operations_of t)) ≡ true
sound_names (constant c) s = refl
sound_names (named t) s = refl
sound_names (exception e) s = refl
sound_names (interface i) s = (and_parts (list_all is_sound_operation i.operations) (differ bytes_eq (map (λ o. o.name) i.operations)) s).1

-- what the test says, part by part
pub record Fresh (ts : List Thing) (t : Thing) : Type 0 where
  pub sound : is_sound_thing t ≡ true
  pub based : has_bases_in ts t ≡ true
  pub inherited : inherits_in ts t ≡ true
  pub new : is_new ts t ≡ true
  pub own : is_own t ≡ true
  pub leaves : file_leaves ts + counted_leaves t ≤ most_file_leaves

pub fresh : (ts : List Thing) (t : Thing) → may_hold ts t ≡ true → Fresh ts t
fresh ts t h =
    let p = and_parts (is_sound_thing t && is_derived_in ts t) ((is_new ts t && is_own t) && nat_le (file_leaves ts + counted_leaves t) most_file_leaves) h in
    let q = and_parts (is_sound_thing t) (is_derived_in ts t) p.0 in
    let d = and_parts (has_bases_in ts t) (inherits_in ts t) q.1 in
    let r = and_parts (is_new ts t && is_own t) (nat_le (file_leaves ts + counted_leaves t) most_file_leaves) p.1 in
    let s = and_parts (is_new ts t) (is_own t) r.0 in
    record { sound = q.0; based = d.0; inherited = d.1; new = s.0; own = s.1; leaves = leb-true (file_leaves ts + counted_leaves t) most_file_leaves r.1 }

pub insert_behind_is : (eq : Vec ℕ Global → Vec ℕ Global → Bool) (k : Vec ℕ Global) (h : Held) (es : List Entry) → list_any (eq k) (keys_of es) ≡ false → insert_entry eq es k h ≡ es ++ (k, h) ∷ []
insert_behind_is eq k h [] new = refl
insert_behind_is eq k h (e ∷ es) new =
    let p = or_parts (eq k e.0) (list_any (eq k) (keys_of es)) new in
    ap (λ (b : Bool). if b then (e.0, h) ∷ es else e ∷ insert_entry eq es k h) p.0 ∙ ap (λ (xs : List Entry). e ∷ xs) (insert_behind_is eq k h es p.1)

-- no key is a new thing's id
key_new : (es : List Entry) (t : Thing) → AreKeyed es → is_new (entry_things es) t ≡ true → list_any (λ (k : Vec ℕ Global). bytes_eq (id_of t) k.items) (keys_of es) ≡ false
key_new es t keyed new = false_from_ne_true (list_any (λ (k : Vec ℕ Global). bytes_eq (id_of t) k.items) (keys_of es))
    (λ there. both_ways (list_any (λ u. str_eq_ignore_ascii_case (id_of t) (id_of u)) (entry_things es))
    (not-true (list_any (λ u. str_eq_ignore_ascii_case (id_of t) (id_of u)) (entry_things es)) new)
    (any_more (λ u. bytes_eq (id_of t) (id_of u)) (λ u. str_eq_ignore_ascii_case (id_of t) (id_of u)) (entry_things es) (λ u same. same_folded (id_of t) (id_of u) same)
    (sym (any_map (bytes_eq (id_of t)) id_of (entry_things es))
    ∙ ap (λ (ns : List (List ℕ)). list_any (bytes_eq (id_of t)) ns) (sym keyed)
    ∙ any_map (bytes_eq (id_of t)) (λ e. e.0.items) es
    ∙ sym (any_map (λ (k : Vec ℕ Global). bytes_eq (id_of t) k.items) (λ e. e.0) es) ∙ there)))
  where
    same_folded : (a b : List ℕ) → bytes_eq a b ≡ true → str_eq_ignore_ascii_case a b ≡ true
    same_folded a b e = (bytes_eq-Decides (str_to_ascii_lowercase a) (str_to_ascii_lowercase b)).1 (ap str_to_ascii_lowercase ((bytes_eq-Decides a b).0 e))

-- the keys under the name of a new thing
pub key_fresh : (es : List Entry) (t : Thing) (key : List ℕ) → key ≡ id_of t → AreKeyed es → Fresh (entry_things es) t → list_any (λ (k : Vec ℕ Global). bytes_eq key k.items) (keys_of es) ≡ false
key_fresh es t key is keyed f = ap (λ (n : List ℕ). list_any (λ (k : Vec ℕ Global). bytes_eq n k.items) (keys_of es)) is ∙ key_new es t keyed f.new

module _ (es : List Entry) (e : Entry) where
  -- the things with one more
  pub things_on : entry_things (es ++ e ∷ []) ≡ entry_things es ++ entry_thing e ∷ []
  things_on = map-append entry_thing es (e ∷ [])

  pub keyed_on : AreKeyed es → e.0.items ≡ id_of (entry_thing e) → AreKeyed (es ++ e ∷ [])
  keyed_on keyed key =
      map-append (λ (x : Entry). x.0.items) es (e ∷ [])
      ∙ ap (λ (ns : List (List ℕ)). ns ++ e.0.items ∷ []) keyed
      ∙ ap (λ (n : List ℕ). map id_of (entry_things es) ++ n ∷ []) key
      ∙ sym (map-append id_of (entry_things es) (entry_thing e ∷ []))
      ∙ ap (map id_of) (sym things_on)

  pub room_on : length es < 524288 → length (es ++ e ∷ []) ≤ 524288
  room_on room = omega (arith, length-append es (e ∷ []))

module _ (ts : List Thing) (t : Thing) where
  all_on : (p : Thing → Bool) → list_all p ts ≡ true → p t ≡ true → list_all p (ts ++ t ∷ []) ≡ true
  all_on p all one = list_all-append p ts (t ∷ []) ∙ and_from (list_all p ts) (list_all p (t ∷ [])) all (and_from (p t) true one refl)

  pub each_on : list_all is_sound_thing ts ≡ true → Fresh ts t → list_all is_sound_thing (ts ++ t ∷ []) ≡ true
  each_on each f = all_on is_sound_thing each f.sound

  pub own_on : list_all is_own ts ≡ true → Fresh ts t → list_all is_own (ts ++ t ∷ []) ≡ true
  own_on own f = all_on is_own own f.own

-- names that are apart, with one more that differs from each
pub differ_on : (same : List ℕ → List ℕ → Bool) (ns : List (List ℕ)) (n : List ℕ) → ((a b : List ℕ) → same a b ≡ true → same b a ≡ true) → differ same ns ≡ true
    → list_any (same n) ns ≡ false → differ same (ns ++ n ∷ []) ≡ true
differ_on same [] n both all new = refl
differ_on same (m ∷ ns) n both all new =
    let p = and_parts (not (list_any (λ y. same y m) ns)) (differ same ns) all in
    let q = or_parts (same n m) (list_any (same n) ns) new in
    and_from (not (list_any (λ y. same y m) (ns ++ n ∷ []))) (differ same (ns ++ n ∷ []))
    (not_from_false (list_any (λ y. same y m) (ns ++ n ∷ []))
    (list_any-append (λ y. same y m) ns (n ∷ []) ∙ or_from (list_any (λ y. same y m) ns) (list_any (λ y. same y m) (n ∷ [])) (not-true (list_any (λ y. same y m) ns) p.0)
    (or_from (same n m) false q.0 refl)))
    (differ_on same ns n both p.1 q.1)

pub ids_on : (ts : List Thing) (t : Thing) → are_apart (map id_of ts) ≡ true → Fresh ts t → are_apart (map id_of (ts ++ t ∷ [])) ≡ true
ids_on ts t apart f =
    ap are_apart (map-append id_of ts (t ∷ []))
    ∙ differ_on str_eq_ignore_ascii_case (map id_of ts) (id_of t) both apart
    (any_map (str_eq_ignore_ascii_case (id_of t)) id_of ts ∙ not-true (list_any (λ u. str_eq_ignore_ascii_case (id_of t) (id_of u)) ts) f.new)
  where
    both : (a b : List ℕ) → str_eq_ignore_ascii_case a b ≡ true → str_eq_ignore_ascii_case b a ≡ true
    both a b e = (bytes_eq-Decides (str_to_ascii_lowercase b) (str_to_ascii_lowercase a)).1 (sym ((bytes_eq-Decides (str_to_ascii_lowercase a) (str_to_ascii_lowercase b)).0 e))

based_behind : (before ts : List Thing) (t : Thing) → are_based before ts ≡ true → has_bases_in (before ++ ts) t ≡ true → are_based before (ts ++ t ∷ []) ≡ true
based_behind before [] t all one = and_from (has_bases_in before t) true (ap (λ (xs : List Thing). has_bases_in xs t) (sym (append-nil before)) ∙ one) refl
based_behind before (u ∷ us) t all one =
    let p = and_parts (has_bases_in before u) (are_based (before ++ u ∷ []) us) all in
    and_from (has_bases_in before u) (are_based (before ++ u ∷ []) (us ++ t ∷ [])) p.0
    (based_behind (before ++ u ∷ []) us t p.1 (ap (λ (xs : List Thing). has_bases_in xs t) (append_assoc before (u ∷ []) us) ∙ one))

pub based_on : (ts : List Thing) (t : Thing) → are_based [] ts ≡ true → Fresh ts t → are_based [] (ts ++ t ∷ []) ≡ true
based_on ts t all f = based_behind [] ts t all f.based

-- what the entries and the names in lower case keep
pub record Kept (es : List Entry) (ns : List (Vec ℕ Global)) : Type 0 where
  pub keyed : AreKeyed es
  pub room : length es ≤ 524288
  pub each : list_all is_sound_thing (entry_things es) ≡ true
  pub ids : are_apart (map id_of (entry_things es)) ≡ true
  pub based : are_based [] (entry_things es) ≡ true
  pub inherited : list_all (inherits_in (entry_things es)) (entry_things es) ≡ true
  pub own : list_all is_own (entry_things es) ≡ true
  pub by_case : AreFolded ns es

folded_on : (es : List Entry) (e : Entry) (ns more : List (Vec ℕ Global)) (low : List ℕ) → AreFolded ns es → low ≡ str_to_ascii_lowercase (id_of (entry_thing e))
    → names_in more ≡ names_in ns ++ low ∷ [] → AreFolded more (es ++ e ∷ [])
folded_on es e ns more low old is new =
    new ∙ ap (λ (xs : List (List ℕ)). xs ++ low ∷ []) old ∙ ap (λ (l : List ℕ). map (λ (x : Entry). str_to_ascii_lowercase (id_of (entry_thing x))) es ++ l ∷ []) is
    ∙ sym (map-append (λ (x : Entry). str_to_ascii_lowercase (id_of (entry_thing x))) es (e ∷ []))

kept_on : (es : List Entry) (e : Entry) (ns more : List (Vec ℕ Global)) (low : List ℕ) → Kept es ns → length es < 524288 → e.0.items ≡ id_of (entry_thing e)
    → low ≡ str_to_ascii_lowercase (id_of (entry_thing e)) → names_in more ≡ names_in ns ++ low ∷ [] → Fresh (entry_things es) (entry_thing e) → Kept (es ++ e ∷ []) more
kept_on es e ns more low k room key is new f =
    let ts = entry_things es in
    let t = entry_thing e in
    record {
      keyed = keyed_on es e k.keyed key;
      room = room_on es e room;
      each = ap (list_all is_sound_thing) (things_on es e) ∙ each_on ts t k.each f;
      ids = ap (λ (xs : List Thing). are_apart (map id_of xs)) (things_on es e) ∙ ids_on ts t k.ids f;
      based = ap (are_based []) (things_on es e) ∙ based_on ts t k.based f;
      inherited = ap (λ (xs : List Thing). list_all (inherits_in xs) xs) (things_on es e) ∙ inherited_on ts t k.based k.inherited f.based f.inherited;
      own = ap (list_all is_own) (things_on es e) ∙ own_on ts t k.own f;
      by_case = folded_on es e ns more low k.by_case is new;
    }

kept_same : (es : List Entry) (ns more : List (Vec ℕ Global)) → Kept es ns → names_in more ≡ names_in ns → Kept es more
kept_same es ns more k is = record { keyed = k.keyed; room = k.room; each = k.each; ids = k.ids; based = k.based; inherited = k.inherited; own = k.own; by_case = is ∙ k.by_case }

-- the entries go on keeping it, whether or not the entry was put after them
pub kept_after : (r : Result (Unit {0}) NoMemory) (es new : List Entry) (e : Entry) (ns more : List (Vec ℕ Global)) (low : List ℕ)
    → InsertsBehind r es e new → PutsBehind r (names_in ns) low (names_in more)
    → Kept es ns → length es < 524288 → e.0.items ≡ id_of (entry_thing e) → low ≡ str_to_ascii_lowercase (id_of (entry_thing e)) → Fresh (entry_things es) (entry_thing e) → Kept new more
kept_after (Ok u) es new e ns more low is puts k room key folded f = subst (λ (xs : List Entry). Kept xs more) (sym is) (kept_on es e ns more low k room key folded puts f)
kept_after (Err x) es new e ns more low is puts k room key folded f = subst (λ (xs : List Entry). Kept xs more) (sym is) (kept_same es ns more k puts)

-- the leaves of one more
pub counted_on : (es new : List Entry) (e : Entry) → new ≡ es ++ e ∷ [] → file_leaves (entry_things new) ≡ file_leaves (entry_things es) + counted_leaves (entry_thing e)
counted_on es new e is =
    let one : sum_by counted_leaves (entry_thing e ∷ []) ≡ counted_leaves (entry_thing e) = omega arith in
    ap (λ (xs : List Entry). file_leaves (entry_things xs)) is ∙ ap file_leaves (things_on es e) ∙ sum_by-append counted_leaves (entry_things es) (entry_thing e ∷ [])
    ∙ ap (λ (n : ℕ). file_leaves (entry_things es) + n) one

-- the count goes on adding up
pub counted_after : (r : Result (Unit {0}) NoMemory) (es new : List Entry) (e : Entry) (free left free' : ℕ) → InsertsBehind r es e new → SetsLeft r free left free'
    → free + file_leaves (entry_things es) ≡ 1048576 → left + (file_leaves (entry_things es) + counted_leaves (entry_thing e)) ≡ 1048576 → free' + file_leaves (entry_things new) ≡ 1048576
counted_after (Ok u) es new e free left free' is set old all = omega (arith, all, set, counted_on es new e is)
counted_after (Err x) es new e free left free' is set old all = omega (arith, old, set, ap (λ (xs : List Entry). file_leaves (entry_things xs)) is)

-- where it is known to be Ok
pub ok_puts : (r : Result (Unit {0}) NoMemory) (ns : List (List ℕ)) (n : List ℕ) (new : List (List ℕ)) → IsOk r → new ≡ ns ++ n ∷ [] → PutsBehind r ns n new
ok_puts (Ok u) ns n new ok is = is
ok_puts (Err x) ns n new ok is = absurd (both_ways false refl ok)

pub ok_sets : (r : Result (Unit {0}) NoMemory) (old n new : ℕ) → IsOk r → new ≡ n → SetsLeft r old n new
ok_sets (Ok u) old n new ok is = is
ok_sets (Err x) old n new ok is = absurd (both_ways false refl ok)

take_map : (n : ℕ) (xs : List ℕ) → str_to_ascii_lowercase (take n xs) ≡ take n (str_to_ascii_lowercase xs)
take_map zero xs = refl
take_map (suc n) [] = refl
take_map (suc n) (x ∷ xs) = ap (λ (ys : List ℕ). to_ascii_lowercase x ∷ ys) (take_map n xs)

-- an id in the module Orb is a reserved one
reserved_like : (b n : List ℕ) → take 8 (str_to_ascii_lowercase b) ≡ str_to_ascii_lowercase (codes "IDL:Orb/") → str_eq_ignore_ascii_case b n ≡ true → is_reserved n ≡ true
reserved_like b n head same =
    let e : str_to_ascii_lowercase b ≡ str_to_ascii_lowercase n = (bytes_eq-Decides (str_to_ascii_lowercase b) (str_to_ascii_lowercase n)).0 same in
    let front : str_to_ascii_lowercase (take 8 n) ≡ str_to_ascii_lowercase (codes "IDL:Orb/") = take_map 8 n ∙ ap (take 8) (sym e) ∙ head in
    or_left (str_eq_ignore_ascii_case (take 8 n) (codes "IDL:Orb/")) (str_eq_ignore_ascii_case n (codes "IDL:Orb:1.0"))
    ((bytes_eq-Decides (str_to_ascii_lowercase (take 8 n)) (str_to_ascii_lowercase (codes "IDL:Orb/"))).1 front)

any_both : {X : Type 0} (p q r : X → Bool) (xs : List X) → ((x : X) → p x ≡ true → q x ≡ true → r x ≡ true) → list_any p xs ≡ true → list_all q xs ≡ true → list_any r xs ≡ true
any_both p q r [] both any all = any
any_both p q r (x ∷ xs) both any all =
    let a = and_parts (q x) (list_all q xs) all in
    elim (or_cases (p x) (list_any p xs) any) [
      | inl t ↦ or_left (r x) (list_any r xs) (both x t a.0)
      | inr t ↦ or_right (r x) (list_any r xs) (any_both p q r xs both t a.1)
    ]

any_same : {X : Type 0} (b : Bool) (xs : List X) → list_any (λ x. b) xs ≡ true → b ≡ true
any_same b [] any = absurd (both_ways false refl any)
any_same b (x ∷ xs) any = elim (or_cases b (list_any (λ x. b) xs) any) [ inl t ↦ t | inr t ↦ any_same b xs t ]

-- a built-in id, which no other one is like but for case
pub record IsBuiltIn (b : List ℕ) : Type 0 where
  pub head : take 8 (str_to_ascii_lowercase b) ≡ str_to_ascii_lowercase (codes "IDL:Orb/")
  pub alone : list_all (λ n. not (str_eq_ignore_ascii_case b n) || bytes_eq n b) built_in_ids ≡ true

like_same : (b n m : List ℕ) → str_eq_ignore_ascii_case b m ≡ true → bytes_eq n m ≡ true → (not (str_eq_ignore_ascii_case b n) || bytes_eq n b) ≡ true → bytes_eq b m ≡ true
like_same b n m like same one =
    let e : n ≡ m = (bytes_eq-Decides n m).0 same in
    let l : str_eq_ignore_ascii_case b n ≡ true = ap (str_eq_ignore_ascii_case b) e ∙ like in
    let f : n ≡ b = (bytes_eq-Decides n b).0 (ap (λ (x : Bool). not x || bytes_eq n b) (sym l) ∙ one) in
    (bytes_eq-Decides b m).1 (sym f ∙ e)

own_like : (b : List ℕ) → IsBuiltIn b → (t : Thing) → str_eq_ignore_ascii_case b (id_of t) ≡ true → is_own t ≡ true → has_id b t ≡ true
own_like b h t same own =
    let known : is_built_in (id_of t) ≡ true = ap (λ (x : Bool). not x || is_built_in (id_of t)) (sym (reserved_like b (id_of t) h.head same)) ∙ own in
    any_same (has_id b t) built_in_ids
    (any_both (λ n. bytes_eq n (id_of t)) (λ n. not (str_eq_ignore_ascii_case b n) || bytes_eq n b) (λ n. has_id b t) built_in_ids
    (λ n s o. like_same b n (id_of t) same s o) known h.alone)

-- a built-in thing may be held where its id isn't there
pub may_be_built_in : (ts : List Thing) (t : Thing) → IsBuiltIn (id_of t) → (is_sound_thing t && is_derived_in ts t) ≡ true → is_own t ≡ true → counted_leaves t ≡ 0
    → place_named ts (id_of t) ≡ None → list_all is_own ts ≡ true → file_leaves ts ≤ most_file_leaves → may_hold ts t ≡ true
may_be_built_in ts t h sound mine free none own leaves =
    and_from (is_sound_thing t && is_derived_in ts t) ((is_new ts t && is_own t) && nat_le (file_leaves ts + counted_leaves t) most_file_leaves) sound
    (and_from (is_new ts t && is_own t) (nat_le (file_leaves ts + counted_leaves t) most_file_leaves)
    (and_from (is_new ts t) (is_own t) new mine)
    (le-leb (file_leaves ts + counted_leaves t) most_file_leaves (omega (arith, leaves, free))))
  where
    new : is_new ts t ≡ true
    new = not_from_false (list_any (λ u. str_eq_ignore_ascii_case (id_of t) (id_of u)) ts)
        (false_from_ne_true (list_any (λ u. str_eq_ignore_ascii_case (id_of t) (id_of u)) ts)
        (λ there. both_ways (list_any (has_id (id_of t)) ts) (none_any (has_id (id_of t)) ts none)
        (any_both (λ u. str_eq_ignore_ascii_case (id_of t) (id_of u)) is_own (has_id (id_of t)) ts (own_like (id_of t) h) there own)))

pub ping_free : (t : Thing) → t ≡ ping → counted_leaves t ≡ 0
ping_free t is = ap counted_leaves is

pub ping_may : (ts : List Thing) (t : Thing) → t ≡ ping → place_named ts ping_id ≡ None → list_all is_own ts ≡ true → file_leaves ts ≤ most_file_leaves → may_hold ts t ≡ true
ping_may ts t is none own leaves =
    ap (may_hold ts) is ∙ may_be_built_in ts ping (record { head = refl; alone = refl }) refl refl refl none own leaves

-- an exception without members
pub exception_adds : (id : List ℕ) (t : Thing) → IsBuiltIn id → is_own (bare_exception id) ≡ true → is_reserved id ≡ true → t ≡ bare_exception id → IsAdded t
exception_adds id t h mine reserved is = record {
  free = ap counted_leaves is ∙ ap (λ (b : Bool). if b then 0 else thing_leaves (bare_exception id)) reserved;
  may = (λ ts none own leaves. ap (may_hold ts) is
      ∙ may_be_built_in ts (bare_exception id) h refl mine (ap (λ (b : Bool). if b then 0 else thing_leaves (bare_exception id)) reserved)
      (ap (λ (u : Thing). place_named ts (id_of u)) (sym is) ∙ none) own leaves);
}

-- the interface of the name service
pub names_adds : (t : Thing) → t ≡ names → IsAdded t
names_adds t is = record {
  free = ap counted_leaves is;
  may = (λ ts none own leaves. ap (may_hold ts) is
      ∙ may_be_built_in ts names (record { head = refl; alone = refl }) refl refl refl (ap (λ (u : Thing). place_named ts (id_of u)) (sym is) ∙ none) own leaves);
}
