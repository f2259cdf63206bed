-- What names stand for: an enumerator's type is an enum.
use Rattle.std.proofs.Common.{◌≡◌, ℕ, suc, ◌+◌, Bool, true, false, cond, List, [], ◌∷◌, ◌++◌, map, Option, Some, None, Result, Ok, Err, refl, sym, ap, ◌∙◌, subst, slice_get, arith}
use Rattle.std.specs.Option.{option_map}
use Rattle.std.specs.Str.{bytes_eq}
use Rattle.std.proofs.lemmas.Option.{none-some, same_Some}
use Rattle.cdr_values.specs.Trees.{Name, Names, boolean, char, unsigned, signed, enumeration, Kind, scalar, words, sequence, array, structure, union}
use Rattle.cdr_values.specs.Trees as trees
use Rattle.cdr_values.specs.Lawful.{member_names}
use Rattle.idl_types.specs.Apart.{case_names}
use Rattle.idl_types.specs.Names.{operation_names}
use Rattle.idl_types.specs.Things.{Thing, constant, named, exception, interface, TypeView, id_of}
use Rattle.servant_scripts.specs.declared.phrase.At.{At}
use Rattle.servant_scripts.specs.declared.phrase.Part.{Part}
use Rattle.servant_scripts.specs.Trees.{Scoped}
use Rattle.script_names.specs.declared.meaning.Meaning.{Meaning}
use Rattle.script_names.specs.declared.meaning.Meaning.TheVariants as means
use Rattle.script_names.specs.Paths.{path_of, id_in, around}
use Rattle.script_names.specs.Meanings.{Pair, unused, enumerators, first_or_file, declared_name, type_parts, parts_of, modules_of, themselves, beside, meaning_in}
use Rattle.script_names.specs.Finding.{own, or_else, among, inside, first_inside, first_part, part_found, further, all_parts, stands_for, meant}
use Rattle.script_names.specs.Known.{Known, known}
use Rattle.script_laws.specs.Kinds.{Every}

-- an enumerator is one of an enum
abbrev pub IsEnum : List Thing → Meaning → Type 0
IsEnum ts (means.Thing i) = Unit {0}
IsEnum ts (means.Enumerator i n) = (t : TypeView) × (name : Name) × (labels : Names) × (slice_get ts i ≡ Some (named t)) × (t.kind ≡ scalar (enumeration name labels))
IsEnum ts means.Other = Unit {0}

abbrev Of : List Thing → Pair → Type 0
Of ts p = IsEnum ts p.1

pub both_every : {A : Type 0} (P : A → Type 0) (xs ys : List A) → Every P xs → Every P ys → Every P (xs ++ ys)
both_every P [] ys h g = g
both_every P (x ∷ xs) ys h g = (h.0, both_every P xs ys h.1 g)

unused_enum : (ts : List Thing) (scope : Name) (names : Names) → Every (Of ts) (unused scope names)
unused_enum ts scope [] = tt
unused_enum ts scope (n ∷ ns) = (tt, unused_enum ts scope ns)

labels_enum : (ts : List Thing) (place : ℕ) (scope : Name) (n : ℕ) (labels : Names) → ((n : ℕ) → IsEnum ts (means.Enumerator place n)) → Every (Of ts) (enumerators place scope n labels)
labels_enum ts place scope n [] h = tt
labels_enum ts place scope n (l ∷ ls) h = (h n, labels_enum ts place scope (n + 1) ls h)

cond_every : {A : Type 0} (P : A → Type 0) (b : Bool) (xs : List A) → Every P xs → Every P (cond b xs [])
cond_every P true xs h = h
cond_every P false xs h = tt

type_enum : (ts : List Thing) (place : ℕ) (t : TypeView) (k : Kind) → t.kind ≡ k → slice_get ts place ≡ Some (named t) → Every (Of ts) (type_parts place t.id k)
type_enum ts place t (scalar (enumeration name labels)) is at = cond_every (Of ts) (bytes_eq name t.id) (enumerators place (first_or_file (around (path_of t.id))) 0 labels)
    (labels_enum ts place (first_or_file (around (path_of t.id))) 0 labels (λ n. (t, name, labels, at, is)))
type_enum ts place t (scalar boolean) is at = tt
type_enum ts place t (scalar char) is at = tt
type_enum ts place t (scalar (unsigned s)) is at = tt
type_enum ts place t (scalar (signed s)) is at = tt
type_enum ts place t (words bound) is at = tt
type_enum ts place t (sequence k bound) is at = tt
type_enum ts place t (array k n) is at = tt
type_enum ts place t (structure name ms) is at = cond_every (Of ts) (bytes_eq name t.id) (unused (path_of t.id) (member_names ms)) (unused_enum ts (path_of t.id) (member_names ms))
type_enum ts place t (union name d cs) is at = cond_every (Of ts) (bytes_eq name t.id) (unused (path_of t.id) (case_names cs)) (unused_enum ts (path_of t.id) (case_names cs))

parts_enum : (ts : List Thing) (place : ℕ) (t : Thing) → slice_get ts place ≡ Some t → Every (Of ts) (parts_of place t)
parts_enum ts place (constant c) at = tt
parts_enum ts place (named t) at = type_enum ts place t t.kind refl at
parts_enum ts place (exception e) at = unused_enum ts (path_of e.id) (member_names (trees.members_of e.members))
parts_enum ts place (interface i) at = unused_enum ts (path_of i.id) (map declared_name (operation_names i.operations))

themselves_enum : (ts : List Thing) (place : ℕ) (us : List Thing) → Every (Of ts) (themselves place us)
themselves_enum ts place [] = tt
themselves_enum ts place (u ∷ us) = (tt, themselves_enum ts (place + 1) us)

beside_enum : (ts : List Thing) (place : ℕ) (us : List Thing) → ((j : ℕ) → slice_get ts (place + j) ≡ slice_get us j) → Every (Of ts) (beside place us)
beside_enum ts place [] h = tt
beside_enum ts place (u ∷ us) h =
    let here : place + 0 ≡ place = omega arith in
    let next : (j : ℕ) → slice_get ts ((place + 1) + j) ≡ slice_get us j = λ j. ap (slice_get ts) (let e : (place + 1) + j ≡ place + suc j = omega arith in e) ∙ h (suc j) in
    both_every (Of ts) (parts_of place u ++ modules_of (id_of u)) (beside (place + 1) us)
    (both_every (Of ts) (parts_of place u) (modules_of (id_of u)) (parts_enum ts place u (ap (slice_get ts) (sym here) ∙ h 0)) (unused_enum ts [] (around (path_of (id_of u)))))
    (beside_enum ts (place + 1) us next)

one_found : (ts : List Thing) (b : Bool) (n m : Meaning) (o : Option Meaning) → IsEnum ts n → (o ≡ Some m → IsEnum ts m) → cond b (Some n) o ≡ Some m → IsEnum ts m
one_found ts true n m o h f e = subst (IsEnum ts) (same_Some n m e) h
one_found ts false n m o h f e = f e

meaning_found : (ts : List Thing) (ps : List Pair) (id : Name) (m : Meaning) → Every (Of ts) ps → meaning_in ps id ≡ Some m → IsEnum ts m
meaning_found ts [] id m h e = absurd (none-some m e)
meaning_found ts (p ∷ ps) id m h e = one_found ts (bytes_eq id p.0) p.1 m (meaning_in ps id) h.0 (λ g. meaning_found ts ps id m h.1 g) e

pub known_enum : (ts : List Thing) (id : Name) (m : Meaning) → (known ts).meaning id ≡ Some m → IsEnum ts m
known_enum ts id m e = meaning_found ts (themselves 0 ts ++ beside 0 ts) id m
    (both_every (Of ts) (themselves 0 ts) (beside 0 ts) (themselves_enum ts 0 ts) (beside_enum ts 0 ts (λ j. ap (slice_get ts) (let z : 0 + j ≡ j = omega arith in z)))) e

-- ---- what holds of all that is known holds of what a name means

module _ (Q : Meaning → Type 0) (k : Known) (all : (id : Name) (m : Meaning) → k.meaning id ≡ Some m → Q m) where
  mapped : (id : Name) (o : Option Meaning) (f : Pair) → ((m : Meaning) → o ≡ Some m → Q m) → option_map (λ m. (id, m)) o ≡ Some f → Q f.1
  mapped id None f h e = absurd (none-some f e)
  mapped id (Some m) f h e = subst (λ (g : Pair). Q g.1) (same_Some (id, m) f e) (h m refl)

  own_all : (name scope : Name) (f : Pair) → own k name scope ≡ Some f → Q f.1
  own_all name scope f e = mapped (id_in scope name) (k.meaning (id_in scope name)) f (all (id_in scope name)) e

  either_all : (a b : Option Pair) (f : Pair) → ((g : Pair) → a ≡ Some g → Q g.1) → ((g : Pair) → b ≡ Some g → Q g.1) → or_else a b ≡ Some f → Q f.1
  either_all (Some g) b f h i e = h f e
  either_all None b f h i e = i f e

  among_all : (name : Name) (ids : Names) (f : Pair) → among k name ids ≡ Some f → Q f.1
  among_all name [] f e = absurd (none-some f e)
  among_all name (id ∷ ids) f e = either_all (own k name (path_of id)) (among k name ids) f (own_all name (path_of id)) (among_all name ids) e

  inside_all : (name scope : Name) (f : Pair) → inside k name scope ≡ Some f → Q f.1
  inside_all name scope f e = either_all (own k name scope) (among k name (k.bases (id_in [] scope))) f (own_all name scope) (among_all name (k.bases (id_in [] scope))) e

  first_all : (name : Name) (scopes : Names) (f : Pair) → first_inside k name scopes ≡ Some f → Q f.1
  first_all name [] f e = absurd (none-some f e)
  first_all name (scope ∷ scopes) f e = either_all (inside k name scope) (first_inside k name scopes) f (inside_all name scope) (first_all name scopes) e

  part_all : (rooted : Bool) (name scope : Name) (f : Pair) → first_part k rooted name scope ≡ Some f → Q f.1
  part_all true name scope f e = own_all name [] f e
  part_all false name scope f e = either_all (first_inside k name (scope ∷ around scope)) (own k name []) f (first_all name (scope ∷ around scope)) (own_all name []) e

  found_all : (p : Part) (o : Option Pair) (f : Pair) → ((g : Pair) → o ≡ Some g → Q g.1) → part_found p o ≡ Ok f → Q f.1
  found_all p (Some g) f h e = h f (let i : g ≡ f = cc in ap Some i)
  found_all p None f h e = absurd cc

  further_all : (ps : List Part) (r : Result Pair At) (f : Pair) → ((g : Pair) → r ≡ Ok g → Q g.1) → further k r ps ≡ Ok f → Q f.1
  further_all ps (Err at) f h e = absurd cc
  further_all [] (Ok g) f h e = h f e
  further_all (p ∷ ps) (Ok g) f h e = further_all ps (part_found p (inside k p.name (path_of g.0))) f
      (λ i j. found_all p (inside k p.name (path_of g.0)) i (inside_all p.name (path_of g.0)) j) e

  stands_all : (r : Result Pair At) (m : Meaning) → ((g : Pair) → r ≡ Ok g → Q g.1) → stands_for r ≡ Ok m → Q m
  stands_all (Ok g) m h e = subst Q (let i : g.1 ≡ m = cc in i) (h g refl)
  stands_all (Err at) m h e = absurd cc

  parts_all : (scope : Name) (name : Scoped) (ps : List Part) (f : Pair) → all_parts k scope name ps ≡ Ok f → Q f.1
  parts_all scope name [] f e = absurd cc
  parts_all scope name (p ∷ ps) f e = further_all ps (part_found p (first_part k name.rooted p.name scope)) f
      (λ g i. found_all p (first_part k name.rooted p.name scope) g (part_all name.rooted p.name scope) i) e

  pub meant_all : (from : Name) (name : Scoped) (m : Meaning) → meant k from name ≡ Ok m → Q m
  meant_all from name m e = stands_all (all_parts k (path_of from) name name.parts) m (parts_all (path_of from) name name.parts) e
