-- A declaration that is added or that ends leaves the others as they are.
use Rattle.std.proofs.Common.{◌≡◌, ◌<◌, ℕ, zero, suc, ◌+◌, ◌-◌, ◌==◌, Bool, true, false, List, [], ◌∷◌, ◌++◌, length, length-append, set, Option, Some, None, refl, sym, ap, subst, ◌∙◌, arith}
use Rattle.std.specs.Prelude.{slice_get}
use Rattle.std.proofs.lemmas.Bool.{eqb-true, eqb-false}
use Rattle.std.proofs.lemmas.Option.{same_Some}
use Rattle.idl_scopes.specs.declared.place.Place.{Place}
use Rattle.idl_scopes.specs.Table.{Sort, unfinished, Declared, Table}
use Rattle.idl_scopes.specs.Finding.{is_finished, sort_in, sort_at}
use Rattle.idl_scopes.specs.Declaring.{added, finished_in, finished}
use Rattle.idl_reader.proofs.ThingLists.{get_before, get_last, set_elsewhere, set_there}
use Rattle.idl_laws.specs.Earlier.{IsStill, Keeps}

pub still_itself : (d : Declared) → IsStill d d
still_itself d = record { scope = refl; name = refl; place = refl; sort = λ f. refl }

still_then : (d e f : Declared) → IsStill d e → IsStill e f → IsStill d f
still_then d e f h k =
    record {
      scope = k.scope ∙ h.scope;
      name = k.name ∙ h.name;
      place = k.place ∙ h.place;
      sort = λ x. k.sort (ap is_finished (h.sort x) ∙ x) ∙ h.sort x;
    }

pub keeps_itself : (t : Table) → Keeps t t
keeps_itself t i d e = (d, e, still_itself d)

pub keeps_then : (t u v : Table) → Keeps t u → Keeps u v → Keeps t v
keeps_then t u v h k i d e =
    let a = h i d e in
    let b = k i a.0 a.1 in
    (b.0, b.1, still_then d a.0 b.0 a.2 b.2)

pub keeps_same : (t u : Table) → t ≡ u → Keeps t u
keeps_same t u e = subst (λ (v : Table). Keeps t v) e (keeps_itself t)

pub keeps_added : (scope : ℕ) (name : List ℕ) (place : Place) (sort : Sort) (t : Table) → Keeps t (added scope name place sort t)
keeps_added scope name place sort t i d e =
    (d, get_before t.declared (record { scope = scope; name = name; place = place; sort = sort }) d i e, still_itself d)

ended_still : (sort : Sort) (d : Declared) → d.sort ≡ unfinished → IsStill d (record d { sort = sort })
ended_still sort d u = record { scope = refl; name = refl; place = refl; sort = λ f. absurd (never (ap is_finished (sym u) ∙ f)) }
  where
    never : false ≡ true → ⊥
    never e = absurd cc

keeps_at : (ds : List Declared) (sort : Sort) (i : ℕ) (x : Declared) → slice_get ds i ≡ Some x → x.sort ≡ unfinished
    → (k : ℕ) (d : Declared) → slice_get ds k ≡ Some d
    → (b : Bool) → (i == k) ≡ b → (e : Declared) × (slice_get (set ds i (record x { sort = sort })) k ≡ Some e) × IsStill d e
keeps_at ds sort i x there u k d e true same =
    let y : Declared = record x { sort = sort } in
    let at : slice_get ds k ≡ Some x = subst (λ (n : ℕ). slice_get ds n ≡ Some x) (eqb-true i k same) there in
    let is : x ≡ d = same_Some x d (sym at ∙ e) in
    let set_is : slice_get (set ds i y) k ≡ Some y =
    subst (λ (n : ℕ). slice_get (set ds i y) n ≡ Some y) (eqb-true i k same) (set_there ds i y x there) in
    (y, set_is, subst (λ (z : Declared). IsStill z y) is (ended_still sort x u))
keeps_at ds sort i x there u k d e false other =
    (d, set_elsewhere ds i k (record x { sort = sort }) (eqb-false i k other) ∙ e, still_itself d)

keeps_from : (ds : List Declared) (sort : Sort) (i : ℕ) (x : Option Declared) → slice_get ds i ≡ x → sort_in x ≡ unfinished
    → (k : ℕ) (d : Declared) → slice_get ds k ≡ Some d
    → (e : Declared) × (slice_get (finished_in ds i sort x) k ≡ Some e) × IsStill d e
keeps_from ds sort i None there u k d e = (d, e, still_itself d)
keeps_from ds sort i (Some x) there u k d e = keeps_at ds sort i x there u k d e (i == k) refl

-- a declaration whose end hadn't been read
pub keeps_finished : (t : Table) (i : ℕ) (sort : Sort) → sort_at t i ≡ unfinished → Keeps t (finished t i sort)
keeps_finished t i sort u = keeps_from t.declared sort i (slice_get t.declared i) refl u

-- ---- which ends haven't been read

pub added_sort : (scope : ℕ) (name : List ℕ) (place : Place) (sort : Sort) (t : Table)
    → sort_at (added scope name place sort t) (length (added scope name place sort t).declared - 1) ≡ sort
added_sort scope name place sort t =
    let d : Declared = record { scope = scope; name = name; place = place; sort = sort } in
    let n : length (t.declared ++ d ∷ []) ≡ length t.declared + 1 = length-append t.declared (d ∷ []) in
    let k : length (t.declared ++ d ∷ []) - 1 ≡ length t.declared = omega arith in
    ap (λ (i : ℕ). sort_in (slice_get (t.declared ++ d ∷ []) i)) k ∙ ap (λ (o : Option Declared). sort_in o) (get_last t.declared d)

sort_before : (ds : List Declared) (d : Declared) (i : ℕ) → i < length ds → sort_in (slice_get (ds ++ d ∷ []) i) ≡ sort_in (slice_get ds i)
sort_before [] d i less = absurd (omega arith)
sort_before (x ∷ ds) d zero less = refl
sort_before (x ∷ ds) d (suc i) less = sort_before ds d i (omega arith)

-- that of a declaration before
pub sort_added : (scope : ℕ) (name : List ℕ) (place : Place) (sort : Sort) (t : Table) (i : ℕ) → i < length t.declared
    → sort_at (added scope name place sort t) i ≡ sort_at t i
sort_added scope name place sort t i less =
    sort_before t.declared (record { scope = scope; name = name; place = place; sort = sort }) i less

sort_from : (ds : List Declared) (sort : Sort) (i j : ℕ) (x : Option Declared) → (i ≡ j → ⊥)
    → sort_in (slice_get (finished_in ds i sort x) j) ≡ sort_in (slice_get ds j)
sort_from ds sort i j None other = refl
sort_from ds sort i j (Some x) other = ap (λ (o : Option Declared). sort_in o) (set_elsewhere ds i j (record x { sort = sort }) other)

-- and that of another one than ends
pub sort_finished : (t : Table) (i j : ℕ) (sort : Sort) → (i ≡ j → ⊥) → sort_at (finished t i sort) j ≡ sort_at t j
sort_finished t i j sort other = sort_from t.declared sort i j (slice_get t.declared i) other
