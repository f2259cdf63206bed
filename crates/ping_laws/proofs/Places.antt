-- Where the requests to the objects of a setup run.
use Rattle.std.proofs.Common.{◌≡◌, ℕ, zero, suc, ◌+◌, Bool, true, false, cond, List, [], ◌∷◌, Option, Some, None, refl, sym, ap, subst, ◌∙◌, arith, rules}
use Rattle.std.proofs.lemmas.Option.{same_Some}
use Rattle.std.specs.Cmp.Lexicographic.{bytes_decides, pointwise}
use Rattle.std.specs.Prelude.{IsSome, ℤ, codes, nat_eq, slice_get}
use Rattle.std.specs.Option.{option_map, option_and_then}
use Rattle.priority_maps.specs.Maps.{to_native}
use Rattle.adapter_policies.specs.BuiltIn.{built_in, built_in_object}
use Rattle.adapter_policies.specs.Index.{number_from}
use Rattle.adapter_policies.specs.SetupData.{AdapterData, SetupData}
use Rattle.adapter_policies.specs.declared.object_spec.ObjectSpec.{ObjectSpec}
use Rattle.ping_laws.specs.declared.place.Place.{Place}
use Rattle.ping_laws.specs.Setup.{IsKnown, level_under, place_at, place_of}

-- the object of a number has this key
record HasKey (objects : List ObjectSpec) (n : ℕ) (key : List ℕ) (found : ℕ) : Type 0 where
  pub at : ℕ
  pub object : ObjectSpec
  pub counted : found ≡ n + at
  pub there : slice_get objects at ≡ Some object
  pub spelled : object.key ≡ key

has_key : (objects : List ObjectSpec) (n : ℕ) (key : List ℕ) (found : ℕ) → number_from n objects key ≡ Some found → HasKey objects n key found
has_key [] n key found is = absurd (cc)
has_key (o ∷ objects) n key found is = first (has_key objects (n + 1) key found) (pointwise nat_eq o.key key) refl is
  where
    first : (number_from (n + 1) objects key ≡ Some found → HasKey objects (n + 1) key found) → (b : Bool) → pointwise nat_eq o.key key ≡ b → cond b (Some n) (number_from (n + 1) objects key) ≡ Some found → HasKey (o ∷ objects) n key found
    first behind true same is = record { at = 0; object = o; counted = sym (same_Some _ _ is) ∙ omega arith; there = refl; spelled = (bytes_decides o.key key).0 same }
    first behind false other is =
        let later = behind is in
        record { at = suc later.at; object = later.object; counted = later.counted ∙ omega arith; there = later.there; spelled = later.spelled }

-- a place is that of an object with this key, under its adapter, at a priority that has a native one
pub record Placed (setup : SetupData) (key : List ℕ) (place : Place) : Type 0 where
  pub object : ObjectSpec
  pub adapter : AdapterData
  pub found : number_from 0 setup.objects key ≡ Some place.target
  pub known : slice_get setup.objects place.target ≡ Some object
  pub served : slice_get setup.adapters object.adapter ≡ Some adapter
  pub spelled : object.key ≡ key
  pub level : place.level ≡ object.priority
  pub mapped : IsSome (to_native setup.mapping (object.priority))

pub placed_so : (setup : SetupData) (key : List ℕ) (place : Place) → place_of setup key ≡ Some place → Placed setup key place
placed_so setup key place is = numbered (number_from 0 setup.objects key) refl is
  where
    mapped : (target : ℕ) (object : ObjectSpec) (adapter : AdapterData) → number_from 0 setup.objects key ≡ Some target → slice_get setup.objects target ≡ Some object
        → slice_get setup.adapters object.adapter ≡ Some adapter → (native : Option ℤ) → to_native setup.mapping (object.priority) ≡ native
        → option_map (λ level. record { target = target; level = level }) (option_map (λ n. object.priority) native) ≡ Some place
        → Placed setup key place
    mapped target object adapter found there under None none is = absurd (cc)
    mapped target object adapter found there under (Some native) some is =
        let has = has_key setup.objects 0 key target found in
        let same : record { target = target; level = object.priority } ≡ place = same_Some _ _ is in
        let objects : has.object ≡ object = same_Some _ _ (sym has.there ∙ ap (λ n. slice_get setup.objects n) (sym (has.counted ∙ omega arith)) ∙ there) in
        record {
          object = object;
          adapter = adapter;
          found = found ∙ ap (λ (p : Place). Some p.target) same;
          known = ap (λ (p : Place). slice_get setup.objects p.target) (sym same) ∙ there;
          served = under;
          spelled = ap (λ (o : ObjectSpec). o.key) (sym objects) ∙ has.spelled;
          level = ap (λ (p : Place). p.level) (sym same);
          mapped = subst IsSome (sym some) (search rules);
        }

    adapted : (target : ℕ) (object : ObjectSpec) → number_from 0 setup.objects key ≡ Some target → slice_get setup.objects target ≡ Some object
        → (adapter : Option AdapterData) → slice_get setup.adapters object.adapter ≡ adapter
        → option_map (λ level. record { target = target; level = level }) (option_and_then (level_under setup object) adapter) ≡ Some place → Placed setup key place
    adapted target object found there None none is = absurd (cc)
    adapted target object found there (Some adapter) some is =
        mapped target object adapter found there some (to_native setup.mapping (object.priority)) refl is

    there : (target : ℕ) → number_from 0 setup.objects key ≡ Some target → (object : Option ObjectSpec) → slice_get setup.objects target ≡ object
        → option_and_then (place_at setup target) object ≡ Some place → Placed setup key place
    there target found None none is = absurd (cc)
    there target found (Some object) some is = adapted target object found some (slice_get setup.adapters object.adapter) refl is

    numbered : (target : Option ℕ) → number_from 0 setup.objects key ≡ target
        → option_and_then (λ t. option_and_then (place_at setup t) (slice_get setup.objects t)) target ≡ Some place → Placed setup key place
    numbered None none is = absurd (cc)
    numbered (Some target) found is = there target found (slice_get setup.objects target) refl is

-- the object of a place is there
pub known_there : (setup : SetupData) (key : List ℕ) (place : Place) → place_of setup key ≡ Some place → IsKnown setup place.target
known_there setup key place is = subst IsSome (sym (placed_so setup key place is).known) (search rules)

-- ---- the built-in setup
-- its one place is that of `ping`
pub record IsPingsPlace (key : List ℕ) (place : Place) : Type 0 where
  pub place_is : place ≡ record { target = 0; level = 100 }
  pub key_is : key ≡ codes "ping"

pub past_end : (k : ℕ) (x : ObjectSpec) → slice_get built_in.objects (suc k) ≡ Some x → ⊥
past_end k x e = cc

at_first : (target : ℕ) (object : ObjectSpec) → slice_get built_in.objects target ≡ Some object → (target ≡ 0) × (object ≡ built_in_object)
at_first zero object is = (refl, sym (same_Some _ _ is))
at_first (suc k) object is = absurd (past_end k object is)

pub pings_place : (key : List ℕ) (place : Place) → place_of built_in key ≡ Some place → IsPingsPlace key place
pings_place key place is =
    let p = placed_so built_in key place is in
    let first = at_first place.target p.object p.known in
    let level : place.level ≡ 100 = p.level ∙ ap (λ (o : ObjectSpec). o.priority) first.1 in
    record {
      place_is = λ i. record { target = first.0 i; level = level i };
      key_is = sym p.spelled ∙ ap (λ (o : ObjectSpec). o.key) first.1;
    }
