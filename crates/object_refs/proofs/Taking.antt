-- What a reading takes is there and fits, and what is there and fits is taken.
use Rattle.std.proofs.Common.{◌≡◌, ℕ, ◌<◌, ◌^◌, Bool, true, false, List, [], ◌∷◌, ◌++◌, Ok, refl, sym, ap, subst, ◌∙◌, arith}
use Rattle.std.specs.Int.{w8, w16}
use Rattle.orb_base.specs.Tagged.{Tagged}
use Rattle.cdr_core.specs.Field.{Field, number, string_fields, octets_fields}
use Rattle.cdr_core.specs.Cursor.{Cursor, Reads}
use Rattle.cdr_core.specs.Passing.{Spans}
use Rattle.cdr_core.specs.Reading.{number_at, octets_at, string_at}
use Rattle.cdr_core.specs.Lists.{list_fields, FitsList, tagged_fields, FitsTagged}
use Rattle.cdr_core.specs.ListLaws.{TakesOnly, TakesEach}
use Rattle.cdr_core.proofs.CallerLemmas.{bind_ok, ok_is, spans_then, spans_split, number_takes, number_reads}
use Rattle.cdr_core.proofs.CallerLemmas.{octets_takes, octets_reads, string_takes, string_reads}
use Rattle.cdr_core.proofs.CallerLemmas.{octet_len, short_len, bytes_behind, nothing, same_cursor, tagged_lists_are_exact}
use Rattle.object_refs.specs.Reference.{Reference, Profile}
use Rattle.object_refs.specs.Layout.{reference_fields, has_components, components_fields, versioned_fields}
use Rattle.object_refs.specs.Layout.{FitsReference, FitsProfile, FitsVersioned}
use Rattle.object_refs.specs.Reading.{tagged_list_at}
use Rattle.object_refs.specs.ProfileReading.{components_at, versioned_at}
use Rattle.object_refs.specs.References.{reference_at}

-- a profile of a version, as it is read
abbrev pub FitsReadable : ℕ × Profile → Type 0
FitsReadable v = FitsVersioned v.0 v.1

list_takes : TakesOnly tagged_list_at (list_fields tagged_fields) (FitsList FitsTagged)
list_takes = tagged_lists_are_exact.found

list_again : TakesEach tagged_list_at (list_fields tagged_fields) (FitsList FitsTagged)
list_again = tagged_lists_are_exact.only

-- ---- components of a version

-- a version without components has none
abbrev pub FitComponents : Bool → List Tagged → Type 0
FitComponents present list = FitsList FitsTagged list × (present ≡ false → list ≡ [])

pub components_takes : (present : Bool) → TakesOnly (components_at present) (components_fields present) (FitComponents present)
unfolding components_at
components_takes true c y fits e = let t = list_takes c y fits e in ((t.0, λ (no : true ≡ false). absurd cc), t.1)
components_takes false c y fits e =
    subst (λ (x : List Tagged × Cursor). FitComponents false x.0 × Spans c x.1 []) (ok_is ([], c) y e) (((omega arith, tt), λ _. refl), nothing c)

components_again : (present : Bool) → TakesEach (components_at present) (components_fields present) (FitComponents present)
unfolding components_at
components_again true c d s fits p = list_again c d s fits.0 p
components_again false c d s fits p =
    ap (λ (e : Cursor). done ([], e)) (same_cursor c d p) ∙ ap (λ (l : List Tagged). done (l, d)) (sym (fits.1 refl))
  where
    done : List Tagged × Cursor → Reads (List Tagged)
    done x = Ok x

-- ---- profiles of any version

abbrev pub fields_of : ℕ × Profile → List Field
fields_of v = versioned_fields v.0 v.1

pub versioned_takes : TakesOnly versioned_at fields_of FitsReadable
unfolding versioned_at
versioned_takes c y fits e =
    let major = bind_ok (number_at w8 c) _ y e in
    let minor = bind_ok (number_at w8 major.0.1) _ y major.2 in
    let host = bind_ok (string_at minor.0.1) _ y minor.2 in
    let port = bind_ok (number_at w16 host.0.1) _ y host.2 in
    let key = bind_ok (octets_at port.0.1) _ y port.2 in
    let present : Bool = has_components major.0.0 minor.0.0 in
    let list = bind_ok (components_at present key.0.1) _ y key.2 in
    let end : Cursor = list.0.1 in
    let a = number_takes w8 c major.0 octet_len fits major.1 in
    let b = number_takes w8 major.0.1 minor.0 octet_len a.bytes minor.1 in
    let h = string_takes minor.0.1 host.0 b.bytes host.1 in
    let h_bytes = bytes_behind minor.0.1 host.0.1 (string_fields host.0.0) b.bytes h.spans in
    let p = number_takes w16 host.0.1 port.0 short_len h_bytes port.1 in
    let k = octets_takes port.0.1 key.0 p.bytes key.1 in
    let l = components_takes present key.0.1 list.0 k.bytes_behind list.1 in
    let from_list : List Field = components_fields present list.0.0 in
    let from_key : List Field = octets_fields key.0.0 ++ from_list in
    let from_port : List Field = number w16 port.0.0 ∷ from_key in
    let from_host : List Field = string_fields host.0.0 ++ from_port in
    let from_minor : List Field = number w8 minor.0.0 ∷ from_host in
    let s_key : Spans port.0.1 end from_key =
    spans_then port.0.1 key.0.1 end (octets_fields key.0.0) from_list k.spans l.1 in
    let s_port : Spans host.0.1 end from_port =
    spans_then host.0.1 port.0.1 end (number w16 port.0.0 ∷ []) from_key p.spans s_key in
    let s_host : Spans minor.0.1 end from_host =
    spans_then minor.0.1 host.0.1 end (string_fields host.0.0) from_port h.spans s_port in
    let s_minor : Spans major.0.1 end from_minor =
    spans_then major.0.1 minor.0.1 end (number w8 minor.0.0 ∷ []) from_host b.spans s_host in
    let profile : Profile =
    record { minor = minor.0.0; host = host.0.0; port = port.0.0; key = key.0.0; components = list.0.0 } in
    subst (λ (x : (ℕ × Profile) × Cursor). FitsReadable x.0 × Spans c x.1 (fields_of x.0)) (ok_is ((major.0.0, profile), end) y list.2) (
      record {
        major = a.fits;
        profile = record { minor = b.fits; host = h.fits; port = p.fits; key = k.fits; components = l.0.0 };
        without = l.0.1;
      },
      spans_then c major.0.1 end (number w8 major.0.0 ∷ []) from_minor a.spans s_minor,
    )

pub versioned_again : TakesEach versioned_at fields_of FitsReadable
unfolding versioned_at
versioned_again c d v fits s =
    let p : Profile = v.1 in
    let present : Bool = has_components v.0 p.minor in
    let from_list : List Field = components_fields present p.components in
    let from_key : List Field = octets_fields p.key ++ from_list in
    let from_port : List Field = number w16 p.port ∷ from_key in
    let from_host : List Field = string_fields p.host ++ from_port in
    let from_minor : List Field = number w8 p.minor ∷ from_host in
    let major = spans_split c d (number w8 v.0 ∷ []) from_minor s in
    let minor = spans_split major.middle d (number w8 p.minor ∷ []) from_host major.others in
    let host = spans_split minor.middle d (string_fields p.host) from_port minor.others in
    let port = spans_split host.middle d (number w16 p.port ∷ []) from_key host.others in
    let key = spans_split port.middle d (octets_fields p.key) from_list port.others in
    rw (
      number_reads w8 c major.middle v.0 octet_len fits.major major.first,
      number_reads w8 major.middle minor.middle p.minor octet_len fits.profile.minor minor.first,
      string_reads minor.middle host.middle p.host fits.profile.host.0 fits.profile.host.1 host.first,
      number_reads w16 host.middle port.middle p.port short_len fits.profile.port port.first,
      octets_reads port.middle key.middle p.key fits.profile.key key.first,
      components_again present key.middle d p.components (fits.profile.components, fits.without) key.others,
    ) refl

-- ---- references

pub reference_takes : TakesOnly reference_at reference_fields FitsReference
unfolding reference_at
reference_takes c y fits e =
    let type_id = bind_ok (string_at c) _ y e in
    let list = bind_ok (tagged_list_at type_id.0.1) _ y type_id.2 in
    let t = string_takes c type_id.0 fits type_id.1 in
    let l = list_takes type_id.0.1 list.0 (bytes_behind c type_id.0.1 (string_fields type_id.0.0) fits t.spans) list.1 in
    subst (λ (x : Reference × Cursor). FitsReference x.0 × Spans c x.1 (reference_fields x.0))
    (ok_is (record { type_id = type_id.0.0; profiles = list.0.0 }, list.0.1) y list.2) (
      record { type_id = t.fits; profiles = l.0 },
      spans_then c type_id.0.1 list.0.1 (string_fields type_id.0.0) (list_fields tagged_fields list.0.0) t.spans l.1,
    )

pub reference_again : TakesEach reference_at reference_fields FitsReference
unfolding reference_at
reference_again c d r fits s =
    let h = spans_split c d (string_fields r.type_id) (list_fields tagged_fields r.profiles) s in
    rw (
      string_reads c h.middle r.type_id fits.type_id.0 fits.type_id.1 h.first,
      list_again h.middle d r.profiles fits.profiles h.others,
    ) refl
