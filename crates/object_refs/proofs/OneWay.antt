-- Texts and bytes mean one thing at most, and what is written is read.
use Rattle.std.proofs.Common.{◌≡◌, ℕ, ◌≤◌, List, [], ◌++◌, Ok, Result, Err, IfOk, codes, refl, sym, ap, ◌∙◌}
use Rattle.std.proofs.lemmas.Option.{same_Some}
use Rattle.std.proofs.Common.{subst}
use Rattle.orb_base.specs.Tagged.{Tagged}
use Rattle.orb_base.specs.declared.no_memory.NoMemory.{NoMemory}
use Rattle.orb_base.specs.declared.order.Order.TheVariants.{Big}
use Rattle.cdr_core.specs.Cursor.{AreBytes}
use Rattle.cdr_core.specs.Encapsulation.{Encapsulates, encapsulation}
use Rattle.cdr_core.specs.Field.{Field}
use Rattle.cdr_core.proofs.LawProofs.{encapsulates_back_law}
use Rattle.std.proofs.lemmas.List.{append-nil}
use Rattle.hex.specs.Hex.{encode_lower}
use Rattle.hex.proofs.HexLemmas.{decode_of-encode_lower}
use Rattle.object_refs.specs.Layout.{profile_fields, reference_fields, FitsProfile, FitsReference}
use Rattle.object_refs.specs.Locations.{IsLocation}
use Rattle.object_refs.specs.Profiles.{IsFirstProfile, IsProfile}
use Rattle.object_refs.specs.Reference.{Location, Profile, Reference}
use Rattle.object_refs.specs.References.{IsReference, stringified}
use Rattle.cdr_core.proofs.CallerLemmas.{ok_is}
use Rattle.object_refs.proofs.Located.{location_again}
use Rattle.object_refs.proofs.Texts.{reference_again}
use Rattle.object_refs.proofs.Wholes.{profile_again}

pub one_location : (l m : Location) (text : List ℕ) → IsLocation l text → IsLocation m text → l ≡ m
one_location l m text p q = ok_is l m (sym (location_again text l p) ∙ location_again text m q)

pub one_profile : (p q : Profile) (bytes : List ℕ) → IsProfile p bytes → IsProfile q bytes → p ≡ q
one_profile p q bytes a b = ok_is p q (sym (profile_again bytes p a) ∙ profile_again bytes q b)

pub one_first : (p q : Profile) (r : Reference) → IsFirstProfile p r → IsFirstProfile q r → p ≡ q
one_first p q r a b =
    let same : a.0 ≡ b.0 = same_Some a.0 b.0 (sym a.1 ∙ b.1) in
    one_profile p q b.0.bytes (subst (λ (t : Tagged). IsProfile p t.bytes) same a.2) b.2

pub one_reference : (r s : Reference) (text : List ℕ) → IsReference r text → IsReference s text → r ≡ s
one_reference r s text p q = ok_is r s (sym (reference_again text r p) ∙ reference_again text s q)

whole : (fields : List Field) → Encapsulates Big fields (encapsulation Big fields)
whole fields =
    subst (Encapsulates Big fields) (append-nil (encapsulation Big fields)) (encapsulates_back_law Big fields [])

pub profile_back : (p : Profile) (bytes : List ℕ) → bytes ≡ encapsulation Big (profile_fields p) → FitsProfile p
    → 2 ≤ p.minor → IsProfile p bytes
profile_back p bytes e fits version =
    rw e (record { fits = fits; version = version; order = Big; content = whole (profile_fields p) })

pub reference_back : (r : Reference) (bytes text : List ℕ) → bytes ≡ encapsulation Big (reference_fields r)
    → AreBytes bytes → text ≡ stringified r → FitsReference r → IsReference r text
reference_back r bytes text e small t fits = record {
  prefix = codes "IOR:";
  digits = encode_lower bytes;
  bytes = bytes;
  parts = t ∙ ap (λ (x : List ℕ). codes "IOR:" ++ encode_lower x) (sym e);
  is_ior = refl;
  decoded = decode_of-encode_lower bytes small;
  encapsulated = rw e (record { fits = fits; order = Big; content = whole (reference_fields r) });
}

pub text_back : (r : Reference) (bytes : List ℕ) (t : Result (List ℕ) NoMemory)
    → bytes ≡ encapsulation Big (reference_fields r) → AreBytes bytes
    → IfOk t (λ text. text ≡ codes "IOR:" ++ encode_lower bytes) → FitsReference r → IfOk t (IsReference r)
text_back r bytes (Ok text) e small is fits =
    reference_back r bytes text e small (is ∙ ap (λ (x : List ℕ). codes "IOR:" ++ encode_lower x) e) fits
text_back r bytes (Err f) e small is fits = tt
