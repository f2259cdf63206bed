-- What a change of the list at the place of a key is as a step.
use Rattle.std.proofs.Common.{◌≡◌, ℕ, ◌+◌, ◌<◌, ◌≤◌, Bool, true, false, List, [], ◌∷◌, length, insert, remove, slice_set, nat_lt, if◌then◌else◌, ap, sym, refl, subst, ◌∙◌, arith, lt-ltb, le-ltb}
use Rattle.name_map.specs.declared.binding.Binding.{Binding}
use Rattle.name_map.specs.declared.call.NamesCall.TheVariants.{Bind, Rebind, Unbind}
use Rattle.name_map.specs.declared.call.NamesReply.{NamesReply}
use Rattle.name_map.specs.declared.call.NamesReply.TheVariants.{Stored, AlreadyBound, NoRoom, NotFound}
use Rattle.name_map.specs.declared.limits.TheConstants.{MAX_KEYS}
use Rattle.name_map.specs.Bindings.{binding, Rises, has, put, out}
use Rattle.name_map.specs.Machine.{IsMap, added, step}
use Rattle.name_map.specs.Places.{place, is_there}
use Rattle.name_map.proofs.Changing.{has_is, put_new, put_old, out_is}
use Rattle.name_map.proofs.Keeping.{rises_put, length_put_new, length_put_old, rises_out, length_out}

there_if : (key : List ℕ) (bs : List Binding) (t : Bool) → Rises bs → has key bs ≡ t → is_there key bs ≡ t
there_if key bs t r h = sym (has_is key bs r) ∙ h

-- a new key
pub inserted : (key target : List ℕ) (bs : List Binding) (i : ℕ) (b : Binding) → Rises bs → i ≡ place key bs → has key bs ≡ false → b ≡ binding key target → insert bs i b ≡ put key target bs
inserted key target bs i b r p h e = ap (λ (z : Binding). insert bs i z) e ∙ ap (λ (z : ℕ). insert bs z (binding key target)) p ∙ put_new key target bs (there_if key bs false r h)

pub put_is_map : (key target : List ℕ) (bs : List Binding) → IsMap bs → has key bs ≡ false → length bs < MAX_KEYS → IsMap (put key target bs)
put_is_map key target bs m h l = (rises_put key target bs m.0, (let a = length_put_new key target bs (there_if key bs false m.0 h) in omega arith))

-- an old one
pub replaced : (key target : List ℕ) (bs : List Binding) (i : ℕ) (b : Binding) → Rises bs → i ≡ place key bs → has key bs ≡ true → b ≡ binding key target → slice_set bs i b ≡ put key target bs
replaced key target bs i b r p h e = ap (λ (z : Binding). slice_set bs i z) e ∙ ap (λ (z : ℕ). slice_set bs z (binding key target)) p ∙ put_old key target bs (there_if key bs true r h)

pub put_old_is_map : (key target : List ℕ) (bs : List Binding) → IsMap bs → has key bs ≡ true → IsMap (put key target bs)
put_old_is_map key target bs m h = (rises_put key target bs m.0, (let a = length_put_old key target bs (there_if key bs true m.0 h) in omega arith))

-- a key that is taken out
pub removed : (key : List ℕ) (bs : List Binding) (i : ℕ) → Rises bs → i ≡ place key bs → has key bs ≡ true → remove bs i ≡ out key bs
removed key bs i r p h = ap (remove bs) p ∙ out_is key bs r (there_if key bs true r h)

pub out_is_map : (key : List ℕ) (bs : List Binding) → IsMap bs → IsMap (out key bs)
out_is_map key bs m = (rises_out key bs m.0, (let a = length_out key bs in omega arith))

-- the steps
pub adds : (key target : List ℕ) (old new : List Binding) → length old < MAX_KEYS → new ≡ put key target old → (new ≡ (added key target old).0) × (Stored ≡ (added key target old).1) × (Stored ≡ (added key target old).1)
adds key target old new l e = subst (λ (b : Bool). let x : List Binding × NamesReply = if b then (put key target old, Stored) else (old, NoRoom) in (new ≡ x.0) × (Stored ≡ x.1) × (Stored ≡ x.1)) (sym (lt-ltb (length old) MAX_KEYS l)) (e, refl, refl)

pub refuses_more : (key target : List ℕ) (old : List Binding) → MAX_KEYS ≤ length old → (old ≡ (added key target old).0) × (NoRoom ≡ (added key target old).1) × (NoRoom ≡ (added key target old).1)
refuses_more key target old l = subst (λ (b : Bool). let x : List Binding × NamesReply = if b then (put key target old, Stored) else (old, NoRoom) in (old ≡ x.0) × (NoRoom ≡ x.1) × (NoRoom ≡ x.1)) (sym (le-ltb (length old) MAX_KEYS l)) (refl, refl, refl)

pub unbinds : (key : List ℕ) (old new : List Binding) → has key old ≡ true → new ≡ out key old → (new ≡ (step old (Unbind key)).0) × (Stored ≡ (step old (Unbind key)).1) × (Stored ≡ (step old (Unbind key)).1)
unbinds key old new h e = subst (λ (b : Bool). let x : List Binding × NamesReply = if b then (out key old, Stored) else (old, NotFound) in (new ≡ x.0) × (Stored ≡ x.1) × (Stored ≡ x.1)) (sym h) (e, refl, refl)
