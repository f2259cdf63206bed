-- What the map of a name service does: own profile.
use Rattle.std.specs.Prelude.{◌≡◌, ℕ, ◌≤◌, nat_lt, List, length, Option, Some, None, Result, Ok, Err, if◌then◌else◌}
use Rattle.name_map.specs.declared.binding.Binding.{Binding}
use Rattle.name_map.specs.declared.call.NamesCall.{NamesCall}
use Rattle.name_map.specs.declared.call.NamesCall.TheVariants.{Bind, Rebind, Resolve, Unbind, Next, Size}
use Rattle.name_map.specs.declared.call.NamesReply.{NamesReply}
use Rattle.name_map.specs.declared.call.NamesReply.TheVariants.{Stored, Target, Key, Count, AlreadyBound, NoRoom, NotFound}
use Rattle.name_map.specs.declared.limits.TheConstants.{MAX_KEYS}
use Rattle.name_map.specs.Bindings.{Rises, find, has, put, out, above}

-- the list rises, and has no more keys than may be
abbrev pub IsMap : List Binding → Type 0
IsMap bs = Rises bs × (length bs ≤ MAX_KEYS)

-- a new key is added where there is room for one
abbrev pub added : List ℕ → List ℕ → List Binding → List Binding × NamesReply
added key target bs = if nat_lt (length bs) MAX_KEYS then (put key target bs, Stored) else (bs, NoRoom)

-- what a search for a target is answered
abbrev pub target_reply : Option (List ℕ) → NamesReply
target_reply (Some target) = Target target
target_reply None = NotFound

-- what a search for a key is answered
abbrev pub key_reply : Option (List ℕ) → NamesReply
key_reply (Some key) = Key key
key_reply None = NotFound

-- the map after a call, and the reply
abbrev pub step : List Binding → NamesCall → List Binding × NamesReply
step bs (Bind key target) = if has key bs then (bs, AlreadyBound) else added key target bs
step bs (Rebind key target) = if has key bs then (put key target bs, Stored) else added key target bs
step bs (Resolve key) = (bs, target_reply (find key bs))
step bs (Unbind key) = if has key bs then (out key bs, Stored) else (bs, NotFound)
step bs (Next after) = (bs, key_reply (above after bs))
step bs Size = (bs, Count (length bs))

-- a call was answered by its step, with the reply twice, or nothing changed
abbrev pub Steps : {E : Type 0} → List Binding → List Binding × NamesReply → List Binding → Result (NamesReply × NamesReply) E → Type 0
Steps old next new (Ok r) = (new ≡ next.0) × (r.0 ≡ next.1) × (r.1 ≡ next.1)
Steps old next new (Err _) = new ≡ old
