-- What the messages of a connection mean, in their order: own profile.
use Rattle.std.specs.Prelude.{◌≡◌, ℕ, ◌+◌, List, [], ◌∷◌, ◌++◌, length, Option, Some, None, option_to_list}
use Rattle.orb_base.specs.Span.{Span}
use Rattle.orb_base.specs.declared.conn_id.ConnId.{ConnId}
use Rattle.giop_frames.specs.Messages as Frames
use Rattle.lane_machine.specs.declared.call.LaneCall.{LaneCall}
use Rattle.adapter_policies.specs.SetupData.{SetupData}
use Rattle.heard_calls.specs.Meaning.{IsMeant}
use Rattle.heard_calls.specs.declared.ending.Ending.{Ending}
use Rattle.heard_calls.specs.declared.ending.Ending.TheVariants.{Ended, Broken}
use Rattle.heard_calls.specs.declared.means.Means.{Means}
use Rattle.heard_calls.specs.declared.means.Means.TheVariants.{Goes, Ends, Breaks}

-- what messages mean: their calls, the band that is bound after them, and how one of them ended the reading, if one did
pub record Told : Type 0 where
  pub calls : List LaneCall
  pub band : Option Span
  pub ending : Option Ending

-- no call: no message is left, or one ended the reading
abbrev pub nothing : Option Span → Option Ending → Told
nothing band ending = record { calls = []; band = band; ending = ending }

-- the same with calls before
abbrev pub in_front : List LaneCall → Told → Told
in_front calls told = record { calls = calls ++ told.calls; band = told.band; ending = told.ending }

-- what a message and the later ones mean, where that of the later ones is known by the band and the number of calls before them
abbrev pub HearsOn : (Option Span → ℕ → Told → Type 0) → Option Span → ℕ → ℕ → Means → Told → Type 0
HearsOn HearsLater band serial at (Goes bound call) told =
    (later : Told) × HearsLater bound (serial + length (option_to_list call)) later × (told ≡ in_front (option_to_list call) later)
HearsOn HearsLater band serial at Ends told = told ≡ nothing band (Some Ended)
HearsOn HearsLater band serial at (Breaks fault) told = told ≡ nothing band (Some (Broken at fault))

-- the messages mean this, where `band` is bound before them and so many calls were made: each means what it means by the band and
-- the number of calls then, and none after one that ends the reading is looked at
abbrev pub Hears : SetupData → ConnId → List Frames.Message → Option Span → ℕ → Told → Type 0
Hears setup conn [] band serial told = told ≡ nothing band None
Hears setup conn (m ∷ ms) band serial told =
    (means : Means) × IsMeant setup conn band serial m means × HearsOn (Hears setup conn ms) band serial m.at means told

-- what is heard after a call more, if there is one, where this band is bound then
abbrev pub followed : Told → Option LaneCall → Option Span → Told
followed told call band = record { calls = told.calls ++ option_to_list call; band = band; ending = told.ending }

-- what is heard after a message more of this meaning
abbrev pub behind : Told → ℕ → Means → Told
behind told at (Goes bound call) = followed told call bound
behind told at Ends = record told { ending = Some Ended }
behind told at (Breaks fault) = record told { ending = Some (Broken at fault) }

-- a message more is heard, where so many calls were made before the first
abbrev pub Takes : SetupData → ConnId → ℕ → Frames.Message → Told → Told → Type 0
Takes setup conn serial m old new =
    (means : Means) × IsMeant setup conn old.band (serial + length old.calls) m means × (new ≡ behind old m.at means)

-- the same where the reading goes on; else nothing changes
abbrev pub TakesBy : Option Ending → SetupData → ConnId → ℕ → Frames.Message → Told → Told → Type 0
TakesBy None setup conn serial m old new = Takes setup conn serial m old new
TakesBy (Some ending) setup conn serial m old new = new ≡ old
