-- Laws of hearing.
use Rattle.std.specs.Prelude.{◌≡◌, ℕ, ◌+◌, List, ◌++◌, length, Option, Some, None}
use Rattle.orb_base.specs.Span.{Span}
use Rattle.orb_base.specs.declared.conn_id.ConnId.{ConnId}
use Rattle.giop_frames.specs.Messages as Frames
use Rattle.adapter_policies.specs.SetupData.{SetupData}
use Rattle.heard_calls.specs.Hearing.{Told, Hears, in_front}
use Rattle.heard_calls.specs.declared.ending.Ending.{Ending}

-- messages mean one thing
abbrev pub HearsOneWay : Type 0
HearsOneWay = (setup : SetupData) (conn : ConnId) (ms : List Frames.Message) (band : Option Span) (serial : ℕ) (a b : Told)
    → Hears setup conn ms band serial a → Hears setup conn ms band serial b → a ≡ b

-- what later messages mean is after what the earlier ones do; nothing does where one of those ended the reading
abbrev pub GoesOn : Option Ending → SetupData → ConnId → List Frames.Message → ℕ → Told → Told → Type 0
GoesOn None setup conn new serial told all =
    (later : Told) × Hears setup conn new told.band (serial + length told.calls) later × (all ≡ in_front told.calls later)
GoesOn (Some ending) setup conn new serial told all = all ≡ told

-- hearing goes on with further messages: the calls of the earlier ones come before
abbrev pub HearingGoesOn : Type 0
HearingGoesOn = (setup : SetupData) (conn : ConnId) (ms new : List Frames.Message) (band : Option Span) (serial : ℕ) (told all : Told)
    → Hears setup conn ms band serial told → Hears setup conn (ms ++ new) band serial all → GoesOn told.ending setup conn new serial told all
