-- What the messages of a connection mean, in their order, by a relation that says what one of them means: own profile.
use Rattle.std.specs.Prelude.{◌≡◌, ℕ, ◌+◌, List, [], ◌∷◌, ◌++◌, length, Option, Some, None, Result, Ok, Err, option_to_list, MatchOption}
use Rattle.orb_base.specs.declared.limits.TheConstants.{MAX_MESSAGE}
use Rattle.orb_base.specs.declared.order.Order.{Order}
use Rattle.giop_frames.specs.Messages as Frames
use Rattle.giop_frames.specs.Stream.{stream}
use Rattle.giop_messages.specs.Causes.{cause_of}
use Rattle.giop_messages.specs.Message.{Message}
use Rattle.giop_messages.specs.MessageReading.{message_at}
use Rattle.giop_messages.specs.declared.message_fault.MessageFault.{MessageFault}
use Rattle.heard_messages.specs.ReadEnds.{decided}
use Rattle.heard_messages.specs.declared.means.Means.{Means}
use Rattle.heard_messages.specs.declared.means.Means.TheVariants.{Goes, Ends, Breaks}
use Rattle.heard_messages.specs.declared.read_end.ReadEnd.{ReadEnd}
use Rattle.heard_messages.specs.declared.read_end.ReadEnd.TheVariants.{Ended, Broken}

-- what messages mean: their calls, what is settled after them, and how one of them ended the reading, if one did
pub record Meaning (B C : Type 0) : Type 0 where
  pub calls : List C
  pub bound : B
  pub ending : Option ReadEnd

module _ {B C : Type 0} where
  -- no call: no message is left, or one ended the reading
  abbrev pub nothing : B → Option ReadEnd → Meaning B C
  nothing bound ending = record { calls = []; bound = bound; ending = ending }

  -- the same after these calls
  abbrev pub after_calls : List C → Meaning B C → Meaning B C
  after_calls calls later = record { calls = calls ++ later.calls; bound = later.bound; ending = later.ending }

  -- what a message at an offset, of this meaning, and the later ones mean, where that of the later ones is known by what is settled and by
  -- the number of the calls before them
  abbrev pub HearsOn : (B → ℕ → Meaning B C → Type 0) → B → ℕ → ℕ → Means B C → Meaning B C → Type 0
  HearsOn HearsLater bound serial at (Goes next call) all =
      (later : Meaning B C) × HearsLater next (serial + length (option_to_list call)) later × (all ≡ after_calls (option_to_list call) later)
  HearsOn HearsLater bound serial at Ends all = all ≡ nothing bound (Some Ended)
  HearsOn HearsLater bound serial at (Breaks fault) all = all ≡ nothing bound (Some (Broken at fault))

  -- what is heard with a message more, at an offset and of this meaning, where none before it ended the reading
  abbrev pub heard_with : Meaning B C → ℕ → Means B C → Meaning B C
  heard_with heard at (Goes next call) = record { calls = heard.calls ++ option_to_list call; bound = next; ending = None }
  heard_with heard at Ends = record { calls = heard.calls; bound = heard.bound; ending = Some Ended }
  heard_with heard at (Breaks fault) = record { calls = heard.calls; bound = heard.bound; ending = Some (Broken at fault) }

module _ {B C : Type 0} (means : B → ℕ → Order → ℕ → Message → Means B C → Type 0) where
  -- a message means one thing
  abbrev pub IsOneWay : Type 0
  IsOneWay = (bound : B) (serial : ℕ) (order : Order) (size : ℕ) (message : Message) (x y : Means B C)
      → means bound serial order size message x → means bound serial order size message y → x ≡ y

  -- what is read of a message means this: what the relation says, by its order and its length; one that has no reading is refused for its
  -- first fault
  abbrev pub MeansRead : B → ℕ → Frames.Message → Result Message MessageFault → Means B C → Type 0
  MeansRead bound serial m (Ok message) x = means bound serial m.order (length m.bytes) message x
  MeansRead bound serial m (Err fault) x = MatchOption (cause_of fault) ⊥ (λ cause. x ≡ Breaks cause)

  -- a message means this, where that was settled before it and so many calls were made
  abbrev pub IsMeant : B → ℕ → Frames.Message → Means B C → Type 0
  IsMeant bound serial m x = MeansRead bound serial m (message_at m) x

  -- the messages mean this, where that was settled before them and so many calls were made: each means what it means by what is settled
  -- and by the number of the calls then, and none after one that ends the reading is looked at
  abbrev pub Hears : List Frames.Message → B → ℕ → Meaning B C → Type 0
  Hears [] bound serial all = all ≡ nothing bound None
  Hears (m ∷ ms) bound serial all = (x : Means B C) × IsMeant bound serial m x × HearsOn (Hears ms) bound serial m.at x all

  -- a message more is heard, where so many calls were made before the first of those that were heard
  abbrev pub Takes : ℕ → Frames.Message → Meaning B C → Meaning B C → Type 0
  Takes serial m old new = (x : Means B C) × IsMeant old.bound (serial + length old.calls) m x × (new ≡ heard_with old m.at x)

  -- the bytes of a connection, from its first one on and whatever follows them, mean these calls, and end the reading so, if they do; this
  -- is settled before the first message
  pub record HeardBy (first : B) (bytes : List ℕ) (calls : List C) (ending : Option ReadEnd) : Type 0 where
    pub meaning : Meaning B C
    pub hears : Hears (stream MAX_MESSAGE bytes).messages first 0 meaning
    pub calls_are : calls ≡ meaning.calls
    pub ends : ending ≡ decided meaning.ending (stream MAX_MESSAGE bytes).bad
