-- Laws of hearing, for a judge of which each message means one thing.
use Rattle.std.specs.Prelude.{◌≡◌, ◌≢◌, ℕ, ◌+◌, Bool, List, ◌++◌, length, Option, Some, None}
use Rattle.orb_base.specs.declared.order.Order.{Order}
use Rattle.giop_frames.specs.Messages as Frames
use Rattle.giop_messages.specs.Message.{Message}
use Rattle.heard_messages.specs.Hearing.{Meaning, after_calls, Hears, HeardBy}
use Rattle.heard_messages.specs.Inputs.{HearsInput, HearsStream}
use Rattle.heard_messages.specs.ReadEnds.{IsByBytes}
use Rattle.heard_messages.specs.declared.means.Means.{Means}
use Rattle.heard_messages.specs.declared.read_end.ReadEnd.{ReadEnd}
use Rattle.heard_messages.specs.declared.read_end.ReadEnd.TheVariants.{Spent, ReadFault}

module _ {C : Type 0} where
  -- what is heard with further bytes, by how the earlier ones ended the reading: calls after those of the earlier ones; after an ending
  -- nothing changes
  abbrev pub GrowsBy : Option ReadEnd → List C → List C → Option ReadEnd → Type 0
  GrowsBy None calls all ending = (later : List C) × (all ≡ calls ++ later)
  GrowsBy (Some first) calls all ending = (all ≡ calls) × (ending ≡ Some first)

module _ {B C : Type 0} (means : B → ℕ → Order → ℕ → Message → Means B C → Type 0) where
  -- what later messages mean comes after what the earlier ones do; nothing does where one of those ended the reading
  abbrev pub GoesOn : Option ReadEnd → List Frames.Message → ℕ → Meaning B C → Meaning B C → Type 0
  GoesOn None new serial earlier all =
      (later : Meaning B C) × Hears means new earlier.bound (serial + length earlier.calls) later × (all ≡ after_calls earlier.calls later)
  GoesOn (Some ending) new serial earlier all = all ≡ earlier

module _ {J B C : Type 0} (means : J → B → ℕ → Order → ℕ → Message → Means B C → Type 0) where
  -- messages mean one thing
  abbrev pub HearsOneWay : Type 0
  HearsOneWay = (judge : J) (ms : List Frames.Message) (bound : B) (serial : ℕ) (a b : Meaning B C)
      → Hears (means judge) ms bound serial a → Hears (means judge) ms bound serial b → a ≡ b

  -- hearing goes on with further messages: their calls come after those of the earlier ones
  abbrev pub HearingGoesOn : Type 0
  HearingGoesOn = (judge : J) (ms new : List Frames.Message) (bound : B) (serial : ℕ) (earlier all : Meaning B C)
      → Hears (means judge) ms bound serial earlier → Hears (means judge) (ms ++ new) bound serial all
      → GoesOn (means judge) earlier.ending new serial earlier all

module _ {J B C : Type 0} (first : J → B) (means : J → B → ℕ → Order → ℕ → Message → Means B C → Type 0) where
  -- bytes mean one list of calls so far, and end the reading in one way, if they do
  abbrev pub HeardOneWay : Type 0
  HeardOneWay = (judge : J) (bytes : List ℕ) (a b : List C) (e f : Option ReadEnd)
      → HeardBy (means judge) (first judge) bytes a e → HeardBy (means judge) (first judge) bytes b f → (a ≡ b) × (e ≡ f)

  -- hearing grows with the bytes
  abbrev pub HearingGrows : Type 0
  HearingGrows = (judge : J) (bytes more : List ℕ) (calls all : List C) (e f : Option ReadEnd)
      → HeardBy (means judge) (first judge) bytes calls e → HeardBy (means judge) (first judge) (bytes ++ more) all f → GrowsBy e calls all f

  -- bytes alone end the reading by a message or by a rule that they break
  abbrev pub BytesEnd : Type 0
  BytesEnd = (judge : J) (bytes : List ℕ) (calls : List C) (end : ReadEnd)
      → HeardBy (means judge) (first judge) bytes calls (Some end) → IsByBytes end

  -- a stream whose reading ended by its bytes or at the end of the input means what the bytes mean as a whole input
  abbrev pub StreamIsInput : Type 0
  StreamIsInput = (judge : J) (bytes : List ℕ) (ended : Bool) (calls : List C) (end : ReadEnd)
      → HearsStream (means judge) (first judge) bytes ended calls end → end ≢ Spent → end ≢ ReadFault
      → HearsInput (means judge) (first judge) bytes calls end

  -- wherever the reading stopped, the calls are those of the bytes as a whole input
  abbrev pub StreamHasInput : Type 0
  StreamHasInput = (judge : J) (bytes : List ℕ) (ended : Bool) (calls : List C) (end : ReadEnd)
      → HearsStream (means judge) (first judge) bytes ended calls end
      → (whole : ReadEnd) × HearsInput (means judge) (first judge) bytes calls whole
