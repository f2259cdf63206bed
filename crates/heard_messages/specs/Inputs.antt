-- What a whole input of a connection means, and what a stream does whose reading came out somehow: own profile.
use Rattle.std.specs.Prelude.{◌≡◌, ℕ, Bool, List, length, Option, unwrap_or}
use Rattle.orb_base.specs.declared.limits.TheConstants.{MAX_MESSAGE}
use Rattle.orb_base.specs.declared.order.Order.{Order}
use Rattle.giop_frames.specs.Stream.{stream}
use Rattle.giop_messages.specs.Message.{Message}
use Rattle.heard_messages.specs.Hearing.{HeardBy}
use Rattle.heard_messages.specs.ReadEnds.{input_end, read_end}
use Rattle.heard_messages.specs.declared.means.Means.{Means}
use Rattle.heard_messages.specs.declared.read_end.ReadEnd.{ReadEnd}

module _ {B C : Type 0} (means : B → ℕ → Order → ℕ → Message → Means B C → Type 0) where
  -- the bytes, a whole input, mean these calls and end so: as they decide, or else at their end
  pub record HearsInput (first : B) (bytes : List ℕ) (calls : List C) (end : ReadEnd) : Type 0 where
    pub ending : Option ReadEnd
    pub heard : HeardBy means first bytes calls ending
    pub comes : end ≡ unwrap_or ending (input_end (stream MAX_MESSAGE bytes).rest)

  -- the bytes mean these calls, and the reading came out so after them; `ended` holds where a read has answered the end of the input
  pub record HearsStream (first : B) (bytes : List ℕ) (ended : Bool) (calls : List C) (end : ReadEnd) : Type 0 where
    pub ending : Option ReadEnd
    pub heard : HeardBy means first bytes calls ending
    pub comes : end ≡ read_end ending (length bytes) ended (stream MAX_MESSAGE bytes).rest
