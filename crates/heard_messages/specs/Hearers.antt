-- The reading side of a connection between two pieces of its bytes: own profile.
use Rattle.std.specs.Prelude.{◌≡◌, ℕ, List, [], ◌++◌, length, Option, None}
use Rattle.orb_base.specs.declared.order.Order.{Order}
use Rattle.giop_frames.specs.Feeds.{Feed}
use Rattle.giop_messages.specs.Message.{Message}
use Rattle.heard_messages.specs.Framing.{IsFraming}
use Rattle.heard_messages.specs.Hearing.{HeardBy}
use Rattle.heard_messages.specs.declared.means.Means.{Means}
use Rattle.heard_messages.specs.declared.read_end.ReadEnd.{ReadEnd}

-- a reading side: its judge, its framer with the bytes that were fed, what is settled, how many calls were given, and those calls
pub record Hearer (J B C : Type 0) : Type 0 where
  pub judge : J
  pub framer : Feed
  pub bound : B
  pub made : ℕ
  pub calls : List C

module _ {J B C : Type 0} (first : J → B) (means : J → B → ℕ → Order → ℕ → Message → Means B C → Type 0) where
  -- the reading goes on: the calls that were given are what the bytes mean so far, and nothing has ended it
  pub record IsGoing (h : Hearer J B C) : Type 0 where
    pub framing : IsFraming h.framer
    pub heard : HeardBy (means h.judge) (first h.judge) h.framer.fed h.calls None
    pub bound_is : h.bound ≡ heard.meaning.bound
    pub made_is : h.made ≡ length h.calls

  -- the reading begins
  pub record IsNew (judge : J) (h : Hearer J B C) : Type 0 where
    pub judge_is : h.judge ≡ judge
    pub none_fed : h.framer.fed ≡ []
    pub none_given : h.calls ≡ []
    pub going : IsGoing h

  -- one piece more was fed, and gave these calls and this ending, if one: all bytes mean all calls so far, and end the reading so
  pub record FeedsOn (h h' : Hearer J B C) (piece : List ℕ) (calls : List C) (ending : Option ReadEnd) : Type 0 where
    pub same_judge : h'.judge ≡ h.judge
    pub fed_is : h'.framer.fed ≡ h.framer.fed ++ piece
    pub calls_are : h'.calls ≡ h.calls ++ calls
    pub heard : HeardBy (means h'.judge) (first h'.judge) h'.framer.fed h'.calls ending
    pub goes_on : ending ≡ None → IsGoing h'
