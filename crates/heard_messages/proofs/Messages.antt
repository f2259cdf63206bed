-- A message means one thing.
use Rattle.std.proofs.Common.{◌≡◌, ℕ, length, Result, Ok, Err, sym, ◌∙◌}
use Rattle.orb_base.specs.declared.order.Order.{Order}
use Rattle.giop_frames.specs.Messages as Frames
use Rattle.giop_messages.specs.Message.{Message}
use Rattle.giop_messages.specs.MessageReading.{message_at}
use Rattle.giop_messages.specs.declared.message_fault.MessageFault.{MessageFault}
use Rattle.giop_messages.specs.declared.message_fault.MessageFault.TheVariants as faults
use Rattle.heard_messages.specs.Hearing.{IsOneWay, MeansRead, IsMeant}
use Rattle.heard_messages.specs.declared.means.Means.{Means}

module _ {B C : Type 0} (means : B → ℕ → Order → ℕ → Message → Means B C → Type 0) where
  fault_one : (bound : B) (serial : ℕ) (m : Frames.Message) (fault : MessageFault) (x y : Means B C)
      → MeansRead means bound serial m (Err fault) x → MeansRead means bound serial m (Err fault) y → x ≡ y
  fault_one bound serial m (faults.Cdr f) x y h k = h ∙ sym k
  fault_one bound serial m (faults.BadTarget place) x y h k = h ∙ sym k
  fault_one bound serial m (faults.BadStatus place) x y h k = h ∙ sym k
  fault_one bound serial m faults.NoMemory x y h k = absurd h

  read_one : IsOneWay means → (bound : B) (serial : ℕ) (m : Frames.Message) (read : Result Message MessageFault) (x y : Means B C)
      → MeansRead means bound serial m read x → MeansRead means bound serial m read y → x ≡ y
  read_one one bound serial m (Ok message) x y h k = one bound serial m.order (length m.bytes) message x y h k
  read_one one bound serial m (Err fault) x y h k = fault_one bound serial m fault x y h k

  pub meant_one : IsOneWay means → (bound : B) (serial : ℕ) (m : Frames.Message) (x y : Means B C) → IsMeant means bound serial m x → IsMeant means bound serial m y → x ≡ y
  meant_one one bound serial m x y h k = read_one one bound serial m (message_at m) x y h k
