-- What is read of a message in parts is what its bytes mean, and a copy of it is that too.
use Rattle.std.proofs.Common.{◌≡◌, ℕ, List, [], ◌∷◌, drop, Result, Ok, Err, inl, inr, sym, subst}
use Rattle.std.specs.Prelude.{IfOk, IfErr, ◌≢◌}
use Rattle.cdr_core.specs.declared.fault.CdrFault.{CdrFault}
use Rattle.cdr_core.specs.Cursor.{Cursor, cursor, aligned, AreBytes}
use Rattle.giop_frames.specs.Messages as Frames
use Rattle.giop_messages.specs.declared.message.Message as program
use Rattle.giop_messages.specs.declared.parts.Parts.{Parts}
use Rattle.giop_messages.specs.declared.message_fault.MessageFault.{MessageFault}
use Rattle.giop_messages.specs.declared.message_fault.MessageFault.TheVariants as faults
use Rattle.giop_messages.specs.Message.{Message}
use Rattle.giop_messages.specs.Answers.{Answers, Means, Fails}
use Rattle.giop_messages.specs.MessageReading.{IsMessage, message_at}
use Rattle.giop_messages.specs.PartsView.{parts_message}
use Rattle.giop_messages.specs.Reading.{Reads}
use Rattle.giop_messages.specs.Refusing.{FailsBehind, FailsReference, FailsTarget, Part, basic, target, status, contexts, FailsAs, FailsAmong, parts_of, Refuses}
use Rattle.giop_messages.specs.Views.{message_of}
use Rattle.giop_messages.proofs.Headed.{headed}
use Rattle.giop_messages.proofs.WholeFound.{message_found}
use Rattle.giop_messages.proofs.WholeAgain.{in_order}
use Rattle.giop_messages.proofs.HeaderFault.{message_err}
use Rattle.giop_messages.proofs.RefusalAgain.{message_told}

pub parts_found : (r : Result Parts MessageFault) (w : Frames.Message) → IsMessage w → AreBytes w.bytes → Means parts_message r (message_at w) → IfOk r (λ p. Reads (parts_message p) w.bytes)
parts_found (Ok p) w i fits e = (w.order, message_found w (parts_message p) (headed w i fits) fits e)
parts_found (Err f) w i fits e = tt

pub parts_only : (r : Result Parts MessageFault) (w : Frames.Message) → IsMessage w → AreBytes w.bytes → Means parts_message r (message_at w) → (m : Message) → Reads m w.bytes → Means parts_message r (Ok m)
parts_only r w i fits e m p = subst (Means parts_message r) (in_order w p.0 m (headed w i fits) p.1) e

pub parts_fail : (r : Result Parts MessageFault) (w : Frames.Message) → AreBytes w.bytes → Means parts_message r (message_at w) → IfErr r (λ e. Refuses w e)
parts_fail (Ok p) w fits h = tt
parts_fail (Err e) w fits h = message_err w e fits h

pub parts_told : (r : Result Parts MessageFault) (w : Frames.Message) → Means parts_message r (message_at w) → (e : MessageFault) → Refuses w e → Means parts_message r (Err e)
parts_told r w a e h = subst (Means parts_message r) (message_told w e h) a

-- ---- no first fault says that memory ran out

no_memory : (f : CdrFault) → faults.NoMemory ≡ faults.Cdr f → ⊥
no_memory f e = absurd cc

no_reference : (c : Cursor) → FailsReference c faults.NoMemory → ⊥
no_reference c (inl h) = no_memory h.0 h.2
no_reference c (inr h) = no_memory h.4.0 h.4.2

no_behind : (form : ℕ) (c : Cursor) → FailsBehind form c faults.NoMemory → ⊥
no_behind form c (inl h) = no_memory h.1.0 h.1.2
no_behind form c (inr (inl h)) = no_memory h.1.0 h.1.2
no_behind form c (inr (inr h)) = no_reference c h.1

no_target : (c : Cursor) → FailsTarget c faults.NoMemory → ⊥
no_target c (inl h) = no_memory h.0 h.2
no_target c (inr (inl h)) = let no : faults.NoMemory ≡ faults.BadTarget (aligned 2 c.place) = h.told in absurd cc
no_target c (inr (inr h)) = no_behind h.0 h.1 h.3

no_part : (part : Part) (c : Cursor) → FailsAs part c faults.NoMemory → ⊥
no_part (basic kind) c h = no_memory h.0 h.2
no_part target c h = no_target c h
no_part status c (inl h) = no_memory h.0 h.2
no_part status c (inr h) = let no : faults.NoMemory ≡ faults.BadStatus (aligned 4 c.place) = h.told in absurd cc
no_part contexts c h = no_memory h.0 h.2

no_header : (parts : List Part) (c : Cursor) → FailsAmong parts c faults.NoMemory → ⊥
no_header [] c h = h
no_header (part ∷ parts) c (inl h) = no_part part c h
no_header (part ∷ parts) c (inr h) = no_header parts h.0 h.2

enough : (w : Frames.Message) (e : MessageFault) → Refuses w e → e ≢ faults.NoMemory
enough w e h same = no_header (parts_of w.kind) (cursor w.order 12 (drop 12 w.bytes)) (subst (Refuses w) same h)

pub parts_enough : (r : Result Parts MessageFault) (w : Frames.Message) → AreBytes w.bytes → Means parts_message r (message_at w) → IfErr r (λ e. e ≢ faults.NoMemory)
parts_enough (Ok p) w fits h = tt
parts_enough (Err e) w fits h = enough w e (message_err w e fits h)

-- ---- copies

pub copied_so : (r : Result program.Message MessageFault) (w : Frames.Message) (m : Message) → message_at w ≡ Ok m → Answers message_of r (Ok m) → Answers message_of r (message_at w)
copied_so r w m e h = subst (Answers message_of r) (sym e) h

pub refused_so : (e : MessageFault) (w : Frames.Message) → message_at w ≡ Err e → Fails e (message_at w)
refused_so (faults.Cdr f) w h = h
refused_so (faults.BadTarget place) w h = h
refused_so (faults.BadStatus place) w h = h
refused_so faults.NoMemory w h = tt
