-- What a history of the link says of the replies to calls and of the loss.
use Rattle.std.specs.Prelude.{ℕ, ◌==◌, Bool, [], ◌∷◌, Option, Some, None, if◌then◌else◌}
use Rattle.std.specs.List.{list_any}
use Rattle.client_mux.specs.declared.heard_reply.HeardReply.{HeardReply}
use Rattle.turn_cell.specs.History as history
use Rattle.client_mux.specs.declared.why.Why.{Why}
use Rattle.client_mux.specs.declared.call.MuxCall.{MuxCall}
use Rattle.client_mux.specs.declared.call.MuxCall.TheVariants.{Arrived, Lost}
use Rattle.client_mux.specs.Machine.{Mux, One, History, is_ready, IsSound, step}
use Rattle.client_mux.specs.Callers.{starts_as, IsFit}

-- each call of the history was ready, sound and answered by its step
abbrev pub IsLegal : Mux → History → Type 0
IsLegal x h = history.Legal is_ready IsSound step x h

-- each call of the history was one that its caller may make
abbrev pub AreFit : Mux → History → Type 0
AreFit x h = history.FitFrom IsFit x [] h

-- the link after a history
abbrev pub replay : Mux → History → Mux
replay x h = history.replay step x h

-- a Start was answered this id
abbrev pub begun : ℕ → History → Bool
begun id h = list_any (λ (e : One). starts_as id e.call e.reply) h

-- the cause of a loss, or else this
abbrev pub loss_or : MuxCall → Option Why → Option Why
loss_or (Lost why) o = Some why
loss_or call o = o

-- the cause of the first loss
abbrev pub first_loss : History → Option Why
first_loss [] = None
first_loss (e ∷ es) = loss_or e.call (first_loss es)

-- the reply of this id that arrives, or else this
abbrev pub came_or : ℕ → MuxCall → Option HeardReply → Option HeardReply
came_or id (Arrived i r) o = if i == id then Some r else o
came_or id call o = o

-- the first reply of this id
abbrev pub first_arrived : ℕ → History → Option HeardReply
first_arrived id [] = None
first_arrived id (e ∷ es) = came_or id e.call (first_arrived id es)

-- the first reply of this id after its Start
abbrev pub reply_after_start : ℕ → History → Option HeardReply
reply_after_start id [] = None
reply_after_start id (e ∷ es) = if starts_as id e.call e.reply then first_arrived id es else reply_after_start id es
