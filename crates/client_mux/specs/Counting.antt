-- What is counted along a history of the link, and how much room its lists need.
use Rattle.std.specs.Prelude.{ℕ}
use Rattle.std.specs.List.{sum_by}
use Rattle.client_mux.specs.declared.call.MuxCall.{MuxCall}
use Rattle.client_mux.specs.declared.call.MuxCall.TheVariants.{Start, Cancel, Next}
use Rattle.client_mux.specs.declared.call.MuxReply.{MuxReply}
use Rattle.client_mux.specs.declared.call.MuxReply.TheVariants as reply
use Rattle.client_mux.specs.Machine.{One, History}

-- 1 for a call by which something is to be sent
abbrev pub queues : MuxCall → MuxReply → ℕ
queues (Start _ _) (reply.Id i) = 1
queues (Cancel _ _) reply.Cancelled = 1
queues call r = 0

-- 1 for a Next that handed something out
abbrev pub gives : MuxCall → MuxReply → ℕ
gives Next reply.Finish = 0
gives Next r = 1
gives call r = 0

-- how much was to be sent along a history
abbrev pub queued : History → ℕ
queued h = sum_by (λ (e : One). queues e.call e.reply) h

-- how much was handed out along it
abbrev pub given : History → ℕ
given h = sum_by (λ (e : One). gives e.call e.reply) h
