-- The definitions on the ping of the format document: the request of id 1 at priority 100, and its reply.
use Rattle.std.specs.Prelude.{◌≡◌, ℕ, List, [], ◌∷◌, refl}
use Rattle.std.specs.Int.{w16}
use Rattle.orb_base.specs.JobRecord.{JobRecord}
use Rattle.orb_base.specs.declared.outcome.Outcome.{Outcome}
use Rattle.orb_base.specs.declared.outcome.Outcome.TheVariants.{Returned}
use Rattle.cdr_core.specs.Field.{number_bytes}
use Rattle.orb_base.specs.declared.order.Order.TheVariants.{Big}
use Rattle.lane_machine.specs.declared.call.How.TheVariants.{Quiet}
use Rattle.lane_machine.specs.declared.call.LaneCall.TheVariants.{Offer}
use Rattle.thread_borrowing.specs.Choice.{chosen_thread}
use Rattle.request_buffer.specs.Next.{next_job}
use Rattle.lane_machine.specs.Readiness.{owed}
use Rattle.adapter_policies.specs.BuiltIn.{built_in}
use Rattle.ping_laws.specs.PingRun.{ping_job}
use Rattle.pipe_laws.specs.Piped.{piped_bytes}

-- servants that answer by the priority
abbrev telling : List ℕ → JobRecord → Outcome
telling interface job = Returned (number_bytes job.order w16 job.priority)

ping_is_answered : piped_bytes built_in telling 1 (Offer (ping_job 0 Big 48 1 0 100) ∷ []) Quiet [] ≡ 71 ∷ 73 ∷ 79 ∷ 80 ∷ 1 ∷ 2 ∷ 0 ∷ 1 ∷ 0 ∷ 0 ∷ 0 ∷ 14 ∷ 0 ∷ 0 ∷ 0 ∷ 1 ∷ 0 ∷ 0 ∷ 0 ∷ 0 ∷ 0 ∷ 0 ∷ 0 ∷ 0 ∷ 0 ∷ 100 ∷ []
unfolding chosen_thread next_job owed number_bytes
ping_is_answered = refl

nothing_is_answered : piped_bytes built_in telling 1 [] Quiet [] ≡ []
unfolding owed
nothing_is_answered = refl
