-- The thread and the request are there.
use Rattle.std.proofs.Common.{◌<◌, length, sym, subst}
use Rattle.std.proofs.lemmas.Option.{slice_get_within}
use Rattle.lane_machine.specs.State.{State}
use Rattle.lane_audit.proofs.Finding.{next_within}
use Rattle.lane_audit.proofs.lists.Lists.go_on.Goals as goal

pub hand_on-requires-clause-waits : goal.hand_on-requires-clause-waits
hand_on-requires-clause-waits c =
    subst (λ (s : State). c.in-Some-place_of_next.place < length s.waiting) c.self.view_is (next_within _ _ _ _ c.in-Some-place_of_next.ensures)

pub free-requires : goal.free-requires
free-requires c = record { there = subst (λ (s : State). c.args.at < length s.threads) c.self.view_is (slice_get_within _ c.args.at _ (sym c.in-Some.ensures)) }
