use Rattle.shared_link.specs.Roles.{CanRead, CanLose}
use Rattle.client_tests.proofs.many_callers.all_arrive.Given as goal

abbrev pub invariant-loop-nth : goal.invariant-loop-nth
invariant-loop-nth g l = CanRead l.shared.cell l.nth l.reader × CanLose l.shared.cell l.reader
