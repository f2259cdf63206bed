-- The lanes passed have no thread, and each took a probe.
use Rattle.thread_borrowing.proofs.DownLaws.{Descent}
use Rattle.thread_borrowing.proofs.threads.Threads.choose_counted.Given as goal

abbrev pub invariant-loop-at : goal.invariant-loop-at
invariant-loop-at g l = Descent l.self-inside.threads.items l.lane l.lowest l.at l.fn.steps l.steps
