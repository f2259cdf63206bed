use Rattle.std.proofs.Common.{rules, ℕ}
use denote.Param.Send.{Quiet, Quiet-if}
use denote.Exit.{Kept, if_kept, unseen}
use mir.Syntax.{of_param}
use Rattle.halls.proofs.run.run_hall.Goals as goal

-- what a closure has of a type parameter is seen at no exit, so that nothing is left there
kept_quiet : {D : Type 0} (n : ℕ) (k : Kept) → Quiet {D = D} (if_kept (k (of_param n)) unseen unseen)
kept_quiet {D} n k = Quiet-if {D = D} (k (of_param n)) unseen unseen (λ x w. tt) (λ x w. tt)

pub run_all-requires-clause-jobs : goal.run_all-requires-clause-jobs
run_all-requires-clause-jobs g c κs within = λ k d l. (let b = c.type_bounds in (
  c.requires.jobs k d l,
  (
    record { owned = b.send-A.owned; leaving = kept_quiet 0 },
    record { owned = b.send-A-In.owned; leaving = kept_quiet 2 },
    record { owned = b.send-A-Out.owned; leaving = kept_quiet 3 },
    record { owned = b.send-H-Hand.owned; leaving = kept_quiet 4 },
    search rules,
  ),
))
