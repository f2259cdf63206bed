-- What a closure keeps of a type parameter.
use Rattle.std.proofs.Common.{ℕ}
use denote.Param.Send.{Quiet, Quiet-if}
use denote.Exit.{Kept, if_kept, unseen}
use mir.Syntax.{of_param}

-- it is seen at no exit, so that nothing is left there
pub kept_quiet : {D : Type 0} (n : ℕ) (k : Kept) → Quiet {D = D} (if_kept (k (of_param n)) unseen unseen)
kept_quiet {D} n k = Quiet-if {D = D} (k (of_param n)) unseen unseen (λ x w. tt) (λ x w. tt)
