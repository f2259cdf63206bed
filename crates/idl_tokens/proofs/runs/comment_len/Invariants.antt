use Rattle.std.proofs.Common.{◌≡◌, drop}
use Rattle.idl_tokens.specs.Runs.{comment_end}
use Rattle.idl_tokens.proofs.runs.comment_len.Given as goal

abbrev pub invariant-loop-n : goal.invariant-loop-n
invariant-loop-n l = comment_end l.n (drop l.n l.z) ≡ comment_end 0 l.z
