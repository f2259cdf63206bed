use Rattle.std.proofs.Common.{◌≡◌, ◌||◌, ℕ, drop}
use Rattle.idl_scopes.specs.Each.{has}
use Rattle.idl_scopes.specs.Marks.{is_marked}
use Rattle.idl_scopes.proofs.marks.marks_of.Given as goal

abbrev pub invariant-loop-number : goal.invariant-loop-number
invariant-loop-number l = (n : ℕ) → (is_marked l.marks.items n || has (drop l.number-index l.numbers) n) ≡ has l.numbers n
