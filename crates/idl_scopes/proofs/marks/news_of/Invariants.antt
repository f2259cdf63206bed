use Rattle.std.proofs.Common.{◌≡◌, ◌++◌, ℕ, true, drop}
use Rattle.idl_scopes.specs.Each.{has, and_each}
use Rattle.idl_scopes.specs.Marks.{is_marked}
use Rattle.idl_scopes.proofs.marks.news_of.Given as goal

abbrev pub invariant-loop-number : goal.invariant-loop-number
invariant-loop-number l =
    ((n : ℕ) → is_marked l.marks.items n ≡ has (l.before ++ l.items.items) n)
    × (and_each (l.before ++ l.items.items) (drop l.number-index l.several) ≡ and_each l.before l.several)
    × (l.all ≡ true → l.items.items ++ drop l.number-index l.several ≡ l.several)
