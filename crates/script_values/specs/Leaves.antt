-- How large a value is.
use Rattle.std.specs.Prelude.{ℕ, suc, ◌+◌, ◌-◌, length, nat_lt, Option, Some, None, Ok, Err, if◌then◌else◌}
use Rattle.cdr_values.specs.Trees.{Value, truth, number, letter, text, items, chosen, label, Values, no_values, value}
use Rattle.script_values.specs.declared.limit.Limit.TheVariants.{TooLarge}
use Rattle.script_values.specs.Operations.{Comes}

-- a text has its length and one more, any other primitive one
abbrev mutual
  pub leaves : Value → ℕ
  leaves (text t) = suc (length t)
  leaves (items vs) = all_leaves vs
  leaves (truth b) = 1
  leaves (number z) = 1
  leaves (letter n) = 1
  leaves (label n) = 1
  leaves (chosen z vs) = suc (all_leaves vs)

  -- those of several values
  pub all_leaves : Values → ℕ
  all_leaves no_values = 0
  all_leaves (value v vs) = leaves v + all_leaves vs

-- the room that is left, where it is enough
abbrev pub less : ℕ → ℕ → Option ℕ
less room n = if nat_lt room n then None else Some (room - n)

-- a value of at most 65,536 leaves
unfoldable pub sized : Value → Comes Value
sized v = if nat_lt 65536 (leaves v) then Err TooLarge else Ok v
