-- Whether a key has to be in a table, which may depend on the table's other keys.
use Rattle.std.specs.Prelude.{ℕ, Bool, true, false, not, List, Option, Some, is_some}
use Rattle.toml.specs.Data.{Data, string, Members, get_member}
use Rattle.config_tables.specs.Held.{truth_at}
use Rattle.config_tables.specs.Keys.{same_text}
use Rattle.config_tables.specs.Rules.{Condition, stands, lacks, says, is_on, Need, due, free, exactly_where, along_with}

-- whether a value is this text
abbrev text_is : List ℕ → Option Data → Bool
text_is w (Some (string s)) = same_text s w
text_is w _ = false

-- whether a condition holds in a table
abbrev pub holds : Condition → Members → Bool
holds (stands k) ms = is_some (get_member k ms)
holds (lacks k) ms = not (is_some (get_member k ms))
holds (says k w) ms = text_is w (get_member k ms)
holds (is_on k) ms = truth_at k ms

-- a key has to be there, may be there, may not be there
pub data Standing : Type 0 where
  is_due : Standing
  is_free : Standing
  is_excluded : Standing

-- a key that has to be there exactly where something holds
abbrev pub due_exactly : Bool → Standing
due_exactly true = is_due
due_exactly false = is_excluded

-- a key that has to be there at least where something holds
abbrev pub due_at_least : Bool → Standing
due_at_least true = is_due
due_at_least false = is_free

-- how a key of such a need is in a table
abbrev pub standing : Need → Members → Standing
standing due ms = is_due
standing free ms = is_free
standing (exactly_where c) ms = due_exactly (holds c ms)
standing (along_with k) ms = due_at_least (is_some (get_member k ms))
