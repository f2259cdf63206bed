-- Who calls the map of a name service, and how often.
use Rattle.std.specs.Prelude.{◌≡◌, ℕ, ◌<◌, ◌≤◌, List, [], length}
use Rattle.turn_cell.specs.declared.entry.Entry.{Entry}
use Rattle.turn_cell.specs.History as history
use Rattle.name_map.specs.declared.binding.Binding.{Binding}
use Rattle.name_map.specs.declared.call.NamesCall.{NamesCall}
use Rattle.name_map.specs.declared.call.NamesReply.{NamesReply}
use Rattle.name_map.specs.declared.limits.TheConstants.{MAX_CALLERS, MAX_CALLS}
use Rattle.name_map.specs.Machine.{step}

-- calls of the map with their replies
abbrev pub History : Type 0
History = List (Entry (List Binding) NamesCall NamesReply)

-- a cell opens with the empty map
abbrev pub Opens : List Binding → Type 0
Opens bs = bs ≡ []

-- a caller is one of those that there may be, and makes no more calls than it may
abbrev pub IsFit : List Binding → ℕ → History → NamesCall → Type 0
IsFit opening n mine call = (1 ≤ n) × (n ≤ MAX_CALLERS) × (length mine < MAX_CALLS)
