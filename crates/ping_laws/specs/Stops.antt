-- Where a run is closing.
use Rattle.std.specs.Prelude.{Bool}
use Rattle.std.specs.List.{list_any}
use Rattle.lane_machine.specs.Callers.{is_closing, is_end}
use Rattle.lane_machine.specs.Histories.{History}

-- a call of the history was answered Closing
abbrev pub has_closing : History → Bool
has_closing h = list_any (λ e. is_closing e.reply) h

-- an End was made in the history
abbrev pub has_end : History → Bool
has_end h = list_any (λ e. is_end e.call) h
