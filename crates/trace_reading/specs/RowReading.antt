-- A line of a trace but its summary, by its words. Own profile.
use Rattle.std.specs.Prelude.{ℕ, Bool, List, [], ◌∷◌, codes, Option, Some, None, option_map}
use Rattle.std.specs.Option.{option_and_then}
use Rattle.trace_lines.specs.declared.trace_line.Action.{Action}
use Rattle.trace_reading.specs.declared.row.Flags.{Flags}
use Rattle.trace_reading.specs.declared.row.Limits.{Limits}
use Rattle.trace_reading.specs.declared.row.Row.{Row}
use Rattle.trace_reading.specs.declared.row.Row.TheVariants.{Pool, Lane, Entry, Count}
use Rattle.trace_reading.specs.ActionReading.{small_in, long_in, action_in}
use Rattle.trace_reading.specs.Choices.{option_ap, choice}
use Rattle.trace_reading.specs.Words.{number_in, flag_in, parts_in}

-- what a pool allows
abbrev pub flags_from : Bool → Bool → Bool → Flags
flags_from laned borrowing buffering = record { laned = laned; borrowing = borrowing; buffering = buffering }

-- what a pool allows, by its words
abbrev pub flags_in : List ℕ → List ℕ → List ℕ → Option Flags
flags_in laned borrowing buffering =
    option_ap (option_ap (option_map flags_from (flag_in laned)) (flag_in borrowing)) (flag_in buffering)

-- the limits of what may wait, and of a run
abbrev pub limits_from : ℕ → ℕ → ℕ → ℕ → Limits
limits_from requests bytes calls run = record { max_requests = requests; max_bytes = bytes; run_calls = calls; run_bytes = run }

-- the limits, by their words
abbrev pub limits_in : List ℕ → List ℕ → List ℕ → List ℕ → Option Limits
limits_in requests bytes calls run =
    option_ap (option_ap (option_ap (option_map limits_from (long_in requests)) (long_in bytes)) (long_in calls)) (long_in run)

-- what a run opened with, but for its lanes, of its parts
abbrev pub head_from : Flags → Limits → ℕ → ℕ → Row
head_from flags limits slots per_slot = Pool (record { flags = flags; limits = limits; slots = slots; per_slot = per_slot })

-- what a run opened with, of its parts and the last words
abbrev pub head_by : Option Flags → Option Limits → List ℕ → List ℕ → Option Row
head_by flags limits slots per_slot =
    option_ap (option_ap (option_ap (option_map head_from flags) limits) (small_in slots)) (small_in per_slot)

-- its words after what the pool allows
abbrev pub head_after : Option Flags → List (List ℕ) → Option Row
head_after flags (requests ∷ bytes ∷ calls ∷ run ∷ slots ∷ per_slot ∷ []) =
    head_by flags (limits_in requests bytes calls run) slots per_slot
head_after flags _ = None

-- the first line, by the words after its first
-- the first line, by the words after its first
abbrev pub head_in : List (List ℕ) → Option Row
head_in (laned ∷ borrowing ∷ buffering ∷ words) = head_after (flags_in laned borrowing buffering) words
head_in _ = None

-- a lane
abbrev pub lane_from : ℕ → ℕ → ℕ → Row
lane_from priority statics dynamics = Lane (record { priority = priority; statics = statics; dynamics = dynamics })

-- a lane, by the words after its first
abbrev pub lane_in : List (List ℕ) → Option Row
lane_in (priority ∷ statics ∷ dynamics ∷ []) =
    option_ap (option_ap (option_map lane_from (number_in 32768 priority)) (small_in statics)) (small_in dynamics)
lane_in _ = None

-- how many entries there are, by the words after the first
abbrev pub count_in : List (List ℕ) → Option Row
count_in (entries ∷ []) = option_map Count (long_in entries)
count_in _ = None

-- an entry, of its parts
abbrev pub entry_from : ℕ → Action → Row
entry_from caller action = Entry (record { caller = caller; action = action })

-- an entry, by its caller and the words after that
abbrev pub entry_in : List ℕ → List (List ℕ) → Option Row
entry_in caller (verb ∷ words) = option_ap (option_map entry_from (long_in caller)) (action_in verb words)
entry_in caller [] = None

-- how a line is read that is no entry, by its first word
abbrev pub starts : List (List ℕ × (List (List ℕ) → Option Row))
starts = (codes "pool", head_in) ∷ (codes "lane", lane_in) ∷ (codes "entries", count_in) ∷ []

-- a line, by how it is read where its first word says it
abbrev pub row_by : Option (List (List ℕ) → Option Row) → List ℕ → List (List ℕ) → Option Row
row_by (Some read) first words = read words
row_by None first words = entry_in first words

-- a line, by its first word and the words after that
abbrev pub row_in : List ℕ → List (List ℕ) → Option Row
row_in first words = row_by (choice starts first) first words

-- a line, by its words
abbrev pub row_of : List (List ℕ) → Option Row
row_of (first ∷ words) = row_in first words
row_of [] = None

-- a line, without its line feed
abbrev pub line_in : List ℕ → Option Row
line_in text = option_and_then row_of (parts_in 32 text)
