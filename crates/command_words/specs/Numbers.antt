-- Numbers in words: own profile.
use Rattle.std.specs.Prelude.{◌^◌, ℕ, nat_lt, option_map, Option, Some, None, if◌then◌else◌}
use Rattle.std.specs.Option.{option_and_then}
use Rattle.object_refs.specs.LocationReading.{port_number}
use Rattle.load_runs.specs.Counts.{fragment_len, load_count}
use Rattle.pipe_runs.specs.Batches.{batch}
use Rattle.server_runs.specs.Counts.{run_count}
use Rattle.client_mux.specs.Counts.{caller_count}
use Rattle.command_options.specs.Items.{Text}
use Rattle.command_options.specs.Numbers.{number_of}

-- a number from 1 to 64, of 1 to 10 decimal digits
abbrev pub batch_of : Text → Option ℕ
batch_of word = option_and_then batch (port_number 10 word)

-- how many calls a group has: the number that the word is, or 1 where there is no word
abbrev pub batch_by : Option Text → Option ℕ
batch_by (Some word) = batch_of word
batch_by None = Some 1

-- a number from 1 to 16, of 1 to 10 decimal digits
abbrev pub runs_of : Text → Option ℕ
runs_of word = option_and_then run_count (port_number 10 word)

-- how many runs are made at most: the number that the word is, or 1 where there is no word
abbrev pub runs_by : Option Text → Option ℕ
runs_by (Some word) = runs_of word
runs_by None = Some 1

-- a number of callers from 1 to 16, of 1 to 10 decimal digits
abbrev pub callers_of : Text → Option ℕ
callers_of word = option_and_then caller_count (port_number 10 word)

-- how many callers share a link: the number that the word is, or none where there is no word
abbrev pub callers_by : Option Text → Option (Option ℕ)
callers_by (Some word) = option_map Some (callers_of word)
callers_by None = Some None

-- a number that a priority may be
abbrev pub priority : ℕ → Option ℕ
priority number = if nat_lt number (2 ^ 15) then Some number else None

-- a number from 0 to 32,767, of 1 to 10 decimal digits
abbrev pub priority_of : Text → Option ℕ
priority_of word = option_and_then priority (number_of word)

-- the priority that the word is, or none where there is no word
abbrev pub priority_by : Option Text → Option (Option ℕ)
priority_by (Some word) = option_map Some (priority_of word)
priority_by None = Some None

-- a number of requests that a load may have, of 1 to 10 decimal digits
abbrev pub count_of : Text → Option ℕ
count_of word = option_and_then load_count (number_of word)

-- a length that pieces of a request may have, of 1 to 10 decimal digits
abbrev pub fragment_of : Text → Option ℕ
fragment_of word = option_and_then fragment_len (number_of word)

-- the length that the word is, or none where there is no word
abbrev pub fragment_by : Option Text → Option (Option ℕ)
fragment_by (Some word) = option_map Some (fragment_of word)
fragment_by None = Some None
