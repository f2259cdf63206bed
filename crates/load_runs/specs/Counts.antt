-- How many requests a load may have, and how long their pieces may be: own profile.
use Rattle.std.specs.Prelude.{ℕ, ◌||◌, ◌%◌, ◌==◌, not, nat_lt, Option, Some, None, if◌then◌else◌}
use Rattle.orb_base.specs.declared.limits.TheConstants.{MAX_RUN_CALLS, MAX_MESSAGE}
use Rattle.load_runs.specs.declared.fragment_len.TheConstants.{MIN_FRAGMENT}

-- a load has at least one request, and no more than a run hears
abbrev pub load_count : ℕ → Option ℕ
load_count n = if nat_lt n 1 || nat_lt MAX_RUN_CALLS n then None else Some n

-- a piece has room for a header, an id and eight bytes more, is no longer than a message may be, and its length is a multiple of 8
abbrev pub fragment_len : ℕ → Option ℕ
fragment_len n = if nat_lt n MIN_FRAGMENT || (nat_lt MAX_MESSAGE n || not (n % 8 == 0)) then None else Some n
