-- How many callers share a link: own profile.
use Rattle.std.specs.Prelude.{ℕ, nat_lt, ◌||◌, if◌then◌else◌, Option, Some, None}
use Rattle.client_mux.specs.declared.limits.TheConstants.{MAX_CALLERS}

-- so many callers, where they are 1 to 16
abbrev pub caller_count : ℕ → Option ℕ
caller_count callers = if nat_lt callers 1 || nat_lt MAX_CALLERS callers then None else Some callers
