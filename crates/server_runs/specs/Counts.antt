-- How many runs one server makes: own profile.
use Rattle.std.specs.Prelude.{ℕ, ◌||◌, nat_lt, Option, Some, None, if◌then◌else◌}
use Rattle.orb_base.specs.declared.limits.TheConstants.{MAX_RUNS}

-- a server makes at least one run, and no more than the limit
abbrev pub run_count : ℕ → Option ℕ
run_count runs = if nat_lt runs 1 || nat_lt MAX_RUNS runs then None else Some runs
