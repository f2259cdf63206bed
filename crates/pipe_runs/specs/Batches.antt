-- How many calls a group of the pipe may have: own profile.
use Rattle.std.specs.Prelude.{ℕ, ◌||◌, nat_lt, Option, Some, None, if◌then◌else◌}

-- a group has 1 to 64 calls
abbrev pub batch : ℕ → Option ℕ
batch calls = if nat_lt calls 1 || nat_lt 64 calls then None else Some calls
