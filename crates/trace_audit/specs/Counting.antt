-- Which entry is the first wrong one, by how many come before it. Own profile.
use Rattle.std.specs.Prelude.{ℕ, ◌==◌, Option, Some, None, if◌then◌else◌}

-- none of so many where all come before it
abbrev pub wrong_of : ℕ → ℕ → Option ℕ
wrong_of before entries = if before == entries then None else Some before
