-- What is between quotes.
use Rattle.std.specs.Prelude.{ℕ, ◌-◌, List, length, take, drop}

-- a literal without the quotes around it
abbrev pub unquoted : List ℕ → List ℕ
unquoted cs = take (length cs - 2) (drop 1 cs)
