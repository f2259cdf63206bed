-- Histories whose callers are numbered in a row.
use Rattle.std.specs.Prelude.{ℕ, ◌≤◌, ◌<◌, ◌+◌, List, length}
use Rattle.turn_cell.specs.declared.entry.Entry.{Entry}
use Rattle.turn_cell.specs.History.{of}
use Rattle.turn_cell.specs.Numbers.{Each}

module _ {O C R : Type 0} where
  -- each entry's caller is one of these: so many, from the first on
  abbrev pub AreAmong : ℕ → ℕ → List (Entry O C R) → Type 0
  AreAmong first k h = Each (λ e. (first ≤ e.caller) × (e.caller < first + k)) h

  -- no caller has more entries than this
  abbrev pub HaveAtMost : ℕ → List (Entry O C R) → Type 0
  HaveAtMost m h = (n : ℕ) → length (of n h) ≤ m
