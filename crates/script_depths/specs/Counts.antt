-- How many items the stacks hold in the middle of a script.
use Rattle.std.specs.Prelude.{ℕ, ◌≤◌, length}
use Rattle.servant_scripts.specs.Drafts.{Draft}

-- a number for each stack
pub record Counts : Type 0 where
  pub places : ℕ
  pub unaries : ℕ
  pub binaries : ℕ
  pub waiting : ℕ
  pub names : ℕ
  pub phrases : ℕ
  pub lists : ℕ
  pub fields : ℕ
  pub blocks : ℕ

-- none on any stack
abbrev pub nothing : Counts
nothing = record { places = 0; unaries = 0; binaries = 0; waiting = 0; names = 0; phrases = 0; lists = 0; fields = 0; blocks = 0 }

-- each stack has at least as many items
pub record Has (d : Draft) (n : Counts) : Type 0 where
  pub places : n.places ≤ length d.places
  pub unaries : n.unaries ≤ length d.unaries
  pub binaries : n.binaries ≤ length d.binaries
  pub waiting : n.waiting ≤ length d.waiting
  pub names : n.names ≤ length d.names
  pub phrases : n.phrases ≤ length d.phrases
  pub lists : n.lists ≤ length d.lists
  pub fields : n.fields ≤ length d.fields
  pub blocks : n.blocks ≤ length d.blocks
