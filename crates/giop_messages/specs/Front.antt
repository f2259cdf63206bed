-- What a writer holds of a message once out of memory.
use Rattle.std.specs.Prelude.{◌≡◌, ℕ, List, ◌++◌}

-- bytes that begin the whole
pub record IsFront (front whole : List ℕ) : Type 0 where
  pub missing : List ℕ
  pub parts : whole ≡ front ++ missing
