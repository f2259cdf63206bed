-- What a read of a whole file puts into a list.
use Rattle.std.specs.Prelude.{◌≡◌, ◌≤◌, ℕ, List, [], length}
use Rattle.orb_base.specs.declared.files.Filed.{Filed}
use Rattle.orb_base.specs.declared.files.Filed.TheVariants as filed

-- a whole file has at most so many bytes; every other answer leaves nothing
abbrev pub Fills : Filed → ℕ → List ℕ → Type 0
Fills filed.Whole limit into = length into ≤ limit
Fills filed.Absent limit into = into ≡ []
Fills filed.TooLong limit into = into ≡ []
Fills filed.Failed limit into = into ≡ []
Fills filed.NoMemory limit into = into ≡ []
