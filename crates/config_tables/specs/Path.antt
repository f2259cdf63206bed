-- Paths, like `pool.lanes[1].priority`: own profile.
use Rattle.std.specs.Prelude.{ℕ, List, ◌++◌, ◌==◌, length, take, codes, if◌then◌else◌, Option, Some, None}
use Rattle.std.specs.Fmt.{decimal}
use Rattle.orb_base.specs.NulFree.{nul_at}

-- a key of the table at a path; the document's own path is empty
abbrev pub key_path : List ℕ → List ℕ → List ℕ
key_path path key = if length path == 0 then key else path ++ (codes "." ++ key)

-- an entry of the list at a path
abbrev pub entry_path : List ℕ → ℕ → List ℕ
entry_path path n = path ++ (codes "[" ++ (decimal n ++ codes "]"))

-- the bytes before the first NUL: a path is a text, and an unknown key may hold one
abbrev before : List ℕ → Option ℕ → List ℕ
before bytes None = bytes
before bytes (Some end) = take end bytes

-- the bytes up to the first NUL, or all
abbrev pub up_to_nul : List ℕ → List ℕ
up_to_nul bytes = before bytes (nul_at bytes)
