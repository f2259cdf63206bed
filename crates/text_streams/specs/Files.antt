-- What a file is whose bytes are read whole.
use Rattle.std.specs.Prelude.{◌≡◌, ◌≤◌, ℕ, List, length, Some, IfSome}
use Rattle.orb_base.specs.Filing.{FilesState, content}

-- these bytes, at most `limit`, are the file of this name, where the store tells its files
abbrev pub IsFile : ℕ → FilesState → List ℕ → List ℕ → Type 0
IsFile limit files name bytes = (length bytes ≤ limit) × IfSome files.files (λ fs. content fs name ≡ Some bytes)
