-- What a store of files means. Its files are given as an option: None where it doesn't tell them.
use Rattle.std.specs.Prelude.{◌≡◌, ◌≤◌, ◌<◌, ℕ, Bool, List, [], Option, Some, None, length, nat_eq, IfSome, MatchOption, option_map}
use Rattle.std.specs.List.{find}
use Rattle.std.specs.Cmp.Lexicographic.{pointwise}
use Rattle.orb_base.specs.Outside.{Told, Rose}
use Rattle.orb_base.specs.declared.files.Filed.{Filed}
use Rattle.orb_base.specs.declared.files.Filed.TheVariants as filed

-- a file
pub record File : Type 0 where
  pub name : List ℕ
  pub bytes : List ℕ

-- what a store of files tells at one moment: its files, and how many reads failed
pub record FilesState : Type 0 where
  pub files : Option (List File)
  pub faults : ℕ

-- the file has this name
abbrev pub is_named : List ℕ → File → Bool
is_named name file = pointwise nat_eq file.name name

-- the content of the first file of this name
abbrev pub content : List File → List ℕ → Told
content files name = option_map (λ file. file.bytes) (find (is_named name) files)

-- a read of a whole file of at most so many bytes: the content, or why there is none
abbrev pub Files : Filed → List ℕ → ℕ → List ℕ → FilesState → Type 0
Files filed.Whole name limit into old =
    (length into ≤ limit) × IfSome old.files (λ files. content files name ≡ Some into)
Files filed.Absent name limit into old = (into ≡ []) × IfSome old.files (λ files. content files name ≡ None)
Files filed.TooLong name limit into old =
    (into ≡ []) × IfSome old.files (λ files. MatchOption (content files name) ⊥ (λ bytes. limit < length bytes))
Files filed.Failed name limit into old = into ≡ []
Files filed.NoMemory name limit into old = into ≡ []

-- a failed read raises the count of faults, and no other answer moves it
abbrev pub CountsFileFault : Filed → FilesState → FilesState → Type 0
CountsFileFault filed.Failed old new = (old.faults ≤ new.faults) × Rose old.faults new.faults
CountsFileFault filed.Whole old new = new.faults ≡ old.faults
CountsFileFault filed.Absent old new = new.faults ≡ old.faults
CountsFileFault filed.TooLong old new = new.faults ≡ old.faults
CountsFileFault filed.NoMemory old new = new.faults ≡ old.faults
