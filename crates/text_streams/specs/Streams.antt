-- What a whole read and a whole write do to what a source and a sink tell.
use Rattle.std.specs.Prelude.{◌≡◌, ◌≤◌, ◌<◌, ◌+◌, ℕ, Bool, true, false, List, [], ◌++◌, length, option_map, IfSome}
use Rattle.orb_base.specs.Outside.{Told, SourceState, SinkState, Rose}
use Rattle.text_streams.specs.declared.reading.ReadAll.{ReadAll}
use Rattle.text_streams.specs.declared.reading.ReadAll.TheVariants as read
use Rattle.text_streams.specs.declared.writing.WriteAll.{WriteAll}
use Rattle.text_streams.specs.declared.writing.WriteAll.TheVariants as write

-- these bytes went from what is left to what was taken
pub record Gave (bytes : List ℕ) (old new : SourceState) : Type 0 where
  pub from_left : old.left ≡ option_map (λ rest. bytes ++ rest) new.left
  pub to_taken : new.taken ≡ option_map (λ seen. seen ++ bytes) old.taken

-- at most so many bytes did
pub record GaveFew (limit : ℕ) (old new : SourceState) : Type 0 where
  pub bytes : List ℕ
  pub few : length bytes ≤ limit
  pub gave : Gave bytes old new

-- a prefix of the bytes was written, and this is the rest
pub record WroteSome (bytes rest : List ℕ) (old new : SinkState) : Type 0 where
  pub front : List ℕ
  pub parts : bytes ≡ front ++ rest
  pub wrote : new.held ≡ option_map (λ h. h ++ front) old.held

-- a read has answered the end, after which nothing is left
abbrev pub AtEnd : SourceState → SourceState → Type 0
AtEnd old new = Rose old.ends new.ends × IfSome new.left (λ rest. rest ≡ [])

-- a read has answered the end, or none has
abbrev pub MeetsEnd : Bool → SourceState → SourceState → Type 0
MeetsEnd true old new = AtEnd old new
MeetsEnd false old new = new.ends ≡ old.ends

-- a whole input of at most `limit` bytes was read to its end, or one more than that, or some before a fault
abbrev pub ReadsAll : ℕ → ReadAll → SourceState → SourceState → Type 0
ReadsAll limit (read.Whole bytes) old new =
    (length bytes.items ≤ limit) × Gave bytes.items old new × AtEnd old new × (new.faults ≡ old.faults)
ReadsAll limit read.TooLong old new =
    ((bytes : List ℕ) × (length bytes ≡ limit + 1) × Gave bytes old new) × (new.ends ≡ old.ends) × (new.faults ≡ old.faults)
ReadsAll limit (read.Failed bytes) old new =
    (length bytes.items ≤ limit) × Gave bytes.items old new × (new.ends ≡ old.ends) × Rose old.faults new.faults
ReadsAll limit read.NoMemory old new = GaveFew (limit + 1) old new × (new.ends ≡ old.ends) × (new.faults ≡ old.faults)

-- all of these bytes were written
abbrev pub WroteText : List ℕ → SinkState → SinkState → Type 0
WroteText bytes old new = new.held ≡ option_map (λ h. h ++ bytes) old.held

-- a prefix of these bytes was written
abbrev pub WroteFrontOf : List ℕ → SinkState → SinkState → Type 0
WroteFrontOf bytes old new = (rest : List ℕ) × WroteSome bytes rest old new

-- all bytes were written, or a prefix of them up to a fault
abbrev pub WritesAll : WriteAll → List ℕ → SinkState → SinkState → Type 0
WritesAll write.Whole bytes old new = WroteText bytes old new × (new.faults ≡ old.faults)
WritesAll write.Failed bytes old new = WroteFrontOf bytes old new × Rose old.faults new.faults
