-- What `orb refs` reads and writes: own profile.
use Rattle.std.specs.Prelude.{◌≡◌, ◌≤◌, ◌<◌, ◌+◌, ℕ, List, [], length, IfSome, Result, Ok, Err}
use Rattle.orb_base.specs.Outside.{SourceState, SinkState, Rose}
use Rattle.orb_base.specs.declared.no_memory.NoMemory.{NoMemory}
use Rattle.reference_lines.specs.declared.refs_end.RefsEnd.{RefsEnd}
use Rattle.reference_lines.specs.declared.refs_end.RefsEnd.TheVariants.{Done, Refused, TooLong, ReadFault, WriteFault}
use Rattle.reference_lines.specs.declared.refs_end.TheConstants.{MAX_REFERENCE}
use Rattle.reference_lines.specs.RefsText.{text_of, lines_of, IsPrinted}
use Rattle.text_streams.specs.Streams.{Gave, WroteText, WroteFrontOf}

-- a read has answered the end, after which nothing is left
abbrev pub MetEnd : SourceState → SourceState → Type 0
MetEnd old new = Rose old.ends new.ends × IfSome new.left (λ rest. rest ≡ [])

-- what is answered where this text is read, and what is written
abbrev pub WritesLines : Result RefsEnd NoMemory → List ℕ → SinkState → SinkState → Type 0
WritesLines (Ok Done) text out out' =
    ((lines : List ℕ) × (lines_of text ≡ Ok lines) × IsPrinted lines text × WroteText lines out out') × (out'.faults ≡ out.faults)
WritesLines (Ok (Refused f)) text out out' =
    (lines_of text ≡ Err f) × ((lines : List ℕ) → ¬ IsPrinted lines text) × (out' ≡ out)
WritesLines (Ok WriteFault) text out out' =
    ((lines : List ℕ) × (lines_of text ≡ Ok lines) × IsPrinted lines text × WroteFrontOf lines out out')
    × Rose out.faults out'.faults
WritesLines (Ok TooLong) text out out' = ⊥
WritesLines (Ok ReadFault) text out out' = ⊥
WritesLines (Err _) text out out' = out' ≡ out

-- what comes of a text after which a read failed
abbrev pub CutsOff : RefsEnd → List ℕ → Type 0
CutsOff TooLong text = MAX_REFERENCE < length text
CutsOff ReadFault text = length text ≤ MAX_REFERENCE
CutsOff Done text = ⊥
CutsOff (Refused _) text = ⊥
CutsOff WriteFault text = ⊥

-- a text that isn't too long was read to its end, where no read failed, and this came of it
abbrev pub ReadsText : Result RefsEnd NoMemory → List ℕ → SourceState → SourceState → SinkState → SinkState → Type 0
ReadsText answer text old new out out' =
    MetEnd old new × (new.faults ≡ old.faults) × (length text ≤ MAX_REFERENCE) × WritesLines answer text out out'

-- each answer has its cause in the bytes that were taken. They are a prefix of the input where their text is too long, whatever
-- the next read answers; a failed read is given where it isn't, and no end was met
abbrev pub RefsBytes : Result RefsEnd NoMemory → List ℕ → SourceState → SourceState → SinkState → SinkState → Type 0
RefsBytes (Ok Done) bytes old new out out' = ReadsText (Ok Done) (text_of bytes) old new out out'
RefsBytes (Ok (Refused f)) bytes old new out out' = ReadsText (Ok (Refused f)) (text_of bytes) old new out out'
RefsBytes (Ok WriteFault) bytes old new out out' = ReadsText (Ok WriteFault) (text_of bytes) old new out out'
RefsBytes (Ok TooLong) bytes old new out out' = (MAX_REFERENCE < length (text_of bytes)) × (out' ≡ out)
RefsBytes (Ok ReadFault) bytes old new out out' =
    (length (text_of bytes) ≤ MAX_REFERENCE) × (new.ends ≡ old.ends) × Rose old.faults new.faults × (out' ≡ out)
RefsBytes (Err _) bytes old new out out' = (new.faults ≡ old.faults) × (out' ≡ out)

-- some bytes were taken, and what is answered and written is what those bytes say
pub record Refs (answer : Result RefsEnd NoMemory) (old new : SourceState) (out out' : SinkState) : Type 0 where
  pub bytes : List ℕ
  pub gave : Gave bytes old new
  pub few : length bytes ≤ MAX_REFERENCE + 2
  pub came : RefsBytes answer bytes old new out out'
