-- Laws of reading traces.
use Rattle.std.specs.Prelude.{◌≡◌, ℕ, Bool, List, ◌∷◌, [], ◌++◌, Some}
use Rattle.trace_lines.specs.Texts.{line_text}
use Rattle.trace_lines.specs.declared.trace_line.TraceLine.{TraceLine}
use Rattle.trace_reading.specs.declared.row.Row.TheVariants.{Entry}
use Rattle.trace_reading.specs.RowReading.{line_in}
use Rattle.trace_reading.specs.RowWords.{FitsLine}
use Rattle.trace_reading.specs.Traces.{Trace, AreTraces}
use Rattle.trace_reading.specs.Faults.{FaultAt}

-- a line reads back as it is printed
abbrev pub LinesReadBack : Type 0
LinesReadBack = (l : TraceLine) (text : List ℕ) → FitsLine l → line_text l ≡ text ++ 10 ∷ [] → line_in text ≡ Some (Entry l)

-- and what reads as a line is printed so
abbrev pub LinesWereWritten : Type 0
LinesWereWritten = (l : TraceLine) (text : List ℕ) → line_in text ≡ Some (Entry l) → (line_text l ≡ text ++ 10 ∷ []) × FitsLine l

-- an input has one reading
abbrev pub HasOneReading : Type 0
HasOneReading = (bytes : List ℕ) (ts us : List Trace) → AreTraces bytes ts → AreTraces bytes us → ts ≡ us

-- an input has its first line at fault at one offset at most
abbrev pub HasOneFault : Type 0
HasOneFault = (bytes : List ℕ) (ended : Bool) (at at' : ℕ) → FaultAt bytes ended at → FaultAt bytes ended at' → at ≡ at'
