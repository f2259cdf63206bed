-- What writing a trace piece by piece does to a sink.
use Rattle.std.specs.Prelude.{◌≡◌, ℕ, List, ◌++◌, Result, Ok, Err}
use Rattle.orb_base.specs.Outside.{SinkState, Rose}
use Rattle.orb_base.specs.declared.no_memory.NoMemory.{NoMemory}
use Rattle.text_streams.specs.Streams.{WroteSome, WroteFrontOf, WritesAll}
use Rattle.text_streams.specs.declared.writing.WriteAll.{WriteAll}
use Rattle.text_streams.specs.declared.writing.WriteAll.TheVariants as write

-- these bytes follow a piece that isn't written yet, and of both together all is written but the new piece; or a prefix of them is
abbrev pub AddsTo : WriteAll → List ℕ → List ℕ → List ℕ → SinkState → SinkState → Type 0
AddsTo write.Whole bytes piece piece' old new = WroteSome (piece ++ bytes) piece' old new × (new.faults ≡ old.faults)
AddsTo write.Failed bytes piece piece' old new = WroteFrontOf (piece ++ bytes) old new × Rose old.faults new.faults

-- the same, or out of memory a prefix of both was written
abbrev pub Adds : Result WriteAll NoMemory → List ℕ → List ℕ → List ℕ → SinkState → SinkState → Type 0
Adds (Ok written) bytes piece piece' old new = AddsTo written bytes piece piece' old new
Adds (Err _) bytes piece piece' old new = WroteFrontOf (piece ++ bytes) old new × (new.faults ≡ old.faults)

-- all of the text was written, or a prefix of it up to a fault, or out of memory a prefix of it
abbrev pub WritesText : Result WriteAll NoMemory → List ℕ → SinkState → SinkState → Type 0
WritesText (Ok written) text old new = WritesAll written text old new
WritesText (Err _) text old new = WroteFrontOf text old new × (new.faults ≡ old.faults)
