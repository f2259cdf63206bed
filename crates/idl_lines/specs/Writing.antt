-- What writing a listing comes to: own profile.
use Rattle.std.specs.Prelude.{◌≡◌, ℕ, List, Result, Ok, Err}
use Rattle.orb_base.specs.Outside.{SinkState}
use Rattle.orb_base.specs.declared.no_memory.NoMemory.{NoMemory}
use Rattle.text_streams.specs.Streams.{WritesAll}
use Rattle.text_streams.specs.declared.writing.WriteAll.{WriteAll}

-- all of the text was written, or a prefix of it up to a fault of the sink; nothing where memory was wanting
abbrev pub WritesListing : Result WriteAll NoMemory → List ℕ → SinkState → SinkState → Type 0
WritesListing (Ok wrote) text old new = WritesAll wrote text old new
WritesListing (Err e) text old new = new ≡ old
