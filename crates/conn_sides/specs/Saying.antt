-- Writing after what was written.
use Rattle.std.specs.Prelude.{◌≡◌, ℕ, List}
use Rattle.orb_base.specs.Outside.{SinkState}
use Rattle.text_streams.specs.Streams.{WritesAll}
use Rattle.text_streams.specs.declared.writing.WriteAll.{WriteAll}
use Rattle.text_streams.specs.declared.writing.WriteAll.TheVariants as write

-- where no write has failed before the bytes are written, or a prefix of them; else nothing is
abbrev pub SaysOn : WriteAll → WriteAll → List ℕ → SinkState → SinkState → Type 0
SaysOn write.Whole result bytes from to = WritesAll result bytes from to
SaysOn write.Failed result bytes from to = (result ≡ write.Failed) × (to ≡ from)
