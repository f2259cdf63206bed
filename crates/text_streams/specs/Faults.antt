-- Which counts of faults rose in a call over a source and a sink, which are told before and after it.
use Rattle.std.specs.Prelude.{◌≡◌}
use Rattle.orb_base.specs.Outside.{SourceState, SinkState, Rose}

-- no read and no write failed
abbrev pub NoneFailed : SourceState → SourceState → SinkState → SinkState → Type 0
NoneFailed old new out out' = (new.faults ≡ old.faults) × (out'.faults ≡ out.faults)

-- a read failed, and no write
abbrev pub ReadFailed : SourceState → SourceState → SinkState → SinkState → Type 0
ReadFailed old new out out' = Rose old.faults new.faults × (out'.faults ≡ out.faults)

-- a write failed, and no read
abbrev pub WriteFailed : SourceState → SourceState → SinkState → SinkState → Type 0
WriteFailed old new out out' = (new.faults ≡ old.faults) × Rose out.faults out'.faults
