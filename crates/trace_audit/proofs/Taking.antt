-- Where memory runs out for the input.
use Rattle.std.proofs.Common.{◌≡◌}
use Rattle.std.specs.Prelude.{Result, Ok, Err, IsErr}
use Rattle.orb_base.specs.Outside.{SourceState}
use Rattle.orb_base.specs.declared.no_memory.NoMemory.{NoMemory}
use Rattle.text_streams.specs.Streams.{GaveFew}
use Rattle.trace_audit.specs.Inputs.{TakesInput}
use Rattle.trace_audit.specs.declared.input.Input.{Input}
use Rattle.trace_audit.specs.declared.input.TheConstants.{MAX_AUDITED}

pub wants : (r : Result Input NoMemory) (old new : SourceState) → IsErr r → GaveFew MAX_AUDITED old new → new.ends ≡ old.ends → new.faults ≡ old.faults
    → TakesInput r old new
wants (Ok input) old new e gave ends faults = absurd (cc)
wants (Err m) old new e gave ends faults = (gave, ends, faults)
