-- What readings have to do with what texts and bytes mean.
use Rattle.std.specs.Prelude.{Result, Ok, Err}
use Rattle.cdr_core.specs.Answers as Cdr
use Rattle.object_refs.specs.declared.fault.RefFault.{RefFault}
use Rattle.object_refs.specs.Reading.{Read}

-- a reading is a value exactly where the fact holds of it; so it is a fault exactly where it holds of none
abbrev pub IsExactly : {A : Type 0} → Read A → (A → Type 0) → Type 0
IsExactly {A} = Cdr.IsExactly {A = A} {B = Read A} (λ x. Ok x)

-- a reading is a fault exactly where the fact holds of it
abbrev pub RefusesExactly : {A : Type 0} → Read A → (RefFault → Type 0) → Type 0
RefusesExactly {A} = Cdr.IsExactly {A = RefFault} {B = Read A} (λ f. Err f)
