-- The faults that readings meet, and those of the Common Data Representation among them. The causes and their order are
-- own profile.
use Rattle.std.specs.Prelude.{ℕ, List, Result}
use Rattle.orb_base.specs.Tagged.{Tagged}
use Rattle.cdr_core.specs.Cursor.{Cursor, Reads}
use Rattle.cdr_core.specs.Lists as Lists
pub use Rattle.cdr_core.specs.Sequence.{◌>>=◌}
use Rattle.cdr_core.specs.Sequence.{told_as}
use Rattle.cdr_core.specs.declared.fault.CdrFault.{CdrFault}
use Rattle.object_refs.specs.declared.fault.RefFault.{RefFault}
use Rattle.object_refs.specs.declared.fault.RefCause.{RefCause}
use Rattle.object_refs.specs.declared.fault.RefCause.TheVariants as causes

-- a cause at a place
abbrev pub fault : RefCause → ℕ → RefFault
fault cause place = record { cause = cause; place = place }

-- a value, or the first fault
abbrev pub Read : Type 0 → Type 0
Read A = Result A RefFault

-- a fault of the Common Data Representation
abbrev pub cdr_fault : CdrFault → RefFault
cdr_fault f = fault (causes.Cdr f.cause) f.place

-- what the Common Data Representation reads
abbrev pub cdr : {A : Type 0} → Result A CdrFault → Read A
cdr reading = told_as cdr_fault reading

-- tagged data after their number
abbrev pub tagged_list_at : Cursor → Reads (List Tagged)
tagged_list_at = Lists.list_at (Lists.made_at Lists.tagged_of)
