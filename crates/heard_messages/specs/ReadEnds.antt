-- How the reading of a connection comes out: own profile.
use Rattle.std.specs.Prelude.{ℕ, ◌==◌, Bool, Option, Some, None, if◌then◌else◌}
use Rattle.giop_frames.specs.declared.fault.FrameFault.{FrameFault}
use Rattle.giop_messages.specs.declared.refused.Fault.TheVariants.{Frame}
use Rattle.heard_messages.specs.declared.read_end.ReadEnd.{ReadEnd}
use Rattle.heard_messages.specs.declared.read_end.ReadEnd.TheVariants.{Ended, Cut, Broken, Spent, ReadFault}
use Rattle.heard_messages.specs.declared.read_end.TheConstants.{MAX_TAKEN}

-- how bytes end the reading, if they do: by a message, or else by a piece that breaks a rule of framing
abbrev pub decided : Option ReadEnd → Option FrameFault → Option ReadEnd
decided (Some ending) bad = Some ending
decided None (Some fault) = Some (Broken fault.offset (Frame fault.cause))
decided None None = None

-- what bytes alone can end the reading by: a message, or a rule that they break
abbrev pub IsByBytes : ReadEnd → Type 0
IsByBytes Ended = Unit {0}
IsByBytes (Broken offset fault) = Unit {0}
IsByBytes (Cut offset) = ⊥
IsByBytes Spent = ⊥
IsByBytes ReadFault = ⊥

-- how an input ends that ended the reading nowhere before: within a message, or else well
abbrev pub input_end : Option ℕ → ReadEnd
input_end (Some offset) = Cut offset
input_end None = Ended

-- how the reading came out of so many bytes: as they decide; or else they are as many as are taken at most; or else a read has answered
-- the end of the input, where something may be unfinished; or else a read failed
abbrev pub read_end : Option ReadEnd → ℕ → Bool → Option ℕ → ReadEnd
read_end (Some ending) taken ended rest = ending
read_end None taken ended rest = if taken == MAX_TAKEN then Spent else if ended then input_end rest else ReadFault
