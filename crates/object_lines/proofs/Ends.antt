-- What comes of a configuration, by what was read and written.
use Rattle.std.proofs.Common.{ℕ, List, Option}
use Rattle.std.specs.Prelude.{Ok}
use Rattle.orb_base.specs.Filing.{FilesState}
use Rattle.orb_base.specs.Outside.{SinkState}
use Rattle.setup_files.specs.Brokers.{GivesBroker}
use Rattle.setup_files.specs.declared.broker.Broker.{Broker}
use Rattle.object_lines.specs.Addresses.{Place}
use Rattle.object_lines.specs.Lines.{At, WritesLines, lines_text}
use Rattle.object_lines.specs.declared.at_end.AtEnd.{AtEnd}
use Rattle.object_lines.specs.declared.at_end.AtEnd.TheVariants.{Done, NoBroker, WriteFault, NoMemory}

-- a setup with servants is given, and its lines come to this
pub at_broker : (end : AtEnd) (config : Option (List ℕ)) (at : Place) (old new : FilesState) (out out' : SinkState) (broker : Broker) → GivesBroker (Ok broker) config old new
    → WritesLines end (lines_text broker.setup at.host at.port) out out' → At end config at old new out out'
at_broker Done config at old new out out' broker gives h = (broker, gives, h)
at_broker WriteFault config at old new out out' broker gives h = (broker, gives, h)
at_broker NoMemory config at old new out out' broker gives h = (broker, gives, h)
at_broker (NoBroker why) config at old new out out' broker gives h = absurd h
