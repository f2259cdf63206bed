-- The line of each object of a setup, and what writing the lines comes to: own profile.
use Rattle.std.specs.Prelude.{◌≡◌, ℕ, List, [], ◌++◌, codes, Option, Ok, Err, slice_get}
use Rattle.std.specs.List.{flat_map}
use Rattle.std.specs.Option.{option_map_or}
use Rattle.orb_base.specs.Filing.{FilesState}
use Rattle.orb_base.specs.Outside.{SinkState, Rose}
use Rattle.object_refs.specs.Reference.{Reference}
use Rattle.object_refs.specs.References.{stringified}
use Rattle.adapter_policies.specs.Publishing.{reference_of}
use Rattle.adapter_policies.specs.SetupData.{SetupData}
use Rattle.adapter_policies.specs.declared.object_spec.ObjectSpec.{ObjectSpec}
use Rattle.setup_files.specs.Brokers.{GivesBroker}
use Rattle.setup_files.specs.declared.broker.Broker.{Broker}
use Rattle.text_streams.specs.Shown.{shown}
use Rattle.text_streams.specs.Streams.{WroteText, WroteFrontOf}
use Rattle.object_lines.specs.Addresses.{Place}
use Rattle.object_lines.specs.declared.at_end.AtEnd.{AtEnd}
use Rattle.object_lines.specs.declared.at_end.AtEnd.TheVariants.{Done, NoBroker, WriteFault, NoMemory}

-- a key, and the text of a reference
abbrev pub line_of : List ℕ → Reference → List ℕ
line_of key r = shown key ++ codes " " ++ stringified r ++ codes "\n"

-- the line of an object at a host and a port, by its adapter
abbrev pub line_text : SetupData → List ℕ → ℕ → ObjectSpec → List ℕ
line_text setup host port o = option_map_or (λ a. line_of o.key (reference_of a o host port)) (slice_get setup.adapters o.adapter) []

-- the line of each object, by number
abbrev pub lines_text : SetupData → List ℕ → ℕ → List ℕ
lines_text setup host port = flat_map (line_text setup host port) setup.objects

-- all lines were written, or a prefix of them up to a fault; nothing where memory ran out
abbrev pub WritesLines : AtEnd → List ℕ → SinkState → SinkState → Type 0
WritesLines Done text out out' = WroteText text out out' × (out'.faults ≡ out.faults)
WritesLines WriteFault text out out' = WroteFrontOf text out out' × Rose out.faults out'.faults
WritesLines NoMemory text out out' = out' ≡ out
WritesLines _ text out out' = ⊥

-- what comes of the configuration of a name, or of the built-in setup: its lines, where it has servants, or why it has none
abbrev pub At : AtEnd → Option (List ℕ) → Place → FilesState → FilesState → SinkState → SinkState → Type 0
At (NoBroker why) config at old new out out' = GivesBroker (Err why) config old new × (out' ≡ out)
At end config at old new out out' =
    (broker : Broker) × GivesBroker (Ok broker) config old new × WritesLines end (lines_text broker.setup at.host at.port) out out'
