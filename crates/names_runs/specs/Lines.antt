-- The line of a run of a name service: own profile.
use Rattle.std.specs.Prelude.{◌≡◌, ℕ, List, ◌++◌, codes, length}
use Rattle.std.specs.Fmt.{decimal}
use Rattle.orb_base.specs.Outside.{SinkState}
use Rattle.text_streams.specs.Streams.{WritesAll}
use Rattle.text_streams.specs.declared.writing.WriteAll.TheVariants as write
use Rattle.names_runs.specs.declared.line.WroteLine.{WroteLine}
use Rattle.names_runs.specs.declared.line.WroteLine.TheVariants.{Whole, Failed, NoMemory}
use Rattle.names_runs.specs.declared.run.NamesRun.{NamesRun}

-- the line of so many keys at the end, calls of the map, and connections
abbrev pub names_line : ℕ → ℕ → ℕ → List ℕ
names_line keys calls conns =
    codes "names " ++ decimal keys ++ codes " calls " ++ decimal calls ++ codes " connections " ++ decimal conns ++ codes "\n"

-- the line of a run: its keys at the end, the entries of its history, and its connections
abbrev pub line_of : {I O : Type 0} → NamesRun I O → List ℕ
line_of run = names_line run.keys (length run.history.items) (length run.conns.items)

-- the line was written, or a prefix of it up to a fault, or nothing where memory ran out for it
abbrev pub WritesLine : WroteLine → List ℕ → SinkState → SinkState → Type 0
WritesLine Whole line out out' = WritesAll write.Whole line out out'
WritesLine Failed line out out' = WritesAll write.Failed line out out'
WritesLine NoMemory line out out' = out' ≡ out
