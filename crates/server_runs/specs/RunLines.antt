-- What a server writes of a run: its trace, where it is asked for, and a line of summary. Own profile.
use Rattle.std.specs.Prelude.{◌≡◌, ℕ, Bool, true, false, List, ◌++◌}
use Rattle.orb_base.specs.Outside.{SinkState, Rose}
use Rattle.lane_machine.specs.Histories.{History}
use Rattle.adapter_policies.specs.SetupData.{SetupData}
use Rattle.text_streams.specs.Streams.{WroteText, WroteFrontOf}
use Rattle.trace_lines.specs.Texts.{trace_text}
use Rattle.trace_lines.specs.Summaries.{summary_of, summary_line}
use Rattle.server_runs.specs.declared.serve_end.ServeEnd.{ServeEnd}
use Rattle.server_runs.specs.declared.serve_end.ServeEnd.TheVariants.{Done, NetFault, WriteFault, NoMemory}

-- the lines of a run, with its trace or without
abbrev pub lines_of : Bool → SetupData → History → List ℕ
lines_of true setup h = trace_text setup.pool setup.slots setup.per_slot h ++ summary_line (summary_of h)
lines_of false setup h = summary_line (summary_of h)

-- what was written of the lines where memory ran out over them: a prefix of those that begin with a trace, or nothing. No write failed
abbrev pub BeganLines : Bool → List ℕ → SinkState → SinkState → Type 0
BeganLines true lines out out' = WroteFrontOf lines out out' × (out'.faults ≡ out.faults)
BeganLines false lines out out' = out' ≡ out

-- the lines were written, or a prefix of them up to a fault, or out of memory
abbrev pub WritesLines : ServeEnd → Bool → List ℕ → SinkState → SinkState → Type 0
WritesLines Done traced lines out out' = WroteText lines out out' × (out'.faults ≡ out.faults)
WritesLines WriteFault traced lines out out' = WroteFrontOf lines out out' × Rose out.faults out'.faults
WritesLines NoMemory traced lines out out' = BeganLines traced lines out out'
WritesLines NetFault traced lines out out' = ⊥
