-- The line that tells a load: own profile.
use Rattle.std.specs.Prelude.{ℕ, ◌-◌, ◌^◌, List, ◌++◌, codes, length, min}
use Rattle.std.specs.Fmt.{decimal}
use Rattle.lane_machine.specs.Histories.{History}
use Rattle.pipe_laws.specs.Said.{said}
use Rattle.pipe_laws.specs.Setup.{pipe_conn}
use Rattle.trace_lines.specs.Summaries.{count, summary_of, given_text}
use Rattle.trace_lines.specs.declared.summary.Counted.TheVariants.{Offered, Handed}
use Rattle.load_runs.specs.declared.load_line.LoadLine.{LoadLine}

-- how many bytes a load had, in and out
abbrev pub bytes_text : LoadLine → List ℕ
bytes_text l = codes "in " ++ decimal l.taken ++ codes " out " ++ decimal l.written

-- the line of these numbers
abbrev pub line_text : LoadLine → List ℕ
line_text l =
    codes "requests " ++ decimal l.requests ++ codes " " ++ given_text l.given ++ codes " replies " ++ decimal l.replies
    ++ codes " " ++ bytes_text l ++ codes "\n"

-- the numbers of a history, of an input of so many bytes and an output of so many
abbrev pub line_with : ℕ → ℕ → History → LoadLine
line_with taken written h = record {
  requests = count Offered h;
  given = summary_of h;
  replies = count Handed h;
  taken = taken;
  written = written;
}

-- how many bytes a history has written to the connection; the number stands still at 2^64 - 1
abbrev pub written_by : History → ℕ
written_by h = min (length (said pipe_conn h)) (2 ^ 64 - 1)

-- the numbers of a run over an input: of the whole input, whatever was taken of it
abbrev pub line_of : List ℕ → History → LoadLine
line_of input h = line_with (length input) (written_by h) h
