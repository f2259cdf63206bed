-- The lines that an audit writes. Own profile.
use Rattle.std.specs.Prelude.{ℕ, ◌+◌, Bool, true, false, List, [], ◌∷◌, ◌++◌, Option, Some, None, codes, is_none}
use Rattle.std.specs.Fmt.{decimal}
use Rattle.trace_audit.specs.declared.audit_end.WrongEntry.{WrongEntry}
use Rattle.trace_audit.specs.declared.verdict.Verdict.{Verdict}

-- a yes or a no
abbrev pub yes_no : Bool → List ℕ
yes_no true = codes "yes"
yes_no false = codes "no"

-- what is said of a run
abbrev pub verdict_text : Verdict → List ℕ
verdict_text v =
    codes "legal " ++ yes_no (is_none v.first_wrong) ++ codes " fit " ++ yes_no v.fit ++ codes " entries " ++ decimal v.entries
    ++ codes " lent " ++ decimal v.lent ++ codes " longest " ++ decimal v.longest

-- the line of a run with this number
abbrev pub run_line : ℕ → Verdict → List ℕ
run_line n v = codes "run " ++ decimal n ++ codes " " ++ verdict_text v ++ codes "\n"

-- a line for each run, of which the first has this number
abbrev pub lines_from : ℕ → List Verdict → List ℕ
lines_from n [] = []
lines_from n (v ∷ vs) = run_line n v ++ lines_from (n + 1) vs

-- a line for each run
abbrev pub audit_lines : List Verdict → List ℕ
audit_lines vs = lines_from 0 vs

-- the entry of a run that isn't legal
abbrev pub wrong_at : ℕ → Option ℕ → Option WrongEntry → Option WrongEntry
wrong_at n (Some entry) later = Some (record { run = n; entry = entry })
wrong_at n None later = later

-- the first run that isn't legal, and its first wrong entry, among runs of which the first has this number
abbrev pub wrong_from : ℕ → List Verdict → Option WrongEntry
wrong_from n [] = None
wrong_from n (v ∷ vs) = wrong_at n v.first_wrong (wrong_from (n + 1) vs)

-- that of all runs
abbrev pub first_wrong_entry : List Verdict → Option WrongEntry
first_wrong_entry vs = wrong_from 0 vs
