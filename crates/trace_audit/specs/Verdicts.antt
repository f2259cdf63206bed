-- What an audit says of a run, in the words of the lane machine's definition of a step. Own profile.
use Rattle.std.specs.Prelude.{◌≡◌, ◌<◌, ◌+◌, ◌↔◌, ℕ, List, [], ◌∷◌, length, take, Option, Some, None, IsTrue}
use Rattle.lane_machine.specs.Callers.{AreFit}
use Rattle.lane_machine.specs.Histories.{History, IsLegal}
use Rattle.lane_machine.specs.State.{State, opening}
use Rattle.trace_lines.specs.ReadBack.{history_of}
use Rattle.trace_lines.specs.declared.trace_line.TraceLine.{TraceLine}
use Rattle.trace_reading.specs.Traces.{Trace}
use Rattle.fit_audit.specs.Counts.{lent, longest}
use Rattle.trace_audit.specs.declared.verdict.Verdict.{Verdict}

-- the state in which a run opened
abbrev pub opening_of : Trace → State
opening_of t = opening t.pool t.slots t.per_slot

-- a history is legal, or its first entry that isn't is this one
abbrev pub IsWrongFrom : State → History → Option ℕ → Type 0
IsWrongFrom s h None = IsLegal s h
IsWrongFrom s h (Some n) = (n < length h) × IsLegal s (take n h) × (¬ IsLegal s (take (n + 1) h)) × (¬ IsLegal s h)

-- the entries whose numbers are counted: all of a legal run, and of another those before the first wrong one
abbrev pub counted : Option ℕ → List TraceLine → List TraceLine
counted None lines = lines
counted (Some n) lines = take n lines

-- what an audit says of a run holds
pub record IsVerdict (t : Trace) (v : Verdict) : Type 0 where
  pub entries : v.entries ≡ length t.lines
  pub wrong : IsWrongFrom (opening_of t) (history_of t.lines) v.first_wrong
  pub fit : IsTrue v.fit ↔ (IsLegal (opening_of t) (history_of t.lines) × AreFit (opening_of t) (history_of t.lines))
  pub lent : v.lent ≡ lent (counted v.first_wrong t.lines)
  pub longest : v.longest ≡ longest (counted v.first_wrong t.lines)

-- one verdict for each run, in order
abbrev pub AreVerdicts : List Trace → List Verdict → Type 0
AreVerdicts [] [] = Unit {0}
AreVerdicts [] (v ∷ vs) = ⊥
AreVerdicts (t ∷ ts) [] = ⊥
AreVerdicts (t ∷ ts) (v ∷ vs) = IsVerdict t v × AreVerdicts ts vs
