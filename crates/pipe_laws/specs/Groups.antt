-- The groups of the pipe as a fold over the calls, which may come in several reads. Own profile.
use Rattle.std.specs.Prelude.{◌≡◌, ℕ, ◌==◌, if◌then◌else◌, List, [], ◌∷◌, ◌++◌}
use Rattle.orb_base.specs.JobRecord.{JobRecord}
use Rattle.orb_base.specs.declared.outcome.Outcome.{Outcome}
use Rattle.lane_machine.specs.declared.call.LaneCall.{LaneCall}
use Rattle.pipe_laws.specs.Piped.{Run, applied, settled, before_call, room_behind, behind_call, grouped}

-- a run with an open group, into which so many calls more fit
pub record Group : Type 0 where
  pub run : Run
  pub room : ℕ

-- the group ends after the call that took its last room, and the next one has all of it
abbrev pub with_room : (JobRecord → Outcome) → ℕ → ℕ → Run → Group
with_room servant batch left run = record { run = behind_call servant left run; room = if left == 0 then batch else left }

-- one call more; before one that isn't ready the group ends
abbrev pub called : (JobRecord → Outcome) → ℕ → Group → LaneCall → Group
called servant batch g call = with_room servant batch (room_behind batch g.room g.run call) (applied (before_call servant g.run call) call)

-- one call more, unless the run is closing
abbrev pub after_call : (JobRecord → Outcome) → ℕ → Group → LaneCall → Group
after_call servant batch g call = if g.run.state.closing then g else called servant batch g call

-- the calls one after another
abbrev pub folded : (JobRecord → Outcome) → ℕ → Group → List LaneCall → Group
folded servant batch g [] = g
folded servant batch g (call ∷ calls) = folded servant batch (after_call servant batch g call) calls

-- the calls in groups are the fold of them, settled after the last
abbrev pub GroupsAreFolded : Type 0
GroupsAreFolded = (servant : JobRecord → Outcome) (batch room : ℕ) (run : Run) (calls : List LaneCall)
    → grouped servant batch room run calls ≡ settled servant (folded servant batch (record { run = run; room = room }) calls).run

-- the calls of one read after those of another
abbrev pub FoldsGoOn : Type 0
FoldsGoOn = (servant : JobRecord → Outcome) (batch : ℕ) (g : Group) (calls more : List LaneCall)
    → folded servant batch g (calls ++ more) ≡ folded servant batch (folded servant batch g calls) more
