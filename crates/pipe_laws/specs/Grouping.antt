-- Where the groups of the pipe end: said of whole lists of calls, in place of the steps of `grouped`. Own profile.
use Rattle.std.specs.Prelude.{◌≡◌, ◌⊎◌, ℕ, ◌≤◌, Bool, true, false, List, [], ◌∷◌, ◌++◌, length}
use Rattle.std.specs.List.{flat_map}
use Rattle.orb_base.specs.JobRecord.{JobRecord}
use Rattle.orb_base.specs.declared.outcome.Outcome.{Outcome}
use Rattle.lane_machine.specs.declared.call.LaneCall.{LaneCall}
use Rattle.lane_machine.specs.State.{State}
use Rattle.lane_machine.specs.Readiness.{is_ready}
use Rattle.pipe_laws.specs.Piped.{Run, applied, settled, grouped}

-- the calls one after another
abbrev pub all_applied : Run → List LaneCall → Run
all_applied run [] = run
all_applied run (call ∷ calls) = all_applied (applied run call) calls

-- the calls of groups
abbrev pub calls_of : List (List LaneCall) → List LaneCall
calls_of groups = flat_map (λ g. g) groups

-- a group and those after it; after each the threads are run to rest and the items are collected
abbrev pub in_groups : (JobRecord → Outcome) → Run → List LaneCall → List (List LaneCall) → Run
in_groups servant run group [] = settled servant (all_applied run group)
in_groups servant run group (next ∷ others) = in_groups servant (settled servant (all_applied run group)) next others

-- the next call isn't ready here
abbrev pub IsNextUnready : State → List LaneCall → Type 0
IsNextUnready s rest = (call : LaneCall) × (later : List LaneCall) × (rest ≡ call ∷ later) × (is_ready s call ≡ false)

-- a group that has one after it is full, or the next call isn't ready after it
abbrev pub EndsEarly : ℕ → Run → List LaneCall → List LaneCall → Type 0
EndsEarly batch run group rest = (length group ≡ batch) ⊎ IsNextUnready (all_applied run group).state rest

-- after the last group there is no call left, or the run is closing
abbrev pub EndsLast : Run → List LaneCall → List LaneCall → Type 0
EndsLast run group left = (left ≡ []) ⊎ ((all_applied run group).state.closing ≡ true)

-- no group has more calls than `batch`, and each ends where it must; these calls are left after the last
abbrev pub AreGroups : (JobRecord → Outcome) → ℕ → Run → List LaneCall → List (List LaneCall) → List LaneCall → Type 0
AreGroups servant batch run group [] left = (length group ≤ batch) × EndsLast run group left
AreGroups servant batch run group (next ∷ others) left =
    (length group ≤ batch) × EndsEarly batch run group (calls_of (next ∷ others) ++ left)
    × AreGroups servant batch (settled servant (all_applied run group)) next others left

-- this run is that of the calls in such groups, which have all calls but those that are left
pub record HasGroups (servant : JobRecord → Outcome) (batch : ℕ) (run : Run) (calls : List LaneCall) (behind : Run) : Type 0 where
  pub first : List LaneCall
  pub others : List (List LaneCall)
  pub left : List LaneCall
  pub parts : calls ≡ calls_of (first ∷ others) ++ left
  pub are : AreGroups servant batch run first others left
  pub made : behind ≡ in_groups servant run first others

-- the calls are made in groups of at most `batch`; a group ends early only where the next call isn't ready, and no call is left but
-- of a run that is closing
abbrev pub GroupsEndWhereTheyMust : Type 0
GroupsEndWhereTheyMust = (servant : JobRecord → Outcome) (batch : ℕ) (run : Run) (calls : List LaneCall) → 1 ≤ batch
    → HasGroups servant batch run calls (grouped servant batch batch run calls)
