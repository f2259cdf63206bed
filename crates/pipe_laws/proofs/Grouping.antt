-- The groups of the pipe end where they must.
use Rattle.std.proofs.Common.{◌≡◌, ℕ, ◌+◌, ◌-◌, ◌≤◌, Bool, true, false, List, [], ◌∷◌, ◌++◌, length, inl, inr, refl, sym, ap, ◌∙◌, subst, arith, append_assoc, append-nil, length-append}
use Rattle.std.specs.Prelude.{if◌then◌else◌, ◌==◌}
use Rattle.std.proofs.lemmas.Bool.{cases_Bool}
use Rattle.std.proofs.lemmas.Bool.Decides.{nat_tests}
use Rattle.orb_base.specs.JobRecord.{JobRecord}
use Rattle.orb_base.specs.declared.outcome.Outcome.{Outcome}
use Rattle.lane_machine.specs.declared.call.LaneCall.{LaneCall}
use Rattle.lane_machine.specs.Readiness.{is_ready}
use Rattle.pipe_laws.specs.Piped.{Run, applied, settled, before_call, room_behind, behind_call, grouped}
use Rattle.pipe_laws.specs.Grouping.{all_applied, calls_of, in_groups, EndsEarly, HasGroups, GroupsEndWhereTheyMust}

all_push : (run : Run) (calls : List LaneCall) (call : LaneCall) → all_applied run (calls ++ call ∷ []) ≡ applied (all_applied run calls) call
all_push run [] call = refl
all_push run (c ∷ calls) call = all_push (applied run c) calls call

one_longer : (calls : List LaneCall) (call : LaneCall) → length (calls ++ call ∷ []) ≡ length calls + 1
one_longer calls call = length-append calls (call ∷ [])

none_first : (n : ℕ) → length {A = LaneCall} [] + n ≡ n
none_first n = omega arith

-- a group before others
in_front : (servant : JobRecord → Outcome) (batch : ℕ) (start : Run) (group rest : List LaneCall) (behind : Run) → length group ≤ batch → EndsEarly batch start group rest
    → HasGroups servant batch (settled servant (all_applied start group)) rest behind → HasGroups servant batch start (group ++ rest) behind
in_front servant batch start group rest behind few ends next = record {
  first = group;
  others = next.first ∷ next.others;
  left = next.left;
  parts = ap (λ (x : List LaneCall). group ++ x) next.parts ∙ sym (append_assoc group (calls_of (next.first ∷ next.others)) next.left);
  are = (few, subst (EndsEarly batch start group) next.parts ends, next.are);
  made = next.made;
}

-- what comes of the calls after an open group, which may have so many more
abbrev Opens : (JobRecord → Outcome) → ℕ → List LaneCall → Type 0
Opens servant batch calls = (start : Run) (group : List LaneCall) (room : ℕ) → length group + room ≡ batch → 1 ≤ room
    → HasGroups servant batch start (group ++ calls) (grouped servant batch room (all_applied start group) calls)

-- the next call in the open group
with_call : (servant : JobRecord → Outcome) (batch left : ℕ) (start : Run) (group : List LaneCall) (call : LaneCall) (calls : List LaneCall) → 1 ≤ batch → length group + 1 + left ≡ batch → Opens servant batch calls
    → HasGroups servant batch start (group ++ call ∷ calls) (grouped servant batch (if left == 0 then batch else left) (behind_call servant left (applied (all_applied start group) call)) calls)
with_call servant batch left start group call calls some fits later =
    let longer = group ++ call ∷ [] in
    let run = applied (all_applied start group) call in
    let full : length longer + left ≡ batch = ap (λ (n : ℕ). n + left) (one_longer group call) ∙ fits in
    subst (λ (cs : List LaneCall). HasGroups servant batch start cs (grouped servant batch (if left == 0 then batch else left) (behind_call servant left run) calls)) (append_assoc group (call ∷ []) calls)
    (elim (cases_Bool (left == 0)) [
      | inl none ↦
          let zero : left ≡ 0 = grind (arith, nat_tests, none) in
          let all : length longer ≡ batch = omega (arith, full, zero) in
          subst (λ (b : Bool). HasGroups servant batch start (longer ++ calls) (grouped servant batch (if b then batch else left) (if b then settled servant run else run) calls)) (sym none)
          (in_front servant batch start longer calls _ (omega (arith, all)) (inl all)
          (subst (λ (r : Run). HasGroups servant batch (settled servant r) calls (grouped servant batch batch (settled servant run) calls)) (sym (all_push start group call))
          (later (settled servant run) [] batch (none_first batch) some)))
      | inr some_left ↦
          subst (λ (b : Bool). HasGroups servant batch start (longer ++ calls) (grouped servant batch (if b then batch else left) (if b then settled servant run else run) calls)) (sym some_left)
          (subst (λ (r : Run). HasGroups servant batch start (longer ++ calls) (grouped servant batch left r calls)) (all_push start group call)
          (later start longer left full (grind (arith, nat_tests, some_left))))
    ])

-- the next call, where the run goes on
next_call : (servant : JobRecord → Outcome) (batch room : ℕ) (start : Run) (group : List LaneCall) (call : LaneCall) (calls : List LaneCall) → length group + room ≡ batch → 1 ≤ room → Opens servant batch calls
    → let run = all_applied start group in let left = room_behind batch room run call in
    HasGroups servant batch start (group ++ call ∷ calls) (grouped servant batch (if left == 0 then batch else left) (behind_call servant left (applied (before_call servant run call) call)) calls)
next_call servant batch room start group call calls fits some later =
    let run = all_applied start group in
    elim (cases_Bool (is_ready run.state call)) [
      | inl ready ↦
          subst (λ (b : Bool). let left = (if b then room else batch) - 1 in HasGroups servant batch start (group ++ call ∷ calls)
          (grouped servant batch (if left == 0 then batch else left) (behind_call servant left (applied (if b then run else settled servant run) call)) calls)) (sym ready)
          (with_call servant batch (room - 1) start group call calls (omega (arith, fits, some)) (omega (arith, fits, some)) later)
      | inr unready ↦
          subst (λ (b : Bool). let left = (if b then room else batch) - 1 in HasGroups servant batch start (group ++ call ∷ calls)
          (grouped servant batch (if left == 0 then batch else left) (behind_call servant left (applied (if b then run else settled servant run) call)) calls)) (sym unready)
          (in_front servant batch start group (call ∷ calls) _ (omega (arith, fits)) (inr (call, calls, refl, unready))
          (with_call servant batch (batch - 1) (settled servant run) [] call calls (omega (arith, fits, some)) (omega (arith, fits, some)) later))
    ]

opens : (servant : JobRecord → Outcome) (batch : ℕ) (calls : List LaneCall) → Opens servant batch calls
opens servant batch [] start group room fits some = record {
  first = group;
  others = [];
  left = [];
  parts = sym (append-nil (group ++ []));
  are = (omega (arith, fits), inl refl);
  made = refl;
}
opens servant batch (call ∷ calls) start group room fits some =
    let run = all_applied start group in
    let left = room_behind batch room run call in
    let others = grouped servant batch (if left == 0 then batch else left) (behind_call servant left (applied (before_call servant run call) call)) calls in
    elim (cases_Bool run.state.closing) [
      | inl closing ↦ subst (λ (b : Bool). HasGroups servant batch start (group ++ call ∷ calls) (if b then settled servant run else others)) (sym closing) (record {
        first = group;
        others = [];
        left = call ∷ calls;
        parts = ap (λ (x : List LaneCall). x ++ call ∷ calls) (sym (append-nil group));
        are = (omega (arith, fits), inr closing);
        made = refl;
      })
      | inr goes ↦ subst (λ (b : Bool). HasGroups servant batch start (group ++ call ∷ calls) (if b then settled servant run else others)) (sym goes)
          (next_call servant batch room start group call calls fits some (opens servant batch calls))
    ]

pub groups_end : GroupsEndWhereTheyMust
groups_end servant batch run calls some = opens servant batch calls run [] batch (none_first batch) some
