-- The groups are a fold.
use Rattle.std.proofs.Common.{◌≡◌, ℕ, Bool, true, List, [], ◌∷◌, inl, inr, refl, sym, ap, ◌∙◌}
use Rattle.std.specs.Prelude.{if◌then◌else◌, ◌==◌}
use Rattle.std.proofs.lemmas.Bool.{cases_Bool}
use Rattle.orb_base.specs.JobRecord.{JobRecord}
use Rattle.orb_base.specs.declared.outcome.Outcome.{Outcome}
use Rattle.lane_machine.specs.declared.call.LaneCall.{LaneCall}
use Rattle.pipe_laws.specs.Piped.{applied, settled, before_call, room_behind, behind_call, grouped}
use Rattle.pipe_laws.specs.Groups.{Group, after_call, called, folded, GroupsAreFolded, FoldsGoOn}

pub folds_go_on : FoldsGoOn
folds_go_on servant batch g [] more = refl
folds_go_on servant batch g (call ∷ calls) more = folds_go_on servant batch (after_call servant batch g call) calls more

-- a run that is closing makes no further call
pub closing_stays : (servant : JobRecord → Outcome) (batch : ℕ) (g : Group) (calls : List LaneCall) → g.run.state.closing ≡ true → folded servant batch g calls ≡ g
closing_stays servant batch g [] closing = refl
closing_stays servant batch g (call ∷ calls) closing =
    ap (λ (b : Bool). folded servant batch (if b then g else called servant batch g call) calls) closing ∙ closing_stays servant batch g calls closing

pub groups_are_folded : GroupsAreFolded
groups_are_folded servant batch room run [] = refl
groups_are_folded servant batch room run (call ∷ calls) =
    let g : Group = record { run = run; room = room } in
    let left = room_behind batch room run call in
    let others = grouped servant batch (if left == 0 then batch else left) (behind_call servant left (applied (before_call servant run call) call)) calls in
    elim (cases_Bool run.state.closing) [
      | inl closing ↦ ap (λ (b : Bool). if b then settled servant run else others) closing
          ∙ sym (ap (λ (x : Group). settled servant x.run) (closing_stays servant batch g (call ∷ calls) closing))
      | inr goes ↦ ap (λ (b : Bool). if b then settled servant run else others) goes
          ∙ groups_are_folded servant batch (if left == 0 then batch else left) (behind_call servant left (applied (before_call servant run call) call)) calls
          ∙ sym (ap (λ (b : Bool). settled servant (folded servant batch (if b then g else called servant batch g call) calls).run) goes)
    ]
