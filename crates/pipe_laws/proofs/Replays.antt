-- A run of the pipe is where its history leads.
use Rattle.std.proofs.Common.{◌≡◌, ℕ, zero, suc, Bool, true, false, List, [], ◌∷◌, ◌++◌, Option, Some, None, length, refl, sym, ap, ◌∙◌}
use Rattle.std.specs.Prelude.{if◌then◌else◌, ◌==◌}
use Rattle.orb_base.specs.JobRecord.{JobRecord}
use Rattle.orb_base.specs.declared.conn_id.ConnId.{ConnId}
use Rattle.orb_base.specs.declared.outcome.Outcome.{Outcome}
use Rattle.lane_machine.specs.declared.call.How.{How}
use Rattle.lane_machine.specs.declared.call.How.TheVariants.{Shut}
use Rattle.lane_machine.specs.declared.call.LaneCall.{LaneCall}
use Rattle.lane_machine.specs.declared.call.LaneCall.TheVariants.{Take, Collect, End}
use Rattle.lane_machine.specs.declared.call.LaneReply.{LaneReply}
use Rattle.lane_machine.specs.declared.call.LaneReply.TheVariants as reply
use Rattle.lane_machine.specs.State.{State, opening}
use Rattle.lane_machine.specs.Machine.{step, item_place}
use Rattle.lane_machine.specs.Readiness.{is_ready}
use Rattle.turn_cell.specs.declared.entry.Entry.{Entry}
use Rattle.turn_cell.specs.History as history
use Rattle.pipe_laws.specs.Setup.{pipe_conn}
use Rattle.adapter_policies.specs.SetupData.{SetupData}
use Rattle.pipe_laws.specs.Piped.{Run, applied, first_given, finished_by, turned, rested_after, rested, in_hand, collected, emptied_after, settled, before_call, room_behind, behind_call, grouped, answer_of, piped, IsReplayed}

-- one more entry is one more step
replay-append : {O C R : Type 0} (one : O → C → O × R) (s : O) (h : List (Entry O C R)) (e : Entry O C R) → history.replay one s (h ++ e ∷ []) ≡ (one (history.replay one s h) e.call).0
replay-append one s [] e = refl
replay-append one s (first ∷ h) e = replay-append one (one s first.call).0 h e

applied_keeps : (s : State) (run : Run) (call : LaneCall) → IsReplayed s run → IsReplayed s (applied run call)
applied_keeps s run call is =
    ap (λ (now : State). (step now call).0) is ∙ sym (replay-append step s run.history (record { caller = 0; call = call; reply = (step run.state call).1 }))

finished_keeps : (s : State) (servant : JobRecord → Outcome) (run : Run) (t : ℕ) (r : LaneReply) → IsReplayed s run → IsReplayed s (finished_by servant run t r)
finished_keeps s servant run t (reply.Given job) is = applied_keeps s run _ is
finished_keeps s servant run t (reply.Run _ _) is = is
finished_keeps s servant run t reply.Kept is = is
finished_keeps s servant run t reply.Full is = is
finished_keeps s servant run t reply.Closing is = is
finished_keeps s servant run t reply.Ended is = is
finished_keeps s servant run t reply.Finished is = is
finished_keeps s servant run t (reply.Handed _) is = is
finished_keeps s servant run t reply.Close is = is
finished_keeps s servant run t reply.Error is = is
finished_keeps s servant run t reply.Done is = is
finished_keeps s servant run t reply.Noted is = is
finished_keeps s servant run t reply.Posted is = is
finished_keeps s servant run t reply.Removed is = is
finished_keeps s servant run t reply.Nothing is = is

turned_keeps : (s : State) (servant : JobRecord → Outcome) (run : Run) (t : Option ℕ) → IsReplayed s run → IsReplayed s (turned servant run t)
turned_keeps s servant run (Some t) is = finished_keeps s servant (applied run (Take t)) t (step run.state (Take t)).1 (applied_keeps s run (Take t) is)
turned_keeps s servant run None is = is

rested_keeps : (s : State) (servant : JobRecord → Outcome) (turns : ℕ) (run : Run) → IsReplayed s run → IsReplayed s (rested_after servant turns run)
rested_keeps s servant zero run is = is
rested_keeps s servant (suc turns) run is =
    rested_keeps s servant turns (turned servant run (first_given run.state)) (turned_keeps s servant run (first_given run.state) is)

collected_keeps : (s : State) (conn : ConnId) (run : Run) (at : Option ℕ) → IsReplayed s run → IsReplayed s (collected conn run at)
collected_keeps s conn run (Some at) is = applied_keeps s run (Collect conn) is
collected_keeps s conn run None is = is

emptied_keeps : (s : State) (conn : ConnId) (items : ℕ) (run : Run) → IsReplayed s run → IsReplayed s (emptied_after conn items run)
emptied_keeps s conn zero run is = is
emptied_keeps s conn (suc items) run is =
    emptied_keeps s conn items (collected conn run (item_place run.state conn)) (collected_keeps s conn run (item_place run.state conn) is)

settled_keeps : (s : State) (servant : JobRecord → Outcome) (run : Run) → IsReplayed s run → IsReplayed s (settled servant run)
settled_keeps s servant run is = emptied_keeps s pipe_conn (length (rested servant run).state.out) (rested servant run) (rested_keeps s servant (in_hand run.state) run is)

either_keeps : (s : State) (b : Bool) (one other : Run) → IsReplayed s one → IsReplayed s other → IsReplayed s (if b then one else other)
either_keeps s true one other is are = is
either_keeps s false one other is are = are

grouped_keeps : (s : State) (servant : JobRecord → Outcome) (batch room : ℕ) (run : Run) (calls : List LaneCall) → IsReplayed s run → IsReplayed s (grouped servant batch room run calls)
grouped_keeps s servant batch room run [] is = settled_keeps s servant run is
grouped_keeps s servant batch room run (call ∷ calls) is =
    let left = room_behind batch room run call in
    let before : IsReplayed s (before_call servant run call) = either_keeps s (is_ready run.state call) run (settled servant run) is (settled_keeps s servant run is) in
    let made = applied (before_call servant run call) call in
    let after : IsReplayed s made = applied_keeps s (before_call servant run call) call before in
    let behind : IsReplayed s (behind_call servant left made) = either_keeps s (left == 0) (settled servant made) made (settled_keeps s servant made after) after in
    either_keeps s run.state.closing (settled servant run) _ (settled_keeps s servant run is)
    (grouped_keeps s servant batch (if left == 0 then batch else left) (behind_call servant left made) calls behind)

pub piped_is_replayed : (setup : SetupData) (outcome : List ℕ → JobRecord → Outcome) (batch : ℕ) (calls : List LaneCall) (how : How) (lacks : List ℕ) → IsReplayed (opening setup.pool setup.slots setup.per_slot) (piped setup outcome batch calls how lacks)
piped_is_replayed setup outcome batch calls how lacks =
    let s = opening setup.pool setup.slots setup.per_slot in
    let servant = answer_of setup outcome lacks in
    let run = grouped servant batch batch (record { state = s; history = [] }) calls in
    let called : IsReplayed s run = grouped_keeps s servant batch batch (record { state = s; history = [] }) calls refl in
    let ended = applied run (End pipe_conn (if run.state.closing then Shut else how)) in
    applied_keeps s (settled servant ended) (Collect pipe_conn) (settled_keeps s servant ended (applied_keeps s run _ called))
