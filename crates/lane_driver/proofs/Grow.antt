-- A run takes no entry away.
use Rattle.std.proofs.Common.{◌≡◌, ℕ, zero, suc, Bool, true, false, List, [], ◌∷◌, ◌++◌, Option, Some, None, length, refl, sym, ap, ◌∙◌, append-nil, append_assoc}
use Rattle.std.specs.Prelude.{if◌then◌else◌, ◌==◌}
use Rattle.orb_base.specs.JobRecord.{JobRecord}
use Rattle.orb_base.specs.declared.conn_id.ConnId.{ConnId}
use Rattle.orb_base.specs.declared.outcome.Outcome.{Outcome}
use Rattle.lane_machine.specs.declared.call.How.{How}
use Rattle.lane_machine.specs.declared.call.How.TheVariants.{Shut}
use Rattle.lane_machine.specs.declared.call.LaneCall.{LaneCall}
use Rattle.lane_machine.specs.declared.call.LaneCall.TheVariants.{Take, Collect, End}
use Rattle.lane_machine.specs.declared.call.LaneReply.{LaneReply}
use Rattle.lane_machine.specs.declared.call.LaneReply.TheVariants as reply
use Rattle.lane_machine.specs.Machine.{step, item_place}
use Rattle.lane_machine.specs.Readiness.{is_ready}
use Rattle.lane_machine.specs.Histories.{History}
use Rattle.pipe_laws.specs.Setup.{pipe_conn}
use Rattle.pipe_laws.specs.Piped.{Run, first_given, in_hand, applied, finished_by, turned, rested_after, rested, collected, emptied_after, settled, before_call, room_behind, behind_call, closed_by}
use Rattle.pipe_laws.specs.Groups.{Group, after_call, called, folded}

abbrev pub Behind : Run → Run → Type 0
Behind run later = (more : History) × (later.history ≡ run.history ++ more)

behind_self : (run : Run) → Behind run run
behind_self run = ([], sym (append-nil run.history))

pub behind_both : (a b c : Run) → Behind a b → Behind b c → Behind a c
behind_both a b c one other = (one.0 ++ other.0, other.1 ∙ ap (λ (h : History). h ++ other.0) one.1 ∙ append_assoc a.history one.0 other.0)

pub grows_applied : (run : Run) (call : LaneCall) → Behind run (applied run call)
grows_applied run call = (record { caller = 0; call = call; reply = (step run.state call).1 } ∷ [], refl)

grows_finished : (servant : JobRecord → Outcome) (run : Run) (t : ℕ) (r : LaneReply) → Behind run (finished_by servant run t r)
grows_finished servant run t (reply.Given job) = grows_applied run _
grows_finished servant run t (reply.Run _ _) = behind_self run
grows_finished servant run t reply.Kept = behind_self run
grows_finished servant run t reply.Full = behind_self run
grows_finished servant run t reply.Closing = behind_self run
grows_finished servant run t reply.Ended = behind_self run
grows_finished servant run t reply.Finished = behind_self run
grows_finished servant run t (reply.Handed _) = behind_self run
grows_finished servant run t reply.Close = behind_self run
grows_finished servant run t reply.Error = behind_self run
grows_finished servant run t reply.Done = behind_self run
grows_finished servant run t reply.Noted = behind_self run
grows_finished servant run t reply.Posted = behind_self run
grows_finished servant run t reply.Removed = behind_self run
grows_finished servant run t reply.Nothing = behind_self run

grows_turned : (servant : JobRecord → Outcome) (run : Run) (o : Option ℕ) → Behind run (turned servant run o)
grows_turned servant run (Some t) =
    behind_both run (applied run (Take t)) (turned servant run (Some t)) (grows_applied run (Take t)) (grows_finished servant (applied run (Take t)) t (step run.state (Take t)).1)
grows_turned servant run None = behind_self run

pub grows_rested : (servant : JobRecord → Outcome) (turns : ℕ) (run : Run) → Behind run (rested_after servant turns run)
grows_rested servant zero run = behind_self run
grows_rested servant (suc turns) run =
    behind_both run (turned servant run (first_given run.state)) (rested_after servant (suc turns) run) (grows_turned servant run (first_given run.state)) (grows_rested servant turns (turned servant run (first_given run.state)))

grows_collected : (conn : ConnId) (run : Run) (o : Option ℕ) → Behind run (collected conn run o)
grows_collected conn run (Some at) = grows_applied run (Collect conn)
grows_collected conn run None = behind_self run

pub grows_emptied : (conn : ConnId) (items : ℕ) (run : Run) → Behind run (emptied_after conn items run)
grows_emptied conn zero run = behind_self run
grows_emptied conn (suc items) run =
    behind_both run (collected conn run (item_place run.state conn)) (emptied_after conn (suc items) run) (grows_collected conn run (item_place run.state conn)) (grows_emptied conn items (collected conn run (item_place run.state conn)))

pub grows_settled : (servant : JobRecord → Outcome) (run : Run) → Behind run (settled servant run)
grows_settled servant run =
    behind_both run (rested servant run) (settled servant run) (grows_rested servant (in_hand run.state) run) (grows_emptied pipe_conn (length (rested servant run).state.out) (rested servant run))

pub grows_either : (b : Bool) (run one other : Run) → Behind run one → Behind run other → Behind run (if b then one else other)
grows_either true run one other is are = is
grows_either false run one other is are = are

pub grows_before : (servant : JobRecord → Outcome) (run : Run) (call : LaneCall) → Behind run (before_call servant run call)
grows_before servant run call = grows_either (is_ready run.state call) run run (settled servant run) (behind_self run) (grows_settled servant run)

pub grows_behind : (servant : JobRecord → Outcome) (room : ℕ) (run : Run) → Behind run (behind_call servant room run)
grows_behind servant room run = grows_either (room == 0) run (settled servant run) run (grows_settled servant run) (behind_self run)

pub grows_called : (servant : JobRecord → Outcome) (batch : ℕ) (g : Group) (call : LaneCall) → Behind g.run (called servant batch g call).run
grows_called servant batch g call =
    let before = before_call servant g.run call in
    behind_both g.run before (called servant batch g call).run (grows_before servant g.run call)
    (behind_both before (applied before call) (called servant batch g call).run (grows_applied before call) (grows_behind servant (room_behind batch g.room g.run call) (applied before call)))

grows_after : (b : Bool) (g h : Group) → Behind g.run h.run → Behind g.run (if b then g else h).run
grows_after true g h is = behind_self g.run
grows_after false g h is = is

pub grows_folded : (servant : JobRecord → Outcome) (batch : ℕ) (g : Group) (calls : List LaneCall) → Behind g.run (folded servant batch g calls).run
grows_folded servant batch g [] = behind_self g.run
grows_folded servant batch g (call ∷ calls) =
    let next = after_call servant batch g call in
    let one : Behind g.run next.run = grows_after g.run.state.closing g (called servant batch g call) (grows_called servant batch g call) in
    behind_both g.run next.run (folded servant batch next calls).run one (grows_folded servant batch next calls)

pub grows_closed : (servant : JobRecord → Outcome) (how : How) (run : Run) → Behind run (closed_by servant how run)
grows_closed servant how run =
    let ended = applied run (End pipe_conn (if run.state.closing then Shut else how)) in
    behind_both run ended (closed_by servant how run) (grows_applied run (End pipe_conn (if run.state.closing then Shut else how)))
    (behind_both ended (settled servant ended) (closed_by servant how run) (grows_settled servant ended) (grows_applied (settled servant ended) (Collect pipe_conn)))
