-- What holds of the lane machine whenever the turn is free.
use Rattle.std.specs.Prelude.{◌≡◌, ◌≤◌, ◌+◌, not, length, count_by}
use Rattle.turn_cell.specs.declared.board.Core.{Core}
use Rattle.turn_cell.specs.declared.board.Terms.{Terms}
use Rattle.turn_cell.specs.Good.{Good}
use Rattle.orb_base.specs.declared.conn_id.ConnId.{ConnId}
use Rattle.orb_base.specs.declared.limits.TheConstants.{MAX_OWED, MAX_THREADS}
use Rattle.thread_borrowing.specs.ThreadList.{is_free}
use Rattle.request_buffer.specs.Kept.{kept_bytes}
use Rattle.lane_machine.specs.State.{State, Opens}
use Rattle.lane_machine.specs.Machine.{step}
use Rattle.lane_machine.specs.Readiness.{is_ready, IsSound, owed}
use Rattle.lane_machine.specs.Callers.{IsFit}
use Rattle.lane_machine.specs.Histories.{History, replay}
use Rattle.lane_machine.specs.declared.call.LaneCall.{LaneCall}
use Rattle.lane_machine.specs.declared.call.LaneReply.{LaneReply}

-- what a state that was reached from this opening keeps: at most 65 are owed to a connection, what waits passes neither limit
-- of the pool, and at most 64 threads have a task
pub record KeepsLimits (opening s : State) : Type 0 where
  pub owed_few : (conn : ConnId) → owed s conn ≤ MAX_OWED + 2
  pub few_requests : length s.waiting ≤ opening.pool.max_requests
  pub few_bytes : kept_bytes s.waiting ≤ opening.pool.max_bytes
  pub few_busy : count_by (λ thread. not (is_free thread.doing)) s.threads ≤ MAX_THREADS

-- what lies in a pool while nobody has the turn: the lane machine after the whole history, beside that history, which is legal
-- and fit; and the machine keeps its limits
pub record IsAtRest (terms : Terms State) (h : History) (core : Core State LaneCall LaneReply) : Type 0 where
  pub object : core.object ≡ replay terms.opening h
  pub history : core.history.list.items ≡ h
  pub good : Good is_ready IsSound step Opens IsFit terms h
  pub limits : KeepsLimits terms.opening core.object
