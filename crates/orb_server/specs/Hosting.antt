-- What a slot's pass is while its connections are served, and what serving one leaves: own profile.
use Rattle.std.specs.Prelude.{◌≡◌, ◌+◌, ℕ}
use Rattle.orb_base.specs.Outside.{SourceState, SinkState}
use Rattle.turn_cell.specs.Seats.{CellView}
use Rattle.lane_machine.specs.State.{State}
use Rattle.adapter_policies.specs.SetupData.{SetupData}
use Rattle.lane_pool.specs.Pass.{Pass}
use Rattle.lane_pool.specs.Returned.{IsHome}
use Rattle.lane_pool.specs.Turns.{Rests}
use Rattle.link_slots.specs.declared.host.LinkJob.{LinkJob}
use Rattle.link_slots.specs.declared.host.LinkDone.{LinkDone}
use Rattle.orb_server.specs.Slots.{ServesOne}
use Rattle.orb_server.specs.SlotEnds.{was_closed}
use Rattle.orb_server.specs.Threads.{IsPoolOf}
use Rattle.orb_server.specs.declared.run.ConnLog.{ConnLog}

-- so many connections were served by the pass, which is at rest in the setup's pool
pub record Keeps (setup : SetupData) (cell : CellView State) (count : ℕ) (pass : Pass) : Type 0 where
  pub opened : IsPoolOf setup cell
  pub rests : Rests cell pass
  pub home : IsHome cell pass.who pass
  pub count_is : pass.nth ≡ count

-- a link of a slot was served by its pass, and the slot is closed where the last collect was answered Close
pub record ServesLink {I O : Type 0} (source : I → SourceState) (sink : O → SinkState) (setup : SetupData) (cell : CellView State)
    (link : LinkJob Pass I O) (done : LinkDone Pass (ConnLog I O)) : Type 0 where
  pub kept : Keeps setup cell (link.nth + 1) done.place
  pub one : ServesOne source sink setup cell link.place done.place (link.source, link.sink) done.log
  pub closes : done.closes ≡ was_closed done.log.write
