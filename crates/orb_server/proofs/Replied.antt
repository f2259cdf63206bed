-- Each connection that a slot served was told that nothing comes any more.
use Rattle.std.proofs.Common.{◌≡◌, ℕ, zero, suc, ◌+◌, ◌<◌, ◌≤◌, false, List, [], ◌∷◌, ◌++◌, length, None, Some, refl, sym, ap, subst, ◌∙◌, arith}
use Rattle.std.proofs.lemmas.List.{length-map}
use Rattle.orb_base.specs.Links.{AcceptorState}
use Rattle.orb_base.specs.Outside.{SourceState, SinkState}
use Rattle.lane_machine.specs.Callers.{of, latest, may_collect, writer_seat}
use Rattle.lane_machine.specs.Entries.{latest_push}
use Rattle.lane_machine.specs.Histories.{History}
use Rattle.lane_machine.specs.declared.call.LaneCall.TheVariants.{Collect}
use Rattle.adapter_policies.specs.SetupData.{SetupData}
use Rattle.conn_sides.specs.Entering.{entry}
use Rattle.conn_sides.specs.WriteSides.{last_reply, last_of}
use Rattle.conn_sides.specs.declared.write_end.LastCollect.{LastCollect}
use Rattle.conn_sides.specs.declared.write_end.LastCollect.TheVariants as last
use Rattle.orb_server.specs.Connections.{Conn, conn_at, AreWritten, AreServed}
use Rattle.orb_server.specs.Slots.{logs_of}
use Rattle.orb_server.specs.Runs.{Slot, SlotRan}
use Rattle.orb_server.specs.declared.run.ConnLog.{ConnLog}
use Rattle.orb_server.proofs.Closing.{count_few}

last_told : (answer : LastCollect) → may_collect (Some (last_reply answer)) ≡ false
last_told last.Done = refl
last_told last.Close = refl
last_told last.Error = refl

module _ {I O : Type 0} (source : I → SourceState) (sink : O → SinkState) (setup : SetupData) (h : History) (slot : ℕ) where
  told_from : (nth : ℕ) (cs : List (Conn I O)) → AreServed source sink setup slot nth cs → AreWritten h slot nth cs → (k : ℕ) → k < length cs
      → may_collect (latest None (of (writer_seat (conn_at slot (nth + k))) h)) ≡ false
  told_from nth [] served written k l = absurd (omega arith)
  told_from nth (c ∷ cs) served written zero l =
      let said = served.0.said in
      let answer = last_of c.log.write in
      let one = entry (writer_seat (conn_at slot nth)) (Collect (conn_at slot nth)) (last_reply answer) in
      let ends : latest None (of (writer_seat (conn_at slot nth)) h) ≡ Some (last_reply answer) =
      ap (latest None) (sym written.0 ∙ said.parts) ∙ latest_push None said.items one in
      subst (λ (n : ℕ). may_collect (latest None (of (writer_seat (conn_at slot n)) h)) ≡ false) (omega arith) (ap may_collect ends ∙ last_told answer)
  told_from nth (c ∷ cs) served written (suc k) l =
      subst (λ (n : ℕ). may_collect (latest None (of (writer_seat (conn_at slot n)) h)) ≡ false) (omega arith)
      (told_from (nth + 1) cs served.1 written.1 k (omega arith))

module _ {A I O : Type 0} (state : A → AcceptorState I O) (source : I → SourceState) (sink : O → SinkState) (setup : SetupData) (h : History) (slot : ℕ) (s : Slot A I O) where
  -- a connection of the slot has a number below the limit, and was given
  pub is_told : SlotRan state source sink setup h slot s → (nth : ℕ) → nth < length s.conns → (nth < setup.per_slot) × (may_collect (latest None (of (writer_seat (conn_at slot nth)) h)) ≡ false)
  is_told ran nth l =
      let few = count_few s.end setup.per_slot (length s.conns) _ (state s.before) (state s.behind) ran.cause in
      let same : length s.conns ≡ length ran.cs = ap length ran.serves.logs_are ∙ length-map ran.cs (λ (c : Conn I O). c.log) in (
        omega arith,
        subst (λ (n : ℕ). may_collect (latest None (of (writer_seat (conn_at slot n)) h)) ≡ false) (omega arith)
            (told_from source sink setup h slot 0 ran.cs ran.serves.served ran.written nth (omega arith)),
      )
