-- A slot at which nothing failed leaves nothing out.
use Rattle.std.proofs.Common.{◌≡◌, ◌≢◌, ℕ, Bool, List, [], ◌∷◌, ◌++◌, length, refl}
use Rattle.orb_base.specs.Links.{AcceptorState}
use Rattle.orb_base.specs.Outside.{SourceState, SinkState}
use Rattle.adapter_policies.specs.SetupData.{SetupData}
use Rattle.side_by_side.specs.Sides.{Pairs}
use Rattle.link_slots.specs.SlotEnds.{HasCause}
use Rattle.link_slots.specs.Slots.{AreLinksServed, none, one}
use Rattle.link_slots.specs.declared.slot_end.SlotEnd.{SlotEnd}
use Rattle.link_slots.specs.declared.slot_end.SlotEnd.TheVariants.{Done, Served, Closed, AcceptFault}
use Rattle.halls.specs.Laws.{NothingIsLeftOut}
use Rattle.halls.specs.Served.{ServesLink, conn_of}
use Rattle.halls.specs.declared.host.LinkLog.{LinkLog}
use Rattle.halls.proofs.Whole.{nothing_left_out}
use Rattle.name_map.specs.Callers.{History}
use Rattle.names_hall.specs.Hands.{Hand, held}
use Rattle.names_runs.specs.Complete.{WentWell, ServesWhole, SlotWentWell, ServedAll, SlotComplete}
use Rattle.names_runs.specs.Runs.{Slot, SlotRan}

cut : {X Y : Type 0} (P : X → Y → Type 0) (xs : List X) (x : X) (ys : List Y) (y : Y) → Pairs P (xs ++ x ∷ []) (ys ++ y ∷ []) → Pairs P xs ys × P x y
cut P [] x [] y p = (tt, p.0)
cut P [] x (z ∷ []) y p = absurd p.1
cut P [] x (z ∷ w ∷ zs) y p = absurd p.1
cut P (z ∷ []) x [] y p = absurd p.1
cut P (z ∷ w ∷ zs) x [] y p = absurd p.1
cut P (w ∷ ws) x (z ∷ zs) y p = let r = cut P ws x zs y p.1 in ((p.0, r.0), r.1)

module _ {I O : Type 0} (source : I → SourceState) (sink : O → SinkState) (setup : SetupData) where
  served_whole : (before after : Hand) (links : List (I × O)) (logs : List (LinkLog I O)) (closed : Bool) → Pairs (WentWell source sink) links logs
      → AreLinksServed (ServesLink source sink setup held) before links logs closed after → AreLinksServed (ServesWhole source sink setup) before links logs closed after
  served_whole before after links logs closed well (none p) = none p
  served_whole before after links logs closed well (one p xs ls job done a e s) =
      let parts = cut (WentWell source sink) xs (job.source, job.sink) ls done.log well in
      let w = parts.1 in
      one p xs ls job done (served_whole p job.place xs ls _ parts.0 a) e (record {
        id_is = s.id_is;
        whole = nothing_left_out (done.log.read, done.log.write) setup (conn_of (held job.place) job.nth) (source job.source) (source done.log.source) _ _ s.sides
            w.no_read_fault w.no_write_fault w.not_closed w.memory;
      })

module _ {A I O : Type 0} (state : A → AcceptorState I O) (source : I → SourceState) (sink : O → SinkState) (setup : SetupData) (h : History) where
  served_all : (s : Slot A I O) (closed : Bool) (end : SlotEnd) → end ≢ AcceptFault
      → HasCause end setup.per_slot (length s.conns) closed (state s.before) (state s.after) → ServedAll state source sink setup h s closed end
  served_all s closed Done well cause = cause.4
  served_all s closed Served well cause = cause.0
  served_all s closed Closed well cause = cause.1
  served_all s closed AcceptFault well cause = absurd (well refl)

  pub slot_complete : (slot : ℕ) (s : Slot A I O) (ran : SlotRan state source sink setup h slot s) → SlotWentWell state source sink setup h slot s ran
      → SlotComplete state source sink setup h slot s
  slot_complete slot s ran well = record {
    first = ran.first;
    last = ran.last;
    begins = ran.begins;
    did = ran.did;
    closed = ran.closed;
    serves = record {
      links = ran.serves.links;
      served = served_whole source sink setup ran.first ran.last ran.serves.links s.conns ran.closed well.1 ran.serves.served;
      handed = ran.serves.handed;
    };
    entered = ran.entered;
    all = served_all s ran.closed s.end well.0 ran.cause;
  }
