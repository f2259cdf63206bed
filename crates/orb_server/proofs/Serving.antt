-- One connection of a slot after another.
use Rattle.std.proofs.Common.{◌≡◌, ℕ, ◌+◌, ◌<◌, Bool, false, List, [], ◌∷◌, ◌++◌, length, refl, sym, ap, subst, ◌∙◌, append-nil, arith}
use Rattle.std.proofs.lemmas.List.{map-append, length-append, length-map}
use Rattle.std.proofs.lemmas.List.Concat.{flat_map-append}
use Rattle.orb_base.specs.Links.{AcceptorState}
use Rattle.orb_base.specs.Outside.{SourceState, SinkState, IsNewSource, IsNewSink}
use Rattle.orb_base.specs.declared.conn_id.ConnId.{ConnId}
use Rattle.turn_cell.specs.Calls.{gone}
use Rattle.turn_cell.specs.Seats.{CellView}
use Rattle.lane_machine.specs.State.{State}
use Rattle.lane_machine.specs.Callers.{slot_seat, writer_seat}
use Rattle.lane_machine.specs.Histories.{History}
use Rattle.lane_machine.specs.declared.call.LaneCall.TheVariants.{Collect, End, Leave}
use Rattle.lane_machine.specs.declared.call.LaneReply.TheVariants.{Noted}
use Rattle.adapter_policies.specs.SetupData.{SetupData}
use Rattle.conn_sides.specs.Entering.{entry}
use Rattle.conn_sides.specs.ReadSides.{ReadsSide, how_by}
use Rattle.conn_sides.specs.WriteSides.{WritesSide, AreHandedOver, last_reply, last_of}
use Rattle.conn_sides.specs.declared.read_side_end.ReadSideEnd.{ReadSideEnd}
use Rattle.conn_sides.specs.declared.write_end.WriteEnd.{WriteEnd}
use Rattle.lane_pool.specs.Pass.{Pass, Leaving, conn_of}
use Rattle.lane_pool.specs.Passes.{IsLinked, IsUnlinked, Makes, IsFresh}
use Rattle.lane_pool.specs.Returned.{IsHome}
use Rattle.lane_pool.specs.Turns.{Writes, Rests}
use Rattle.lane_pool.proofs.Turns.{same_conn_of}
use Rattle.lane_pool.proofs.Staying.{fresh_home, home_linked, home_same, same_leave}
use Rattle.orb_server.specs.Connections.{Conn, IsHeard, IsSaid, IsServed, AreServed, conn_at, writers_left}
use Rattle.link_slots.specs.SlotEnds.{HasCause}
use Rattle.link_slots.specs.Slots.{none, one, HandsOut, SlotRan}
use Rattle.link_slots.specs.Slots.{AreLinksServed}
use Rattle.link_slots.specs.declared.host.LinkJob.{LinkJob}
use Rattle.link_slots.specs.declared.host.LinkDone.{LinkDone}
use Rattle.link_slots.specs.declared.slot_end.SlotEnd.{SlotEnd}
use Rattle.orb_server.specs.SlotEnds.{was_closed, closed_behind}
use Rattle.orb_server.specs.Slots.{leaving, read_by, logs_of, links_of, KnowsCalls, ComesOut, ServesOne}
use Rattle.orb_server.specs.Jobs.{PoolJob, PoolDone}
use Rattle.orb_server.specs.Threads.{IsPoolOf, IsJob}
use Rattle.orb_server.specs.Hosting.{Keeps, ServesLink}
use Rattle.orb_server.specs.declared.run.ConnLog.{ConnLog}

pub room_there : (setup : SetupData) (cell : CellView State) (n : ℕ) → IsPoolOf setup cell → n < setup.per_slot → n < cell.terms.opening.per_slot
room_there setup cell n o l = subst (λ (s : State). n < s.per_slot) (sym o.opened) l

pub pool_is : (setup : SetupData) (cell : CellView State) → IsPoolOf setup cell → cell.terms.opening.pool ≡ setup.pool
pool_is setup cell o = ap (λ (s : State). s.pool) o.opened

-- what a reading side and a writing side did, told of a connection and not of a pass
heard_of : (setup : SetupData) (cell : CellView State) (end : ReadSideEnd) (reader reader' : Pass) (from to : SourceState)
    → reader.seat.number ≡ slot_seat reader.who → (r : ReadsSide cell setup end reader reader' from to)
    → IsHeard setup (conn_of reader) (r.entries ++ (entry reader.seat.number (End (conn_of reader) (how_by end)) Noted ∷ [])) end from to
heard_of setup cell end reader reader' from to n r = record {
  bytes = r.bytes;
  earlier = r.earlier;
  ended = r.ended;
  takes = r.takes;
  calls = r.entries;
  hears = r.hears;
  before = r.before;
  parts = ap (λ (k : ℕ). r.entries ++ (entry k (End (conn_of reader) (how_by end)) Noted ∷ [])) n;
}

said_of : (cell : CellView State) (end : WriteEnd) (writer writer' : Pass) (from to : SinkState)
    → writer.seat.number ≡ writer_seat (conn_of writer) → writer.seat.mine ≡ [] → WritesSide cell end writer writer' from to
    → IsSaid (conn_of writer) writer'.seat.mine end from to
said_of cell end writer writer' from to n u w =
    let mine : writer'.seat.mine ≡ w.entries = w.entered.mine ∙ ap (λ (h : History). h ++ w.entries) u in
    subst (λ (h : History). IsSaid (conn_of writer) h end from to) (sym mine) (record {
      items = w.items;
      handed = subst (λ (k : ℕ). AreHandedOver k (conn_of writer) w.items) n w.handed;
      parts = w.ends ∙ ap (λ (k : ℕ). w.items ++ (entry k (Collect (conn_of writer)) (last_reply (last_of end)) ∷ [])) n;
      writes = w.writes;
    })

writers_grow : {I O : Type 0} (slot nth : ℕ) (cs : List (Conn I O)) (c : Conn I O)
    → writers_left slot nth (cs ++ c ∷ []) ≡ writers_left slot nth cs ++ (record { number = writer_seat (conn_at slot (nth + length cs)); calls = c.written; splits = 0 } ∷ [])
writers_grow slot nth [] c =
    let e : nth ≡ nth + 0 = omega arith in
    let mark : ℕ → Leaving = λ k. record { number = writer_seat (conn_at slot k); calls = c.written; splits = 0 } in
    ap (λ (k : ℕ). mark k ∷ []) e
writers_grow slot nth (x ∷ xs) c =
    let e : nth + 1 + length xs ≡ nth + length (x ∷ xs) = omega arith in
    ap (λ (z : List Leaving). record { number = writer_seat (conn_at slot nth); calls = x.written; splits = 0 } ∷ z)
    (writers_grow slot (nth + 1) xs c ∙ ap (λ (k : ℕ). writers_left slot (nth + 1) xs ++ (record { number = writer_seat (conn_at slot k); calls = c.written; splits = 0 } ∷ [])) e)

closed_grows : {I O : Type 0} (b : Bool) (ls : List (ConnLog I O)) (l : ConnLog I O) → closed_behind b (ls ++ l ∷ []) ≡ was_closed l.write
closed_grows b [] l = refl
closed_grows b (x ∷ xs) l = closed_grows (was_closed x.write) xs l

module _ {I O : Type 0} (source : I → SourceState) (sink : O → SinkState) (setup : SetupData) (cell : CellView State) where
  pub one_served : (old reader writer reader' writer' new : Pass) (i i' : I) (o o' : O) (id : ConnId) (read : ReadSideEnd) (write : WriteEnd)
      → IsHome cell old.who old → IsLinked old reader writer → Writes cell writer → id ≡ conn_of reader
      → IsNewSource (source i) → IsNewSink (sink o)
      → ReadsSide cell setup read reader reader' (source i) (source i') → WritesSide cell write writer writer' (sink o) (sink o')
      → IsUnlinked reader' writer' new
      → ServesOne source sink setup cell old new (i, o) (record { id = id; source = i'; sink = o'; read = read; write = write })
  one_served old reader writer reader' writer' new i i' o o' id read write h l wr e ns nk r w u =
      let reads : conn_of reader ≡ conn_of old = same_conn_of old reader l.reader_who l.reader_nth in
      let writes : conn_of writer ≡ conn_of old = same_conn_of old writer l.writer_who l.writer_nth in
      let number : reader.seat.number ≡ slot_seat reader.who = l.seats.2 ∙ (h.number ∙ ap slot_seat (sym l.reader_who)) in
      let entries : History = r.entries ++ (entry reader.seat.number (End (conn_of reader) (how_by read)) Noted ∷ []) in
      let mark : Leaving = record { number = writer_seat (conn_of old); calls = writer'.seat.mine; splits = 0 } in
      let before : reader'.seat.ended ≡ old.seat.ended = r.entered.same.ended ∙ l.seats.6 in
      let seat : writer'.seat.number ≡ writer_seat (conn_of old) = w.entered.same.number ∙ l.writes in
      let none : writer'.seat.splits ≡ 0 = w.entered.same.splits ∙ l.seats.12 in
      let alone : writer'.seat.ended ≡ [] = w.entered.same.ended ∙ l.seats.13 in
      let left : gone writer'.seat ∷ writer'.seat.ended ≡ mark ∷ [] = λ k. record { number = seat k; calls = writer'.seat.mine; splits = none k } ∷ alone k in
      let all : reader'.seat.ended ++ (gone writer'.seat ∷ writer'.seat.ended) ≡ old.seat.ended ++ mark ∷ [] = λ k. before k ++ left k in
      record {
        one = record { link = (i, o); log = record { id = id; source = i'; sink = o'; read = read; write = write }; read = entries; written = writer'.seat.mine };
        link_is = refl;
        log_is = refl;
        served = record {
          id_is = e ∙ reads;
          unread = ns;
          unwritten = nk;
          heard = subst (λ (c : ConnId). IsHeard setup c entries read (source i) (source i')) reads (heard_of setup cell read reader reader' (source i) (source i') number r);
          said = subst (λ (c : ConnId). IsSaid c writer'.seat.mine write (sink o) (sink o')) writes (said_of cell write writer writer' (sink o) (sink o') wr.number l.seats.11 w);
        };
        home = home_linked cell old reader writer reader' writer' new h l r.entered.same w.entered.same u;
        who_is = u.who_is ∙ (r.entered.same.who ∙ l.reader_who);
        nth_is = u.nth_is ∙ ap (λ (n : ℕ). n + 1) (r.entered.same.nth ∙ l.reader_nth);
        read = u.seats.0.3 ∙ (r.entered.mine ∙ ap (λ (z : History). z ++ entries) l.seats.4);
        written = u.seats.1 ∙ all;
      }

  -- after a connection more
  served_grows : (slot nth : ℕ) (cs : List (Conn I O)) (c : Conn I O) → AreServed source sink setup slot nth cs → IsServed source sink setup (conn_at slot (nth + length cs)) c → AreServed source sink setup slot nth (cs ++ c ∷ [])
  served_grows slot nth [] c a s = (subst (λ (k : ℕ). IsServed source sink setup (conn_at slot k) c) (omega arith) s, tt)
  served_grows slot nth (x ∷ xs) c a s = (a.0, served_grows slot (nth + 1) xs c a.1 (subst (λ (k : ℕ). IsServed source sink setup (conn_at slot k) c) (omega arith) s))

  -- these connections were served on these links, one after another, by a slot's pass that was fresh
  record Strung (slot : ℕ) (pass : Pass) (links : List (I × O)) (logs : List (ConnLog I O)) : Type 0 where
    cs : List (Conn I O)
    links_are : links ≡ links_of cs
    logs_are : logs ≡ logs_of cs
    served : AreServed source sink setup slot 0 cs
    knows : KnowsCalls cell slot pass cs []
    count : pass.nth ≡ length logs

  -- none so far
  strung_none : (slot : ℕ) (pass : Pass) → IsFresh cell (1 + slot) slot pass → Strung slot pass [] []
  strung_none slot pass f = record {
    cs = [];
    links_are = refl;
    logs_are = refl;
    served = tt;
    knows = record { home = fresh_home cell slot pass f; read = f.unused; written = f.alone };
    count = f.nth_is;
  }

  -- the connections so far, and one more
  strung_more : (slot : ℕ) (pass pass' : Pass) (links : List (I × O)) (link : I × O) (logs : List (ConnLog I O)) (log : ConnLog I O)
      → Strung slot pass links logs → ServesOne source sink setup cell pass pass' link log → Strung slot pass' (links ++ link ∷ []) (logs ++ log ∷ [])
  strung_more slot pass pass' links link logs log g s =
      let many : length logs ≡ length g.cs = ap length g.logs_are ∙ length-map g.cs (λ (c : Conn I O). c.log) in
      let who : pass.who ≡ slot = g.knows.home.who in
      let nth : pass.nth ≡ 0 + length g.cs = (let c = g.count in omega arith) in
      let id : conn_of pass ≡ conn_at slot (0 + length g.cs) = λ k. record { slot = who k; nth = nth k } in
      let mark : ConnId → Leaving = λ c. record { number = writer_seat c; calls = s.one.written; splits = 0 } in
      let all : pass.seat.ended ++ mark (conn_of pass) ∷ [] ≡ writers_left slot 0 g.cs ++ mark (conn_at slot (0 + length g.cs)) ∷ [] = λ k. g.knows.written k ++ mark (id k) ∷ [] in record {
        cs = g.cs ++ s.one ∷ [];
        links_are = ap (λ (z : List (I × O)). z ++ link ∷ []) g.links_are
            ∙ (ap (λ (z : I × O). links_of g.cs ++ z ∷ []) (sym s.link_is) ∙ sym (map-append (λ (c : Conn I O). c.link) g.cs (s.one ∷ [])));
        logs_are = ap (λ (z : List (ConnLog I O)). z ++ log ∷ []) g.logs_are
            ∙ (ap (λ (z : ConnLog I O). logs_of g.cs ++ z ∷ []) (sym s.log_is) ∙ sym (map-append (λ (c : Conn I O). c.log) g.cs (s.one ∷ [])));
        served = served_grows slot 0 g.cs s.one g.served (subst (λ (c : ConnId). IsServed source sink setup c s.one) id s.served);
        knows = record {
          home = subst (λ (k : ℕ). IsHome cell k pass') (s.who_is ∙ who) s.home;
          read = s.read ∙ (ap (λ (z : History). z ++ s.one.read) (g.knows.read ∙ append-nil (read_by g.cs))
              ∙ (ap (λ (z : History). read_by g.cs ++ z) (sym (append-nil s.one.read))
              ∙ (sym (flat_map-append (λ (c : Conn I O). c.read) g.cs (s.one ∷ [])) ∙ sym (append-nil (read_by (g.cs ++ s.one ∷ []))))));
          written = s.written ∙ (all ∙ sym (writers_grow slot 0 g.cs s.one));
        };
        count = s.nth_is ∙ (ap (λ (k : ℕ). k + 1) g.count ∙ sym (length-append logs (log ∷ [])));
      }

  pub keeps_one_more : (n : ℕ) (old new : Pass) (link : I × O) (log : ConnLog I O) → Keeps setup cell n old → Rests cell new → ServesOne source sink setup cell old new link log → Keeps setup cell (n + 1) new
  keeps_one_more n old new link log k r s = record {
    opened = k.opened;
    rests = r;
    home = s.home;
    count_is = s.nth_is ∙ ap (λ (c : ℕ). c + 1) k.count_is;
  }

  module _ (gives : LinkJob Pass I O → LinkDone Pass (ConnLog I O) → Type 0)
      (serves : (link : LinkJob Pass I O) (done : LinkDone Pass (ConnLog I O)) → gives link done → ServesLink source sink setup cell link done) where
    -- all of them
    strung : (slot : ℕ) (pass pass' : Pass) (links : List (I × O)) (logs : List (ConnLog I O)) (closed : Bool) → IsFresh cell (1 + slot) slot pass
        → AreLinksServed gives pass links logs closed pass' → Strung slot pass' links logs
    strung slot pass pass' links logs closed f (none p) = strung_none slot p f
    strung slot pass pass' links logs closed f (one p xs ls job done a e s) =
        strung_more slot job.place done.place xs (job.source, job.sink) ls done.log (strung slot p job.place xs ls false f a) (serves job done s).one

    -- whether the last one closed the slot
    closed_so : (pass pass' : Pass) (links : List (I × O)) (logs : List (ConnLog I O)) (closed : Bool) → AreLinksServed gives pass links logs closed pass' → closed ≡ closed_behind false logs
    closed_so pass pass' links logs closed (none p) = refl
    closed_so pass pass' links logs closed (one p xs ls job done a e s) = (serves job done s).closes ∙ sym (closed_grows false ls done.log)

    -- the slot's pass is at rest after them
    still_rests : (pass pass' : Pass) (links : List (I × O)) (logs : List (ConnLog I O)) (closed : Bool) → Rests cell pass → AreLinksServed gives pass links logs closed pass' → Rests cell pass'
    still_rests pass pass' links logs closed r (none p) = r
    still_rests pass pass' links logs closed r (one p xs ls job done a e s) = (serves job done s).kept.rests

    module _ {A : Type 0} (state : A → AcceptorState I O) where
      pub rests_after : (slot most : ℕ) (job : PoolJob A I O) (done : PoolDone A I O) → IsJob setup cell slot job → SlotRan state gives most job done → Rests cell done.place
      rests_after slot most job done j r = still_rests job.place done.place r.serves.links done.logs.items r.closed j.rests r.serves.served

      -- a slot that served so comes out so
      pub comes_out : (slot most : ℕ) (job : PoolJob A I O) (done : PoolDone A I O) → IsJob setup cell slot job → most ≡ setup.per_slot → SlotRan state gives most job done
          → ComesOut source sink setup cell [] slot (state job.acceptor) done.place (state done.acceptor) done.logs.items done.end
      comes_out slot most job done j e r =
          let g = strung slot job.place done.place r.serves.links done.logs.items r.closed j.fresh r.serves.served in record {
            cs = g.cs;
            serves = record {
              logs_are = g.logs_are;
              served = g.served;
              links = subst (λ (z : List (I × O)). HandsOut z (state job.acceptor) (state done.acceptor)) g.links_are r.serves.handed;
            };
            knows = g.knows;
            cause = subst (λ (b : Bool). HasCause done.end setup.per_slot (length done.logs.items) b (state job.acceptor) (state done.acceptor))
                (closed_so job.place done.place r.serves.links done.logs.items r.closed r.serves.served)
                (subst (λ (n : ℕ). HasCause done.end n (length done.logs.items) r.closed (state job.acceptor) (state done.acceptor)) e r.cause);
          }

  -- a slot's pass by which nothing was called, as what serves its links asks for it
  pub first_kept : {A : Type 0} (job : PoolJob A I O) → IsJob setup cell job.place.who job → IsPoolOf setup cell → Keeps setup cell 0 job.place
  first_kept job j o = record { opened = o; rests = j.rests; home = fresh_home cell job.place.who job.place j.fresh; count_is = j.fresh.nth_is }

  pub has_left : (slot : ℕ) (old acc : AcceptorState I O) (pass pass' : Pass) (logs : List (ConnLog I O)) (end : SlotEnd)
      → ComesOut source sink setup cell [] slot old pass acc logs end → Rests cell pass → Makes cell (Leave pass.who) Noted pass pass'
      → ComesOut source sink setup cell (leaving slot) slot old pass' acc logs end
  has_left slot old acc pass pass' logs end o r m =
      let same = same_leave cell (Leave pass.who) Noted pass pass' r m in
      let who : pass.who ≡ slot = o.knows.home.who in
      let number : pass.seat.number ≡ slot_seat slot = o.knows.home.number in
      let before : pass.seat.mine ≡ read_by o.cs = o.knows.read ∙ append-nil (read_by o.cs) in
      let all : pass.seat.mine ++ entry pass.seat.number (Leave pass.who) Noted ∷ [] ≡ read_by o.cs ++ leaving slot = λ k. before k ++ entry (number k) (Leave (who k)) Noted ∷ [] in
      record {
        cs = o.cs;
        serves = o.serves;
        knows = record {
          home = home_same cell slot pass pass' o.knows.home same;
          read = m.2.2 ∙ all;
          written = same.ended ∙ o.knows.written;
        };
        cause = o.cause;
      }
