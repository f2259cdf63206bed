-- All seats of a link came back, and its history has what each did.
use Rattle.std.proofs.Common.{◌≡◌, ℕ, ◌+◌, List, [], ◌∷◌, ◌++◌, length, refl, sym, ap, ◌∙◌, subst, inl, inr, arith}
use Rattle.std.proofs.lemmas.List.{length-append}
use Rattle.orb_base.specs.Outside.{SourceState, SinkState}
use Rattle.turn_cell.specs.Good.{entry}
use Rattle.turn_cell.specs.Seats.{CellView}
use Rattle.client_mux.specs.declared.why.Why.{Why}
use Rattle.client_mux.specs.declared.call.MuxCall.TheVariants.{Lost}
use Rattle.client_mux.specs.declared.call.MuxReply.TheVariants as answer
use Rattle.client_mux.specs.Machine.{Mux, History, opening}
use Rattle.client_mux.specs.Callers.{of, writer, reader, arrivals, losses, finished}
use Rattle.client_mux.specs.Exchange.{IsLegal, AreFit}
use Rattle.shared_link.specs.Closings.{IsBack, AreBack, AreOf, IsHistory}
use Rattle.shared_link.specs.Link.{Sitting}
use Rattle.shared_link.specs.Roles.{CanSend, CanRead, CanLose}
use Rattle.shared_link.specs.Turns.{IsFresh, AreFrom, IsOpen}
use Rattle.mux_sides.specs.Replying.{AreArrived, ReadsSide}
use Rattle.mux_sides.specs.Sending.{AreGiven, last_of, WritesSide}
use Rattle.mux_sides.specs.declared.writing.WriterEnd.{WriterEnd}
use Rattle.mux_runs.specs.Callers.{seats_of, ends_of, HaveCalled}
use Rattle.mux_runs.specs.Opened.{IsReadyFor}
use Rattle.mux_runs.specs.Runs.{CallsIn, SentIn, HeardIn, IsLawful, AreOwn}
use Rattle.mux_runs.specs.declared.jobs.Asking.{Asking}
use Rattle.mux_runs.specs.declared.jobs.CallDone.{CallDone}
use Rattle.mux_runs.proofs.CallerJobs.{from_front, from_last, fresh_back, fresh_mine}
use Rattle.mux_runs.proofs.OwnReplies.{own_ends}

-- ---- the seats of an open link

module _ (callers : ℕ) (cell : CellView Mux) (root : Sitting) (seats some rest : List Sitting) (last next : Sitting)
    (o : IsOpen callers cell root seats) (p : seats ≡ some ++ last ∷ []) (q : some ≡ rest ++ next ∷ []) where
  pub told_apart : IsReadyFor callers cell root rest next last
  told_apart =
      let a : length seats ≡ length some + 1 = ap length p ∙ length-append some (last ∷ []) in
      let b : length some ≡ length rest + 1 = ap length q ∙ length-append rest (next ∷ []) in
      let all = o.all in
      let first : AreFrom cell 1 some = from_front cell 1 seats some last o.seats_are p in record {
        opened = o.opened;
        main = o.main;
        all = omega arith;
        seats_are = from_front cell 1 some rest next first q;
        writer_is = subst (λ (n : ℕ). IsFresh cell n next) (omega arith) (from_last cell 1 some rest next first q);
        reader_is = subst (λ (n : ℕ). IsFresh cell n last) (omega arith) (from_last cell 1 seats some last o.seats_are p);
      }

callers_of : (callers : ℕ) (cell : CellView Mux) → cell.terms.opening ≡ opening callers → cell.terms.opening.callers ≡ callers
callers_of callers cell e = ap (λ (m : Mux). m.callers) e

pub sends_first : (callers : ℕ) (cell : CellView Mux) (seat : Sitting) → cell.terms.opening ≡ opening callers → IsFresh cell (callers + 1) seat → CanSend cell seat × CanLose cell seat
sends_first callers cell seat e f = let c = callers_of callers cell e in let is : callers + 1 ≡ writer cell.terms.opening = omega arith in (
  record { in_cell = f.in_cell; number_is = f.number_is ∙ is; unfinished = ap finished f.unused },
  record { in_cell = f.in_cell; side = inl (f.number_is ∙ is); once = ap losses f.unused },
)

pub reads_first : (callers : ℕ) (cell : CellView Mux) (seat : Sitting) → cell.terms.opening ≡ opening callers → IsFresh cell (callers + 2) seat → CanRead cell 0 seat × CanLose cell seat
reads_first callers cell seat e f = let c = callers_of callers cell e in let is : callers + 2 ≡ reader cell.terms.opening = omega arith in (
  record { in_cell = f.in_cell; number_is = f.number_is ∙ is; arrivals_are = ap arrivals f.unused },
  record { in_cell = f.in_cell; side = inr (f.number_is ∙ is); once = ap losses f.unused },
)

-- ---- they came back

back_both : (cell : CellView Mux) (first : ℕ) (xs ys : List Sitting) → AreBack cell first xs → AreBack cell (first + length xs) ys → AreBack cell first (xs ++ ys)
back_both cell first [] ys a b = subst (λ (n : ℕ). AreBack cell n ys) (omega arith) b
back_both cell first (x ∷ xs) ys a b = (a.0, back_both cell (first + 1) xs ys a.1 (subst (λ (n : ℕ). AreBack cell n ys) (omega arith) b))

callers_back : (cell : CellView Mux) (first : ℕ) (qs : List Asking) (ds : List CallDone) → HaveCalled cell first qs ds → AreBack cell first (seats_of ds) × (length (seats_of ds) ≡ length qs)
callers_back cell first [] [] c = (tt, refl)
callers_back cell first [] (d ∷ ds) c = absurd c
callers_back cell first (a ∷ qs) [] c = absurd c
callers_back cell first (a ∷ qs) (d ∷ ds) c = let r = callers_back cell (first + 1) qs ds c.1 in ((c.0.back, r.0), (let e = r.1 in omega arith))

-- ---- what the history has

calls_in : (cell : CellView Mux) (h : History) (first : ℕ) (qs : List Asking) (ds : List CallDone) (rest : List Sitting) → HaveCalled cell first qs ds → AreOf h (seats_of ds ++ rest)
    → CallsIn h first qs (ends_of ds) × AreOf h rest
calls_in cell h first [] [] rest c o = (tt, o)
calls_in cell h first [] (d ∷ ds) rest c o = absurd c
calls_in cell h first (a ∷ qs) [] rest c o = absurd c
calls_in cell h first (a ∷ qs) (d ∷ ds) rest c o =
    let r = calls_in cell h (first + 1) qs ds rest c.1 o.1 in (
      (
        record {
          entries = c.0.entries;
          is_call = c.0.is_call;
          are = ap (λ (n : ℕ). of n h) (sym c.0.back.number_is) ∙ (sym o.0 ∙ c.0.mine);
        },
        r.0,
      ),
      r.1,
    )

sent_in : (cell : CellView Mux) (h : History) (n : ℕ) (end : WriterEnd) (old new : Sitting) (from to : SinkState) → IsFresh cell n old → WritesSide end old new from to → new.mine ≡ of new.number h
    → SentIn h n end from to
sent_in cell h n end old new from to f w o = record {
  taken = w.taken;
  given = subst (λ (k : ℕ). AreGiven k w.taken) f.number_is w.given;
  are = ap (λ (k : ℕ). of k h) (sym (fresh_back cell n (w.taken ++ last_of old.number end ∷ []) old new f w.entered).number_is)
      ∙ (sym o ∙ (fresh_mine cell n (w.taken ++ last_of old.number end ∷ []) old new f w.entered ∙ ap (λ (k : ℕ). w.taken ++ last_of k end ∷ []) f.number_is));
  writes = w.writes;
}

heard_in : (cell : CellView Mux) (h : History) (n : ℕ) (why : Why) (old new : Sitting) (from to : SourceState) → IsFresh cell n old → ReadsSide why old new from to → new.mine ≡ of new.number h
    → HeardIn h n why from to
heard_in cell h n why old new from to f r o = record {
  replies = r.replies;
  hears = r.hears;
  entries = r.entries;
  arrived = subst (λ (k : ℕ). AreArrived k r.replies r.entries) f.number_is r.arrived;
  are = ap (λ (k : ℕ). of k h) (sym (fresh_back cell n (r.entries ++ entry old.number (Lost why) answer.Noted ∷ []) old new f r.entered).number_is)
      ∙ (sym o ∙ (fresh_mine cell n (r.entries ++ entry old.number (Lost why) answer.Noted ∷ []) old new f r.entered ∙ ap (λ (k : ℕ). r.entries ++ entry k (Lost why) answer.Noted ∷ []) f.number_is));
}

-- ---- the whole run

module _ (cell : CellView Mux) (root : Sitting) (seats : List Sitting) (w w' r r' : Sitting) (qs : List Asking) (ds : List CallDone) (back : List Sitting)
    (end : WriterEnd) (why : Why) (out out' : SinkState) (from to : SourceState)
    (o : IsReadyFor (length qs) cell root seats w r) (c : HaveCalled cell 1 qs ds) (ws : WritesSide end w w' out out') (rs : ReadsSide why r r' from to)
    (is : back ≡ (seats_of ds ++ w' ∷ []) ++ r' ∷ []) where
  -- all seats, in order
  in_order : back ≡ seats_of ds ++ w' ∷ r' ∷ []
  in_order = is ∙ two (seats_of ds) where
    two : (xs : List Sitting) → (xs ++ w' ∷ []) ++ r' ∷ [] ≡ xs ++ w' ∷ r' ∷ []
    two [] = refl
    two (x ∷ xs) = ap (λ (z : List Sitting). x ∷ z) (two xs)

  pub all_back : AreBack cell 1 back × (length back ≡ length qs + 2)
  all_back =
      let b = callers_back cell 1 qs ds c in
      let count = b.1 in
      let w_back : IsBack cell (1 + length (seats_of ds)) w' = subst (λ (n : ℕ). IsBack cell n w') (omega arith) (fresh_back cell (length qs + 1) (ws.taken ++ last_of w.number end ∷ []) w w' o.writer_is ws.entered) in
      let r_back : IsBack cell ((1 + length (seats_of ds)) + 1) r' =
      subst (λ (n : ℕ). IsBack cell n r') (omega arith) (fresh_back cell (length qs + 2) (rs.entries ++ entry r.number (Lost why) answer.Noted ∷ []) r r' o.reader_is rs.entered) in
      let long = length-append (seats_of ds) (w' ∷ r' ∷ []) in
      let length_is : length back ≡ length (seats_of ds ++ w' ∷ r' ∷ []) = ap length in_order in (
        subst (AreBack cell 1) (sym in_order) (back_both cell 1 (seats_of ds) (w' ∷ r' ∷ []) b.0 (w_back, (r_back, tt))),
        omega arith,
      )

  module _ (h : History) (i : IsHistory cell back h) where
    parts : CallsIn h 1 qs (ends_of ds) × AreOf h (w' ∷ r' ∷ [])
    parts = calls_in cell h 1 qs ds (w' ∷ r' ∷ []) c (subst (AreOf h) in_order i.calls)

    pub is_lawful : IsLawful (length qs) h
    is_lawful = record { legal = subst (λ (x : Mux). IsLegal x h) o.opened i.legal; fit = subst (λ (x : Mux). AreFit x h) o.opened i.fit }

    pub has_called : CallsIn h 1 qs (ends_of ds)
    has_called = parts.0

    pub has_sent : SentIn h (length qs + 1) end out out'
    has_sent = sent_in cell h (length qs + 1) end w w' out out' o.writer_is ws parts.1.0

    pub has_heard : HeardIn h (length qs + 2) why from to
    has_heard = heard_in cell h (length qs + 2) why r r' from to o.reader_is rs parts.1.1.0

    pub has_own : AreOwn h 1 (ends_of ds)
    has_own = own_ends cell.terms.opening h i.opens i.legal 1 qs (ends_of ds) has_called
