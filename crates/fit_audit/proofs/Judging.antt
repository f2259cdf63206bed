-- The seats along the lines of a legal run.
use Rattle.std.proofs.Common.{◌≡◌, ℕ, ◌+◌, ◌*◌, ◌-◌, ◌^◌, ◌<◌, ◌≤◌, suc, zero, true, List, [], ◌∷◌, ◌++◌, length, take, get_or, Some, refl, sym, ap, subst, ◌∙◌, arith, append-nil, append_assoc}
use Rattle.std.specs.Prelude.{◌↔◌, IsTrue, replicate, slice_get}
use Rattle.std.proofs.Math.Nat.{suc-mul}
use Rattle.std.proofs.lemmas.Bool.{and_parts, and_from}
use Rattle.std.proofs.lemmas.List.{take_more, take_all, length-take-le, length-replicate}
use Rattle.orb_base.specs.declared.job.Job.{Job}
use Rattle.thread_borrowing.proofs.Growing.{length-pool_threads}
use Rattle.turn_cell.specs.History as history
use Rattle.lane_machine.specs.State.{State, Opens}
use Rattle.lane_machine.specs.Machine.{step}
use Rattle.lane_machine.specs.Readiness.{is_ready, IsSound}
use Rattle.lane_machine.specs.Histories.{History, replay, IsLegal}
use Rattle.lane_machine.specs.Callers.{of, IsFit, AreFit}
use Rattle.lane_machine.specs.Entries.{One}
use Rattle.lane_machine.specs.SeatLaws.{known}
use Rattle.trace_lines.specs.ReadBack.{jobs_of, entry_by, entries_after, history_of}
use Rattle.trace_lines.specs.declared.trace_line.TraceLine.{TraceLine}
use Rattle.fit_audit.specs.Readers.{new_reader}
use Rattle.fit_audit.specs.Seats.{allows, Opened, Heard}
use Rattle.fit_audit.specs.declared.last_reply.LastReply.{LastReply}
use Rattle.fit_audit.specs.declared.last_reply.LastReply.TheVariants.{Unheard}
use Rattle.fit_audit.specs.declared.reader.Reader.{Reader}
use Rattle.fit_audit.specs.declared.seats.Seats.{Seats}
use Rattle.fit_audit.proofs.Keeping.{IsReader, Keeps, Few, fit_if, fit_then}
use Rattle.fit_audit.proofs.Growing.{keeps_step}

-- the numbers of a run that opened
per_few : (slots per : ℕ) → 1 ≤ slots → per ≤ slots * per
per_few zero per l = absurd (omega arith)
per_few (suc n) per l = let a = suc-mul n per in omega arith

pub few_of : (s0 : State) → Opens s0 → Few s0
few_of s0 o = record {
  slots = o.can.slots.few_slots;
  per_slot = (let a = per_few s0.slots s0.per_slot o.can.slots.some_slot in let b = o.can.slots.few_connections in omega arith);
  threads = (let a = ap (λ (z : State). length z.threads) o.fresh in let b = o.can.well_formed.lanes.few_threads in let c = length-pool_threads 0 s0.pool.lanes in omega arith);
}

-- fit calls after others
abbrev FitFrom : State → History → History → Type 0
FitFrom s0 before h = history.FitFrom IsFit s0 before h

fit_parts : (s0 : State) (before h : History) (e : One) → FitFrom s0 before (h ++ e ∷ []) → FitFrom s0 before h × IsFit s0 e.caller (of e.caller (before ++ h)) e.call
fit_parts s0 before [] e f = (tt, subst (λ (z : History). IsFit s0 e.caller (of e.caller z) e.call) (sym (append-nil before)) f.0)
fit_parts s0 before (d ∷ ds) e f =
    let r = fit_parts s0 (before ++ d ∷ []) ds e f.1 in
    ((f.0, r.0), subst (λ (z : History). IsFit s0 e.caller (of e.caller z) e.call) (append_assoc before (d ∷ []) ds) r.1)

fit_both : (s0 : State) (before h : History) (e : One) → FitFrom s0 before h → IsFit s0 e.caller (of e.caller (before ++ h)) e.call → FitFrom s0 before (h ++ e ∷ [])
fit_both s0 before [] e f g = (subst (λ (z : History). IsFit s0 e.caller (of e.caller z) e.call) (append-nil before) g, tt)
fit_both s0 before (d ∷ ds) e f g =
    (f.0, fit_both s0 (before ++ d ∷ []) ds e f.1 (subst (λ (z : History). IsFit s0 e.caller (of e.caller z) e.call) (sym (append_assoc before (d ∷ []) ds)) g))

-- a legal history and its last entry
legal_parts : (s : State) (h : History) (e : One) → IsLegal s (h ++ e ∷ [])
    → IsLegal s h × (is_ready (replay s h) e.call ≡ true) × IsSound (replay s h) e.call × (e.reply ≡ (step (replay s h) e.call).1)
legal_parts s [] e l = (tt, l.0, l.1, l.2)
legal_parts s (d ∷ ds) e l = let r = legal_parts (step s d.call).0 ds e l.3 in ((l.0, l.1, l.2, r.0), r.1, r.2, r.3)

-- the entries of lines
lines_push : (jobs : List Job) (before ls : List TraceLine) (l : TraceLine)
    → entries_after jobs before (ls ++ l ∷ []) ≡ entries_after jobs before ls ++ entry_by jobs (before ++ ls) l ∷ []
lines_push jobs before [] l = ap (λ (z : List TraceLine). entry_by jobs z l ∷ []) (sym (append-nil before))
lines_push jobs before (x ∷ xs) l = ap (λ (z : History). entry_by jobs before x ∷ z)
    (lines_push jobs (before ++ x ∷ []) xs l
    ∙ ap (λ (z : List TraceLine). entries_after jobs (before ++ x ∷ []) xs ++ entry_by jobs z l ∷ []) (append_assoc before (x ∷ []) xs))

entries_long : (jobs : List Job) (before ls : List TraceLine) → length (entries_after jobs before ls) ≡ length ls
entries_long jobs before [] = refl
entries_long jobs before (x ∷ xs) = let a = entries_long jobs (before ++ x ∷ []) xs in omega arith

-- what was answered of these lines is so
pub record Judges (s0 : State) (jobs : List Job) (ls : List TraceLine) (seats : Seats) : Type 0 where
  pub keeps : seats.fit ≡ true → AreFit s0 (entries_after jobs [] ls) × Keeps s0 (entries_after jobs [] ls) seats
  pub tells : AreFit s0 (entries_after jobs [] ls) → seats.fit ≡ true

one_heard : (s0 : State) (jobs : List Job) (ls : List TraceLine) (l : TraceLine) (old new : Seats) → Opens s0 → length ls < 2 ^ 64 - 1 → Heard l old new
    → (IsLegal s0 (entries_after jobs [] ls) → Judges s0 jobs ls old) → IsLegal s0 (entries_after jobs [] (ls ++ l ∷ [])) → Judges s0 jobs (ls ++ l ∷ []) new
one_heard s0 jobs ls l old new o small heard prev legal =
    let p : entries_after jobs [] (ls ++ l ∷ []) ≡ entries_after jobs [] ls ++ entry_by jobs ls l ∷ [] = lines_push jobs [] ls l in
    let parts = legal_parts s0 (entries_after jobs [] ls) (entry_by jobs ls l) (subst (IsLegal s0) p legal) in
    let j = prev parts.0 in let long = entries_long jobs [] ls in let few = few_of s0 o in record {
      keeps = λ t. (let both = and_parts old.fit (allows old l) (sym heard.fit ∙ t) in
          let a = j.keeps both.0 in
          let f = fit_if s0 (replay s0 (entries_after jobs [] ls)) (entries_after jobs [] ls) old jobs ls l few a.1 (known s0 (entries_after jobs [] ls) o parts.0 a.0) parts.2 parts.3 both.1 in
          subst (λ (z : History). AreFit s0 z × Keeps s0 z new) (sym p) (
            fit_both s0 [] (entries_after jobs [] ls) (entry_by jobs ls l) a.0 f,
            keeps_step s0 (replay s0 (entries_after jobs [] ls)) (entries_after jobs [] ls) jobs ls l (entry_by jobs ls l) old new few a.1 (omega arith) refl parts.3 f heard t,
          ));
      tells = λ f. (let q = fit_parts s0 [] (entries_after jobs [] ls) (entry_by jobs ls l) (subst (AreFit s0) p f) in
          let t = j.tells q.0 in
          heard.fit ∙ and_from old.fit (allows old l) t (fit_then s0 (entries_after jobs [] ls) old jobs l few (j.keeps t).1 q.1));
    }

-- the same, by the lines up to a place
unfoldable pub JudgesAt : ℕ → ℕ → List TraceLine → ℕ → Seats → Type 0
JudgesAt slots per_slot lines i seats = (s0 : State) → Opens s0 → s0.slots ≡ slots → s0.per_slot ≡ per_slot
    → IsLegal s0 (entries_after (jobs_of lines) [] (take i lines)) → Judges s0 (jobs_of lines) (take i lines) seats

pub next_heard : (slots per_slot : ℕ) (lines : List TraceLine) (i : ℕ) (l : TraceLine) (old new : Seats) → i < length lines → length lines < 2 ^ 64 → l ≡ get_or lines i l → Heard l old new
    → JudgesAt slots per_slot lines i old → JudgesAt slots per_slot lines (i + 1) new
unfolding JudgesAt
next_heard slots per_slot lines i l old new within small here heard prev = λ s0 o a b.
    let next : take (i + 1) lines ≡ take i lines ++ l ∷ [] = take_more lines i l within ∙ ap (λ (x : TraceLine). take i lines ++ x ∷ []) (sym here) in
    let short = length-take-le i lines (omega arith) in
    subst (λ (z : List TraceLine). IsLegal s0 (entries_after (jobs_of lines) [] z) → Judges s0 (jobs_of lines) z new) (sym next)
    (one_heard s0 (jobs_of lines) (take i lines) l old new o (omega arith) heard (prev s0 o a b))

-- before the first line
same_all : {X : Type 0} (n : ℕ) (x : X) (i : ℕ) → i < n → slice_get (replicate n x) i ≡ Some x
same_all {X} zero x i l = absurd (omega arith)
same_all {X} (suc n) x zero l = refl
same_all {X} (suc n) x (suc i) l = same_all n x i (omega arith)

reader_first : (slot : ℕ) → IsReader slot new_reader []
reader_first slot = record { ended = refl; heard = refl; closed = refl; left = refl; later = λ nth l. (refl, refl) }

keeps_first : (s0 : State) (slots per_slot : ℕ) (seats : Seats) → Opened slots per_slot seats → s0.slots ≡ slots → s0.per_slot ≡ per_slot → Keeps s0 [] seats
keeps_first s0 slots per_slot seats new a b = record {
  slots = new.slots ∙ sym a;
  per_slot = new.per_slot ∙ sym b;
  many_readers = ap length new.readers ∙ length-replicate slots new_reader ∙ sym a;
  many_replies = (let x : length seats.replies.items ≡ 81 + 128 * slots = ap length new.replies ∙ length-replicate (81 + 128 * slots) Unheard in omega arith);
  reader = λ slot l. (new_reader, ap (λ (z : List Reader). slice_get z slot) new.readers ∙ same_all slots new_reader slot (omega arith), reader_first slot);
  last = λ n l. ap (λ (z : List LastReply). slice_get z n) new.replies ∙ same_all (81 + 128 * slots) Unheard n (omega arith);
}

pub none_heard : (slots per_slot : ℕ) (lines : List TraceLine) (seats : Seats) → Opened slots per_slot seats → JudgesAt slots per_slot lines 0 seats
unfolding JudgesAt
none_heard slots per_slot lines seats new = λ s0 o a b l. record {
  keeps = λ t. (tt, keeps_first s0 slots per_slot seats new a b);
  tells = λ f. new.fit;
}

-- after the last one
pub all_heard : (slots per_slot : ℕ) (lines : List TraceLine) (i : ℕ) (seats : Seats) → length lines ≤ i → JudgesAt slots per_slot lines i seats
    → (s0 : State) → Opens s0 → s0.slots ≡ slots → s0.per_slot ≡ per_slot → IsLegal s0 (history_of lines) → (IsTrue seats.fit ↔ AreFit s0 (history_of lines))
unfolding JudgesAt
all_heard slots per_slot lines i seats past j = λ s0 o a b l.
    let whole : take i lines ≡ lines = take_all i lines past in
    let x = subst (λ (z : List TraceLine). IsLegal s0 (entries_after (jobs_of lines) [] z) → Judges s0 (jobs_of lines) z seats) whole (j s0 o a b) l in
    (λ t. (x.keeps t).0, x.tells)
