-- Why a link is lost, by the whole history.
use Rattle.std.proofs.Common.{◌≡◌, ◌⊎◌, ℕ, Bool, true, false, ◌==◌, ◌+◌, List, [], ◌∷◌, ◌++◌, Option, Some, inl, inr, if◌then◌else◌, refl, sym, ap, ◌∙◌, subst, eq-eqb}
use Rattle.orb_base.specs.Outside.{SourceState, SinkState}
use Rattle.turn_cell.specs.Good.{entry}
use Rattle.turn_cell.specs.History as history
use Rattle.client_mux.specs.declared.heard_reply.HeardReply.{HeardReply}
use Rattle.client_mux.specs.declared.why.Why.{Why}
use Rattle.client_mux.specs.declared.call.MuxCall.{MuxCall}
use Rattle.client_mux.specs.declared.call.MuxCall.TheVariants.{Start, Cancel, Next, Arrived, Await, Lost, Left}
use Rattle.client_mux.specs.declared.call.MuxReply.TheVariants as answer
use Rattle.client_mux.specs.Machine.{Mux, One, History, opening}
use Rattle.client_mux.specs.Callers.{of, writer, reader, IsFit}
use Rattle.client_mux.specs.Exchange.{loss_or, first_loss}
use Rattle.mux_sides.specs.Replying.{AreArrived}
use Rattle.mux_sides.specs.Sending.{AreGiven, last_of}
use Rattle.mux_sides.specs.declared.writing.WriterEnd.{WriterEnd}
use Rattle.mux_sides.specs.declared.writing.WriterEnd.TheVariants as end
use Rattle.mux_runs.specs.Runs.{IsLawful, SentIn, HeardIn, IsCause}

-- each entry is so
abbrev Each : (One → Type 0) → History → Type 0
Each p [] = Unit {0}
Each p (e ∷ es) = p e × Each p es

-- a loss has its cause
abbrev HasCause : WriterEnd → Why → One → Type 0
HasCause write why e = (w : Why) → e.call ≡ Lost w → IsCause write why w

-- a loss is said by the writer or by the reader
abbrev BySide : Mux → One → Type 0
BySide x e = (w : Why) → e.call ≡ Lost w → (e.caller ≡ writer x) ⊎ (e.caller ≡ reader x)

by_side : (x : Mux) (n : ℕ) (mine : History) (call : MuxCall) → IsFit x n mine call → (w : Why) → call ≡ Lost w → (n ≡ writer x) ⊎ (n ≡ reader x)
by_side x n mine (Lost v) fit w is = fit.1.0
by_side x n mine (Start by q) fit w is = absurd (cc)
by_side x n mine (Cancel by id) fit w is = absurd (cc)
by_side x n mine Next fit w is = absurd (cc)
by_side x n mine (Arrived id r) fit w is = absurd (cc)
by_side x n mine (Await by id) fit w is = absurd (cc)
by_side x n mine (Left by) fit w is = absurd (cc)

all_by_side : (x : Mux) (before h : History) → history.FitFrom IsFit x before h → Each (BySide x) h
all_by_side x before [] fit = tt
all_by_side x before (e ∷ es) fit = (by_side x e.caller (of e.caller before) e.call fit.0, all_by_side x (before ++ e ∷ []) es fit.1)

loss_case : (call : MuxCall) (o : Option Why) (w : Why) → loss_or call o ≡ Some w → (call ≡ Lost w) ⊎ (o ≡ Some w)
loss_case (Lost v) o w e = let same : v ≡ w = cc in inl (ap Lost same)
loss_case (Start by q) o w e = inr e
loss_case (Cancel by id) o w e = inr e
loss_case Next o w e = inr e
loss_case (Arrived id r) o w e = inr e
loss_case (Await by id) o w e = inr e
loss_case (Left by) o w e = inr e

each_rest : (p : One → Type 0) (b : Bool) (d : One) (xs : History) → Each p (if b then d ∷ xs else xs) → Each p xs
each_rest p true d xs h = h.1
each_rest p false d xs h = h

each_first : (p : One → Type 0) (b : Bool) (d : One) (xs : History) → b ≡ true → Each p (if b then d ∷ xs else xs) → p d
each_first p true d xs is h = h.0
each_first p false d xs is h = absurd (cc)

caused : (x : Mux) (write : WriterEnd) (why w : Why) (h : History) → Each (BySide x) h → Each (HasCause write why) (of (writer x) h) → Each (HasCause write why) (of (reader x) h)
    → first_loss h ≡ Some w → IsCause write why w
caused x write why w [] sides writes reads e = absurd (cc)
caused x write why w (d ∷ ds) sides writes reads e =
    let p : One → Type 0 = HasCause write why in
    elim (loss_case d.call (first_loss ds) w e) [
      | inl is ↦ elim (sides.0 w is) [
        | inl one ↦ each_first p (d.caller == writer x) d (of (writer x) ds) (eq-eqb d.caller (writer x) one) writes w is
        | inr other ↦ each_first p (d.caller == reader x) d (of (reader x) ds) (eq-eqb d.caller (reader x) other) reads w is
      ]
      | inr later ↦ caused x write why w ds sides.1 (each_rest p (d.caller == writer x) d (of (writer x) ds) writes) (each_rest p (d.caller == reader x) d (of (reader x) ds) reads) later
    ]

each_both : (p : One → Type 0) (xs ys : History) → Each p xs → Each p ys → Each p (xs ++ ys)
each_both p [] ys a b = b
each_both p (e ∷ es) ys a b = (a.0, each_both p es ys a.1 b)

given_cause : (write : WriterEnd) (why : Why) (n : ℕ) (taken : History) → AreGiven n taken → Each (HasCause write why) taken
given_cause write why n [] g = tt
given_cause write why n (e ∷ es) g =
    let next : e.call ≡ Next = ap (λ (o : One). o.call) g.0 in
    ((λ w is. let no : Next ≡ Lost w = sym next ∙ is in absurd (cc)), given_cause write why n es g.2)

last_cause : (write : WriterEnd) (why : Why) (n : ℕ) → HasCause write why (last_of n write)
last_cause end.Finished why n = λ w is. absurd (cc)
last_cause end.WriteFault why n = λ w is. inr (cc)
last_cause end.NoMemory why n = λ w is. inr (cc)

arrived_cause : (write : WriterEnd) (why : Why) (n : ℕ) (rs : List HeardReply) (es : History) → AreArrived n rs es → Each (HasCause write why) es
arrived_cause write why n [] [] a = tt
arrived_cause write why n [] (e ∷ es) a = absurd a
arrived_cause write why n (r ∷ rs) [] a = tt
arrived_cause write why n (r ∷ rs) (e ∷ es) a =
    let came : e.call ≡ Arrived r.reply.id r = ap (λ (o : One). o.call) a.0.1 in
    ((λ w is. let no : Arrived r.reply.id r ≡ Lost w = sym came ∙ is in absurd (cc)), arrived_cause write why n rs es a.1)

-- a link is lost first as its reader says, or for what became of its writer
pub loss_caused : (callers : ℕ) (h : History) (write : WriterEnd) (why w : Why) (from to : SourceState) (out out' : SinkState) → IsLawful callers h
    → SentIn h (callers + 1) write out out' → HeardIn h (callers + 2) why from to → first_loss h ≡ Some w → IsCause write why w
loss_caused callers h write why w from to out out' lawful sent heard e =
    let p : One → Type 0 = HasCause write why in
    let x : Mux = opening callers in
    let last : Each p (last_of (callers + 1) write ∷ []) = (last_cause write why (callers + 1), tt) in
    let lost : Each p (entry (callers + 2) (Lost why) answer.Noted ∷ []) = ((λ v is. inl (cc)), tt) in
    let writes : Each p (of (writer x) h) = subst (Each p) (sym sent.are) (each_both p sent.taken (last_of (callers + 1) write ∷ []) (given_cause write why (callers + 1) sent.taken sent.given) last) in
    let reads : Each p (of (reader x) h) =
    subst (Each p) (sym heard.are) (each_both p heard.entries (entry (callers + 2) (Lost why) answer.Noted ∷ []) (arrived_cause write why (callers + 2) heard.replies heard.entries heard.arrived) lost) in
    caused x write why w h (all_by_side x [] h lawful.fit) writes reads e
