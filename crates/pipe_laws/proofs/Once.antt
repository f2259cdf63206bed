-- Where no serial is offered twice, none is finished twice.
use Rattle.std.proofs.Common.{◌≡◌, ℕ, ◌+◌, ◌≤◌, Bool, true, false, ◌&&◌, ◌==◌, [], ◌∷◌, inl, inr, refl, sym, ap, ◌∙◌, subst, arith, eq-eqb, ne_eqb}
use Rattle.std.specs.Prelude.{if◌then◌else◌}
use Rattle.std.proofs.lemmas.Bool.{cases_eq, and_right, and_from}
use Rattle.std.proofs.lemmas.List.Sums.{sum_by-cons}
use Rattle.orb_base.specs.Conn.{same_conn}
use Rattle.orb_base.specs.JobRecord.{JobRecord}
use Rattle.orb_base.specs.declared.answer.Answer.{Answer}
use Rattle.orb_base.specs.declared.conn_id.ConnId.{ConnId}
use Rattle.lane_machine.specs.declared.call.LaneCall.{LaneCall}
use Rattle.lane_machine.specs.declared.call.LaneCall.TheVariants.{Offer, Finish}
use Rattle.lane_machine.specs.declared.call.LaneReply.{LaneReply}
use Rattle.lane_machine.specs.declared.call.LaneReply.TheVariants as reply
use Rattle.lane_machine.specs.Histories.{History}
use Rattle.lane_machine.specs.Entries.{One}
use Rattle.lane_machine.specs.SeatLaws.{conn_is}
use Rattle.lane_machine.specs.Fates.{named, admits, finishes, admitted, finished}
use Rattle.lane_machine.proofs.Fates.{one_place}
use Rattle.lane_laws.proofs.Marks.{same_self}
use Rattle.pipe_laws.specs.Lacking.{apart_at, Apart, once_at, FinishesOnce}
use Rattle.pipe_laws.specs.Serials.{OffersOther, NeverOffers, OffersNew, OffersOnce, OfferedFinishesOnce}

-- 1 for the connection itself
abbrev own : ConnId → ConnId → ℕ
own conn c = if same_conn conn c then 1 else 0

own_few : (conn c : ConnId) (b : Bool) → same_conn conn c ≡ b → own conn c ≤ 1
own_few conn c true is = let x : own conn c ≡ 1 = ap (λ (b : Bool). if b then 1 else 0) is in omega arith
own_few conn c false is = let x : own conn c ≡ 0 = ap (λ (b : Bool). if b then 1 else 0) is in omega arith

own_is : (conn c : ConnId) (b : Bool) → same_conn conn c ≡ b → 1 ≤ own conn c → conn ≡ c
own_is conn c true is some = conn_is conn c is
own_is conn c false is some = let x : own conn c ≡ 0 = ap (λ (b : Bool). if b then 1 else 0) is in absurd (omega arith)

named_self : (job : JobRecord) → named job.conn job.serial job ≡ 1
named_self job = ap (λ (b : Bool). if b then 1 else 0)
    (and_from (same_conn job.conn job.conn) (job.serial == job.serial) (same_self job.conn) (eq-eqb job.serial job.serial refl))

named_other : (c : ConnId) (n : ℕ) (job : JobRecord) → (job.serial ≡ n → ⊥) → named c n job ≡ 0
named_other c n job other =
    ap (λ (b : Bool). if b then 1 else 0) (and_right (same_conn job.conn c) (job.serial == n) (ne_eqb job.serial n other))

named_few : (c : ConnId) (n : ℕ) (job : JobRecord) (b d : Bool) → same_conn job.conn c ≡ b → (job.serial == n) ≡ d
    → named c n job ≤ own job.conn c
named_few c n job true true same is =
    let x : own job.conn c ≡ 1 = ap (λ (b : Bool). if b then 1 else 0) same in
    let y : named c n job ≡ 1 = ap (λ (b : Bool). if b then 1 else 0) (and_from (same_conn job.conn c) (job.serial == n) same is) in
    omega arith
named_few c n job false d same is =
    let y : named c n job ≡ 0 = ap (λ (b : Bool). if (b && (job.serial == n)) then 1 else 0) same in omega arith
named_few c n job true false same is =
    let y : named c n job ≡ 0 = ap (λ (b : Bool). if b then 1 else 0) (and_right (same_conn job.conn c) (job.serial == n) is) in omega arith

-- ---- at most one is admitted

admits_few : (c : ConnId) (n : ℕ) (job : JobRecord) (r : LaneReply) → admits c n (Offer job) r ≤ named c n job
admits_few c n job (reply.Run t lent) = omega arith
admits_few c n job reply.Kept = omega arith
admits_few c n job r = omega arith

admits_other : (c : ConnId) (n : ℕ) (call : LaneCall) (r : LaneReply) → OffersOther n call → admits c n call r ≡ 0
admits_other c n (Offer job) r other = let a = admits_few c n job r in let b = named_other c n job other in omega arith
admits_other c n call r other = refl

none_admitted : (c : ConnId) (n : ℕ) (h : History) → NeverOffers n h → admitted c n h ≡ 0
none_admitted c n [] never = refl
none_admitted c n (e ∷ es) (here, never) =
    let a = sum_by-cons (λ (x : One). admits c n x.call x.reply) e es in
    let b = admits_other c n e.call e.reply here in
    let d = none_admitted c n es never in omega arith

offer_few : (conn c : ConnId) (n : ℕ) (job : JobRecord) (r : LaneReply) (es : History) → job.conn ≡ conn → NeverOffers job.serial es
    → admitted c n es ≤ own conn c → admits c n (Offer job) r + admitted c n es ≤ own conn c
offer_few conn c n job r es mine never few = elim (cases_eq job.serial n) [
  | inl is ↦ (let a = none_admitted c n es (subst (λ (k : ℕ). NeverOffers k es) is never) in
      let b = admits_few c n job r in
      let d = named_few c n job (same_conn job.conn c) (job.serial == n) refl refl in
      let same : own job.conn c ≡ own conn c = ap (λ (z : ConnId). own z c) mine in omega arith)
  | inr other ↦ (let a = admits_few c n job r in let b = named_other c n job other in omega arith)
]

call_few : (conn c : ConnId) (n : ℕ) (call : LaneCall) (r : LaneReply) (es : History) → OffersNew conn call es
    → admitted c n es ≤ own conn c → admits c n call r + admitted c n es ≤ own conn c
call_few conn c n (Offer job) r es (mine, never) few = offer_few conn c n job r es mine never few
call_few conn c n call r es new few = let a : admits c n call r ≡ 0 = refl in omega arith

pub few_admitted : (conn c : ConnId) (n : ℕ) (h : History) → OffersOnce conn h → admitted c n h ≤ own conn c
few_admitted conn c n [] once = omega arith
few_admitted conn c n (e ∷ es) (here, once) =
    let a = sum_by-cons (λ (x : One). admits c n x.call x.reply) e es in
    let b = call_few conn c n e.call e.reply es here (few_admitted conn c n es once) in omega arith

pub admitted_once : (conn : ConnId) (n : ℕ) (h : History) → OffersOnce conn h → admitted conn n h ≤ 1
admitted_once conn n h once = let a = few_admitted conn conn n h once in let b = own_few conn conn (same_conn conn conn) refl in omega arith

-- ---- so at most one is finished

abbrev Few : ConnId → History → Type 0
Few conn h = (c : ConnId) (n : ℕ) → finished c n h ≤ own conn c

few_later : (conn : ConnId) (e : One) (es : History) → Few conn (e ∷ es) → Few conn es
few_later conn e es few c n = let a = sum_by-cons (λ (x : One). finishes c n x.call) e es in let b = few c n in omega arith

-- the call and the entries after it
abbrev FewAt : ConnId → LaneCall → History → Type 0
FewAt conn call es = (c : ConnId) (n : ℕ) → finishes c n call + finished c n es ≤ own conn c

few_at : (conn : ConnId) (e : One) (es : History) → Few conn (e ∷ es) → FewAt conn e.call es
few_at conn e es few c n = let a = sum_by-cons (λ (x : One). finishes c n x.call) e es in let b = few c n in omega arith

-- a finished request is the connection's
finish_mine : (conn : ConnId) (t : ℕ) (answer : Answer) (es : History) → FewAt conn (Finish t answer) es → conn ≡ answer.job.conn
finish_mine conn t answer es few =
    let a = few answer.job.conn answer.job.serial in
    let b = named_self answer.job in
    own_is conn answer.job.conn (same_conn conn answer.job.conn) refl (omega arith)

call_apart : (conn : ConnId) (n : ℕ) (call : LaneCall) (es : History) → FewAt conn call es → finishes conn n call ≡ 0 → apart_at n call
call_apart conn n (Finish t answer) es few none = λ is.
    let mine = finish_mine conn t answer es few in
    let one : named conn n answer.job ≡ 1 = ap (λ (z : ConnId). named z n answer.job) mine
    ∙ ap (λ (k : ℕ). named answer.job.conn k answer.job) (sym is) ∙ named_self answer.job in
    absurd (omega arith)
call_apart conn n call es few none = tt

all_apart : (conn : ConnId) (n : ℕ) (h : History) → Few conn h → finished conn n h ≡ 0 → Apart n h
all_apart conn n [] few none = tt
all_apart conn n (e ∷ es) few none =
    let a = sum_by-cons (λ (x : One). finishes conn n x.call) e es in
    (call_apart conn n e.call es (few_at conn e es few) (omega arith), all_apart conn n es (few_later conn e es few) (omega arith))

call_once : (conn : ConnId) (call : LaneCall) (es : History) → FewAt conn call es → Few conn es → once_at call es
call_once conn (Finish t answer) es few later =
    let a = few answer.job.conn answer.job.serial in
    let b = named_self answer.job in
    let d = own_few conn answer.job.conn (same_conn conn answer.job.conn) refl in
    let none : finished answer.job.conn answer.job.serial es ≡ 0 = omega arith in
    all_apart conn answer.job.serial es later
    (ap (λ (z : ConnId). finished z answer.job.serial es) (finish_mine conn t answer es few) ∙ none)
call_once conn call es few later = tt

all_once : (conn : ConnId) (h : History) → Few conn h → FinishesOnce h
all_once conn [] few = tt
all_once conn (e ∷ es) few =
    let later = few_later conn e es few in (call_once conn e.call es (few_at conn e es few) later, all_once conn es later)

pub offered_finishes_once : OfferedFinishesOnce
offered_finishes_once conn s h opens legal once =
    all_once conn h (λ c n. let a = one_place c n s h opens legal in let b = few_admitted conn c n h once in omega arith)
