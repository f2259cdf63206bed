-- A history in which every call was fit offers no request twice.
use Rattle.std.proofs.Common.{◌≡◌, ℕ, ◌+◌, ◌≤◌, suc, zero, Bool, true, cond, ◌&&◌, ◌==◌, List, [], ◌∷◌, ◌++◌, Some, inl, inr, refl, sym, ap, ◌∙◌, arith, append-nil, append_assoc}
use Rattle.std.specs.Prelude.{slice_get, if◌then◌else◌}
use Rattle.std.proofs.lemmas.Bool.{cases_Bool, cases_eq, and_parts, eqb-true}
use Rattle.std.proofs.lemmas.Option.{none-some, same_Some}
use Rattle.orb_base.specs.Conn.{same_conn}
use Rattle.orb_base.specs.declared.conn_id.ConnId.{ConnId}
use Rattle.orb_base.specs.declared.job.Job.{Job}
use Rattle.lane_machine.specs.State.{State}
use Rattle.lane_machine.specs.Histories.{History, IsLegal}
use Rattle.lane_machine.specs.Callers.{of, heard_calls, is_heard, slot_seat, IsFit, AreFit}
use Rattle.lane_machine.specs.Entries.{One, of_mine, of_other, along}
use Rattle.lane_machine.specs.Fates.{named}
use Rattle.lane_machine.specs.SeatLaws.{conn_is}
use Rattle.lane_machine.specs.declared.call.LaneCall.{LaneCall}
use Rattle.lane_machine.specs.declared.call.LaneCall.TheVariants.{Offer, Post, Cancel, Take, Finish, Collect, End, Leave}
use Rattle.lane_machine.proofs.Fates.{heard_push}
use Rattle.trace_lines.specs.Offers.{offered, offers, same_name, NoNameTwice}
use Rattle.trace_lines.proofs.Once.{total, total_append}
use Rattle.trace_lines.proofs.Rebuilds.{named_itself}

offers_append : (h g : History) → offers (h ++ g) ≡ offers h ++ offers g
offers_append [] g = refl
offers_append (e ∷ es) g = ap (λ (x : List Job). offered e.call ++ x) (offers_append es g) ∙ sym (append_assoc (offered e.call) (offers es) (offers g))

total_push : (conn : ConnId) (serial : ℕ) (h : History) (e : One) → total conn serial (offers (h ++ e ∷ [])) ≡ total conn serial (offers h) + total conn serial (offered e.call)
total_push conn serial h e =
    ap (total conn serial) (offers_append h (e ∷ [])) ∙ total_append conn serial (offers h) (offered e.call ++ [])
    ∙ ap (λ (x : List Job). total conn serial (offers h) + total conn serial x) (append-nil (offered e.call))

total_none : (conn : ConnId) (serial : ℕ) → total conn serial [] ≡ 0
unfolding total
total_none conn serial = refl

total_single : (conn : ConnId) (serial : ℕ) (job : Job) → total conn serial (job ∷ []) ≡ named conn serial job
unfolding total
total_single conn serial job = omega arith

-- the heard calls of a connection get no fewer
heard_grow : (conn : ConnId) (n : ℕ) (h : History) (e : One) → heard_calls conn (of n h) ≤ heard_calls conn (of n (h ++ e ∷ []))
heard_grow conn n h e = elim (cases_eq e.caller n) [
  | inl c ↦ (let a = heard_push conn (of n h) e in let b : heard_calls conn (of n (h ++ e ∷ [])) ≡ heard_calls conn (of n h ++ e ∷ []) = ap (heard_calls conn) (of_mine n h e c) in omega arith)
  | inr d ↦ (let b : heard_calls conn (of n (h ++ e ∷ [])) ≡ heard_calls conn (of n h) = ap (heard_calls conn) (of_other n h e d) in omega arith)
]

-- a name is offered once, and not before as many calls were heard of its connection
abbrev NamedOnce : History → ConnId → ℕ → Type 0
NamedOnce h conn serial = (total conn serial (offers h) ≤ 1) × (heard_calls conn (of (slot_seat conn.slot) h) ≤ serial → total conn serial (offers h) ≡ 0)

not_offered : (h : History) (e : One) (conn : ConnId) (serial : ℕ) → total conn serial (offered e.call) ≡ 0 → NamedOnce h conn serial → NamedOnce (h ++ e ∷ []) conn serial
not_offered h e conn serial z m = let a = total_push conn serial h e in let b = m.0 in let g = heard_grow conn (slot_seat conn.slot) h e in (omega arith, λ l. let y = m.1 (omega arith) in omega arith)

offered_once : (s0 : State) (h : History) (e : One) (job : Job) → e.call ≡ Offer job → IsFit s0 e.caller (of e.caller h) (Offer job) → ((conn : ConnId) (serial : ℕ) → NamedOnce h conn serial)
    → (conn : ConnId) (serial : ℕ) → NamedOnce (h ++ e ∷ []) conn serial
offered_once s0 h e job c f m conn serial =
    let q : total conn serial (offered e.call) ≡ total conn serial (job ∷ []) = ap (λ (z : LaneCall). total conn serial (offered z)) c in
    let one = total_single conn serial job in
    elim (cases_Bool (same_conn job.conn conn && (job.serial == serial))) [
      | inl t ↦ (let p = and_parts (same_conn job.conn conn) (job.serial == serial) t in let same = conn_is job.conn conn p.0 in let k = eqb-true job.serial serial p.1 in
          let at : heard_calls job.conn (of e.caller h) ≡ heard_calls conn (of (slot_seat conn.slot) h) = ap (λ (z : ℕ). heard_calls job.conn (of z h)) f.0 ∙ ap (λ (z : ConnId). heard_calls z (of (slot_seat z.slot) h)) same in
          let n : job.serial ≡ heard_calls job.conn (of e.caller h) = f.1.2 in let y = (m conn serial).1 (omega arith) in let a = total_push conn serial h e in
          let v : named conn serial job ≡ 1 = ap (λ (b : Bool). if b then 1 else 0) t in let w = heard_push conn (of (slot_seat conn.slot) h) e in
          let u : heard_calls conn (of (slot_seat conn.slot) (h ++ e ∷ [])) ≡ heard_calls conn (of (slot_seat conn.slot) h ++ e ∷ []) = ap (heard_calls conn) (of_mine (slot_seat conn.slot) h e (f.0 ∙ ap (λ (z : ConnId). slot_seat z.slot) same)) in
          let x : ◌≡◌ {A = ℕ} (cond (is_heard conn e.call) 1 0) 1 = ap (λ (z : LaneCall). cond {A = ℕ} (is_heard conn z) 1 0) c ∙ ap (λ (b : Bool). cond {A = ℕ} b 1 0) p.0 in
          (omega arith, λ l. absurd (omega arith)))
      | inr t ↦ not_offered h e conn serial (let v : named conn serial job ≡ 0 = ap (λ (b : Bool). if b then 1 else 0) t in omega arith) (m conn serial)
    ]

none_offered : (h : History) (e : One) (call : LaneCall) → e.call ≡ call → offered call ≡ [] → ((conn : ConnId) (serial : ℕ) → NamedOnce h conn serial) → (conn : ConnId) (serial : ℕ) → NamedOnce (h ++ e ∷ []) conn serial
none_offered h e call c none m conn serial =
    not_offered h e conn serial (ap (λ (z : LaneCall). total conn serial (offered z)) c ∙ ap (total conn serial) none ∙ total_none conn serial) (m conn serial)

once_step : (s0 : State) (h : History) (e : One) (call : LaneCall) → e.call ≡ call → IsFit s0 e.caller (of e.caller h) call → ((conn : ConnId) (serial : ℕ) → NamedOnce h conn serial)
    → (conn : ConnId) (serial : ℕ) → NamedOnce (h ++ e ∷ []) conn serial
once_step s0 h e (Offer job) c f m = offered_once s0 h e job c f m
once_step s0 h e (Post n) c f m = none_offered h e (Post n) c refl m
once_step s0 h e (Cancel conn id) c f m = none_offered h e (Cancel conn id) c refl m
once_step s0 h e (Take t) c f m = none_offered h e (Take t) c refl m
once_step s0 h e (Finish t a) c f m = none_offered h e (Finish t a) c refl m
once_step s0 h e (Collect conn) c f m = none_offered h e (Collect conn) c refl m
once_step s0 h e (End conn how) c f m = none_offered h e (End conn how) c refl m
once_step s0 h e (Leave slot) c f m = none_offered h e (Leave slot) c refl m

once_first : (conn : ConnId) (serial : ℕ) → NamedOnce [] conn serial
unfolding total
once_first conn serial = (omega arith, λ l. refl)

-- each request that is there counts
at_least : (conn : ConnId) (serial : ℕ) (jobs : List Job) (k : ℕ) (b : Job) → slice_get jobs k ≡ Some b → named conn serial b ≤ total conn serial jobs
unfolding total
at_least conn serial [] k b g = absurd (none-some b g)
at_least conn serial (j ∷ js) zero b g = let s : named conn serial j ≡ named conn serial b = ap (named conn serial) (same_Some j b g) in omega arith
at_least conn serial (j ∷ js) (suc k) b g = let h = at_least conn serial js k b g in omega arith

-- two of one name count twice
both_count : (a b : Job) → same_name a b ≡ true → named a.conn a.serial b ≡ 1
both_count a b same =
    let p = and_parts (same_conn a.conn b.conn) (a.serial == b.serial) same in
    (λ i. named (conn_is a.conn b.conn p.0 i) (eqb-true a.serial b.serial p.1 i) b) ∙ named_itself b

no_name_twice : (jobs : List Job) → ((conn : ConnId) (serial : ℕ) → total conn serial jobs ≤ 1) → NoNameTwice jobs
unfolding total
no_name_twice [] few i k a b g h same = absurd (none-some a g)
no_name_twice (j ∷ js) few zero zero a b g h same = refl
no_name_twice (j ∷ js) few zero (suc k) a b g h same =
    absurd (let x = few a.conn a.serial in let y = at_least a.conn a.serial js k b h in let v = both_count a b same in
    let u : named a.conn a.serial j ≡ 1 = ap (named a.conn a.serial) (same_Some j a g) ∙ named_itself a in omega arith)
no_name_twice (j ∷ js) few (suc i) zero a b g h same =
    absurd (let x = few a.conn a.serial in let y = at_least a.conn a.serial js i a g in let v = both_count a b same in
    let u : named a.conn a.serial j ≡ named a.conn a.serial b = ap (named a.conn a.serial) (same_Some j b h) in let w = named_itself a in omega arith)
no_name_twice (j ∷ js) few (suc i) (suc k) a b g h same = ap suc (no_name_twice js (λ conn serial. (let x = few conn serial in omega arith)) i k a b g h same)

pub fit_offers_once : (s : State) (h : History) → IsLegal s h → AreFit s h → NoNameTwice (offers h)
fit_offers_once s h l f =
    no_name_twice (offers h) (λ conn serial. (along s (λ z x. (c : ConnId) (n : ℕ) → NamedOnce z c n) (λ z x e m r q w g. once_step s z e e.call refl g m) [] h s once_first l f conn serial).0)
