-- A history that offers no request twice admits none twice.
use Rattle.std.proofs.Common.{◌≡◌, ℕ, ◌+◌, ◌≤◌, suc, Bool, true, false, ◌&&◌, ◌==◌, List, [], ◌∷◌, ◌++◌, Some, inl, inr, refl, sym, ap, ◌∙◌, arith, eq-eqb}
use Rattle.std.specs.Prelude.{slice_get, if◌then◌else◌}
use Rattle.std.proofs.lemmas.Bool.{cases_Bool, and_parts, and_from, eqb-true}
use Rattle.std.proofs.lemmas.List.Sums.{sum_by-cons}
use Rattle.orb_base.specs.Conn.{same_conn}
use Rattle.orb_base.specs.declared.conn_id.ConnId.{ConnId}
use Rattle.orb_base.specs.declared.job.Job.{Job}
use Rattle.lane_machine.specs.declared.call.LaneCall.{LaneCall}
use Rattle.lane_machine.specs.declared.call.LaneCall.TheVariants.{Offer, Post, Cancel, Take, Finish, Collect, End, Leave}
use Rattle.lane_machine.specs.declared.call.LaneReply.{LaneReply}
use Rattle.lane_machine.specs.declared.call.LaneReply.TheVariants as reply
use Rattle.lane_machine.specs.Entries.{One}
use Rattle.lane_machine.specs.Histories.{History}
use Rattle.trace_lines.specs.Offers.{offered, offers, same_name, NoNameTwice}
use Rattle.lane_machine.specs.Fates.{named, admits, admitted}
use Rattle.trace_lines.proofs.Offered.{pred_same}

-- the sum over requests
unfoldable pub total : ConnId → ℕ → List Job → ℕ
total conn serial [] = 0
total conn serial (j ∷ js) = named conn serial j + total conn serial js

pub total_append : (conn : ConnId) (serial : ℕ) (a b : List Job) → total conn serial (a ++ b) ≡ total conn serial a + total conn serial b
unfolding total
total_append conn serial [] b = omega arith
total_append conn serial (j ∷ js) b = let h = total_append conn serial js b in omega arith

admit_few : (conn : ConnId) (serial : ℕ) (job : Job) (r : LaneReply) → admits conn serial (Offer job) r ≤ named conn serial job
admit_few conn serial job (reply.Run t lent) = omega arith
admit_few conn serial job reply.Kept = omega arith
admit_few conn serial job _ = omega arith

entry_few : (conn : ConnId) (serial : ℕ) (c : LaneCall) (r : LaneReply) → admits conn serial c r ≤ total conn serial (offered c)
unfolding total
entry_few conn serial (Offer job) r = let h = admit_few conn serial job r in omega arith
entry_few conn serial (Post n) r = omega arith
entry_few conn serial (Cancel c id) r = omega arith
entry_few conn serial (Take t) r = omega arith
entry_few conn serial (Finish t a) r = omega arith
entry_few conn serial (Collect c) r = omega arith
entry_few conn serial (End c how) r = omega arith
entry_few conn serial (Leave slot) r = omega arith

admitted_few : (conn : ConnId) (serial : ℕ) (h : History) → admitted conn serial h ≤ total conn serial (offers h)
unfolding total
admitted_few conn serial [] = omega arith
admitted_few conn serial (e ∷ es) =
    let a = entry_few conn serial e.call e.reply in let b = admitted_few conn serial es in
    let c = sum_by-cons (λ (z : One). admits conn serial z.call z.reply) e es in let d = total_append conn serial (offered e.call) (offers es) in omega arith

-- a request of a name, or none of these
is_named : (conn : ConnId) (serial : ℕ) (job : Job) → (same_conn job.conn conn && (job.serial == serial)) ≡ false → named conn serial job ≡ 0
is_named conn serial job f = ap (λ (b : Bool). if b then 1 else 0) f

-- two requests of one name have one name
share : (conn : ConnId) (serial : ℕ) (a b : Job) → (same_conn a.conn conn && (a.serial == serial)) ≡ true → (same_conn b.conn conn && (b.serial == serial)) ≡ true → same_name a b ≡ true
share conn serial a b p q =
    let x = and_parts (same_conn a.conn conn) (a.serial == serial) p in let y = and_parts (same_conn b.conn conn) (b.serial == serial) q in
    let u = and_parts (a.conn.slot == conn.slot) (a.conn.nth == conn.nth) x.0 in let v = and_parts (b.conn.slot == conn.slot) (b.conn.nth == conn.nth) y.0 in
    and_from _ _
    (and_from _ _ (eq-eqb a.conn.slot b.conn.slot (eqb-true a.conn.slot conn.slot u.0 ∙ sym (eqb-true b.conn.slot conn.slot v.0))) (eq-eqb a.conn.nth b.conn.nth (eqb-true a.conn.nth conn.nth u.1 ∙ sym (eqb-true b.conn.nth conn.nth v.1))))
    (eq-eqb a.serial b.serial (eqb-true a.serial serial x.1 ∙ sym (eqb-true b.serial serial y.1)))

none_more : (conn : ConnId) (serial : ℕ) (jobs : List Job) → ((k : ℕ) (b : Job) → slice_get jobs k ≡ Some b → (same_conn b.conn conn && (b.serial == serial)) ≡ false) → total conn serial jobs ≡ 0
unfolding total
none_more conn serial [] h = refl
none_more conn serial (j ∷ js) h = let a = is_named conn serial j (h 0 j refl) in let b = none_more conn serial js (λ k x g. h (suc k) x g) in omega arith

not_both : (b : Bool) → (b ≡ true → ⊥) → b ≡ false
not_both true f = absurd (f refl)
not_both false f = refl

named_few : (b : Bool) → (if b then 1 else 0) ≤ 1
named_few true = omega arith
named_few false = omega arith

total_one : (conn : ConnId) (serial : ℕ) (jobs : List Job) → NoNameTwice jobs → total conn serial jobs ≤ 1
unfolding total
total_one conn serial [] apart = omega arith
total_one conn serial (j ∷ js) apart = elim (cases_Bool (same_conn j.conn conn && (j.serial == serial))) [
  | inl t ↦ (let rest : total conn serial js ≡ 0 = none_more conn serial js (λ k x g. not_both _ (λ q. (let e : 0 ≡ suc k = apart 0 (suc k) j x refl g (share conn serial j x t q) in omega arith))) in
      let one = named_few (same_conn j.conn conn && (j.serial == serial)) in omega arith)
  | inr f ↦ (let a = is_named conn serial j f in let b = total_one conn serial js (λ i k x y g h same. pred_same i k (apart (suc i) (suc k) x y g h same)) in omega arith)
]

pub admitted_one : (conn : ConnId) (serial : ℕ) (h : History) → NoNameTwice (offers h) → admitted conn serial h ≤ 1
admitted_one conn serial h apart = let a = admitted_few conn serial h in let b = total_one conn serial (offers h) apart in omega arith
