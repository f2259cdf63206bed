-- When a Collect is answered.
use Rattle.std.proofs.Common.{◌≡◌, ◌≢◌, ℕ, Bool, true, false, cond, ◌&&◌, ◌||◌, List, Option, Some, None, Result, Ok, Err, sym, refl, ap, ◌∙◌, arith, eq-eqb}
use Rattle.std.specs.Prelude.{is_some, ◌==◌, IfOk}
use Rattle.std.proofs.lemmas.Bool.{and_from}
use Rattle.orb_base.specs.Conn.{same_conn}
use Rattle.orb_base.specs.declared.conn_id.ConnId.{ConnId}
use Rattle.orb_base.specs.declared.item.Item.{Item}
use Rattle.thread_borrowing.proofs.Places.{at_place, sum_remove}
use Rattle.lane_machine.specs.declared.call.LaneCall.TheVariants.{Collect}
use Rattle.lane_machine.specs.declared.call.LaneReply.TheVariants as reply
use Rattle.lane_machine.specs.State.{State}
use Rattle.lane_machine.specs.Machine.{step, collected, item_conn, item_place, end_of}
use Rattle.lane_machine.specs.Readiness.{is_ready, owed}
use Rattle.lane_machine.proofs.Bounds.{owing, owed_is}
use Rattle.lane_audit.specs.declared.ending.Ending.{Ending}
use Rattle.lane_audit.specs.declared.ending.Ending.TheVariants as ending
use Rattle.lane_audit.specs.Endings.{reply_of_ending}
use Rattle.lane_audit.specs.Counting.{IsCounted}
use Rattle.lane_audit.specs.Verdicts.{Tries, Judges}
use Rattle.lane_audit.proofs.Keeping.{over_hands_none, kept}
use Rattle.lane_audit.proofs.Kept.{ended_kept}

-- nothing is owed, or it ended
abbrev is_over_for : State → ConnId → Bool
is_over_for s conn = (owed s conn == 0) && (is_some (end_of s conn) || s.closing)

ready_by : (s : State) (conn : ConnId) (i : Item) (o : Option ℕ) → item_place s conn ≡ o → reply.Handed i ≡ (collected s conn o).1 → is_ready s (Collect conn) ≡ true
ready_by s conn i (Some at) e is = ap (λ (x : Option ℕ). is_some x || is_over_for s conn) e
ready_by s conn i None e is = absurd (over_hands_none s conn i (end_of s conn) is)

-- a Collect that hands out a message is answered now
pub hand_ready : (s : State) (conn : ConnId) (i : Item) → reply.Handed i ≡ (step s (Collect conn)).1 → is_ready s (Collect conn) ≡ true
hand_ready s conn i is = ready_by s conn i (item_place s conn) refl is

none_by : (s : State) (conn : ConnId) (o : Option ℕ) → item_place s conn ≡ o → owed s conn ≡ 0 → item_place s conn ≡ None
none_by s conn None e z = e
none_by s conn (Some at) e z = absurd (
    let h = at_place (λ (x : Item). same_conn (item_conn x) conn) s.out at e in
    let less = sum_remove (owing conn).owes s.out at h.0 h.1 in
    let one : (owing conn).owes h.0 ≡ 1 = ap (λ (b : Bool). cond b 1 0) h.2 in
    let is = owed_is s conn in omega arith)

-- no message is there where nothing is owed
pub none_owed : (s : State) (conn : ConnId) → owed s conn ≡ 0 → item_place s conn ≡ None
none_owed s conn z = none_by s conn (item_place s conn) refl z

-- a Collect to which nothing is owed is answered once the connection ended or the run closes
pub end_ready : (s : State) (conn : ConnId) → owed s conn ≡ 0 → (is_some (end_of s conn) || s.closing) ≡ true → is_ready s (Collect conn) ≡ true
end_ready s conn z over =
    let inner : is_over_for s conn ≡ true = and_from (owed s conn == 0) (is_some (end_of s conn) || s.closing) (eq-eqb (owed s conn) 0 z) over in
    ap (λ (x : Option ℕ). is_some x || is_over_for s conn) (none_owed s conn z) ∙ inner

ending_hands_none : (e : Ending) (i : Item) → reply_of_ending e ≢ reply.Handed i
ending_hands_none ending.Close i is = absurd (cc)
ending_hands_none ending.Error i is = absurd (cc)
ending_hands_none ending.Done i is = absurd (cc)

-- an ending, whatever is said of it
pub ended_any : {E : Type 0} (s s' : State) (conn : ConnId) (e : Ending) (table : List ℕ) (r : Result Bool E) → is_ready s (Collect conn) ≡ true → Tries s (step s (Collect conn)) (reply_of_ending e) s' r → IsCounted s table → IsCounted s' table
ended_any s s' conn e table (Ok true) ready a k = ended_kept s s' conn (reply_of_ending e) table (λ i is. ending_hands_none e i (sym is)) ready a k
ended_any s s' conn e table (Ok false) ready a k = kept s s' table a.1 k
ended_any s s' conn e table (Err x) ready a k = kept s s' table a k

-- and what it says
pub ended_judged : {E : Type 0} (s s' : State) (conn : ConnId) (e : Ending) (r : Result Bool E) → is_ready s (Collect conn) ≡ true → Tries s (step s (Collect conn)) (reply_of_ending e) s' r
    → IfOk r (λ b. Judges s (Collect conn) (reply_of_ending e) s' b)
ended_judged s s' conn e (Ok true) ready a = (record { ready = ready; sound = tt; answered = a.0 }, a.1)
ended_judged s s' conn e (Ok false) ready a = λ right. a.0 right.answered
ended_judged s s' conn e (Err x) ready a = tt
