-- Whether a call of a connection was answered Closing, after one more call.
use Rattle.std.proofs.Common.{◌≡◌, ℕ, Bool, true, false, eqb, ◌&&◌, ◌||◌, [], ◌∷◌, ◌++◌, sym, refl, ap, ◌∙◌, ne_eqb}
use Rattle.std.proofs.Math.Bool.{or-false, and-false}
use Rattle.std.proofs.lemmas.Bool.{and_parts, eqb-true}
use Rattle.turn_cell.specs.Good.{entry}
use Rattle.orb_base.specs.Conn.{same_conn}
use Rattle.orb_base.specs.declared.conn_id.ConnId.{ConnId}
use Rattle.lane_machine.specs.Callers.{is_heard, is_closing, was_closed}
use Rattle.lane_machine.specs.Entries.{One}
use Rattle.lane_machine.specs.Histories.{History}
use Rattle.lane_laws.proofs.Marks.{closed_push}
use Rattle.lane_machine.specs.declared.call.How.{How}
use Rattle.lane_machine.specs.declared.call.LaneCall.{LaneCall}
use Rattle.lane_machine.specs.declared.call.LaneCall.TheVariants.{Offer, Post, Cancel, Take, Finish, Collect, End, Leave}
use Rattle.lane_machine.specs.declared.call.LaneReply.{LaneReply}

-- that is heard of the connection
pub closed_heard : (conn : ConnId) (mine new : History) (n : ℕ) (call : LaneCall) (r : LaneReply) (closed : Bool) → closed ≡ was_closed conn mine → is_heard conn call ≡ true
    → new ≡ mine ++ entry n call r ∷ [] → (closed || is_closing r) ≡ was_closed conn new
closed_heard conn mine new n call r closed c h w =
    let last : (is_heard conn call && is_closing r || false) ≡ is_closing r = ap (λ (b : Bool). b && is_closing r || false) h ∙ or-false (is_closing r) in
    sym (ap (was_closed conn) w ∙ (closed_push conn mine (entry n call r) ∙ (ap (λ (b : Bool). b || (is_heard conn call && is_closing r || false)) (sym c) ∙ ap (λ (b : Bool). closed || b) last)))

-- that is not heard of the connection
other_push : (conn : ConnId) (mine : History) (e : One) → is_heard conn e.call ≡ false → was_closed conn (mine ++ e ∷ []) ≡ was_closed conn mine
other_push conn mine e h = closed_push conn mine e ∙ (ap (λ (b : Bool). was_closed conn mine || (b && is_closing e.reply || false)) h ∙ or-false (was_closed conn mine))

other_conn : (conn other : ConnId) (c : ConnId) → same_conn c conn ≡ true → (conn.nth ≡ other.nth → ⊥) → same_conn c other ≡ false
other_conn conn other c h d =
    let nth : c.nth ≡ conn.nth = eqb-true c.nth conn.nth (and_parts (eqb c.slot conn.slot) (eqb c.nth conn.nth) h).1 in
    ap (λ (b : Bool). eqb c.slot other.slot && b) (ne_eqb c.nth other.nth (λ e. d (sym nth ∙ e))) ∙ and-false (eqb c.slot other.slot)

-- what is heard of a connection is heard of no other
pub other_heard : (conn other : ConnId) (call : LaneCall) → is_heard conn call ≡ true → (conn.nth ≡ other.nth → ⊥) → is_heard other call ≡ false
other_heard conn other (Offer job) h d = other_conn conn other job.conn h d
other_heard conn other (Post notice) h d = other_conn conn other notice.conn h d
other_heard conn other (Cancel c id) h d = other_conn conn other c h d
other_heard conn other (Take t) h d = refl
other_heard conn other (Finish t answer) h d = refl
other_heard conn other (Collect c) h d = refl
other_heard conn other (End c how) h d = refl
other_heard conn other (Leave slot) h d = refl

-- an End is heard of no connection
pub closed_end : (conn ended : ConnId) (how : How) (mine new : History) (n : ℕ) (r : LaneReply) (closed : Bool) → closed ≡ was_closed conn mine → new ≡ mine ++ entry n (End ended how) r ∷ [] → closed ≡ was_closed conn new
closed_end conn ended how mine new n r closed c w = c ∙ sym (ap (was_closed conn) w ∙ other_push conn mine (entry n (End ended how) r) refl)
