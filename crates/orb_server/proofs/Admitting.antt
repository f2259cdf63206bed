-- What waits and what a thread has in hand was admitted.
use Rattle.std.proofs.Common.{◌≡◌, ℕ, [], ◌∷◌, ◌++◌, Some, inl, inr, refl, sym, subst, ◌∙◌}
use Rattle.std.specs.Prelude.{slice_get}
use Rattle.std.proofs.lemmas.Option.{none-some}
use Rattle.orb_base.specs.Pool.{Pool}
use Rattle.orb_base.specs.declared.job.Job.{Job}
use Rattle.lane_machine.specs.State.{State, opening}
use Rattle.lane_machine.specs.Machine.{step}
use Rattle.lane_machine.specs.Histories.{History, IsLegal}
use Rattle.lane_machine.specs.declared.call.LaneCall.{LaneCall}
use Rattle.lane_machine.specs.declared.call.LaneCall.TheVariants.{Offer, Post, Cancel, Take, Finish, Collect, End, Leave}
use Rattle.lane_machine.specs.declared.call.LaneReply.{LaneReply}
use Rattle.lane_machine.specs.declared.call.LaneReply.TheVariants as reply
use Rattle.lane_machine.specs.Entries.{One}
use Rattle.orb_server.proofs.Lanes.{free_lanes}
use Rattle.orb_server.specs.Fates.{Admits, WasAdmitted, TakesAdmitted, RunsAdmitted}
use Rattle.lane_machine.proofs.Known.{AreKnown, If, Offers, step_known, IsTaken, taken_takes}

admitted_before : (h : History) (e : One) (job : Job) → WasAdmitted h job → WasAdmitted (h ++ e ∷ []) job
admitted_before [] e job a = absurd a
admitted_before (d ∷ ds) e job (inl a) = inl a
admitted_before (d ∷ ds) e job (inr a) = inr (admitted_before ds e job a)

admitted_last : (h : History) (e : One) (job : Job) → Admits e.call e.reply job → WasAdmitted (h ++ e ∷ []) job
admitted_last [] e job a = inl a
admitted_last (d ∷ ds) e job a = inr (admitted_last ds e job a)

if_admits : (P : Job → Type 0) (job : Job) (r : LaneReply) → ((j : Job) → Admits (Offer job) r j → P j) → If P job r
if_admits P job (reply.Run t lent) f = f job refl
if_admits P job reply.Kept f = f job refl
if_admits P job _ f = tt

offers_admits : (P : Job → Type 0) (call : LaneCall) (r : LaneReply) → ((j : Job) → Admits call r j → P j) → Offers P call r
offers_admits P (Offer job) r f = if_admits P job r f
offers_admits P (Post notice) r f = tt
offers_admits P (Cancel conn id) r f = tt
offers_admits P (Take t) r f = tt
offers_admits P (Finish t answer) r f = tt
offers_admits P (Collect conn) r f = tt
offers_admits P (End conn h) r f = tt
offers_admits P (Leave slot) r f = tt

take_admitted : (before : History) (t : ℕ) (r : LaneReply) → IsTaken (WasAdmitted before) r → TakesAdmitted before (Take t) r
take_admitted before t (reply.Given job) a = a
take_admitted before t _ a = tt

takes_admitted : (before : History) (s : State) (call : LaneCall) (r : LaneReply) → AreKnown (WasAdmitted before) s → r ≡ (step s call).1 → TakesAdmitted before call r
takes_admitted before s (Take t) r k e = take_admitted before t r (subst (IsTaken (WasAdmitted before)) (sym e) (taken_takes (WasAdmitted before) s t (slice_get s.threads t) refl k))
takes_admitted before s (Offer job) r k e = tt
takes_admitted before s (Post notice) r k e = tt
takes_admitted before s (Cancel conn id) r k e = tt
takes_admitted before s (Finish t answer) r k e = tt
takes_admitted before s (Collect conn) r k e = tt
takes_admitted before s (End conn h) r k e = tt
takes_admitted before s (Leave slot) r k e = tt

known_more : (before : History) (e : One) (s : State) → AreKnown (WasAdmitted before) s → AreKnown (WasAdmitted (before ++ e ∷ [])) s
known_more before e s k = ((λ i job g. admitted_before before e job (k.0 i job g)), (λ t x job g d. admitted_before before e job (k.1 t x job g d)))

admitted_from : (before : History) (s : State) (h : History) → AreKnown (WasAdmitted before) s → IsLegal s h → RunsAdmitted before h
admitted_from before s [] k l = tt
admitted_from before s (e ∷ es) k l =
    let new : (j : Job) → Admits e.call (step s e.call).1 j → WasAdmitted (before ++ e ∷ []) j = λ j a. admitted_last before e j (subst (λ (r : LaneReply). Admits e.call r j) (sym l.2) a) in (
      takes_admitted before s e.call e.reply k l.2,
      admitted_from (before ++ e ∷ []) (step s e.call).0 es
          (step_known (WasAdmitted (before ++ e ∷ [])) s e.call (known_more before e s k) (offers_admits (WasAdmitted (before ++ e ∷ [])) e.call (step s e.call).1 new)) l.3,
    )

none_waits : (k : ℕ) (job : Job) → slice_get {X = Job} [] k ≡ Some job → ⊥
none_waits k job g = none-some job g

pub runs_admitted : (pool : Pool) (slots per_slot : ℕ) (h : History) → IsLegal (opening pool slots per_slot) h → RunsAdmitted [] h
runs_admitted pool slots per_slot h l = admitted_from [] (opening pool slots per_slot) h
    ((λ k job g. none_waits k job g), (λ t x job g d. none-some job (sym (free_lanes t x 0 pool.lanes g) ∙ d))) l
