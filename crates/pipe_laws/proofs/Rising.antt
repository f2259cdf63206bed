-- Where the serials of the calls rise, none is offered twice.
use Rattle.std.proofs.Common.{ℕ, ◌+◌, ◌<◌, ◌≤◌, List, [], ◌∷◌, ◌++◌, sym, subst, arith}
use Rattle.orb_base.specs.Pool.{Pool}
use Rattle.orb_base.specs.declared.conn_id.ConnId.{ConnId}
use Rattle.lane_machine.specs.declared.call.LaneCall.{LaneCall}
use Rattle.lane_machine.specs.declared.call.LaneCall.TheVariants.{Offer, Post, Cancel}
use Rattle.lane_machine.specs.Histories.{History}
use Rattle.pipe_laws.specs.Legality.{AreHeardCalls}
use Rattle.pipe_laws.specs.Serials.{OffersOther, NeverOffers, OffersNew, OffersOnce, in_front, heard_of, RisesFrom, RisingOffersOnce, CountingRises}

never_at : (n k : ℕ) (call : LaneCall) (es : History) (rest : List LaneCall) → RisesFrom n (in_front call (heard_of es) ++ rest) → k < n
    → ((m : ℕ) → RisesFrom m (heard_of es ++ rest) → k < m → NeverOffers k es) → OffersOther k call × NeverOffers k es
never_at n k (Offer job) es rest (from, rises) less later = ((λ is. absurd (omega arith)), later (job.serial + 1) rises (omega arith))
never_at n k (Post notice) es rest (from, rises) less later = (tt, later n rises less)
never_at n k (Cancel c id) es rest (from, rises) less later = (tt, later n rises less)
never_at n k call es rest rises less later = (tt, later n rises less)

never_offers : (n k : ℕ) (h : History) (rest : List LaneCall) → RisesFrom n (heard_of h ++ rest) → k < n → NeverOffers k h
never_offers n k [] rest rises less = tt
never_offers n k (e ∷ es) rest rises less = never_at n k e.call es rest rises less (λ m r l. never_offers m k es rest r l)

new_at : (pool : Pool) (conn : ConnId) (n : ℕ) (call : LaneCall) (es : History) (rest : List LaneCall)
    → AreHeardCalls pool conn (in_front call (heard_of es) ++ rest) → RisesFrom n (in_front call (heard_of es) ++ rest)
    → ((m : ℕ) → AreHeardCalls pool conn (heard_of es ++ rest) → RisesFrom m (heard_of es ++ rest) → OffersOnce conn es)
    → OffersNew conn call es × OffersOnce conn es
new_at pool conn n (Offer job) es rest (is, are) (from, rises) later =
    ((is.0, never_offers (job.serial + 1) job.serial es rest rises (omega arith)), later (job.serial + 1) are rises)
new_at pool conn n (Post notice) es rest (is, are) (from, rises) later = (tt, later n are rises)
new_at pool conn n (Cancel c id) es rest (is, are) (from, rises) later = (tt, later n are rises)
new_at pool conn n call es rest are rises later = (tt, later n are rises)

offers_once : (pool : Pool) (conn : ConnId) (n : ℕ) (h : History) (rest : List LaneCall) → AreHeardCalls pool conn (heard_of h ++ rest)
    → RisesFrom n (heard_of h ++ rest) → OffersOnce conn h
offers_once pool conn n [] rest are rises = tt
offers_once pool conn n (e ∷ es) rest are rises = new_at pool conn n e.call es rest are rises (λ m a r. offers_once pool conn m es rest a r)

pub rising_offers_once : RisingOffersOnce
rising_offers_once pool conn n calls rest h are rises front =
    offers_once pool conn n h rest (subst (AreHeardCalls pool conn) (sym front) are) (subst (RisesFrom n) (sym front) rises)

-- ---- serials that count the calls

rises_lower : (m n : ℕ) (calls : List LaneCall) → m ≤ n → RisesFrom n calls → RisesFrom m calls
rises_lower m n [] less rises = tt
rises_lower m n (Offer job ∷ calls) less (from, rises) = (omega arith, rises)
rises_lower m n (call ∷ calls) less (from, rises) = (tt, rises_lower m n calls less rises)

pub counting_rises : CountingRises
counting_rises n [] counts = tt
counting_rises n (Offer job ∷ calls) (is, counts) =
    (omega arith, rises_lower (job.serial + 1) (n + 1) calls (omega arith) (counting_rises (n + 1) calls counts))
counting_rises n (call ∷ calls) (is, counts) = (tt, rises_lower n (n + 1) calls (omega arith) (counting_rises (n + 1) calls counts))
