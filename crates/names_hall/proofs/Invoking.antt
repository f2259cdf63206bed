-- What an invocation does to the hand that makes it.
use Rattle.std.proofs.Common.{◌≡◌, ◌<◌, ◌≤◌, ◌+◌, ℕ, List, [], ◌∷◌, ◌++◌, length, inl, inr, sym, refl, ap, ◌∙◌, subst, arith, append-nil, length-append}
use Rattle.orb_base.specs.JobRecord.{JobRecord}
use Rattle.orb_base.specs.Outcomes.{no_memory}
use Rattle.orb_base.specs.declared.answer.Answer.{Answer}
use Rattle.orb_base.specs.declared.outcome.Outcome.{Outcome}
use Rattle.turn_cell.specs.Calls.{IsLater}
use Rattle.turn_cell.specs.Good.{entry}
use Rattle.name_map.specs.declared.limits.TheConstants.{MAX_CALLERS}
use Rattle.name_map.specs.declared.call.NamesCall.{NamesCall}
use Rattle.name_map.specs.declared.call.NamesReply.{NamesReply}
use Rattle.name_map.specs.Callers.{History}
use Rattle.name_calls.specs.Answers.{answer}
use Rattle.name_calls.specs.declared.meaning.Meaning.{Meaning}
use Rattle.name_calls.specs.declared.meaning.Meaning.TheVariants.{Asks, Tells}
use Rattle.names_hall.specs.Hands.{Cell, Sitting, Hand}
use Rattle.names_hall.specs.Entering.{meaning_of, ComesTo, EntersBy, Enters, AreEntered, none, one}
use Rattle.names_hall.specs.Seats.{seat_of, Makes, MayCall, Invokes, IsHandOf}

-- the entries of an invocation are one at most
one_at_most : (seat : ℕ) (a : Answer) (m : Meaning) (entries : History) → EntersBy seat a.job.order m a.outcome entries → length entries ≤ 1
one_at_most seat a (Asks ask) entries (inl x) = let e : length entries ≡ 1 = ap length x.1 in omega arith
one_at_most seat a (Asks ask) entries (inr x) = let e : length entries ≡ 0 = ap length x.0 in omega arith
one_at_most seat a (Tells own) entries x = let e : length entries ≡ 0 = ap length x.0 in omega arith

-- no more entries than invocations
pub few_entries : (seat : ℕ) (done : List Answer) (mine : History) → AreEntered seat done mine → length mine ≤ length done
few_entries seat done mine none = omega arith
few_entries seat done mine (one before old last entries a e) =
    let k = few_entries seat before old a in
    let l = one_at_most seat last (meaning_of last.job) entries e in
    let m = length-append old entries in
    let n = length-append before (last ∷ []) in
    omega arith

pub may_call : (cell : Cell) (hand : Hand) → IsHandOf cell hand → 0 < hand.spare → MayCall cell hand.seat
may_call cell hand x spare = let short = few_entries (seat_of hand.slot) hand.done hand.seat.mine x.entered in
    let n = x.number_is in let s = x.slot_is in let all = x.share in record {
      in_cell = x.in_cell;
      some = omega arith;
      few = omega arith;
      left = omega arith;
    }

-- nothing was called
quiet : (seat : Sitting) → IsLater seat seat
quiet seat = (refl, refl, refl, refl, refl, ([], sym (append-nil seat.seen)))

-- out of memory before the call
lacking : (seat : ℕ) (job : JobRecord) (m : Meaning) → EntersBy seat job.order m no_memory []
lacking seat job (Asks ask) = inr (refl, refl)
lacking seat job (Tells own) = (refl, inr refl)

pub lacks : (job : JobRecord) (outcome : Outcome) (seat : Sitting) → outcome ≡ no_memory → Invokes job outcome seat seat
lacks job outcome seat e = record {
  entries = [];
  enters = subst (λ (o : Outcome). EntersBy seat.number job.order (meaning_of job) o []) (sym e) (lacking seat.number job (meaning_of job));
  mine_is = sym (append-nil seat.mine);
  later = quiet seat;
}

pub tells : (job : JobRecord) (own : Outcome) (seat : Sitting) → Tells own ≡ meaning_of job → Invokes job own seat seat
tells job own seat e = record {
  entries = [];
  enters = subst (λ (m : Meaning). EntersBy seat.number job.order m own []) e (refl, inl refl);
  mine_is = sym (append-nil seat.mine);
  later = quiet seat;
}

pub asks : (cell : Cell) (job : JobRecord) (call : NamesCall) (reply : NamesReply) (outcome : Outcome) (old new : Sitting) → Asks call ≡ meaning_of job
    → Makes cell call reply old new → ComesTo (answer job.order reply) outcome → Invokes job outcome old new
asks cell job call reply outcome old new e made comes = record {
  entries = entry old.number call reply ∷ [];
  enters = subst (λ (m : Meaning). EntersBy old.number job.order m outcome (entry old.number call reply ∷ [])) e (inl (reply, refl, comes));
  mine_is = made.2;
  later = made.0;
}

-- the hand after an invocation is one of the map too
pub still_of : (cell : Cell) (job : JobRecord) (outcome : Outcome) (old new : Hand) → IsHandOf cell old → Invokes job outcome old.seat new.seat
    → new.slot ≡ old.slot → new.done ≡ old.done ++ (record { job = job; outcome = outcome }) ∷ [] → old.spare ≡ new.spare + 1 → IsHandOf cell new
still_of cell job outcome old new x i slot done spare =
    let a : Answer = record { job = job; outcome = outcome } in
    let l = i.later in
    let number : old.seat.number ≡ seat_of new.slot = x.number_is ∙ ap seat_of (sym slot) in
    let enters : Enters (seat_of new.slot) a i.entries = subst (λ (n : ℕ). Enters n a i.entries) number i.enters in
    let before : AreEntered (seat_of new.slot) old.done old.seat.mine = subst (λ (n : ℕ). AreEntered (seat_of n) old.done old.seat.mine) (sym slot) x.entered in
    let more : AreEntered (seat_of new.slot) (old.done ++ a ∷ []) (old.seat.mine ++ i.entries) = one old.done old.seat.mine a i.entries before enters in
    let long : length new.done ≡ length old.done + 1 = ap length done ∙ length-append old.done (a ∷ []) in
    let all = x.share in record {
      in_cell = (l.0 ∙ x.in_cell.0, l.1 ∙ x.in_cell.1);
      number_is = l.2 ∙ number;
      slot_is = subst (λ (n : ℕ). n < MAX_CALLERS) (sym slot) x.slot_is;
      unsplit = l.3 ∙ x.unsplit;
      alone = l.4 ∙ x.alone;
      entered = subst (λ (d : List Answer). AreEntered (seat_of new.slot) d new.seat.mine) (sym done) (subst (λ (m : History). AreEntered (seat_of new.slot) (old.done ++ a ∷ []) m) (sym i.mine_is) more);
      share = omega arith;
    }
