-- The law of length: each job has a Begin and a Commit.
use Rattle.std.specs.Prelude.{◌≡◌, ℕ, ◌+◌, ◌*◌, ◌/◌, ◌<◌, ◌≤◌, true, List, [], ◌∷◌, ◌++◌, length, Option, Some, None}
use Rattle.std.proofs.Common.{cond, length-append, inl, inr, sym, subst, refl, ap, ◌∙◌, arith}
use native.Mathlib.Nat.{div-add-mod'}
use Rattle.std.proofs.lemmas.Bool.{cases_eq}
use Rattle.orb_base.specs.JobRecord.{JobRecord}
use Rattle.orb_base.specs.declared.outcome.Outcome.{Outcome}
use Rattle.turn_cell.specs.History as history
use Rattle.flat_seats.specs.Bounded.{AreAmong, HaveAtMost}
use Rattle.flat_seats.proofs.Along.{along}
use Rattle.flat_seats.proofs.Bounds.{no_more, has_room}
use Rattle.flat_seats.proofs.Own.{of_mine, of_other, count_push}
use Rattle.object_cell.specs.declared.call.ObjectCall.{ObjectCall}
use Rattle.object_cell.specs.declared.call.ObjectCall.TheVariants.{Begin, Commit}
use Rattle.object_cell.specs.declared.call.ObjectReply.{ObjectReply}
use Rattle.object_cell.specs.declared.call.ObjectReply.TheVariants.{Value, Stored}
use Rattle.object_cell.specs.Machine.{Machine, One, History, is_ready, step, IsSound}
use Rattle.object_cell.specs.Callers.{is_begin, begins, latest, IsFree, MayCall, IsFit}
use Rattle.object_cell.specs.Held.{latest_push}
use Rattle.object_cell.specs.Laws.{IsLegal, AreFit, of, room_of}

-- how many Commits are still to come after the last reply
abbrev owed : {V : Type 0} → Option (ObjectReply V) → ℕ
owed None = 0
owed (Some Stored) = 0
owed (Some (Value v)) = 1

free_owes_none : {V : Type 0} (o : Option (ObjectReply V)) → IsFree o → owed o ≡ 0
free_owes_none None f = refl
free_owes_none (Some Stored) f = refl
free_owes_none (Some (Value v)) f = absurd f

parts_within : (slots share jobs : ℕ) → share ≡ jobs / slots → slots * (2 * share) ≤ 2 * jobs
parts_within slots share jobs e = let a = div-add-mod' jobs slots in grind arith

module _ {S V : Type 0} (mine : History S V) (e : One S V) where
  begins_push : (call : ObjectCall V) → e.call ≡ call → begins (mine ++ e ∷ []) ≡ begins mine + cond {A = ℕ} (is_begin call) 1 0
  begins_push call c = count_push (λ z. is_begin z.call) mine e
      ∙ ap (λ (z : ObjectCall V). begins mine + cond {A = ℕ} (is_begin z) 1 0) c

  owed_push : (r : ObjectReply V) → e.reply ≡ r → owed (latest None (mine ++ e ∷ [])) ≡ owed (Some r)
  owed_push r p = ap owed (latest_push None mine e ∙ ap Some p)

module _ {S V : Type 0} (staged : S → List ℕ → JobRecord → Option V → Outcome × Option V) (x : Machine S V) where
  -- a caller's entries are two for each Begin but for the Commit that is still to come, and it has no more Begins than its share
  record InTurn (mine : History S V) : Type 0 where
    pairs : length mine + owed (latest None mine) ≡ 2 * begins mine
    few : begins mine ≤ x.share

  turn_call : (mine : History S V) (m : Machine S V) (e : One S V) (call : ObjectCall V) → e.call ≡ call → InTurn mine
      → e.reply ≡ (step m call).1 → MayCall staged x mine call → InTurn (mine ++ e ∷ [])
  turn_call mine m e (Begin by) c t p f =
      let a = begins_push mine e (Begin by) c in let b = owed_push mine e (Value m.value) p in let l = length-append mine (e ∷ []) in
      let z = free_owes_none (latest None mine) f.0 in let q = t.pairs in let u = f.1 in
      record { pairs = omega arith; few = omega arith }
  turn_call mine m e (Commit by job outcome value) c t p f =
      let a = begins_push mine e (Commit by job outcome value) c in let b = owed_push mine e Stored p in
      let l = length-append mine (e ∷ []) in let z : owed (latest None mine) ≡ 1 = ap owed f.1 in let q = t.pairs in let u = t.few in
      record { pairs = omega arith; few = omega arith }

  -- so are each caller's
  abbrev EachInTurn : History S V → Machine S V → Type 0
  EachInTurn h m = (n : ℕ) → InTurn (of n h)

  turn_step : (h : History S V) (m : Machine S V) (e : One S V) → EachInTurn h m → is_ready m e.call ≡ true → IsSound staged m e.call
      → e.reply ≡ (step m e.call).1 → IsFit staged x e.caller (of e.caller h) e.call → EachInTurn (h ++ e ∷ []) (step m e.call).0
  turn_step h m e t r s p f = λ n. elim (cases_eq e.caller n) [
    | inl same ↦ (let may = subst (λ (k : ℕ). MayCall staged x (of k h) e.call) same f.3 in
        subst InTurn (sym (of_mine n h e same)) (turn_call (of n h) m e e.call refl (t n) p may))
    | inr differs ↦ subst InTurn (sym (of_other n h e differs)) (t n)
  ]

  turn_first : EachInTurn [] x
  turn_first n = record { pairs = refl; few = omega arith }

  in_turn : (h : History S V) → IsLegal staged x h → AreFit staged x h → (n : ℕ) → InTurn (of n h)
  in_turn h l f = along is_ready (IsSound staged) step (IsFit staged) x EachInTurn turn_step [] h x turn_first l f

  among : (before h : History S V) → history.FitFrom (IsFit staged) x before h → AreAmong 1 x.slots h
  among before [] f = tt
  among before (e ∷ es) f = ((f.0.1, (let a = f.0.2 in omega arith)), among (before ++ e ∷ []) es f.1)

  at_most : (h : History S V) → IsLegal staged x h → AreFit staged x h → HaveAtMost (2 * x.share) h
  at_most h l f n = let t = in_turn h l f n in let p = t.pairs in let q = t.few in omega arith

  -- a caller that may still make a call has fewer entries
  lacks : (mine : History S V) (call : ObjectCall V) → InTurn mine → MayCall staged x mine call → length mine < 2 * x.share
  lacks mine (Begin by) t f = let p = t.pairs in let u = f.1 in omega arith
  lacks mine (Commit by job outcome value) t f =
      let p = t.pairs in let q = t.few in let z : owed (latest None mine) ≡ 1 = ap owed f.1 in omega arith

  -- a history is no longer than its room
  pub is_long_enough : (h : History S V) → IsLegal staged x h → AreFit staged x h → length h ≤ room_of x
  is_long_enough h l f = no_more 1 x.slots (2 * x.share) h (among [] h f) (at_most h l f)

  -- and shorter where a call may still be made
  pub has_room_for : (h : History S V) (n : ℕ) (c : ObjectCall V) → IsLegal staged x h → AreFit staged x h → IsFit staged x n (of n h) c
      → length h < room_of x
  has_room_for h n c l f g = let a = g.2 in let short = lacks (of n h) c (in_turn h l f n) g.3 in
      has_room 1 x.slots (2 * x.share) n h (among [] h f) (at_most h l f) g.1 (omega arith) short

  -- so than twice the jobs of which each slot may run an equal part
  pub has_room_in : (h : History S V) (n : ℕ) (c : ObjectCall V) (jobs : ℕ) → x.share ≡ jobs / x.slots → IsLegal staged x h
      → AreFit staged x h → IsFit staged x n (of n h) c → length h < 2 * jobs
  has_room_in h n c jobs e l f g = let a = has_room_for h n c l f g in let b = parts_within x.slots x.share jobs e in omega arith
