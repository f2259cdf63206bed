-- What a client is told is what the map answers.
use Rattle.std.proofs.Common.{◌≡◌, ◌⊎◌, ℕ, Bool, true, false, ◌==◌, if◌then◌else◌, List, [], ◌∷◌, ◌++◌, inl, inr, ⊎_elim, refl, sym, ap, subst, ◌∙◌}
use Rattle.orb_base.specs.declared.answer.Answer.{Answer}
use Rattle.orb_base.specs.declared.order.Order.{Order}
use Rattle.orb_base.specs.declared.outcome.Outcome.{Outcome}
use Rattle.turn_cell.specs.declared.entry.Entry.{Entry}
use Rattle.turn_cell.specs.Good.{entry}
use Rattle.turn_cell.specs.History.{of, replay, Legal}
use Rattle.turn_cell.specs.Numbers.{Each}
use Rattle.flat_seats.proofs.Along.{answered_at}
use Rattle.name_map.specs.declared.binding.Binding.{Binding}
use Rattle.name_map.specs.declared.call.NamesCall.{NamesCall}
use Rattle.name_map.specs.declared.call.NamesReply.{NamesReply}
use Rattle.name_map.specs.Callers.{History}
use Rattle.name_map.specs.Machine.{step}
use Rattle.name_calls.specs.Answers.{answer}
use Rattle.name_calls.specs.declared.meaning.Meaning.{Meaning}
use Rattle.name_calls.specs.declared.meaning.Meaning.TheVariants.{Asks, Tells}
use Rattle.names_hall.specs.Closing.{IsLawful}
use Rattle.names_hall.specs.Entering.{meaning_of, ComesTo, EntersBy, AreEntered, none, one}
use Rattle.names_hall.specs.Laws.{reply_after, IsToldBy, TellsTruly}

abbrev One : Type 0
One = Entry (List Binding) NamesCall NamesReply

abbrev In : One → History → Type 0
In e [] = ⊥
In e (x ∷ xs) = (x ≡ e) ⊎ In e xs

in_left : (e : One) (xs ys : History) → In e xs → In e (xs ++ ys)
in_left e [] ys i = absurd i
in_left e (x ∷ xs) ys (inl same) = inl same
in_left e (x ∷ xs) ys (inr i) = inr (in_left e xs ys i)

in_right : (e : One) (xs ys : History) → In e ys → In e (xs ++ ys)
in_right e [] ys i = i
in_right e (x ∷ xs) ys i = inr (in_right e xs ys i)

pick : (b : Bool) (x : One) (rest : History) (e : One) → In e (if b then x ∷ rest else rest) → (x ≡ e) ⊎ In e rest
pick true x rest e i = i
pick false x rest e i = inr i

-- the place of an entry in the history
abbrev Place : History → One → Type 0
Place h e = (before : History) × (after : History) × (h ≡ before ++ e ∷ after)

later_place : (x : One) (xs : History) (e : One) → Place xs e → Place (x ∷ xs) e
later_place x xs e (before, after, is) = (x ∷ before, after, ap (λ (z : History). x ∷ z) is)

place : (n : ℕ) (h : History) (e : One) → In e (of n h) → Place h e
place n [] e i = absurd i
place n (x ∷ xs) e i = ⊎_elim
    (λ (same : x ≡ e). ([], xs, ap (λ (z : One). z ∷ xs) same))
    (λ (later : In e (of n xs)). later_place x xs e (place n xs e later))
    (pick (x.caller == n) x (of n xs) e i)

each_push : (P : Answer → Type 0) (xs : List Answer) (x : Answer) → Each P xs → P x → Each P (xs ++ x ∷ [])
each_push P [] x a p = (p, tt)
each_push P (y ∷ ys) x a p = (a.0, each_push P ys x a.1 p)

module _ (h : History) (seat : ℕ) (lawful : IsLawful h) where
  told_at : (order : Order) (ask : NamesCall) (reply : NamesReply) (outcome : Outcome) → Place h (entry seat ask reply) → ComesTo (answer order reply) outcome
      → IsToldBy h seat order (Asks ask) outcome
  told_at order ask reply outcome (before, after, is) comes =
      let same : reply ≡ reply_after before ask
      = answered_at (λ _ _. true) (λ _ _. Unit {0}) step [] before after (entry seat ask reply) (subst (λ (z : History). Legal (λ _ _. true) (λ _ _. Unit {0}) step [] z) is lawful.legal) in
      inl (record {
        before = before;
        after = after;
        there = is ∙ ap (λ (r : NamesReply). before ++ entry seat ask r ∷ after) same;
        comes = subst (λ (r : NamesReply). ComesTo (answer order r) outcome) same comes;
      })

  told_one : (order : Order) (m : Meaning) (outcome : Outcome) (entries : History) → EntersBy seat order m outcome entries
      → ((e : One) → In e entries → In e (of seat h)) → IsToldBy h seat order m outcome
  told_one order (Asks ask) outcome entries (inl (reply, is, comes)) within =
      told_at order ask reply outcome
      (place seat h (entry seat ask reply) (within (entry seat ask reply) (subst (λ (z : History). In (entry seat ask reply) z) (sym is) (inl refl)))) comes
  told_one order (Asks ask) outcome entries (inr x) within = inr x.1
  told_one order (Tells own) outcome entries x within = x.1

  abbrev IsTold : Answer → Type 0
  IsTold a = IsToldBy h seat a.job.order (meaning_of a.job) a.outcome

  told_all : (done : List Answer) (mine : History) → AreEntered seat done mine → ((e : One) → In e mine → In e (of seat h)) → Each IsTold done
  told_all done mine none within = tt
  told_all done mine (one before old last entries a e) within =
      each_push IsTold before last (told_all before old a (λ x i. within x (in_left x old entries i)))
      (told_one last.job.order (meaning_of last.job) last.outcome entries e (λ x i. within x (in_right x old entries i)))

pub tells_truly : TellsTruly
tells_truly h seat done lawful entered = told_all h seat lawful done (of seat h) entered (λ e i. i)
