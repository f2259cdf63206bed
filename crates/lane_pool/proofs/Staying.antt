-- What a pass keeps after calls, and after a connection.
use Rattle.std.proofs.Common.{◌≡◌, ℕ, suc, ◌+◌, [], ◌∷◌, ◌++◌, sym, refl, ap, ◌∙◌, subst, arith, add-one}
use Rattle.orb_base.specs.declared.job.Job.{Job}
use Rattle.turn_cell.specs.Seats.{CellView}
use Rattle.turn_cell.specs.Calls.{gone}
use Rattle.lane_machine.specs.State.{State}
use Rattle.lane_machine.specs.Callers.{writer_seat}
use Rattle.lane_machine.specs.declared.call.LaneCall.{LaneCall}
use Rattle.lane_machine.specs.declared.call.LaneReply.{LaneReply}
use Rattle.lane_pool.specs.Pass.{Pass}
use Rattle.lane_pool.specs.Passes.{IsIn, Makes, IsFresh, IsLinked, IsUnlinked}
use Rattle.lane_pool.specs.Turns.{IsServing, Reads, Listens, CanTake, Carries, Writes}
use Rattle.lane_pool.specs.Returned.{IsSame, IsHome, IsAlone, pairs, writers}
use Rattle.lane_pool.proofs.Returned.{pairs_both}

module _ (cell : CellView State) where
  same_start : (a : Pass) → IsIn cell a → IsSame cell a a
  same_start a i = record { in_cell = i; who = refl; nth = refl; number = refl; splits = refl; ended = refl }

  same_made : (call : LaneCall) (r : LaneReply) (old new : Pass) → IsIn cell old → Makes cell call r old new → IsSame cell old new
  same_made call r old new i m = let c = m.2.0 in record { in_cell = (c.0 ∙ i.0, c.1 ∙ i.1); who = m.0; nth = m.1; number = c.2; splits = c.3; ended = c.4 }

  pub same_take : (call : LaneCall) (r : LaneReply) (old new : Pass) → CanTake cell old → Makes cell call r old new → IsSame cell old new
  same_take call r old new d m = same_made call r old new d.works.in_cell m

  pub same_finish : (job : Job) (call : LaneCall) (r : LaneReply) (old new : Pass) → Carries cell job old → Makes cell call r old new → IsSame cell old new
  same_finish job call r old new d m = same_made call r old new d.works.in_cell m

  pub same_hear : (call : LaneCall) (r : LaneReply) (old new : Pass) → Listens cell old → Makes cell call r old new → IsSame cell old new
  same_hear call r old new d m = same_made call r old new d.reads.serves.in_cell m

  pub same_end : (call : LaneCall) (r : LaneReply) (old new : Pass) → Reads cell old → Makes cell call r old new → IsSame cell old new
  same_end call r old new d m = same_made call r old new d.serves.in_cell m

  pub same_leave : (call : LaneCall) (r : LaneReply) (old new : Pass) → IsServing cell old.nth old.nth old → Makes cell call r old new → IsSame cell old new
  same_leave call r old new d m = same_made call r old new d.in_cell m

  pub same_collect : (call : LaneCall) (r : LaneReply) (old new : Pass) → Writes cell old → Makes cell call r old new → IsSame cell old new
  same_collect call r old new d m = same_made call r old new d.in_cell m

  pub same_reader : (a : Pass) → Listens cell a → IsSame cell a a
  same_reader a d = same_start a d.reads.serves.in_cell

  pub same_writer : (a : Pass) → Writes cell a → IsSame cell a a
  same_writer a d = same_start a d.in_cell

  pub same_then : (a b c : Pass) → IsSame cell a b → IsSame cell b c → IsSame cell a c
  same_then a b c s t = record { in_cell = t.in_cell; who = t.who ∙ s.who; nth = t.nth ∙ s.nth; number = t.number ∙ s.number; splits = t.splits ∙ s.splits; ended = t.ended ∙ s.ended }

  pub home_same : (slot : ℕ) (a b : Pass) → IsHome cell slot a → IsSame cell a b → IsHome cell slot b
  home_same slot a b h s = record {
    in_cell = s.in_cell;
    who = s.who ∙ h.who;
    number = s.number ∙ h.number;
    splits = s.splits ∙ (h.splits ∙ sym s.nth);
    joined = ap pairs s.ended ∙ (h.joined ∙ ap (writers slot) (sym s.nth));
  }

  pub alone_same : (number : ℕ) (a b : Pass) → IsAlone cell number a → IsSame cell a b → IsAlone cell number b
  alone_same number a b h s = record { in_cell = s.in_cell; number_is = s.number ∙ h.number_is; unsplit = s.splits ∙ h.unsplit; alone = s.ended ∙ h.alone }

  -- after one more connection
  pub home_link : (slot : ℕ) (old reader writer reader' writer' new : Pass) → IsHome cell slot old → IsLinked old reader writer → IsSame cell reader reader' → IsSame cell writer writer' → IsUnlinked reader' writer' new → IsHome cell slot new
  home_link slot old reader writer reader' writer' new h l r w u =
      let nth : new.nth ≡ suc old.nth = u.nth_is ∙ (ap (λ (z : ℕ). z + 1) (r.nth ∙ l.reader_nth) ∙ add-one old.nth) in
      let seat = writer_seat (record { slot = slot; nth = old.nth }) in
      let number : writer'.seat.number ≡ seat = w.number ∙ (l.writes ∙ ap (λ (z : ℕ). writer_seat (record { slot = z; nth = old.nth })) h.who) in
      let none : writer'.seat.splits ≡ 0 = w.splits ∙ l.seats.12 in
      let alone : writer'.seat.ended ≡ [] = w.ended ∙ l.seats.13 in
      let before : pairs reader'.seat.ended ≡ writers slot old.nth = ap pairs (r.ended ∙ l.seats.6) ∙ h.joined in
      let mine : pairs (gone writer'.seat ∷ writer'.seat.ended) ≡ (seat, 0) ∷ [] = λ i. (number i, none i) ∷ pairs (alone i) in
      let both : pairs reader'.seat.ended ++ pairs (gone writer'.seat ∷ writer'.seat.ended) ≡ writers slot old.nth ++ (seat, 0) ∷ [] = λ i. before i ++ mine i in
      let j = u.seats.0 in
      record {
        in_cell = (j.0 ∙ r.in_cell.0, j.1 ∙ r.in_cell.1);
        who = u.who_is ∙ (r.who ∙ (l.reader_who ∙ h.who));
        number = j.2 ∙ (r.number ∙ (l.seats.2 ∙ h.number));
        splits = (let a = j.4 in let b = r.splits in let c = l.seats.5 in let d = h.splits in omega arith);
        joined = ap pairs u.seats.1 ∙ (pairs_both reader'.seat.ended (gone writer'.seat ∷ writer'.seat.ended) ∙ (both ∙ ap (writers slot) (sym nth)));
      }

  pub home_linked : (old reader writer reader' writer' new : Pass) → IsHome cell old.who old → IsLinked old reader writer → IsSame cell reader reader' → IsSame cell writer writer' → IsUnlinked reader' writer' new → IsHome cell new.who new
  home_linked old reader writer reader' writer' new h l r w u = subst (λ (z : ℕ). IsHome cell z new) (sym (u.who_is ∙ (r.who ∙ l.reader_who))) (home_link old.who old reader writer reader' writer' new h l r w u)

  pub home_left : (a b : Pass) → IsHome cell a.who a → IsSame cell a b → IsHome cell b.who b
  home_left a b h s = subst (λ (z : ℕ). IsHome cell z b) (sym s.who) (home_same a.who a b h s)

  pub fresh_home : (slot : ℕ) (p : Pass) → IsFresh cell (1 + slot) slot p → IsHome cell slot p
  fresh_home slot p f = record {
    in_cell = f.in_cell;
    who = f.who_is;
    number = (let a = f.number_is in omega arith);
    splits = f.unsplit ∙ sym f.nth_is;
    joined = ap pairs f.alone ∙ ap (writers slot) (sym f.nth_is);
  }

  pub fresh_alone : (number who : ℕ) (p : Pass) → IsFresh cell number who p → IsAlone cell number p
  fresh_alone number who p f = record { in_cell = f.in_cell; number_is = f.number_is; unsplit = f.unsplit; alone = f.alone }
