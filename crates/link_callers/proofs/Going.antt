-- A caller that awaits each of its calls before the next one finds a new id for each.
use Rattle.std.proofs.Common.{◌≡◌, ◌+◌, ℕ, Bool, true, false, ◌==◌, ◌&&◌, ◌||◌, List, [], ◌∷◌, ◌++◌, inl, inr, refl, sym, ap, ◌∙◌, subst, eq-eqb, if◌then◌else◌}
use Rattle.std.specs.List.{list_any}
use Rattle.std.proofs.lemmas.Bool.{cases_Bool, both_ways, or_left, or_right, or_cases, eqb-true, and_parts}
use Rattle.turn_cell.specs.Good.{entry}
use Rattle.turn_cell.specs.Seats.{CellView}
use Rattle.flat_seats.proofs.Own.{push_grow, push_quiet, push_own, push_back, of_mine}
use Rattle.giop_messages.specs.Message.{Request}
use Rattle.client_mux.specs.declared.call.MuxCall.TheVariants.{Start, Await}
use Rattle.client_mux.specs.declared.call.MuxReply.{MuxReply}
use Rattle.client_mux.specs.declared.call.MuxReply.TheVariants as reply
use Rattle.client_mux.specs.Machine.{Mux, One, History}
use Rattle.client_mux.specs.Callers.{of, starts_as, cancels, awaits, is_cancelled, owns, has_cancel, has_await, was_dropped, starts}
use Rattle.client_mux.specs.Exchange.{IsLegal, begun}
use Rattle.client_mux.proofs.FirstReply.{new_id}
use Rattle.shared_link.specs.Link.{Sitting}
use Rattle.shared_link.specs.Turns.{Makes}
use Rattle.shared_link.specs.Roles.{CanCall, CanAwait, CanCancel}
use Rattle.shared_link.proofs.RoleLaws as roles
use Rattle.link_callers.specs.Going.{CanGoOn}

-- a list with one more at its end isn't empty
no_end : {A : Type 0} (ys : List A) (y : A) → [] ≡ ys ++ y ∷ [] → ⊥
no_end [] y e = absurd (cc)
no_end (a ∷ ys) y e = absurd (cc)

-- what comes before the last is the same in equal lists
front_same : {A : Type 0} (xs ys : List A) (x y : A) → xs ++ x ∷ [] ≡ ys ++ y ∷ [] → xs ≡ ys
front_same [] [] x y e = refl
front_same [] (b ∷ ys) x y e = let t : [] ≡ ys ++ y ∷ [] = cc in absurd (no_end ys y t)
front_same (a ∷ xs) [] x y e = let t : [] ≡ xs ++ x ∷ [] = cc in absurd (no_end xs x t)
front_same (a ∷ xs) (b ∷ ys) x y e =
    let h : a ≡ b = cc in let t : xs ++ x ∷ [] ≡ ys ++ y ∷ [] = cc in let s = front_same xs ys x y t in cc

-- what is among a caller's own entries is in the history
any_with : (p : One → Bool) (n : ℕ) (d : One) (ds : History) → (list_any p (of n ds) ≡ true → list_any p ds ≡ true) → (b : Bool)
    → list_any p (if b then d ∷ of n ds else of n ds) ≡ true → (p d || list_any p ds) ≡ true
any_with p n d ds later true t = elim (or_cases (p d) (list_any p (of n ds)) t) [
  | inl a ↦ or_left (p d) (list_any p ds) a
  | inr a ↦ or_right (p d) (list_any p ds) (later a)
]
any_with p n d ds later false t = or_right (p d) (list_any p ds) (later t)

any_of : (p : One → Bool) (n : ℕ) (h : History) → list_any p (of n h) ≡ true → list_any p h ≡ true
any_of p n [] o = o
any_of p n (d ∷ ds) o = any_with p n d ds (any_of p n ds) (d.caller == n) o

-- what was cancelled in time was cancelled
dropped_is_cancelled : (id : ℕ) (h : History) → was_dropped id h ≡ true → has_cancel id h ≡ true
dropped_is_cancelled id [] t = t
dropped_is_cancelled id (d ∷ ds) t = elim (or_cases (cancels id d.call && is_cancelled d.reply) (was_dropped id ds) t) [
  | inl a ↦ or_left (cancels id d.call) (has_cancel id ds) (and_parts (cancels id d.call) (is_cancelled d.reply) a).0
  | inr a ↦ or_right (cancels id d.call) (has_cancel id ds) (dropped_is_cancelled id ds a)
]

undropped : (id : ℕ) (h : History) → has_cancel id h ≡ false → was_dropped id h ≡ false
undropped id h none = elim (cases_Bool (was_dropped id h)) [
  | inl t ↦ absurd (both_ways (has_cancel id h) none (dropped_is_cancelled id h t))
  | inr f ↦ f
]

-- the id of a new call is none that its caller was given, awaited or cancelled
pub later_call : (cell : CellView Mux) (by id : ℕ) (q : Request) (old new : Sitting) → CanGoOn cell old
    → Makes cell (Start by q) (reply.Id id) old new → CanCancel id new
later_call cell by id q old new g m =
    let e : One = entry old.number (Start by q) (reply.Id id) in let before : History = old.seen ++ m.3.0 in
    let legal : IsLegal cell.terms.opening (before ++ e ∷ []) = subst (IsLegal cell.terms.opening) m.3.1 m.1.0.1 in
    let fresh : begun id before ≡ false = new_id cell.terms.opening before [] e by q id m.1.0.0 legal refl refl in
    let mine : old.mine ++ e ∷ [] ≡ of old.number before ++ e ∷ [] =
    sym m.2 ∙ (m.1.1 ∙ ((λ i. of (m.0.2 i) (m.3.1 i)) ∙ of_mine old.number before e refl)) in
    let same : old.mine ≡ of old.number before = front_same old.mine (of old.number before) e e mine in
    let new_to_it : owns id old.mine ≡ true → ⊥ = λ t. both_ways (begun id before) fresh
    (any_of (λ (y : One). starts_as id y.call y.reply) old.number before (ap (owns id) (sym same) ∙ t)) in (
      record {
        owned = ap (owns id) m.2 ∙ push_own (λ (y : One). starts_as id y.call y.reply) old.mine e (eq-eqb id id refl);
        unawaited = ap (has_await id) m.2 ∙ (push_quiet (λ (y : One). awaits id y.call) old.mine e refl ∙ elim (cases_Bool (has_await id old.mine)) [
          | inl t ↦ absurd (new_to_it (g.awaits_own id t))
          | inr f ↦ f
        ]);
        kept = ap (was_dropped id) m.2 ∙ (push_quiet (λ (y : One). cancels id y.call && is_cancelled y.reply) old.mine e refl
            ∙ undropped id old.mine (g.uncancelled id));
      },
      ap (has_cancel id) m.2 ∙ (push_quiet (λ (y : One). cancels id y.call) old.mine e refl ∙ g.uncancelled id),
    )

-- one call was started
pub one_more : (cell : CellView Mux) (by : ℕ) (q : Request) (r : MuxReply) (old new : Sitting) → CanGoOn cell old
    → Makes cell (Start by q) r old new → starts new.mine ≡ starts old.mine + 1
one_more cell by q r old new g m = (roles.after_start cell (starts old.mine) by q r old new g.calls m).starts_are

-- a caller goes on after a Start
pub goes_started : (cell : CellView Mux) (by : ℕ) (q : Request) (r : MuxReply) (old new : Sitting) → CanGoOn cell old
    → Makes cell (Start by q) r old new → CanGoOn cell new
goes_started cell by q r old new g m =
    let e : One = entry old.number (Start by q) r in
    let c = roles.after_start cell (starts old.mine) by q r old new g.calls m in record {
      calls = record { in_cell = c.in_cell; caller = c.caller; stays = c.stays; starts_are = refl };
      uncancelled = λ id. ap (has_cancel id) m.2 ∙ (push_quiet (λ (y : One). cancels id y.call) old.mine e refl ∙ g.uncancelled id);
      awaits_own = λ id t.
          let was : has_await id old.mine ≡ true =
          sym (push_quiet (λ (y : One). awaits id y.call) old.mine e refl) ∙ (sym (ap (has_await id) m.2) ∙ t) in
          ap (owns id) m.2 ∙ push_grow (λ (y : One). starts_as id y.call y.reply) old.mine e (g.awaits_own id was);
    }

-- no call is started by an Await
pub none_more : (cell : CellView Mux) (by id : ℕ) (r : MuxReply) (old new : Sitting) → CanGoOn cell old
    → Makes cell (Await by id) r old new → starts new.mine ≡ starts old.mine
none_more cell by id r old new g m = (roles.after_await cell (starts old.mine) by id r old new g.calls m).starts_are

-- a caller goes on after an Await of a call of its own
pub goes_awaited : (cell : CellView Mux) (by id : ℕ) (r : MuxReply) (old new : Sitting) → CanGoOn cell old → CanAwait id old
    → Makes cell (Await by id) r old new → CanGoOn cell new
goes_awaited cell by id r old new g may m =
    let e : One = entry old.number (Await by id) r in
    let c = roles.after_await cell (starts old.mine) by id r old new g.calls m in record {
      calls = record { in_cell = c.in_cell; caller = c.caller; stays = c.stays; starts_are = refl };
      uncancelled = λ k. ap (has_cancel k) m.2 ∙ (push_quiet (λ (y : One). cancels k y.call) old.mine e refl ∙ g.uncancelled k);
      awaits_own = λ k t.
          let was : owns k old.mine ≡ true = elim (push_back (λ (y : One). awaits k y.call) old.mine e (sym (ap (has_await k) m.2) ∙ t)) [
            | inl a ↦ g.awaits_own k a
            | inr a ↦ subst (λ (z : ℕ). owns z old.mine ≡ true) (eqb-true id k a) may.owned
          ] in
          ap (owns k) m.2 ∙ push_grow (λ (y : One). starts_as k y.call y.reply) old.mine e was;
    }

-- a caller that has called nothing
pub goes_first : (cell : CellView Mux) (seat : Sitting) → CanCall cell 0 seat → seat.mine ≡ [] → CanGoOn cell seat
goes_first cell seat c none = record {
  calls = record { in_cell = c.in_cell; caller = c.caller; stays = c.stays; starts_are = refl };
  uncancelled = λ id. ap (has_cancel id) none;
  awaits_own = λ id t. absurd (both_ways (has_await id seat.mine) (ap (has_await id) none) t);
}
