-- Replies that are said to have arrived, one after another.
use Rattle.std.proofs.Common.{◌≡◌, ℕ, ◌+◌, ◌-◌, ◌≤◌, ◌<◌, List, [], ◌∷◌, ◌++◌, take, Option, Some, None, inr, refl, sym, ap, subst, ◌∙◌, arith, append_assoc, append-nil, length-append}
use Rattle.std.specs.Prelude.{reverse}
use Rattle.std.proofs.lemmas.List.{reverse-append}
use Rattle.client_mux.specs.declared.heard_reply.HeardReply.{HeardReply}
use Rattle.heard_messages.specs.Hearers.{FeedsOn}
use Rattle.heard_messages.specs.declared.read_end.ReadEnd.{ReadEnd}
use Rattle.turn_cell.specs.Good.{entry}
use Rattle.turn_cell.specs.Seats.{CellView}
use Rattle.client_mux.specs.declared.limits.TheConstants.{MAX_ARRIVALS}
use Rattle.client_mux.specs.declared.why.Why.{Why}
use Rattle.client_mux.specs.declared.call.MuxCall.TheVariants.{Arrived}
use Rattle.client_mux.specs.Machine.{Mux, History}
use Rattle.shared_link.specs.Link.{Sitting}
use Rattle.shared_link.specs.Turns.{Makes}
use Rattle.shared_link.specs.Replies.{placed_reply}
use Rattle.shared_link.specs.Roles.{CanRead, CanLose}
use Rattle.shared_link.specs.declared.answers.Placed.{Placed}
use Rattle.mux_sides.specs.Replying.{first, means, Hearer, AreArrived, Arrives, Puts, FeedsAndPuts, Comes, TakesPiece}
use Rattle.mux_sides.proofs.Entering.{enters_none, enters_one, enters_then}

pub arrives_one : (cell : CellView Mux) (r : HeardReply) (p : Placed) (count : ℕ) (old new : Sitting) → count < MAX_ARRIVALS → Makes cell (Arrived r.reply.id r) (placed_reply p) old new
    → CanRead cell (count + 1) new → CanLose cell new → Arrives cell (r ∷ []) count (count + 1) old new
arrives_one cell r p count old new few m reads loses = record {
  entries = entry old.number (Arrived r.reply.id r) (placed_reply p) ∷ [];
  arrived = ((p, refl), tt);
  entered = enters_one cell (Arrived r.reply.id r) (placed_reply p) old new m;
  counted = refl;
  few = omega arith;
  reads = reads;
  loses = loses;
}

pub arrives_none : (cell : CellView Mux) (count : ℕ) (a : Sitting) → count ≤ MAX_ARRIVALS → CanRead cell count a → CanLose cell a → Arrives cell [] count count a a
arrives_none cell count a few reads loses = record {
  entries = [];
  arrived = tt;
  entered = enters_none a;
  counted = omega arith;
  few = few;
  reads = reads;
  loses = loses;
}

arrived_both : (n : ℕ) (rs qs : List HeardReply) (es fs : History) → AreArrived n rs es → AreArrived n qs fs → AreArrived n (rs ++ qs) (es ++ fs)
arrived_both n [] qs [] fs a b = b
arrived_both n [] qs (e ∷ es) fs a b = absurd a
arrived_both n (r ∷ rs) qs [] fs a b = absurd a
arrived_both n (r ∷ rs) qs (e ∷ es) fs a b = (a.0, arrived_both n rs qs es fs a.1 b)

pub arrives_then : (cell : CellView Mux) (rs qs : List HeardReply) (i j k : ℕ) (a b c : Sitting) → Arrives cell rs i j a b → Arrives cell qs j k b c → Arrives cell (rs ++ qs) i k a c
arrives_then cell rs qs i j k a b c x y = record {
  entries = x.entries ++ y.entries;
  arrived = arrived_both a.number rs qs x.entries y.entries x.arrived (subst (λ (n : ℕ). AreArrived n qs y.entries) x.entered.later.2 y.arrived);
  entered = enters_then x.entries y.entries a b c x.entered y.entered;
  counted = (let p = x.counted in let q = y.counted in let l = length-append rs qs in omega arith);
  few = y.few;
  reads = y.reads;
  loses = y.loses;
}

-- ---- replies from the last of a turned list

-- some replies arrived, and the others are left, the last one first
pub record TurnedSoFar (cell : CellView Mux) (all left : List HeardReply) (before count : ℕ) (old now : Sitting) : Type 0 where
  pub put : List HeardReply
  pub parts : all ≡ put ++ reverse left
  pub arrives : Arrives cell put before count old now

pub turned_start : (cell : CellView Mux) (turned : List HeardReply) (before : ℕ) (a : Sitting) → before ≤ MAX_ARRIVALS → CanRead cell before a → CanLose cell a
    → TurnedSoFar cell (reverse turned) turned before before a a
turned_start cell turned before a few reads loses = record { put = []; parts = refl; arrives = arrives_none cell before a few reads loses }

next_of : (left front : List HeardReply) (r : HeardReply) → left ≡ front ++ (r ∷ []) → reverse left ≡ r ∷ reverse front
next_of left front r is = ap reverse is ∙ reverse-append front (r ∷ [])

pub turned_more : (cell : CellView Mux) (all left front : List HeardReply) (r : HeardReply) (before count : ℕ) (old now new : Sitting) → TurnedSoFar cell all left before count old now
    → left ≡ front ++ (r ∷ []) → Arrives cell (r ∷ []) count (count + 1) now new → TurnedSoFar cell all front before (count + 1) old new
turned_more cell all left front r before count old now new x is one = record {
  put = x.put ++ r ∷ [];
  parts = x.parts ∙ ap (λ (z : List HeardReply). x.put ++ z) (next_of left front r is) ∙ sym (append_assoc x.put (r ∷ []) (reverse front));
  arrives = arrives_then cell x.put (r ∷ []) before count (count + 1) old now new x.arrives one;
}

pub turned_full : (cell : CellView Mux) (all left : List HeardReply) (before count : ℕ) (old now : Sitting) → TurnedSoFar cell all left before count old now
    → MAX_ARRIVALS ≤ count → Puts cell all before count old now
turned_full cell all left before count old now x full = record {
  put = x.put;
  rest = reverse left;
  parts = x.parts;
  arrives = x.arrives;
  whole = λ less. absurd (omega arith);
}

pub nothing_popped : (left front : List HeardReply) (n : ℕ) → n ≡ 0 → front ≡ take (n - 1) left → left ≡ front ++ [] → left ≡ []
nothing_popped left front n none rest items = items ∙ append-nil front ∙ rest ∙ ap (λ (k : ℕ). take (k - 1) left) none

pub turned_all : (cell : CellView Mux) (all left : List HeardReply) (before count : ℕ) (old now : Sitting) → TurnedSoFar cell all left before count old now
    → left ≡ [] → Puts cell all before count old now
turned_all cell all left before count old now x none = record {
  put = x.put;
  rest = reverse left;
  parts = x.parts;
  arrives = x.arrives;
  whole = λ less. ap reverse none;
}

-- ---- a piece

puts_piece : (cell : CellView Mux) (h h' : Hearer) (piece : List ℕ) (replies items : List HeardReply) (ending : Option ReadEnd) (old new : Sitting × ℕ)
    → FeedsOn first means h h' piece replies ending → items ≡ replies → Puts cell items old.1 new.1 old.0 new.0 → FeedsAndPuts cell h h' piece ending old new
puts_piece cell h h' piece replies items ending old new feeds is puts =
    record { replies = replies; feeds = feeds; puts = subst (λ (z : List HeardReply). Puts cell z old.1 new.1 old.0 new.0) is puts }

pub piece_taken : (cell : CellView Mux) (out : Option Why) (h h' : Hearer) (piece : List ℕ) (replies items : List HeardReply) (ending : Option ReadEnd) (old new : Sitting × ℕ)
    → FeedsOn first means h h' piece replies ending → items ≡ replies → Puts cell items old.1 new.1 old.0 new.0 → Comes out new.1 ending
    → TakesPiece cell out h h' piece old new
piece_taken cell None h h' piece replies items ending old new feeds is puts comes =
    (subst (λ (e : Option ReadEnd). FeedsAndPuts cell h h' piece e old new) comes.1 (puts_piece cell h h' piece replies items ending old new feeds is puts), comes.0)
piece_taken cell (Some came) h h' piece replies items ending old new feeds is puts comes =
    inr (ending, puts_piece cell h h' piece replies items ending old new feeds is puts, comes)
