-- One read's bytes: the calls that they complete are made in order.
use Rattle.std.proofs.Common.{◌≡◌, ℕ, ◌-◌, List, [], ◌∷◌, ◌++◌, length, take, Option, Some, None, refl, sym, ap, subst, ◌∙◌, append_assoc, append-nil}
use Rattle.std.specs.Prelude.{reverse}
use Rattle.std.proofs.lemmas.List.{reverse-append}
use Rattle.orb_base.specs.declared.limits.TheConstants.{MAX_MESSAGE}
use Rattle.giop_frames.specs.Stream.{stream}
use Rattle.heard_messages.specs.Hearers.{FeedsOn}
use Rattle.heard_messages.specs.declared.read_end.ReadEnd.{ReadEnd}
use Rattle.adapter_policies.specs.SetupData.{SetupData}
use Rattle.halls.specs.Calls.{Takes, IsThere, AreThere}
use Rattle.halls.specs.Pieces.{first, means, Heard, out_of, TakesPiece}
use Rattle.halls.specs.Steps.{Making}
use Rattle.halls.specs.declared.call.HallCall.{HallCall}
use Rattle.halls.specs.declared.ends.Took.{Took}
use Rattle.halls.specs.declared.ends.Took.TheVariants.{All, RunClosed, Stopped}
use Rattle.halls.proofs.Steps.{takes_none, takes_more, closed_before, stopped_before}
use Rattle.halls.proofs.There.{later_there, calls_there}

-- ---- calls from the last of a turned list

-- some calls were made whole, and the others are left, the last one first
pub record TurnedSoFar (objects : ℕ) (all left : List HallCall) (old now : Making) : Type 0 where
  pub made : List HallCall
  pub parts : all ≡ made ++ reverse left
  pub there : AreThere objects (reverse left)
  pub takes : Takes All made old now

pub turned_start : (objects : ℕ) (turned : List HallCall) (m : Making) → AreThere objects (reverse turned) → TurnedSoFar objects (reverse turned) turned m m
turned_start objects turned m there = record { made = []; parts = refl; there = there; takes = takes_none m }

next_of : (left front : List HallCall) (call : HallCall) → left ≡ front ++ (call ∷ []) → reverse left ≡ call ∷ reverse front
next_of left front call is = ap reverse is ∙ reverse-append front (call ∷ [])

pub next_there : (objects : ℕ) (all left front : List HallCall) (call : HallCall) (old now : Making) → TurnedSoFar objects all left old now → left ≡ front ++ (call ∷ [])
    → IsThere objects call
next_there objects all left front call old now x is = (subst (AreThere objects) (next_of left front call is) x.there).0

-- the calls with one more, and those after it
with_next : (all left front made : List HallCall) (call : HallCall) → all ≡ made ++ reverse left → left ≡ front ++ (call ∷ []) → all ≡ (made ++ call ∷ []) ++ reverse front
with_next all left front made call parts is =
    parts ∙ ap (λ (z : List HallCall). made ++ z) (next_of left front call is) ∙ sym (append_assoc made (call ∷ []) (reverse front))

pub turned_more : (objects : ℕ) (all left front : List HallCall) (call : HallCall) (old now new : Making) → TurnedSoFar objects all left old now → left ≡ front ++ (call ∷ [])
    → Takes All (call ∷ []) now new → TurnedSoFar objects all front old new
turned_more objects all left front call old now new x is t = record {
  made = x.made ++ call ∷ [];
  parts = with_next all left front x.made call x.parts is;
  there = (subst (AreThere objects) (next_of left front call is) x.there).1;
  takes = takes_more All x.made (call ∷ []) old now new x.takes t;
}

pub turned_closed : (objects : ℕ) (all left front : List HallCall) (call : HallCall) (old now new : Making) → TurnedSoFar objects all left old now → left ≡ front ++ (call ∷ [])
    → Takes RunClosed (call ∷ []) now new → Takes RunClosed all old new
turned_closed objects all left front call old now new x is t =
    subst (λ (z : List HallCall). Takes RunClosed z old new) (sym (with_next all left front x.made call x.parts is))
    (closed_before (x.made ++ call ∷ []) (reverse front) old new (takes_more RunClosed x.made (call ∷ []) old now new x.takes t))

pub turned_stopped : (objects : ℕ) (all left front : List HallCall) (call : HallCall) (old now new : Making) → TurnedSoFar objects all left old now → left ≡ front ++ (call ∷ [])
    → Takes Stopped (call ∷ []) now new → Takes Stopped all old new
turned_stopped objects all left front call old now new x is t =
    subst (λ (z : List HallCall). Takes Stopped z old new) (sym (with_next all left front x.made call x.parts is))
    (stopped_before (x.made ++ call ∷ []) (reverse front) old new (takes_more Stopped x.made (call ∷ []) old now new x.takes t))

pub nothing_popped : (left front : List HallCall) (n : ℕ) → n ≡ 0 → front ≡ take (n - 1) left → left ≡ front ++ [] → left ≡ []
nothing_popped left front n none rest items = items ∙ append-nil front ∙ rest ∙ ap (λ (k : ℕ). take (k - 1) left) none

pub turned_all : (objects : ℕ) (all left : List HallCall) (old now : Making) → TurnedSoFar objects all left old now → left ≡ [] → Takes All all old now
turned_all objects all left old now x none =
    subst (λ (z : List HallCall). Takes All z old now) (sym (x.parts ∙ ap (λ (z : List HallCall). x.made ++ reverse z) none ∙ append-nil x.made)) x.takes

-- ---- a piece

pub piece_there : (h h' : Heard) (piece : List ℕ) (calls items : List HallCall) (ending : Option ReadEnd) (setup : SetupData)
    → FeedsOn first means h h' piece calls ending → h.judge.setup ≡ setup → items ≡ calls → AreThere (length setup.objects) items
piece_there h h' piece calls items ending setup feeds same is =
    let all : AreThere (length h'.judge.setup.objects) feeds.heard.meaning.calls =
    calls_there h'.judge.setup h'.judge.conn (stream MAX_MESSAGE h'.framer.fed).messages 0 feeds.heard.meaning feeds.heard.hears in
    let here : AreThere (length h'.judge.setup.objects) (h.calls ++ calls) =
    subst (AreThere (length h'.judge.setup.objects)) (sym feeds.heard.calls_are ∙ feeds.calls_are) all in
    let setup_is : h'.judge.setup ≡ setup = ap (λ j. j.setup) feeds.same_judge ∙ same in
    subst (λ (s : SetupData). AreThere (length s.objects) items) setup_is
    (subst (AreThere (length h'.judge.setup.objects)) (sym is) (later_there (length h'.judge.setup.objects) h.calls calls here))

pub piece_taken : (took : Took) (ending : Option ReadEnd) (h h' : Heard) (piece : List ℕ) (calls items : List HallCall) (old new : Making)
    → FeedsOn first means h h' piece calls ending → items ≡ calls → Takes took items old new → TakesPiece (out_of took ending) h h' piece old new
piece_taken All (Some end) h h' piece calls items old new feeds is t =
    record { calls = calls; feeds = feeds; takes = subst (λ (z : List HallCall). Takes All z old new) is t }
piece_taken All None h h' piece calls items old new feeds is t =
    record { calls = calls; feeds = feeds; takes = subst (λ (z : List HallCall). Takes All z old new) is t }
piece_taken RunClosed ending h h' piece calls items old new feeds is t =
    (ending, record { calls = calls; feeds = feeds; takes = subst (λ (z : List HallCall). Takes RunClosed z old new) is t })
piece_taken Stopped ending h h' piece calls items old new feeds is t =
    (ending, record { calls = calls; feeds = feeds; takes = subst (λ (z : List HallCall). Takes Stopped z old new) is t })
