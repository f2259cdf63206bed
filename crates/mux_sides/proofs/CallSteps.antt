-- The calls of one caller, one after another.
use Rattle.std.proofs.Common.{ℕ, Bool, true, false, [], ◌∷◌, inl, inr, refl, sym, subst}
use Rattle.giop_messages.specs.Message.{Request}
use Rattle.turn_cell.specs.Seats.{CellView}
use Rattle.client_mux.specs.declared.why.Why.{Why}
use Rattle.client_mux.specs.declared.call.MuxCall.TheVariants.{Start, Left}
use Rattle.client_mux.specs.declared.call.MuxReply.{MuxReply}
use Rattle.client_mux.specs.declared.call.MuxReply.TheVariants as reply
use Rattle.client_mux.specs.Machine.{Mux}
use Rattle.shared_link.specs.Link.{Sitting}
use Rattle.shared_link.specs.Turns.{Makes}
use Rattle.mux_sides.specs.Entering.{Enters}
use Rattle.mux_sides.specs.Calling.{start_of, await_of, left_of, Follows, Called, MakesCall}
use Rattle.mux_sides.specs.declared.calling.CallEnd.{CallEnd}
use Rattle.mux_sides.specs.declared.calling.CallEnd.TheVariants as came
use Rattle.mux_sides.proofs.Entering.{enters_one, enters_then}

pub called_gone : (cell : CellView Mux) (q : Request) (due : Bool) (why : Why) (old new : Sitting) → Makes cell (Start old.number q) (reply.Gone why) old new
    → Called q due (came.Gone why) old new
called_gone cell q due why old new m = (start_of old.number q (reply.Gone why) ∷ [], inl refl, enters_one cell (Start old.number q) (reply.Gone why) old new m)

-- an Await after a Start, by the same seat
awaited : (q : Request) (id : ℕ) (r : MuxReply) (old mid new : Sitting) → Enters (start_of old.number q (reply.Id id) ∷ []) old mid
    → Enters (await_of mid.number id r ∷ []) mid new → Enters (start_of old.number q (reply.Id id) ∷ await_of old.number id r ∷ []) old new
awaited q id r old mid new x y =
    enters_then (start_of old.number q (reply.Id id) ∷ []) (await_of old.number id r ∷ []) old mid new x
    (subst (λ (n : ℕ). Enters (await_of n id r ∷ []) mid new) x.later.2 y)

follows_on : (q : Request) (id : ℕ) (due : Bool) (end : CallEnd) (old mid new : Sitting) → Enters (start_of old.number q (reply.Id id) ∷ []) old mid
    → Follows id due end mid new → Called q due end old new
follows_on q id true (came.Reply r) old mid new x f =
    (start_of old.number q (reply.Id id) ∷ await_of old.number id (reply.Reply r) ∷ [], (refl, (id, refl)), awaited q id (reply.Reply r) old mid new x f)
follows_on q id true (came.Gone why) old mid new x f =
    (start_of old.number q (reply.Id id) ∷ await_of old.number id (reply.Gone why) ∷ [], inr (refl, (id, refl)), awaited q id (reply.Gone why) old mid new x f)
follows_on q id true came.NoneDue old mid new x f = absurd f
follows_on q id false end old mid new x f =
    subst (λ (z : CallEnd). Called q false z old new) (sym f.0)
    (start_of old.number q (reply.Id id) ∷ [], (refl, (id, refl)), subst (λ (s : Sitting). Enters (start_of old.number q (reply.Id id) ∷ []) old s) (sym f.1) x)

pub called_on : (cell : CellView Mux) (q : Request) (id : ℕ) (due : Bool) (end : CallEnd) (old mid new : Sitting)
    → Makes cell (Start old.number q) (reply.Id id) old mid → Follows id due end mid new → Called q due end old new
called_on cell q id due end old mid new m f = follows_on q id due end old mid new (enters_one cell (Start old.number q) (reply.Id id) old mid m) f

pub made : (cell : CellView Mux) (q : Request) (due : Bool) (end : CallEnd) (old mid new : Sitting) → Called q due end old mid
    → Makes cell (Left mid.number) reply.Noted mid new → MakesCall q due end old new
made cell q due end old mid new x m = record {
  entries = x.0;
  is_call = x.1;
  entered = enters_then x.0 (left_of old.number ∷ []) old mid new x.2
      (subst (λ (n : ℕ). Enters (left_of n ∷ []) mid new) x.2.later.2 (enters_one cell (Left mid.number) reply.Noted mid new m));
}
