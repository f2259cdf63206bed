-- What is taken and written, one after another.
use Rattle.std.proofs.Common.{◌≡◌, ℕ, true, List, [], ◌∷◌, ◌++◌, Some, None, refl, sym, ap, ◌∙◌, subst, append-nil}
use Rattle.std.proofs.lemmas.List.Concat.{flat_map-append}
use Rattle.orb_base.specs.Outside.{SinkState}
use Rattle.text_streams.specs.Streams.{WritesAll, WroteFrontOf}
use Rattle.text_streams.specs.declared.writing.WriteAll.TheVariants.{Whole, Failed}
use Rattle.item_writer.proofs.Saying.{whole_both, says_start}
use Rattle.turn_cell.specs.Good.{entry}
use Rattle.turn_cell.specs.Seats.{CellView}
use Rattle.client_mux.specs.declared.call.MuxCall.TheVariants.{Next}
use Rattle.client_mux.specs.declared.call.MuxReply.{MuxReply}
use Rattle.client_mux.specs.Machine.{Mux, One, History}
use Rattle.shared_link.specs.Link.{Sitting}
use Rattle.shared_link.specs.Turns.{Makes}
use Rattle.shared_link.specs.Roles.{CanSend, CanLose}
use Rattle.mux_sides.specs.Entering.{Enters}
use Rattle.mux_sides.specs.Sending.{text_of, texts_of, gives, AreGiven, SendsOn, Says, LosesBy, last_of, WritesBy, WritesSide}
use Rattle.mux_sides.specs.declared.writing.WriterEnd.{WriterEnd}
use Rattle.mux_sides.specs.declared.writing.WriterEnd.TheVariants as end
use Rattle.mux_sides.proofs.Entering.{enters_none, enters_one, enters_then}

given_more : (number : ℕ) (taken : History) (r : MuxReply) → gives r ≡ true → AreGiven number taken → AreGiven number (taken ++ entry number Next r ∷ [])
given_more number [] r g a = (refl, g, tt)
given_more number (e ∷ es) r g a = (a.0, a.1, given_more number es r g a.2)

texts_more : (number : ℕ) (taken : History) (r : MuxReply) → texts_of (taken ++ entry number Next r ∷ []) ≡ texts_of taken ++ text_of r
texts_more number taken r =
    flat_map-append (λ (e : One). text_of e.reply) taken (entry number Next r ∷ []) ∙ ap (λ (z : List ℕ). texts_of taken ++ z) (append-nil (text_of r))

-- what was taken so far was written
pub record SentSoFar (cell : CellView Mux) (old new : Sitting) (from to : SinkState) : Type 0 where
  pub taken : History
  pub given : AreGiven old.number taken
  pub entered : Enters taken old new
  pub writes : WritesAll Whole (texts_of taken) from to
  pub sends : CanSend cell new
  pub loses : CanLose cell new

pub sent_start : (cell : CellView Mux) (a : Sitting) (from : SinkState) → CanSend cell a → CanLose cell a → SentSoFar cell a a from from
sent_start cell a from s l = record { taken = []; given = tt; entered = enters_none a; writes = says_start from; sends = s; loses = l }

-- the entry of a Next by the same seat
next_entered : (cell : CellView Mux) (taken : History) (r : MuxReply) (old now new : Sitting) → Enters taken old now → Makes cell Next r now new → Enters (taken ++ entry old.number Next r ∷ []) old new
next_entered cell taken r old now new x m =
    enters_then taken (entry old.number Next r ∷ []) old now new x (subst (λ (n : ℕ). Enters (entry n Next r ∷ []) now new) x.later.2 (enters_one cell Next r now new m))

pub sent_more : (cell : CellView Mux) (r : MuxReply) (old now new : Sitting) (from mid to : SinkState) → SentSoFar cell old now from mid
    → Makes cell Next r now new → SendsOn cell r new → CanLose cell new → Says None r mid to → SentSoFar cell old new from to
sent_more cell r old now new from mid to x m s l says = record {
  taken = x.taken ++ entry old.number Next r ∷ [];
  given = given_more old.number x.taken r says.0 x.given;
  entered = next_entered cell x.taken r old now new x.entered m;
  writes = subst (λ (z : List ℕ). WritesAll Whole z from to) (sym (texts_more old.number x.taken r)) (whole_both Whole (texts_of x.taken) (text_of r) from mid to x.writes says.1);
  sends = s says.0;
  loses = l;
}

-- a prefix of what was written is one of more
front_whole : (a b : List ℕ) (o m : SinkState) → WritesAll Whole a o m → WroteFrontOf (a ++ b) o m
front_whole a b o m x = (b, record { front = a; parts = refl; wrote = x.0 })

pub sent_last : (cell : CellView Mux) (came : WriterEnd) (r : MuxReply) (old now late new : Sitting) (from mid to : SinkState) → SentSoFar cell old now from mid
    → Makes cell Next r now late → Says (Some came) r mid to → LosesBy came late new → WritesSide came old new from to
sent_last cell end.Finished r old now late new from mid to x m says same = record {
  taken = x.taken;
  given = x.given;
  entered = subst (λ (s : Sitting). Enters (x.taken ++ last_of old.number end.Finished ∷ []) old s) (sym same)
      (subst (λ (z : MuxReply). Enters (x.taken ++ entry old.number Next z ∷ []) old late) says.0 (next_entered cell x.taken r old now late x.entered m));
  writes = subst (λ (s : SinkState). WritesAll Whole (texts_of x.taken) from s) (sym says.1) x.writes;
}
sent_last cell end.WriteFault r old now late new from mid to x m says lost =
    let all : History = x.taken ++ entry old.number Next r ∷ [] in
    let entered = next_entered cell x.taken r old now late x.entered m in record {
      taken = all;
      given = given_more old.number x.taken r says.0 x.given;
      entered = enters_then all (last_of old.number end.WriteFault ∷ []) old late new entered
          (subst (λ (n : ℕ). Enters (last_of n end.WriteFault ∷ []) late new) entered.later.2 lost);
      writes = subst (λ (z : List ℕ). WritesAll Failed z from to) (sym (texts_more old.number x.taken r)) (whole_both Failed (texts_of x.taken) (text_of r) from mid to x.writes says.1);
    }
sent_last cell end.NoMemory r old now late new from mid to x m says lost =
    let all : History = x.taken ++ entry old.number Next r ∷ [] in
    let entered = next_entered cell x.taken r old now late x.entered m in record {
      taken = all;
      given = given_more old.number x.taken r says.0 x.given;
      entered = enters_then all (last_of old.number end.NoMemory ∷ []) old late new entered
          (subst (λ (n : ℕ). Enters (last_of n end.NoMemory ∷ []) late new) entered.later.2 lost);
      writes = subst (λ (s : SinkState). WritesBy end.NoMemory (texts_of all) from s) (sym says.1)
          (subst (λ (z : List ℕ). WroteFrontOf z from mid) (sym (texts_more old.number x.taken r)) (front_whole (texts_of x.taken) (text_of r) from mid x.writes), x.writes.1);
    }
