-- The cut of a stream is what a cut is to be, and there is no other.
use Rattle.std.proofs.Common.{◌≡◌, ℕ, zero, suc, ◌+◌, ◌≤◌, Bool, true, false, cond, not, ◌&&◌, ◌==◌, Some, None, List, [], ◌∷◌, ◌++◌, length, take, drop, refl, ap, sym, ◌∙◌, subst, arith, append_assoc, length-drop}
use Rattle.std.specs.Prelude.{flat_map}
use Rattle.std.specs.List.{list_any}
use Rattle.std.proofs.lemmas.List.{take-append-drop, length-take-le}
use Rattle.giop_frames.specs.Pieces.{Piece, Cut, piece_len, is_whole, id_of, cut, with_piece}
use Rattle.giop_frames.specs.Messages.{Partial, opens, ends, begun, unfinished}
use Rattle.giop_frames.specs.Stream.{rest_with, tail_rest}
use Rattle.giop_frames.specs.Laws.{ArePieces, IsCut, CutsExactly, CutsOneWay, BeginFrom, RestIsLeast}
use Rattle.giop_frames.proofs.Ahead.{piece_len_front, long_piece, whole_long, part_short, cut_part, cut_whole, cut_piece}

part_is : (at : ℕ) (bytes : List ℕ) → is_whole bytes ≡ false → IsCut at bytes (record { whole = []; tail = record { at = at; bytes = bytes } })
part_is at bytes h = record { joined = refl; pieces = refl; ended = h }

piece_is : (at : ℕ) (bytes : List ℕ) (c : Cut) → is_whole bytes ≡ true → IsCut (at + piece_len bytes) (drop (piece_len bytes) bytes) c
    → IsCut at bytes (with_piece (record { at = at; bytes = take (piece_len bytes) bytes }) c)
piece_is at bytes c h i =
    let long : (12 ≤ length bytes) × (piece_len bytes ≤ length bytes) = whole_long bytes h in
    let p : List ℕ = take (piece_len bytes) bytes in
    let parts : p ++ drop (piece_len bytes) bytes ≡ bytes = take-append-drop (piece_len bytes) bytes in
    let len : length p ≡ piece_len bytes = length-take-le (piece_len bytes) bytes long.1 in
    let min : 12 ≤ length p = omega (arith, long_piece bytes) in
    let P : ℕ → Type 0 = λ n. ArePieces (at + n) c.whole c.tail.at in
    record {
      joined = append_assoc p (flat_map (λ q. q.bytes) c.whole) c.tail.bytes ∙ ap (λ (x : List ℕ). p ++ x) i.joined ∙ parts;
      pieces = (refl, min, len ∙ sym (ap piece_len parts) ∙ piece_len_front p (drop (piece_len bytes) bytes) min, subst P (sym len) i.pieces);
      ended = i.ended;
    }

cut_by : (n at : ℕ) (bytes : List ℕ) (b : Bool) → is_whole bytes ≡ b → (b ≡ true → IsCut (at + piece_len bytes) (drop (piece_len bytes) bytes) (cut n (at + piece_len bytes) (drop (piece_len bytes) bytes)))
    → IsCut at bytes (cut (suc n) at bytes)
cut_by n at bytes true h rec =
    let P : Cut → Type 0 = λ c. IsCut at bytes c in subst P (sym (cut_whole n at bytes h)) (piece_is at bytes (cut n (at + piece_len bytes) (drop (piece_len bytes) bytes)) h (rec refl))
cut_by n at bytes false h rec = let P : Cut → Type 0 = λ c. IsCut at bytes c in subst P (sym (cut_part (suc n) at bytes h)) (part_is at bytes h)

cut_is : (n at : ℕ) (bytes : List ℕ) → length bytes ≤ n → IsCut at bytes (cut n at bytes)
cut_is zero at bytes h =
    let w : is_whole bytes ≡ false = part_short bytes (omega arith) in
    let P : Cut → Type 0 = λ c. IsCut at bytes c in subst P (sym (cut_part zero at bytes w)) (part_is at bytes w)
cut_is (suc n) at bytes h =
    cut_by n at bytes (is_whole bytes) refl
    (λ e. cut_is n (at + piece_len bytes) (drop (piece_len bytes) bytes) (omega (arith, length-drop (piece_len bytes) bytes, long_piece bytes)))

pub cuts_exactly : CutsExactly
cuts_exactly bytes = cut_is (length bytes) 0 bytes (omega arith)

one_cut : (n at : ℕ) (ps : List Piece) (tail : Piece) (bytes : List ℕ) → flat_map (λ p. p.bytes) ps ++ tail.bytes ≡ bytes → ArePieces at ps tail.at → is_whole tail.bytes ≡ false → length bytes ≤ n
    → record { whole = ps; tail = tail } ≡ cut n at bytes
one_cut n at [] tail bytes j p h l =
    ap (λ (k : ℕ). let c : Cut = record { whole = []; tail = record { at = k; bytes = tail.bytes } } in c) p
    ∙ sym (cut_part n at tail.bytes h) ∙ ap (cut n at) j
one_cut n at (q ∷ ps) tail bytes j p h l =
    let more : List ℕ = flat_map (λ r. r.bytes) ps ++ tail.bytes in
    let all : q.bytes ++ more ≡ bytes = sym (append_assoc q.bytes (flat_map (λ r. r.bytes) ps) tail.bytes) ∙ j in
    let rest : (let c : Cut = record { whole = ps; tail = tail } in c) ≡ cut (length more) (at + length q.bytes) more = one_cut (length more) (at + length q.bytes) ps tail more refl p.3 h (omega arith) in
    ap (λ (k : ℕ). let c : Cut = record { whole = record { at = k; bytes = q.bytes } ∷ ps; tail = tail } in c) p.0
    ∙ ap (with_piece (record { at = at; bytes = q.bytes })) rest
    ∙ sym (cut_piece n at q.bytes more p.1 p.2 (omega (arith, ap length all)))
    ∙ ap (cut n at) all

pub cuts_one_way : CutsOneWay
cuts_one_way bytes c i = one_cut (length bytes) 0 c.whole c.tail bytes i.joined i.pieces i.ended (omega arith)

-- the unfinished messages are in the order of their offsets
pub record Rises (from upto : ℕ) (us : List Partial) : Type 0 where
  pub begins : BeginFrom from us
  pub first : (r : ℕ) (tail : Piece) → tail.at ≡ upto → rest_with us tail ≡ Some r → BeginFrom r us × (r ≤ upto)

begin_sooner : (m n : ℕ) (us : List Partial) → m ≤ n → BeginFrom n us → BeginFrom m us
begin_sooner m n [] h b = tt
begin_sooner m n (u ∷ us) h b = (omega (arith, b.0), begin_sooner m n us h b.1)

some_is : (a b : ℕ) → Some a ≡ Some b → a ≡ b
some_is a b h = cc

tail_first : (b : Bool) (at r upto : ℕ) → at ≡ upto → cond b None (Some at) ≡ Some r → r ≤ upto
tail_first true at r upto t h = absurd (cc)
tail_first false at r upto t h = let e : at ≡ r = some_is at r h in omega arith

none_rises : (at : ℕ) → Rises at at []
unfolding rest_with tail_rest
none_rises at = record { begins = tt; first = λ r tail t h. (tt, tail_first (length tail.bytes == 0) tail.at r at t h) }

more_rises : (at len upto : ℕ) (u : Partial) (us : List Partial) (b : Bool) → u.at ≡ at → at + len ≤ upto → Rises (at + len) upto us → Rises at upto (cond b (u ∷ us) us)
unfolding rest_with
more_rises at len upto u us true e h s = record {
  begins = (omega arith, begin_sooner at (at + len) us (omega arith) s.begins);
  first = λ r tail t o.
      let k : u.at ≡ r = some_is u.at r o in ((omega arith, begin_sooner r (at + len) us (omega arith) s.begins), omega arith);
}
more_rises at len upto u us false e h s = record { begins = begin_sooner at (at + len) us (omega arith) s.begins; first = s.first }

pieces_end : (at : ℕ) (ps : List Piece) (upto : ℕ) → ArePieces at ps upto → at ≤ upto
pieces_end at [] upto p = omega arith
pieces_end at (q ∷ ps) upto p = omega (arith, pieces_end (at + length q.bytes) ps upto p.3)

unfinished_rises : (at : ℕ) (ps : List Piece) (upto : ℕ) → ArePieces at ps upto → Rises at upto (unfinished ps)
unfolding unfinished
unfinished_rises at [] upto p = let P : ℕ → Type 0 = λ n. Rises at n [] in subst P (sym p) (none_rises at)
unfinished_rises at (q ∷ ps) upto p =
    more_rises at (length q.bytes) upto (begun q ps) (unfinished ps) (opens q.bytes && not (list_any (λ r. ends (id_of q.bytes) r.bytes) ps)) p.0
    (pieces_end (at + length q.bytes) ps upto p.3) (unfinished_rises (at + length q.bytes) ps upto p.3)

pub rest_is_least : RestIsLeast
rest_is_least at ps tail r p o = (unfinished_rises at ps tail.at p).first r tail refl o
