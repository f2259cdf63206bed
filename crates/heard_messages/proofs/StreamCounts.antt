-- A stream of few bytes has few messages.
use Rattle.std.proofs.Common.{◌≡◌, ℕ, ◌+◌, ◌≤◌, List, [], ◌∷◌, ◌++◌, length, refl, sym, ap, subst, ◌∙◌, arith, length-append}
use Rattle.std.specs.Prelude.{Option, Some, None, option_to_list}
use Rattle.std.specs.List.{flat_map}
use Rattle.giop_frames.specs.declared.fault.FrameCause.{FrameCause}
use Rattle.giop_frames.specs.Pieces.{Piece, cut}
use Rattle.giop_frames.specs.Messages.{Message, Partial, completed, unfinished}
use Rattle.giop_frames.specs.Stream.{Said, stream, said_behind, at_end, or_stopped, tail_cause, cause_of}
use Rattle.giop_frames.specs.Laws.{ArePieces}
use Rattle.giop_frames.proofs.LawProofs.{cuts_exactly}

end_says_none : (us : List Partial) (tail : Piece) (cause : Option FrameCause) → (at_end us tail cause).messages ≡ []
end_says_none us tail (Some cause) = refl
end_says_none us tail None = refl

one_at_most : (o : Option Message) (ms : List Message) → length (option_to_list o ++ ms) ≤ 1 + length ms
one_at_most (Some m) ms = omega arith
one_at_most None ms = omega arith

piece_says_few : (us : List Partial) (p : Piece) (cause : Option FrameCause) (said : Said) → length (or_stopped us p cause said).messages ≤ 1 + length said.messages
piece_says_few us p (Some cause) said = omega arith
piece_says_few us p None said = one_at_most (completed us p) said.messages

says_few : (limit : ℕ) (earlier later : List Piece) (tail : Piece) → length (said_behind limit earlier later tail).messages ≤ length later
unfolding said_behind
says_few limit earlier [] tail =
    let none = end_says_none (unfinished earlier) tail (tail_cause limit tail.bytes) in
    subst (λ (ms : List Message). length ms ≤ 0) (sym none) (omega arith)
says_few limit earlier (p ∷ later) tail =
    let here = piece_says_few (unfinished earlier) p (cause_of limit (unfinished earlier) p) (said_behind limit (earlier ++ p ∷ []) later tail) in
    let behind = says_few limit (earlier ++ p ∷ []) later tail in
    omega (arith, here, behind)

pieces_few : (at : ℕ) (ps : List Piece) (tail : ℕ) → ArePieces at ps tail → length ps ≤ length (flat_map (λ p. p.bytes) ps)
pieces_few at [] tail are = omega arith
pieces_few at (p ∷ ps) tail (begins, long, sized, rest) =
    omega (arith, long, pieces_few (at + length p.bytes) ps tail rest, length-append p.bytes (flat_map (λ (q : Piece). q.bytes) ps))

-- no more messages than bytes
pub few_messages : (limit : ℕ) (bytes : List ℕ) → length (stream limit bytes).messages ≤ length bytes
unfolding stream
few_messages limit bytes =
    let c = cut (length bytes) 0 bytes in
    let exact = cuts_exactly bytes in
    let pieces = pieces_few 0 c.whole c.tail.at exact.pieces in
    let joined : length (flat_map (λ (p : Piece). p.bytes) c.whole) + length c.tail.bytes ≡ length bytes =
    sym (length-append (flat_map (λ (p : Piece). p.bytes) c.whole) c.tail.bytes) ∙ ap length exact.joined in
    omega (arith, says_few limit [] c.whole c.tail, pieces, joined)
