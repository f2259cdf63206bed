use Rattle.std.proofs.Common.{ℕ, ◌∙◌, List, [], ◌∷◌, ◌++◌, ◌-◌, length, drop, arith, ap, length-take, length-drop}
use Rattle.orb_base.specs.Room.{Room}
use Rattle.giop_frames.proofs.PieceLaws.{full, reads_as, cut_last, cut_alone}
use Rattle.giop_frames.proofs.PieceSeals.{short_of}
use Rattle.giop_frames.proofs.cutting.split.Goals as goal

pub piece-requires-clause-fits : goal.piece-requires-clause-fits
piece-requires-clause-fits c =
    omega (
      arith,
      short_of c.args.message.now c.requires.message (λ i. omega (arith, c.type_inv.message i)),
      ap length c.split_at.ensures.front,
      length-take c.args.limit c.args.message.now,
      length-drop 16 c.split_at.result.0.now,
      length-take (length c.split_at.result.0.now - 16) (drop 16 c.split_at.result.0.now),
    )

pub fragment-requires-clause-fits : goal.fragment-requires-clause-fits
fragment-requires-clause-fits c =
    omega (
      arith,
      short_of c.args.message.now c.requires.message (λ i. omega (arith, c.type_inv.message i)),
      c.loop-left.invariant.short,
      length-take (c.args.limit - 16) c.loop-left.left.now,
    )

pub fragment-requires-2-clause-fits : goal.fragment-requires-2-clause-fits
fragment-requires-2-clause-fits c = omega (arith, short_of c.args.message.now c.requires.message (λ i. omega (arith, c.type_inv.message i)), c.loop-left.invariant.short)

pub returns-then-message-limit-clause-reads : goal.returns-then-message-limit-clause-reads
returns-then-message-limit-clause-reads c =
    reads_as c.args.limit c.args.message.now c.put.new.pieces.items c.requires.message (λ i. omega (arith, c.type_inv.message i)) c.requires.eights c.requires.least
    (cut_alone c.args.limit c.args.message.now c.append.new.self c.put.new.pieces.items c.if-message-limit.true
    (c.in_ok-append.ensures.ok ∙ ap (λ (x : List ℕ). x ++ c.args.message.now) c.new-lone.ensures)
    (c.in_ok-put.ensures ∙ ap (λ (x : List (Room ℕ)). x ++ c.append.new.self ∷ []) c.new-pieces.ensures))

pub returns-clause-full : goal.returns-clause-full
returns-clause-full c =
    full c.args.limit c.args.message.now c.put-3.new.pieces.items c.requires.message (λ i. omega (arith, c.type_inv.message i)) c.requires.least
    (cut_last c.args.limit c.args.message.now c.in_ok-last.last c.loop-left.pieces.items c.put-3.new.pieces.items c.loop-left.left.now
    c.loop-left.invariant c.loop-left-test.false c.in_ok-last.ensures c.in_ok-put-4.ensures)

pub returns-clause-reads : goal.returns-clause-reads
returns-clause-reads c =
    reads_as c.args.limit c.args.message.now c.put-3.new.pieces.items c.requires.message (λ i. omega (arith, c.type_inv.message i)) c.requires.eights c.requires.least
    (cut_last c.args.limit c.args.message.now c.in_ok-last.last c.loop-left.pieces.items c.put-3.new.pieces.items c.loop-left.left.now
    c.loop-left.invariant c.loop-left-test.false c.in_ok-last.ensures c.in_ok-put-4.ensures)
