use Rattle.std.proofs.Common.{◌≡◌, ◌≤◌, ◌<◌, ap, ◌∙◌, arith}
use Rattle.giop_frames.specs.Running.{State}
use Rattle.giop_frames.specs.Pieces.{piece_len}
use Rattle.giop_frames.proofs.Opening.{head_is, open_is, header_len, rest_len, needs_more}
use Rattle.giop_frames.proofs.joiner.Joiner.need.Goals as goal
use Rattle.giop_frames.proofs.joiner.Joiner.need.Goals.{else-self-lt-JUDGED-via-then-self-lt-JUDGED+else-len-gt-JUDGED, else-self-lt-JUDGED-via-else-self-lt-JUDGED}

pub overflow_sub-result-else-self-lt-JUDGED : goal.overflow_sub-result-else-self-lt-JUDGED
overflow_sub-result-else-self-lt-JUDGED c =
    let lt : c.self.inside.came < c.piece_len-len.result =
    rest_len c.args.self.now c.self.inside.tail.items c.self.inside.came c.piece_len-len.result c.requires (ap (λ (y : State). y.tail) c.self.view_is) c.self.invariant.1 c.if-self-lt-HEADER.false
    (c.piece_len-len.ensures ∙ ap piece_len (c.as_slice.ensures ∙ head_is c.self.inside.limit c.self.inside.coming c.in-Head.head c.self.inside.tail.items c.self.inside.partials.items c.in-Head.is c.self.invariant.0)) in omega arith

pub overflow_sub-result-in-Open : goal.overflow_sub-result-in-Open
overflow_sub-result-in-Open c =
    let o = open_is c.self.inside.limit c.self.inside.coming c.in-Open.opened c.self.inside.tail.items c.self.inside.partials.items c.in-Open.is c.self.invariant.0 in
    let lt : c.self.inside.came < c.piece_len.result =
    rest_len c.args.self.now c.self.inside.tail.items c.self.inside.came c.piece_len.result c.requires (ap (λ (y : State). y.tail) c.self.view_is) c.self.invariant.1 (omega (arith, o.long, c.self.invariant.1))
    (header_len c.in-Open.opened.header c.self.inside.tail.items c.piece_len.result o.begins c.piece_len.ensures) in omega arith

pub returns-else-self-lt-JUDGED : goal.returns-else-self-lt-JUDGED
returns-else-self-lt-JUDGED c =
    let len : c.piece_len-len.result ≡ piece_len c.self.inside.tail.items =
    c.piece_len-len.ensures ∙ ap piece_len (c.as_slice.ensures ∙ head_is c.self.inside.limit c.self.inside.coming c.in-Head.head c.self.inside.tail.items c.self.inside.partials.items c.in-Head.is c.self.invariant.0) in
    let lt : c.self.inside.came < c.piece_len-len.result =
    rest_len c.args.self.now c.self.inside.tail.items c.self.inside.came c.piece_len-len.result c.requires (ap (λ (y : State). y.tail) c.self.view_is) c.self.invariant.1 c.if-self-lt-HEADER.false len in
    needs_more c.args.self.now c.self.inside.tail.items c.self.inside.came c.piece_len-len.result _ c.requires (ap (λ (y : State). y.tail) c.self.view_is) c.self.invariant.1 c.if-self-lt-HEADER.false len (omega arith) (omega arith)

pub returns-in-Open : goal.returns-in-Open
returns-in-Open c =
    let o = open_is c.self.inside.limit c.self.inside.coming c.in-Open.opened c.self.inside.tail.items c.self.inside.partials.items c.in-Open.is c.self.invariant.0 in
    let len : c.piece_len.result ≡ piece_len c.self.inside.tail.items = header_len c.in-Open.opened.header c.self.inside.tail.items c.piece_len.result o.begins c.piece_len.ensures in
    let long : 12 ≤ c.self.inside.came = omega (arith, o.long, c.self.invariant.1) in
    let lt : c.self.inside.came < c.piece_len.result =
    rest_len c.args.self.now c.self.inside.tail.items c.self.inside.came c.piece_len.result c.requires (ap (λ (y : State). y.tail) c.self.view_is) c.self.invariant.1 long len in
    needs_more c.args.self.now c.self.inside.tail.items c.self.inside.came c.piece_len.result _ c.requires (ap (λ (y : State). y.tail) c.self.view_is) c.self.invariant.1 long len (omega arith) (omega arith)
