use Rattle.std.proofs.Common.{ℕ, List, ◌∷◌, [], get_or, replicate, take, take_all, ap, arith}
use Rattle.std.proofs.lemmas.List.{get_or_default, length-replicate}
use Rattle.std.specs.Int.{w32}
use Rattle.std.specs.List.{flat_map}
use Rattle.cdr_core.specs.Field.{number, octets_fields}
use Rattle.giop_messages.proofs.LengthLaws.{ends_then, ends_next, ends_same}
use Rattle.giop_messages.proofs.SizedContexts.{blank_context, sized_ends}
use Rattle.giop_messages.proofs.length.behind_sizes.Goals as goal

pub loop-size-preserved : goal.loop-size-preserved
loop-size-preserved c =
    let l = c.loop-size in
    let n = get_or c.args.sizes.now l.size-index 0 in
    let bytes = replicate n 0 in
    ends_next blank_context c.args.place l.at c.behind_octets-at.result c.args.sizes.now l.size-index n c.loop-size-test.true
    (get_or_default c.args.sizes.now l.size-index 0 n c.loop-size-test.true) l.invariant
    (ends_then l.at c.behind_u32.result c.behind_octets-at.result (number w32 0 ∷ []) (octets_fields bytes)
    (c.behind_u32.ensures 0) (c.behind_octets-at.ensures bytes (length-replicate n 0)))

pub returns : goal.returns
returns c contexts same =
    let l = c.loop-size in
    let sizes = c.args.sizes.now in
    let all = ends_same c.args.place l.at (flat_map blank_context (take l.size-index sizes)) (flat_map blank_context sizes)
    (ap (λ (ns : List ℕ). flat_map blank_context ns) (take_all l.size-index sizes (omega arith))) l.invariant in
    sized_ends c.args.place l.at contexts sizes same all
