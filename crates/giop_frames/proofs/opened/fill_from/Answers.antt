use Rattle.std.proofs.Common.{ap, ◌∙◌, true, false}
use Rattle.giop_frames.specs.Messages.{is_fragment}
use Rattle.giop_frames.proofs.Deeds.{fragment_as, none_as}
use Rattle.giop_frames.proofs.Opening.{fills_own, none_some}
use Rattle.giop_frames.proofs.opened.fill_from.Goals as goal

pub join_to-requires-clause-fragment : goal.join_to-requires-clause-fragment
join_to-requires-clause-fragment c = ap is_fragment c.as_slice-in-Some.ensures ∙ fragment_as c.args.bytes.items _ true c.requires.begins.kind c.if-is.ensures

pub unreachable-requires : goal.unreachable-requires
unreachable-requires c =
    none_some _ (none_as _ _ _ _ (c.id_of.ensures ∙ ap Rattle.giop_frames.specs.Pieces.id_of c.as_slice.ensures) c.as_slice-then-is.ensures.value c.in-None.ensures)
    (c.requires.open (fragment_as c.args.bytes.items _ true c.requires.begins.kind c.if-is.ensures))

pub returns-in_ok-open_own : goal.returns-in_ok-open_own
returns-in_ok-open_own c =
    fills_own c.in_ok-open_own.field-0 c.args.bytes.items c.args.partials.now.items c.in_ok-open_own.ensures (fragment_as c.args.bytes.items _ false c.requires.begins.kind c.if-is.ensures)
