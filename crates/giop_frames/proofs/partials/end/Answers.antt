use Rattle.std.proofs.Common.{◌∙◌, ap, [], ◌∷◌, ◌++◌}
use Rattle.giop_frames.specs.Pieces.{Piece}
use Rattle.giop_frames.specs.Messages.{Message}
use Rattle.giop_frames.proofs.Deeds.{found_as, none_as, joins_fit, ok_then, does_none, does_last}
use Rattle.giop_frames.proofs.partials.end.Goals as goal

pub join-requires-clause-fits : goal.join-requires-clause-fits
join-requires-clause-fits c =
    joins_fit c.args.partials.now.items c.args.bytes.now c.in-Some.i c.remove-u.result c.requires.sound c.requires.fragment
    (found_as _ _ c.in-Some.i _ _ c.id_of.ensures c.as_slice.ensures.value c.in-Some.ensures) c.remove-u.ensures.value

pub returns-in-None-clause-ok : goal.returns-in-None-clause-ok
returns-in-None-clause-ok c =
    does_none (record { at = c.args.at; bytes = c.args.bytes.now }) c.args.partials.now.items c.args.whole.now.items c.requires.last c.requires.fragment
    (none_as _ _ _ _ c.id_of.ensures c.as_slice.ensures.value c.in-None.ensures)

pub returns-in_ok-message-in-Some-clause-ok : goal.returns-in_ok-message-in-Some-clause-ok
returns-in_ok-message-in-Some-clause-ok c =
    let p : Piece = record { at = c.args.at; bytes = c.args.bytes.now } in
    ok_then c.give.result c.give.ensures.ok (λ g. does_last p c.args.partials.now.items c.remove-u.new.self.items c.args.whole.now.items c.give.new.whole.items
    c.in-Some.i c.remove-u.result c.requires.sound c.requires.last c.requires.fragment
    (found_as _ _ c.in-Some.i _ _ c.id_of.ensures c.as_slice.ensures.value c.in-Some.ensures) c.remove-u.ensures.value c.remove-u.ensures.items
    (g ∙ ap (λ (m : Message). c.args.whole.now.items ++ m ∷ []) c.in_ok-message-in-Some.ensures))
