use Rattle.std.proofs.Common.{sym, subst}
use Rattle.name_map.specs.declared.limits.TheConstants.{MAX_CALLERS}
use Rattle.names_hall.specs.Hands.{Cell, Sitting}
use Rattle.names_hall.specs.Seats.{AreHands, MainAt}
use Rattle.names_hall.proofs.Back.{hands_in, all_back, all_kept}
use Rattle.names_hall.proofs.closing.close.Goals as goal

pub take_all-done-requires-clause-hands : goal.take_all-done-requires-clause-hands
take_all-done-requires-clause-hands c =
    hands_in c.map.inside.cell 0 c.args.hands.items (subst (λ (z : Cell). AreHands z 0 c.args.hands.items) (sym c.map.view_is) c.requires.hands)

pub close-map-requires-clause-whole : goal.close-map-requires-clause-whole
close-map-requires-clause-whole c =
    all_back c.map.inside.cell c.args.hands.items c.root.inside.main c.take_all-done.new.main
    (subst (λ (z : Cell × Sitting). MainAt z.0 MAX_CALLERS z.1) (λ i. (sym c.map.view_is i, sym c.root.view_is i)) c.requires.root) c.take_all-done.ensures.taken
    (subst (λ (z : Cell). AreHands z 0 c.args.hands.items) (sym c.map.view_is) c.requires.hands) c.requires.all

pub returns-clause-kept : goal.returns-clause-kept
returns-clause-kept c =
    all_kept c.map.inside.cell c.close-map.result.1.items c.args.hands.items c.root.inside.main c.take_all-done.new.main
    (subst (λ (z : Cell × Sitting). MainAt z.0 MAX_CALLERS z.1) (λ i. (sym c.map.view_is i, sym c.root.view_is i)) c.requires.root) c.take_all-done.ensures.taken
    (subst (λ (z : Cell). AreHands z 0 c.args.hands.items) (sym c.map.view_is) c.requires.hands) c.close-map.ensures.ended
