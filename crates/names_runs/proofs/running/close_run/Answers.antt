use Rattle.std.proofs.Common.{◌≡◌, ◌*◌, ◌≤◌, List, length, sym, ap, subst, ◌∙◌, arith}
use Rattle.name_map.specs.declared.limits.TheConstants.{MAX_CALLERS}
use Rattle.names_hall.specs.Hands.{Hand}
use Rattle.names_hall.specs.Seats.{AreHands}
use Rattle.names_hall.specs.Closing.{done_by, told_in, AreKept}
use Rattle.names_runs.specs.Giving.{conns_of}
use Rattle.names_runs.proofs.Closing.{all_hands, few_conns, all_slots}
use Rattle.names_runs.proofs.running.close_run.Goals as goal

pub take_apart-hands-requires-clause-room : goal.take_apart-hands-requires-clause-room
take_apart-hands-requires-clause-room g c =
    let few : length (conns_of c.args.done.items) ≤ MAX_CALLERS * c.args.setup.now.per_slot
    = few_conns g.A.Acceptor.state g.A.In.Source.state g.A.Out.Sink.state c.args.setup.now c.args.map c.args.done.items c.requires.back in
    let all : length c.args.done.items ≡ MAX_CALLERS = c.requires.back.all in
    let hands = c.requires.room.0 in
    let acceptors = c.requires.room.1 in
    let conns = c.requires.room.2 in
    let ends = c.requires.room.3 in
    (omega arith, omega arith, omega arith, omega arith)

pub close-map-requires-clause-hands : goal.close-map-requires-clause-hands
close-map-requires-clause-hands g c =
    subst (λ (hs : List Hand). AreHands c.args.map 0 hs) (sym c.take_apart-hands.ensures.hands.0)
    (all_hands g.A.Acceptor.state g.A.In.Source.state g.A.Out.Sink.state c.args.setup.now c.args.map c.args.done.items c.requires.back)

pub returns-clause-slots : goal.returns-clause-slots
returns-clause-slots g c = λ before done.
    let hands = c.take_apart-hands.ensures.hands.0 in
    all_slots g.A.Acceptor.state g.A.In.Source.state g.A.Out.Sink.state c.args.setup.now c.args.map _ before c.take_apart-hands.result.acceptors.items c.args.done.items
    done c.requires.back.all
    (subst (λ (hs : List Hand). AreKept c.close-map.result.history.items 0 (done_by hs)) hands c.close-map.ensures.kept)
    c.take_apart-hands.ensures.acceptors.0
    (ap told_in c.from_vec-done.ensures ∙ (c.close-map.ensures.done ∙ ap done_by hands))
    (c.from_vec-conns.ensures ∙ c.take_apart-hands.ensures.conns.0)
    (c.from_vec-slots.ensures ∙ c.take_apart-hands.ensures.ends.0)
