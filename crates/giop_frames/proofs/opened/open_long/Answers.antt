use Rattle.giop_frames.proofs.Opening.{rule_as, rule_open_as, opens_breaks, opens_fills}
use Rattle.giop_frames.proofs.opened.open_long.Goals as goal

pub fill_from-requires-clause-open : goal.fill_from-requires-clause-open
fill_from-requires-clause-open c =
    rule_open_as c.args.here.limit c.args.partials.now.items c.args.bytes.items c.args.header c.requires.begins
    (rule_as c.args.here.limit c.args.partials.now.items _ c.args.bytes.items _ c.args.header _ _ c.requires.begins c.as_slice.ensures.value c.as_slice-2.ensures c.piece_len-len.ensures c.in-None.ensures)

pub returns-in-Some : goal.returns-in-Some
returns-in-Some c =
    opens_breaks c.args.here c.args.header c.args.bytes.items c.args.partials.now.items c.in-Some.cause c.requires.begins c.requires.value c.requires.sound c.requires.long
    (rule_as c.args.here.limit c.args.partials.now.items _ c.args.bytes.items _ c.args.header _ _ c.requires.begins c.as_slice.ensures.value c.as_slice-2.ensures c.piece_len-len.ensures c.in-Some.ensures)

pub returns-in_ok-filling-in-None : goal.returns-in_ok-filling-in-None
returns-in_ok-filling-in-None c =
    opens_fills c.args.here c.args.header c.in_ok-filling-in-None.filling c.args.bytes.items c.args.partials.now.items c.fill_from.new.partials.items c.requires.begins c.requires.value c.requires.sound c.requires.long
    (rule_as c.args.here.limit c.args.partials.now.items _ c.args.bytes.items _ c.args.header _ _ c.requires.begins c.as_slice.ensures.value c.as_slice-2.ensures c.piece_len-len.ensures c.in-None.ensures)
    c.in_ok-filling-in-None.ensures
