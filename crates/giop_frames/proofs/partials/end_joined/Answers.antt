use Rattle.std.proofs.Common.{◌∙◌, sym}
use Rattle.giop_frames.proofs.Deeds.{ok_then}
use Rattle.giop_frames.proofs.Opening.{joins_on, joins_fit, joins_last}
use Rattle.giop_frames.proofs.partials.end_joined.Goals as goal

pub returns-then-header-clause-ok : goal.returns-then-header-clause-ok
returns-then-header-clause-ok c =
    joins_on c.args.joining c.args.at c.args.tail.now.items c.args.partials.now.items c.insert.new.self.items c.args.whole.now.items c.requires.joins c.requires.sound
    (sym c.requires.header.more ∙ c.if-header.true) c.in_ok-insert.ensures.items

pub seal-bytes-requires-clause-fits : goal.seal-bytes-requires-clause-fits
seal-bytes-requires-clause-fits c = joins_fit c.args.joining _ c.args.tail.now.items c.args.partials.now.items c.message.view_is c.requires.joins c.requires.sound

pub returns-clause-ok : goal.returns-clause-ok
returns-clause-ok c =
    ok_then c.give.result c.give.ensures.ok (λ g. joins_last c.args.joining _ c.args.at c.args.tail.now.items c.seal-bytes.result.items c.args.partials.now.items c.args.whole.now.items c.give.new.whole.items
    c.message.view_is c.requires.joins c.requires.sound (sym c.requires.header.more ∙ c.if-header.false) c.seal-bytes.ensures g)
