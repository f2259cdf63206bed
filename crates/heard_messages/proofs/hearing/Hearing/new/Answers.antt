use Rattle.std.proofs.Common.{refl}
use Rattle.heard_messages.proofs.Feeds.{new_hearing}
use Rattle.heard_messages.proofs.hearing.Hearing.new.Goals as goal

pub returns : goal.returns
returns g c =
    new_hearing g.J.Judge.first g.J.Judge.means c.args.judge.now
    (record { judge = c.args.judge.now; framer = c.in_ok-new.field-0; bound = c.begin.result; made = 0; calls = c.new-2.result.items })
    refl c.in_ok-new.ensures c.begin.ensures refl c.new-2.ensures
