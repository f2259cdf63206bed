use Rattle.std.proofs.Common.{refl, None}
use Rattle.conn_engine.specs.Hearers.{Hearer}
use Rattle.conn_engine.proofs.Feeds.{new_hearing}
use Rattle.conn_engine.proofs.hearing.Hearing.new.Goals as goal

pub returns : goal.returns
returns c =
    let h : Hearer = record { setup = c.args.setup.now; conn = c.args.conn; framer = c.in_ok-new.field-0; band = None; made = 0; calls = c.new-2.result.items } in
    new_hearing h c.in_ok-new.ensures refl refl c.new-2.ensures
