use Rattle.std.proofs.Common.{sym}
use Rattle.orb_command.proofs.LoadNotes.{by_broker}
use Rattle.orb_command.proofs.load.run_load.Goals as goal

pub returns-in-Ok : goal.returns-in-Ok
returns-in-Ok g c =
    by_broker c.args.words.now c.in-Ok.broker c.load_broker.result (g.F.Files.state c.args.files.now) (g.F.Files.state c.read_broker.new.files)
    (g.O.Sink.state c.args.out.now) (g.O.Sink.state c.load_broker.new.out) c.in-Ok.ensures.kept (rw (sym c.as_ref.ensures.value) c.in-Ok.ensures.gives) c.load_broker.ensures
