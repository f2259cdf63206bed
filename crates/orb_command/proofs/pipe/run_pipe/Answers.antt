use Rattle.std.proofs.Common.{sym}
use Rattle.orb_command.proofs.PipeNotes.{by_broker}
use Rattle.orb_command.proofs.pipe.run_pipe.Goals as goal

pub returns-in-Ok : goal.returns-in-Ok
returns-in-Ok g c =
    by_broker c.args.words.now c.in-Ok.broker c.run_broker.result.note c.run_broker.result.piped
    (g.F.Files.state c.args.files.now) (g.F.Files.state c.read_broker.new.files) (g.I.Source.state c.args.input.now) (g.I.Source.state c.run_broker.new.input)
    (g.O.Sink.state c.args.out.now) (g.O.Sink.state c.run_broker.new.out) c.in-Ok.ensures.kept (rw (sym c.as_ref.ensures.value) c.in-Ok.ensures.gives) c.run_broker.ensures
