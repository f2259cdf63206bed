use Rattle.std.proofs.Common.{ℕ, List, Option, subst}
use Rattle.std.specs.Prelude.{Ok}
use Rattle.client_runs.specs.Interfaces.{Knows}
use Rattle.client_runs.proofs.Connecting.{known_calls}
use Rattle.client_runs.proofs.run.call_run.Goals as goal

pub returns-in-Ok-clause-calls : goal.returns-in-Ok-clause-calls
returns-in-Ok-clause-calls g c =
    let files = g.F.Files.state c.args.files.now in
    let files' = g.F.Files.state c.known.new.files in
    let P : Option (List ℕ) → Type 0 = λ (idl : Option (List ℕ)). Knows (Ok c.in-Ok.repository) idl files files' in
    known_calls _ _ c.args.words.now c.in-Ok.repository c.call_known.result files files' (g.N.Net.state c.args.net.now) (g.N.Net.state c.call_known.new.net)
    (g.O.Sink.state c.args.out.now) (g.O.Sink.state c.call_known.new.out) (subst P c.as_ref.ensures.value c.in-Ok.ensures.knows) c.call_known.ensures.calls
