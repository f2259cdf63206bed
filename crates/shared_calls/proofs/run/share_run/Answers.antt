use Rattle.std.proofs.Common.{ℕ, List, Option, subst}
use Rattle.std.specs.Prelude.{Ok}
use Rattle.client_runs.specs.Interfaces.{Knows}
use Rattle.shared_calls.proofs.Sharing.{known_shares}
use Rattle.shared_calls.proofs.run.share_run.Goals as goal

pub returns-in-Ok-clause-shares : goal.returns-in-Ok-clause-shares
returns-in-Ok-clause-shares g c =
    let files = g.F.Files.state c.args.files.now in
    let files' = g.F.Files.state c.known.new.files in
    let P : Option (List ℕ) → Type 0 = λ (idl : Option (List ℕ)). Knows (Ok c.in-Ok.repository) idl files files' in
    known_shares _ _ (record { words = c.args.words.now; callers = c.args.callers }) c.in-Ok.repository c.share_known.result files files' (g.N.Net.state c.args.net.now)
    (g.N.Net.state c.share_known.new.net) (g.O.Sink.state c.args.out.now) (g.O.Sink.state c.share_known.new.out) (subst P c.as_ref.ensures.value c.in-Ok.ensures.knows) c.share_known.ensures.shares
