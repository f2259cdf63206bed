use Rattle.std.proofs.Common.{◌≡◌, ℕ, ◌∙◌, ap, List, Option, take, arith}
use Rattle.std.proofs.lemmas.List.{length-take-le}
use Rattle.fit_audit.specs.Counts as count
use Rattle.fit_audit.proofs.Counted.{one_waited, longest_within}
use Rattle.fit_audit.proofs.counts.longest_wait.Goals as goal

pub loop-n-preserved : goal.loop-n-preserved
loop-n-preserved c =
    let w : c.wait_of.result ≡ count.wait_of c.in_ok-kept.kept.items c.loop-n.n c.index-lines-n.result.action =
    c.wait_of.ensures ∙ ap (λ (kept : List (Option ℕ)). count.wait_of kept c.loop-n.n c.index-lines-n.result.action) c.deref.ensures.value in
    one_waited c.in_ok-kept.kept.items c.args.lines.now c.loop-n.n c.index-lines-n.result c.loop-n.longest c.wait_of.result c.max-longest.result
    (omega arith) c.index-lines-n.is c.loop-n.invariant w c.max-longest.ensures

pub returns-clause-within : goal.returns-clause-within
returns-clause-within c =
    let a = longest_within c.in_ok-kept.kept.items (take c.loop-n.n c.args.lines.now) in
    let b = length-take-le c.loop-n.n c.args.lines.now (omega arith) in
    let e = c.loop-n.invariant in omega arith
