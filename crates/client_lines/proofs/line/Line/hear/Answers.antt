use Rattle.std.proofs.Common.{sym, subst}
use Rattle.heard_messages.specs.Hearers.{IsGoing}
use Rattle.client_lines.specs.Awaiting as Spec
use Rattle.client_lines.specs.Lines.{Line}
use Rattle.client_lines.specs.declared.caller.Caller.{Caller}
use Rattle.client_lines.proofs.line.Line.hear.Goals as goal

pub feed-requires-clause-going : goal.feed-requires-clause-going
feed-requires-clause-going c =
    subst (λ (l : Line). IsGoing (λ (x : Caller). Spec.first x.binds) (λ (x : Caller). Spec.means x.binds) l.hearer) (sym c.self.view_is) (c.requires.heard.going c.requires.going)
