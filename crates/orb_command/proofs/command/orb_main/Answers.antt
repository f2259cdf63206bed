use Rattle.std.proofs.Common.{◌≡◌, ◌∙◌, refl, sym, ap, inl, inr}
use Rattle.orb_command.specs.Command.{report_of}
use Rattle.orb_command.specs.Moment.{moment}
use Rattle.orb_command.proofs.Complete.{complete}
use Rattle.orb_command.proofs.ServeNotes.{wanting}
use Rattle.orb_command.proofs.UsageLaws.{is_no_one, usage_only}
use Rattle.orb_command.proofs.command.orb_main.Goals as goal

pub returns-in-Ok-clause-answers : goal.returns-in-Ok-clause-answers
returns-in-Ok-clause-answers g c = rw (sym c.in-Ok.ensures.meaning) c.carry_out.ensures.answers

pub returns-in-Ok-clause-complete : goal.returns-in-Ok-clause-complete
returns-in-Ok-clause-complete g c = λ well.
    complete g.N.Acc.Acceptor.state g.N.In.Source.state g.N.Out.Sink.state _ c.carry_out.result _ _ _ _ (returns-in-Ok-clause-answers g c) well

pub returns-in-Ok-clause-only : goal.returns-in-Ok-clause-only
returns-in-Ok-clause-only g c = λ e.
    sym c.in-Ok.ensures.meaning ∙ usage_only c.in-Ok.meaning (report_of c.carry_out.result) _ _ c.carry_out.ensures.answers.reports e

pub returns-in-Ok-clause-usage : goal.returns-in-Ok-clause-usage
returns-in-Ok-clause-usage g c = λ e. inl (c.carry_out.ensures.usage (c.in-Ok.ensures.meaning ∙ e))

pub returns-in-Err-clause-answers : goal.returns-in-Err-clause-answers
returns-in-Err-clause-answers g c =
    wanting g.N.Acc.Acceptor.state g.N.In.Source.state g.N.Out.Sink.state _ c.reported.result c.plain.result
    (moment (g.F.Files.state c.args.files.now) (g.I.Source.state c.args.input.now) (g.O.Sink.state c.args.out.now)) (g.N.Net.state c.args.net.now)
    c.reported.ensures.note c.reported.ensures.status c.reported.ensures.piped
    c.plain.ensures.reported c.plain.ensures.runs c.plain.ensures.names c.plain.ensures.acceptors c.plain.ensures.link

pub returns-in-Err-clause-complete : goal.returns-in-Err-clause-complete
returns-in-Err-clause-complete g c = λ well.
    complete g.N.Acc.Acceptor.state g.N.In.Source.state g.N.Out.Sink.state _ c.plain.result _ _ _ _ (returns-in-Err-clause-answers g c) well

pub returns-in-Err-clause-only : goal.returns-in-Err-clause-only
returns-in-Err-clause-only g c = λ e.
    let status : c.plain.result.status ≡ 12 = ap (λ r. r.status) c.plain.ensures.reported ∙ c.reported.ensures.status in
    absurd (is_no_one 12 refl (sym status ∙ e))

pub returns-in-Err-clause-usage : goal.returns-in-Err-clause-usage
returns-in-Err-clause-usage g c = λ e.
    inr (ap (λ r. r.status) c.plain.ensures.reported ∙ c.reported.ensures.status, c.in-Err.ensures.memory)
