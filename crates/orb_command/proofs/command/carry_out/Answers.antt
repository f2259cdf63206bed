use Rattle.std.proofs.Common.{◌≡◌, refl, sym, ap, ◌∙◌}
use Rattle.command_words.specs.declared.meaning.Meaning.TheVariants.{Pipe, Serve, Names, Dump, Audit, Refs, RefsAt, Idl, Call, SharedCall, Load, Unread}
use Rattle.orb_command.specs.Moment.{moment}
use Rattle.orb_command.specs.Command.{status_of}
use Rattle.orb_command.proofs.CommandLaws.{dump_answers, audit_answers, refs_answers, unread_answers}
use Rattle.orb_command.proofs.CallNotes.{call_answers}
use Rattle.orb_command.proofs.SharedNotes.{shared_answers}
use Rattle.orb_command.proofs.LoadNotes.{load_answers}
use Rattle.orb_command.proofs.NamesNotes.{names_answers}
use Rattle.orb_command.proofs.AtLaws.{at_answers}
use Rattle.orb_command.proofs.IdlLaws.{idl_answers}
use Rattle.orb_command.proofs.PipeNotes.{pipe_answers}
use Rattle.orb_command.proofs.Plain.{plain_answers}
use Rattle.orb_command.proofs.ServeNotes.{serve_answers}
use Rattle.orb_command.proofs.command.carry_out.Goals as goal

pub returns-in-Pipe-clause-answers : goal.returns-in-Pipe-clause-answers
returns-in-Pipe-clause-answers g c =
    let note = c.reported_pipe.ensures.note in
    let before = moment (g.F.Files.state c.args.files.now) (g.I.Source.state c.args.input.now) (g.O.Sink.state c.args.out.now) in
    let after = moment (g.F.Files.state c.run_pipe.new.files) (g.I.Source.state c.run_pipe.new.input) (g.O.Sink.state c.run_pipe.new.out) in
    rw c.in-Pipe.is
    (plain_answers g.N.Acc.Acceptor.state g.N.In.Source.state g.N.Out.Sink.state (Pipe c.in-Pipe.words) c.reported_pipe.result c.plain.result before after (g.N.Net.state c.args.net.now) tt
    (pipe_answers c.in-Pipe.words c.reported_pipe.result before after
    (rw (note, c.reported_pipe.ensures.piped) c.run_pipe.ensures) (c.reported_pipe.ensures.status ∙ ap status_of (sym note)))
    c.plain.ensures.reported c.plain.ensures.runs c.plain.ensures.names c.plain.ensures.acceptors c.plain.ensures.link)

pub returns-in-Serve-clause-answers : goal.returns-in-Serve-clause-answers
returns-in-Serve-clause-answers g c =
    let told = c.answered_serve.ensures in
    let before = moment (g.F.Files.state c.args.files.now) (g.I.Source.state c.args.input.now) (g.O.Sink.state c.args.out.now) in
    let after = moment (g.F.Files.state c.run_server.new.files) (g.I.Source.state c.args.input.now) (g.O.Sink.state c.run_server.new.out) in
    rw c.in-Serve.is
    (serve_answers g.N.Acc.Acceptor.state g.N.In.Source.state g.N.Out.Sink.state c.in-Serve.words c.answered_serve.result before after
    (g.N.Net.state c.args.net.now) (g.N.Net.state c.run_server.new.net) refl
    (rw told.told c.run_server.ensures) (told.status ∙ ap (λ t. status_of t.note) (sym told.told)) told.piped told.names told.link)

pub returns-in-Names-clause-answers : goal.returns-in-Names-clause-answers
returns-in-Names-clause-answers g c =
    let told = c.answered_names.ensures in
    let before = moment (g.F.Files.state c.args.files.now) (g.I.Source.state c.args.input.now) (g.O.Sink.state c.args.out.now) in
    let after = moment (g.F.Files.state c.args.files.now) (g.I.Source.state c.args.input.now) (g.O.Sink.state c.run_names.new.out) in
    rw c.in-Names.is
    (names_answers g.N.Acc.Acceptor.state g.N.In.Source.state g.N.Out.Sink.state c.in-Names.at c.answered_names.result before after
    (g.N.Net.state c.args.net.now) (g.N.Net.state c.run_names.new.net) refl refl
    (rw told.told c.run_names.ensures) (told.status ∙ ap (λ t. status_of t.note) (sym told.told)) told.piped told.runs told.link)

pub returns-in-Dump-clause-answers : goal.returns-in-Dump-clause-answers
returns-in-Dump-clause-answers g c =
    let note = c.reported.ensures.note ∙ c.dump_note.ensures in
    let status = c.reported.ensures.status ∙ ap status_of c.dump_note.ensures in
    let before = moment (g.F.Files.state c.args.files.now) (g.I.Source.state c.args.input.now) (g.O.Sink.state c.args.out.now) in
    let after = moment (g.F.Files.state c.args.files.now) (g.I.Source.state c.dump_run.new.source) (g.O.Sink.state c.dump_run.new.sink) in
    rw c.in-Dump.is
    (plain_answers g.N.Acc.Acceptor.state g.N.In.Source.state g.N.Out.Sink.state Dump c.reported.result c.plain-in-Dump.result before after (g.N.Net.state c.args.net.now) tt
    (dump_answers c.dump_run.result c.reported.result before after refl c.dump_run.ensures note status c.reported.ensures.piped)
    c.plain-in-Dump.ensures.reported c.plain-in-Dump.ensures.runs c.plain-in-Dump.ensures.names c.plain-in-Dump.ensures.acceptors c.plain-in-Dump.ensures.link)

pub returns-in-Audit-clause-answers : goal.returns-in-Audit-clause-answers
returns-in-Audit-clause-answers g c =
    let note = c.reported-in-Audit.ensures.note ∙ c.audit_note.ensures in
    let status = c.reported-in-Audit.ensures.status ∙ ap status_of c.audit_note.ensures in
    let before = moment (g.F.Files.state c.args.files.now) (g.I.Source.state c.args.input.now) (g.O.Sink.state c.args.out.now) in
    let after = moment (g.F.Files.state c.args.files.now) (g.I.Source.state c.audit_run.new.source) (g.O.Sink.state c.audit_run.new.sink) in
    rw c.in-Audit.is
    (plain_answers g.N.Acc.Acceptor.state g.N.In.Source.state g.N.Out.Sink.state Audit c.reported-in-Audit.result c.plain-in-Audit.result before after (g.N.Net.state c.args.net.now) tt
    (audit_answers c.audit_run.result c.reported-in-Audit.result before after refl c.audit_run.ensures note status c.reported-in-Audit.ensures.piped)
    c.plain-in-Audit.ensures.reported c.plain-in-Audit.ensures.runs c.plain-in-Audit.ensures.names c.plain-in-Audit.ensures.acceptors c.plain-in-Audit.ensures.link)

pub returns-in-Refs-clause-answers : goal.returns-in-Refs-clause-answers
returns-in-Refs-clause-answers g c =
    let note = c.reported-in-Refs.ensures.note ∙ c.refs_note.ensures in
    let status = c.reported-in-Refs.ensures.status ∙ ap status_of c.refs_note.ensures in
    let before = moment (g.F.Files.state c.args.files.now) (g.I.Source.state c.args.input.now) (g.O.Sink.state c.args.out.now) in
    let after = moment (g.F.Files.state c.args.files.now) (g.I.Source.state c.refs_run.new.source) (g.O.Sink.state c.refs_run.new.sink) in
    rw c.in-Refs.is
    (plain_answers g.N.Acc.Acceptor.state g.N.In.Source.state g.N.Out.Sink.state Refs c.reported-in-Refs.result c.plain-in-Refs.result before after (g.N.Net.state c.args.net.now) tt
    (refs_answers c.refs_run.result c.reported-in-Refs.result before after refl c.refs_run.ensures note status c.reported-in-Refs.ensures.piped)
    c.plain-in-Refs.ensures.reported c.plain-in-Refs.ensures.runs c.plain-in-Refs.ensures.names c.plain-in-Refs.ensures.acceptors c.plain-in-Refs.ensures.link)

pub returns-in-RefsAt-clause-answers : goal.returns-in-RefsAt-clause-answers
returns-in-RefsAt-clause-answers g c =
    let note = c.reported-in-RefsAt.ensures.note ∙ c.note_at.ensures in
    let status = c.reported-in-RefsAt.ensures.status ∙ ap status_of c.note_at.ensures in
    let before = moment (g.F.Files.state c.args.files.now) (g.I.Source.state c.args.input.now) (g.O.Sink.state c.args.out.now) in
    let after = moment (g.F.Files.state c.at_run.new.files) (g.I.Source.state c.args.input.now) (g.O.Sink.state c.at_run.new.sink) in
    rw c.in-RefsAt.is
    (plain_answers g.N.Acc.Acceptor.state g.N.In.Source.state g.N.Out.Sink.state (RefsAt c.in-RefsAt.at c.in-RefsAt.config) c.reported-in-RefsAt.result c.plain-in-RefsAt.result before after (g.N.Net.state c.args.net.now) tt
    (at_answers c.at_run.result c.in-RefsAt.at c.in-RefsAt.config c.reported-in-RefsAt.result before after
    refl (rw (sym c.as_ref.ensures.value) c.at_run.ensures) note status c.reported-in-RefsAt.ensures.piped)
    c.plain-in-RefsAt.ensures.reported c.plain-in-RefsAt.ensures.runs c.plain-in-RefsAt.ensures.names c.plain-in-RefsAt.ensures.acceptors c.plain-in-RefsAt.ensures.link)

pub returns-in-Idl-clause-answers : goal.returns-in-Idl-clause-answers
returns-in-Idl-clause-answers g c =
    let note = c.reported-in-Idl.ensures.note ∙ c.idl_note.ensures in
    let status = c.reported-in-Idl.ensures.status ∙ ap status_of c.idl_note.ensures in
    let before = moment (g.F.Files.state c.args.files.now) (g.I.Source.state c.args.input.now) (g.O.Sink.state c.args.out.now) in
    let after = moment (g.F.Files.state c.idl_run.new.files) (g.I.Source.state c.args.input.now) (g.O.Sink.state c.idl_run.new.out) in
    rw c.in-Idl.is
    (plain_answers g.N.Acc.Acceptor.state g.N.In.Source.state g.N.Out.Sink.state (Idl c.in-Idl.name) c.reported-in-Idl.result c.plain-in-Idl.result before after (g.N.Net.state c.args.net.now) tt
    (idl_answers c.idl_run.result c.in-Idl.name c.reported-in-Idl.result before after
    refl c.idl_run.ensures.lists c.idl_run.ensures.only c.idl_run.ensures.exact note status c.reported-in-Idl.ensures.piped)
    c.plain-in-Idl.ensures.reported c.plain-in-Idl.ensures.runs c.plain-in-Idl.ensures.names c.plain-in-Idl.ensures.acceptors c.plain-in-Idl.ensures.link)

pub returns-in-Call-clause-answers : goal.returns-in-Call-clause-answers
returns-in-Call-clause-answers g c =
    let told = c.answered_call.ensures in
    let before = moment (g.F.Files.state c.args.files.now) (g.I.Source.state c.args.input.now) (g.O.Sink.state c.args.out.now) in
    let after = moment (g.F.Files.state c.run_call.new.files) (g.I.Source.state c.args.input.now) (g.O.Sink.state c.run_call.new.out) in
    rw c.in-Call.is
    (call_answers g.N.Acc.Acceptor.state g.N.In.Source.state g.N.Out.Sink.state c.in-Call.words c.answered_call.result before after
    (g.N.Net.state c.args.net.now) (g.N.Net.state c.run_call.new.net) refl
    (rw told.told c.run_call.ensures) (told.status ∙ ap (λ t. status_of t.note) (sym told.told)) told.piped told.runs told.names told.acceptors told.mux)

pub returns-in-SharedCall-clause-answers : goal.returns-in-SharedCall-clause-answers
returns-in-SharedCall-clause-answers g c =
    let told = c.answered_shared.ensures in
    let before = moment (g.F.Files.state c.args.files.now) (g.I.Source.state c.args.input.now) (g.O.Sink.state c.args.out.now) in
    let after = moment (g.F.Files.state c.run_shared.new.files) (g.I.Source.state c.args.input.now) (g.O.Sink.state c.run_shared.new.out) in
    rw c.in-SharedCall.is
    (shared_answers g.N.Acc.Acceptor.state g.N.In.Source.state g.N.Out.Sink.state c.in-SharedCall.words c.in-SharedCall.callers c.answered_shared.result before after
    (g.N.Net.state c.args.net.now) (g.N.Net.state c.run_shared.new.net) refl
    (rw told.told c.run_shared.ensures) (told.status ∙ ap (λ t. status_of t.note) (sym told.told)) told.piped told.runs told.names told.acceptors)

pub returns-in-Load-clause-answers : goal.returns-in-Load-clause-answers
returns-in-Load-clause-answers g c =
    let note = c.reported-in-Load.ensures.note in
    let before = moment (g.F.Files.state c.args.files.now) (g.I.Source.state c.args.input.now) (g.O.Sink.state c.args.out.now) in
    let after = moment (g.F.Files.state c.run_load.new.files) (g.I.Source.state c.args.input.now) (g.O.Sink.state c.run_load.new.out) in
    rw c.in-Load.is
    (plain_answers g.N.Acc.Acceptor.state g.N.In.Source.state g.N.Out.Sink.state (Load c.in-Load.words) c.reported-in-Load.result c.plain-in-Load.result before after (g.N.Net.state c.args.net.now) tt
    (load_answers c.in-Load.words c.reported-in-Load.result before after refl
    (rw note c.run_load.ensures) (c.reported-in-Load.ensures.status ∙ ap status_of (sym note)) c.reported-in-Load.ensures.piped)
    c.plain-in-Load.ensures.reported c.plain-in-Load.ensures.runs c.plain-in-Load.ensures.names c.plain-in-Load.ensures.acceptors c.plain-in-Load.ensures.link)

pub returns-in-Unread-clause-answers : goal.returns-in-Unread-clause-answers
returns-in-Unread-clause-answers g c =
    let before = moment (g.F.Files.state c.args.files.now) (g.I.Source.state c.args.input.now) (g.O.Sink.state c.args.out.now) in
    rw c.in-Unread.is
    (plain_answers g.N.Acc.Acceptor.state g.N.In.Source.state g.N.Out.Sink.state Unread c.reported-in-Unread.result c.plain-in-Unread.result before before (g.N.Net.state c.args.net.now) tt
    (unread_answers c.reported-in-Unread.result before c.reported-in-Unread.ensures.note c.reported-in-Unread.ensures.status c.reported-in-Unread.ensures.piped)
    c.plain-in-Unread.ensures.reported c.plain-in-Unread.ensures.runs c.plain-in-Unread.ensures.names c.plain-in-Unread.ensures.acceptors c.plain-in-Unread.ensures.link)

pub returns-in-Pipe-clause-usage : goal.returns-in-Pipe-clause-usage
returns-in-Pipe-clause-usage g c = λ e. let no : Pipe c.in-Pipe.words ≡ Unread = sym c.in-Pipe.is ∙ e in absurd (cc)

pub returns-in-Serve-clause-usage : goal.returns-in-Serve-clause-usage
returns-in-Serve-clause-usage g c = λ e. let no : Serve c.in-Serve.words ≡ Unread = sym c.in-Serve.is ∙ e in absurd (cc)

pub returns-in-Names-clause-usage : goal.returns-in-Names-clause-usage
returns-in-Names-clause-usage g c = λ e. let no : Names c.in-Names.at ≡ Unread = sym c.in-Names.is ∙ e in absurd (cc)

pub returns-in-Dump-clause-usage : goal.returns-in-Dump-clause-usage
returns-in-Dump-clause-usage g c = λ e. let no : Dump ≡ Unread = sym c.in-Dump.is ∙ e in absurd (cc)

pub returns-in-Audit-clause-usage : goal.returns-in-Audit-clause-usage
returns-in-Audit-clause-usage g c = λ e. let no : Audit ≡ Unread = sym c.in-Audit.is ∙ e in absurd (cc)

pub returns-in-Refs-clause-usage : goal.returns-in-Refs-clause-usage
returns-in-Refs-clause-usage g c = λ e. let no : Refs ≡ Unread = sym c.in-Refs.is ∙ e in absurd (cc)

pub returns-in-RefsAt-clause-usage : goal.returns-in-RefsAt-clause-usage
returns-in-RefsAt-clause-usage g c = λ e. let no : RefsAt c.in-RefsAt.at c.in-RefsAt.config ≡ Unread = sym c.in-RefsAt.is ∙ e in absurd (cc)

pub returns-in-Idl-clause-usage : goal.returns-in-Idl-clause-usage
returns-in-Idl-clause-usage g c = λ e. let no : Idl c.in-Idl.name ≡ Unread = sym c.in-Idl.is ∙ e in absurd (cc)

pub returns-in-Call-clause-usage : goal.returns-in-Call-clause-usage
returns-in-Call-clause-usage g c = λ e. let no : Call c.in-Call.words ≡ Unread = sym c.in-Call.is ∙ e in absurd (cc)

pub returns-in-SharedCall-clause-usage : goal.returns-in-SharedCall-clause-usage
returns-in-SharedCall-clause-usage g c = λ e. let no : SharedCall c.in-SharedCall.words c.in-SharedCall.callers ≡ Unread = sym c.in-SharedCall.is ∙ e in absurd (cc)

pub returns-in-Load-clause-usage : goal.returns-in-Load-clause-usage
returns-in-Load-clause-usage g c = λ e. let no : Load c.in-Load.words ≡ Unread = sym c.in-Load.is ∙ e in absurd (cc)

pub returns-in-Unread-clause-usage : goal.returns-in-Unread-clause-usage
returns-in-Unread-clause-usage g c = λ e. ap (λ r. r.status) c.plain-in-Unread.ensures.reported ∙ c.reported-in-Unread.ensures.status
