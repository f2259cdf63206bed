-- How a read comes out.
use Rattle.std.proofs.Common.{◌≡◌, ℕ, ◌+◌, ◌≤◌, ◌<◌, Option, None, sym, ap, ◌∙◌, subst, arith}
use Rattle.std.proofs.lemmas.Grind.{common_steps}
use Rattle.std.proofs.lemmas.Result.{err_from_is_err_and}
use Rattle.orb_base.specs.declared.limits.TheConstants.{MAX_MESSAGE}
use Rattle.giop_frames.specs.Stream.{stream}
use Rattle.heard_messages.specs.Hearers.{IsGoing}
use Rattle.heard_messages.specs.ReadEnds.{input_end}
use Rattle.heard_messages.specs.declared.read_end.TheConstants.{MAX_TAKEN}
use Rattle.client_lines.specs.Awaiting as Spec
use Rattle.client_lines.specs.Lines.{Line, fed}
use Rattle.client_lines.specs.declared.caller.Caller.{Caller}
use Rattle.client_lines.proofs.LineLaws.{over_by_bytes, over_full, over_at_end, over_at_fault, lacks_piece}
use Rattle.client_lines.proofs.line.Line.read.Goals as goal

pub returns-in-Some : goal.returns-in-Some
returns-in-Some g c =
    over_by_bytes c.args.self.now c.in-Some.ending (g.I.Source.state c.args.source.now) c.requires.heard c.requires.none (sym (ap (λ (l : Line). l.ending) c.self.view_is) ∙ c.in-Some.is)

pub returns-then-self-ge-MAX_TAKEN : goal.returns-then-self-ge-MAX_TAKEN
returns-then-self-ge-MAX_TAKEN g c =
    let full : MAX_TAKEN ≤ c.args.self.now.taken = omega (arith, c.if-self-ge-MAX_TAKEN.true, ap (λ (l : Line). l.taken) c.self.view_is) in
    over_full c.args.self.now (g.I.Source.state c.args.source.now) c.requires.heard c.requires.none (sym (ap (λ (l : Line). l.ending) c.self.view_is) ∙ c.in_default.is) full

pub returns-in_err-hear-in-Bytes : goal.returns-in_err-hear-in-Bytes
returns-in_err-hear-in-Bytes g c =
    let p = err_from_is_err_and c.from_residual.result c.from_residual.ensures.1 in
    let few : c.in-Bytes.n + c.self.inside.taken ≤ 67108864 =
    grind (arith, common_steps, c.in-Bytes.ensures.bytes.1, c.read.auto.into, c.min-space.ensures, c.if-self-ge-MAX_TAKEN.false) in
    let room : c.in-Bytes.n + c.args.self.now.taken ≤ MAX_TAKEN = omega (arith, few, ap (λ (l : Line). l.taken) c.self.view_is) in
    rw p.1 (lacks_piece c.args.self.now c.read.new.into c.in-Bytes.n (g.I.Source.state c.args.source.now) (g.I.Source.state c.read.new.self) c.requires.heard c.requires.none
    (sym (ap (λ (l : Line). l.ending) c.self.view_is) ∙ c.in_default.is) room c.in-Bytes.ensures.bytes.1 c.in-Bytes.ensures.bytes.2 c.in-Bytes.ensures.bytes.3 c.in-Bytes.ensures.end c.in-Bytes.ensures.fault)

pub at_end-requires : goal.at_end-requires
at_end-requires g c =
    subst (λ (l : Line). IsGoing (λ (x : Caller). Spec.first x.binds) (λ (x : Caller). Spec.means x.binds) l.hearer) (sym c.self.view_is)
    (c.requires.heard.going (sym (ap (λ (l : Line). l.ending) c.self.view_is) ∙ c.in_default.is))

pub returns-in-End : goal.returns-in-End
returns-in-End g c =
    let less : c.args.self.now.taken < MAX_TAKEN = omega (arith, c.if-self-ge-MAX_TAKEN.false, ap (λ (l : Line). l.taken) c.self.view_is) in
    over_at_end c.args.self.now c.at_end.result (g.I.Source.state c.args.source.now) (g.I.Source.state c.read.new.self) c.requires.heard c.requires.none
    (sym (ap (λ (l : Line). l.ending) c.self.view_is) ∙ c.in_default.is) less (c.at_end.ensures ∙ ap (λ (l : Line). input_end (stream MAX_MESSAGE (fed l)).rest) c.self.view_is)
    c.in-End.ensures.bytes.1 c.in-End.ensures.bytes.2 c.in-End.ensures.bytes.0 c.in-End.ensures.end.1 c.in-End.ensures.fault

pub returns-in-Failed : goal.returns-in-Failed
returns-in-Failed g c =
    let less : c.args.self.now.taken < MAX_TAKEN = omega (arith, c.if-self-ge-MAX_TAKEN.false, ap (λ (l : Line). l.taken) c.self.view_is) in
    over_at_fault c.args.self.now (g.I.Source.state c.args.source.now) (g.I.Source.state c.read.new.self) c.requires.heard c.requires.none
    (sym (ap (λ (l : Line). l.ending) c.self.view_is) ∙ c.in_default.is) less c.in-Failed.ensures.bytes.0 c.in-Failed.ensures.bytes.1 c.in-Failed.ensures.end c.in-Failed.ensures.fault.1
