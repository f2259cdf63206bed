-- Bytes and their end give one result.
use Rattle.std.proofs.Common.{◌≡◌, ℕ, Bool, List, Some, sym, ap, ◌∙◌}
use Rattle.orb_base.specs.declared.limits.TheConstants.{MAX_MESSAGE}
use Rattle.giop_frames.specs.Stream.{stream}
use Rattle.std.specs.Prelude.{Option, length}
use Rattle.heard_messages.specs.Hearing.{IsOneWay}
use Rattle.heard_messages.specs.ReadEnds.{read_end}
use Rattle.heard_messages.specs.declared.read_end.ReadEnd.{ReadEnd}
use Rattle.heard_messages.proofs.Growth.{heard_one}
use Rattle.client_lines.specs.Answer.{Answer}
use Rattle.client_lines.specs.Awaiting.{first, means}
use Rattle.client_calls.specs.Exchanges.{binds, due, outcome_of}
use Rattle.client_calls.specs.Laws.{OneResult}

one_way : (b : Bool) → IsOneWay (means b)
one_way b bound serial order size message x y p q = p ∙ sym q

some_is : (a b : List ℕ) → Some a ≡ Some b → a ≡ b
some_is a b e = cc

pub one_result : OneResult
one_result asked got ended sent sent' outcome outcome' x y =
    let b = binds asked in
    let one = heard_one (means b) (one_way b) (first b) got x.answers y.answers x.stream.ending y.stream.ending x.stream.heard y.stream.heard in
    let end : x.end ≡ y.end =
    x.stream.comes ∙ ap (λ (o : Option ReadEnd). read_end o (length got) ended (stream MAX_MESSAGE got).rest) one.1 ∙ sym y.stream.comes in (
      some_is sent sent' (sym x.sent_is ∙ ap (due asked) one.0 ∙ y.sent_is),
      x.outcome_is ∙ ap (λ (xs : List Answer). outcome_of asked xs x.end) one.0 ∙ ap (outcome_of asked y.answers) end ∙ sym y.outcome_is,
    )
