use Rattle.std.proofs.Common.{◌∙◌, arith}
use Rattle.text_streams.proofs.ShownLaws.{shown_same}
use Rattle.text_streams.proofs.escapes.shown.Goals as goal

pub returns : goal.returns
returns c = c.percent_encode.ensures.text ∙ shown_same c.args.octets.now (λ i. omega (arith, c.type_inv.octets i))
