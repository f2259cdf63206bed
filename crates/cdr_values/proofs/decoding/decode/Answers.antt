use Rattle.std.proofs.Common.{arith}
use Rattle.cdr_values.specs.Kinds.{kind_of}
use Rattle.cdr_values.proofs.LawProofs.{tells_first_fault, answers_only, tells_no_other}
use Rattle.cdr_values.proofs.decoding.decode.Goals as goal

pub returns-clause-first : goal.returns-clause-first
returns-clause-first c =
    tells_first_fault c.decode_front.result c.args.order c.args.at (kind_of c.args.kind.now) c.args.bytes.now (λ i. let h = c.type_inv.bytes i in omega arith) c.decode_front.ensures.exact

pub returns-clause-only : goal.returns-clause-only
returns-clause-only c = answers_only c.decode_front.result c.args.order c.args.at (kind_of c.args.kind.now) c.args.bytes.now c.decode_front.ensures.exact

pub returns-clause-told : goal.returns-clause-told
returns-clause-told c = tells_no_other c.decode_front.result c.args.order c.args.at (kind_of c.args.kind.now) c.args.bytes.now c.decode_front.ensures.exact
