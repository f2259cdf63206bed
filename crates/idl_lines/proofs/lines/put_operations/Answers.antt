-- The lines of all operations are after the text.
use Rattle.std.proofs.Common.{◌++◌, string_bytes, ap, ◌∙◌}
use Rattle.idl_lines.proofs.Walks.{all_operations}
use Rattle.idl_lines.proofs.lines.put_operations.Goals as goal

pub returns : goal.returns
returns c =
    c.loop-operation.invariant
    ∙ ap (λ xs. string_bytes c.args.text.now ++ xs) (all_operations c.args.operations.now c.loop-operation.operation-index c.loop-operation-test.false)
