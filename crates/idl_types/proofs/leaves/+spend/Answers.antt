use Rattle.std.proofs.Common.{◌∙◌, sym, ap, ℕ, Some, arith}
use Rattle.cdr_values.specs.Kinds.{kind_of}
use Rattle.idl_types.specs.Counting.{leaves_of}
use Rattle.idl_types.proofs.Budgets.{short_times, left_times}
use Rattle.idl_types.proofs.leaves.+spend.Goals as goal

pub spend_array-returns-in-None : goal.spend_array-returns-in-None
spend_array-returns-in-None t c = short_times c.args.budget c.args.len (leaves_of (kind_of c.args.element.now)) (omega (arith, c.if-len-eq0.false)) (sym c.in-None.ensures)

pub spend_array-returns-in-Some : goal.spend_array-returns-in-Some
spend_array-returns-in-Some t c =
    ap (λ (n : ℕ). Some n) c.behind_array.ensures
    ∙ left_times c.args.budget c.args.len (leaves_of (kind_of c.args.element.now)) c.in-Some.rest (omega (arith, c.if-len-eq0.false)) (sym c.in-Some.ensures)
