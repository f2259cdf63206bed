use Rattle.std.proofs.Common.{◌≡◌, ◌∙◌, ◌-◌, sym, false, length, take, drop, subst, List, ℕ}
use Rattle.std.specs.Prelude.{◌==◌, codes}
use Rattle.std.specs.List.{starts_with}
use Rattle.std.proofs.lemmas.List.{take_rest}
use Rattle.idl_tokens.proofs.Comments.{comment_on}
use Rattle.idl_tokens.proofs.runs.comment_len.Goals as goal

pub loop-n-preserved : goal.loop-n-preserved
loop-n-preserved c =
    let found : starts_with (λ x y. x == y) (take (length c.args.z.now - c.loop-n.n) (drop c.loop-n.n c.args.z.now)) (codes "*/") ≡ false = sym c.starts_with.ensures.value ∙ c.if-starts_with.false in
    comment_on c.loop-n.n c.args.z.now c.loop-n-test.true (subst (λ (z : List ℕ). starts_with (λ x y. x == y) z (codes "*/") ≡ false) (take_rest c.args.z.now c.loop-n.n) found) ∙ c.loop-n.invariant
