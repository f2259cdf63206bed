use Rattle.std.proofs.Common.{◌∙◌, ap, sym}
use Rattle.std.specs.Prelude.{is_some}
use Rattle.orb_base.specs.NulFree.{nul_at}
use Rattle.command_options.proofs.NulWords.{clean_word, no_words, nul_word}
use Rattle.command_options.proofs.nul.has_nul.Goals as goal

pub returns-then-holds_nul : goal.returns-then-holds_nul
returns-then-holds_nul g c =
    let text = g.S.AsStr.text in
    let seen = ap (λ word. is_some (nul_at (text word))) (sym c.word-item.is) ∙ ap (λ t. is_some (nul_at t)) (sym c.as_str.ensures) in
    sym (nul_word text c.args.words.now c.loop-word.word-index c.word-item.result c.loop-word-test.true (seen ∙ sym c.holds_nul.ensures ∙ c.if-holds_nul.true))
    ∙ c.loop-word.invariant

pub loop-word-preserved : goal.loop-word-preserved
loop-word-preserved g c =
    let text = g.S.AsStr.text in
    let seen = ap (λ word. is_some (nul_at (text word))) (sym c.word-item.is) ∙ ap (λ t. is_some (nul_at t)) (sym c.as_str.ensures) in
    sym (clean_word text c.args.words.now c.loop-word.word-index c.word-item.result c.loop-word-test.true (seen ∙ sym c.holds_nul.ensures ∙ c.if-holds_nul.false))
    ∙ c.loop-word.invariant

pub returns : goal.returns
returns g c = sym (no_words g.S.AsStr.text c.args.words.now c.loop-word.word-index c.loop-word-test.false) ∙ c.loop-word.invariant
