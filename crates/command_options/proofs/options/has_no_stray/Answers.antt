use Rattle.std.proofs.Common.{◌∙◌, ap, sym}
use Rattle.command_options.specs.Words.{form_of, is_dashed}
use Rattle.command_options.proofs.Readers.{good_word, no_words, stray_word}
use Rattle.command_options.proofs.options.has_no_stray.Goals as goal

pub returns-then-is_stray : goal.returns-then-is_stray
returns-then-is_stray g c =
    let text = g.S.AsStr.text in
    let seen = ap (λ word. is_dashed (form_of (text word))) (sym c.word-item.is) ∙ ap (λ t. is_dashed (form_of t)) (sym c.as_str.ensures) in
    sym (stray_word text c.args.words.now c.loop-word.word-index c.word-item.result c.loop-word-test.true (seen ∙ sym c.is_stray.ensures ∙ c.if-is_stray.true))
    ∙ c.loop-word.invariant

pub loop-word-preserved : goal.loop-word-preserved
loop-word-preserved g c =
    let text = g.S.AsStr.text in
    let seen = ap (λ word. is_dashed (form_of (text word))) (sym c.word-item.is) ∙ ap (λ t. is_dashed (form_of t)) (sym c.as_str.ensures) in
    sym (good_word text c.args.words.now c.loop-word.word-index c.word-item.result c.loop-word-test.true (seen ∙ sym c.is_stray.ensures ∙ c.if-is_stray.false))
    ∙ c.loop-word.invariant

pub returns : goal.returns
returns g c = sym (no_words g.S.AsStr.text c.args.words.now c.loop-word.word-index c.loop-word-test.false) ∙ c.loop-word.invariant
