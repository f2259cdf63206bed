use Rattle.std.proofs.Common.{◌≡◌, sym, ap, ◌∙◌}
use Rattle.cdr_values.specs.Trees.{text}
use Rattle.cdr_values.specs.Values.{value_of}
use Rattle.cdr_values.proofs.OneMember.{words_tree}
use Rattle.cdr_values.proofs.Ending.{text_ends}
use Rattle.cdr_values.proofs.length.end_words.Goals as goal

pub returns-in-Words : goal.returns-in-Words
returns-in-Words c = λ bound.
    let t = c.in-Words.text in
    let tree : value_of c.args.value.now ≡ text t = ap value_of c.in-Words.is ∙ words_tree t in
    rw tree (text_ends c.args.place c.behind_text.result bound t (c.behind_text.ensures t (sym c.len.ensures)))
