-- The trees of a union's values, of texts and of items.
use Rattle.std.proofs.Common.{◌≡◌, ℕ, ℤ, List, Some, None, sym, ap, ◌∙◌, Box, Vec, Global}
use Rattle.cdr_values.specs.declared.value.IdlValue.{IdlValue}
use Rattle.cdr_values.specs.declared.value.IdlValue.TheViews.{Chosen}
use Rattle.cdr_values.specs.declared.value.IdlValue.TheVariants.{Words, Items, rolls-Words, rolls-Items, rolls-Chosen}
use Rattle.cdr_values.specs.declared.value.IdlValue.TheFolds.{fold-roll-IdlValue}
use Rattle.cdr_values.specs.declared.value.IdlValue.TheOpen.{IdlValue-F}
use Rattle.cdr_values.specs.Trees.{Value, text, items, chosen, value, no_values, values_of}
use Rattle.cdr_values.specs.Values.{value_of, values_view, value_step}

pub one_member : (z : ℤ) (b : Box IdlValue Global) → value_of (Chosen z (Some b)) ≡ chosen z (value (value_of b.value) no_values)
one_member z b = ap value_of (sym (rolls-Chosen z (Some b))) ∙ fold-roll-IdlValue Value value_step (IdlValue-F.Chosen z (Some b))

pub bare_tree : (z : ℤ) → value_of (Chosen z None) ≡ chosen z no_values
bare_tree z = ap value_of (sym (rolls-Chosen z None)) ∙ fold-roll-IdlValue Value value_step (IdlValue-F.Chosen z None)

pub words_tree : (t : List ℕ) → value_of (Words t) ≡ text t
words_tree t = ap value_of (sym (rolls-Words t)) ∙ fold-roll-IdlValue Value value_step (IdlValue-F.Words t)

pub items_tree : (v : Vec IdlValue Global) → value_of (Items v) ≡ items (values_of (values_view v.items))
items_tree v = ap value_of (sym (rolls-Items v)) ∙ fold-roll-IdlValue Value value_step (IdlValue-F.Items v)
