-- The parts of trees.
use Rattle.std.proofs.Common.{◌≡◌, ap, suc, refl, length, List, [], ◌∷◌}
use Rattle.idl_types.specs.Things.{Thing}
use Rattle.idl_types.specs.References.{kind_at}
use Rattle.script_values.specs.declared.tree.Expr.{Expr}
use Rattle.script_values.specs.declared.tree.Element.{Element}
use Rattle.script_values.specs.declared.tree.Form.TheFolds.{fold_out-Expr, fold_out-Element}
use Rattle.script_values.specs.Trees.{Term, Joint, Part, terms_of, spine}
use Rattle.script_values.specs.Views.{form_step, link_step, element_step, expr_step, first_of, term_of, part_of, joints_view, parts_view}
use Rattle.script_values.specs.Evaluation.{terms_len}

-- an expression is its first part with its links
pub term_is : (ts : List Thing) (e : Expr) → term_of ts e ≡ spine (first_of ts e.form) (joints_view ts e.links.items)
term_is ts e = fold_out-Expr Term Joint Part Term form_step link_step (element_step ts) expr_step e

pub part_is : (ts : List Thing) (e : Element) → part_of ts e ≡ (e.place, kind_at ts e.due, term_of ts e.value)
part_is ts e = fold_out-Element Term Joint Part Term form_step link_step (element_step ts) expr_step e

pub terms_count : (ts : List Thing) (es : List Element) → terms_len (terms_of (parts_view ts es)) ≡ length es
terms_count ts [] = refl
terms_count ts (e ∷ es) = ap suc (terms_count ts es)
