-- The trees of two forms of expressions, and of several methods.
use Rattle.std.proofs.Common.{◌≡◌, ℕ, List, [], ◌∷◌, map, sym, ap, ◌∙◌}
use Rattle.idl_types.specs.Things.{Thing}
use Rattle.script_values.specs.declared.tree.Form.TheVariants.{Priority, Slot, rolls-Priority, rolls-Slot}
use Rattle.script_values.specs.declared.tree.Form.TheFolds.{fold-roll-Form}
use Rattle.script_values.specs.declared.tree.Form.TheOpen.{Form-F}
use Rattle.script_values.specs.Trees.{Term, Joint, Part, priority, slot}
use Rattle.script_values.specs.Views.{form_step, link_step, element_step, expr_step, first_of}
use Rattle.script_checks.specs.declared.checked.CheckedMethod.{CheckedMethod}
use Rattle.script_checks.specs.Done.{method_view}
use Rattle.script_checks.specs.Methods.{MethodView}

pub priority_form : (ts : List Thing) → first_of ts Priority ≡ priority
priority_form ts = ap (first_of ts) (sym rolls-Priority) ∙ fold-roll-Form Term Joint Part Term form_step link_step (element_step ts) expr_step Form-F.Priority

pub slot_form : (ts : List Thing) (n : ℕ) → first_of ts (Slot n) ≡ slot n
slot_form ts n = ap (first_of ts) (sym (rolls-Slot n)) ∙ fold-roll-Form Term Joint Part Term form_step link_step (element_step ts) expr_step (Form-F.Slot n)

pub three : (ts : List Thing) (a b c : CheckedMethod) (x y z : MethodView) → method_view ts a ≡ x → method_view ts b ≡ y → method_view ts c ≡ z
    → map (method_view ts) (a ∷ b ∷ c ∷ []) ≡ x ∷ y ∷ z ∷ []
three ts a b c x y z e f g =
    ap (λ v. v ∷ method_view ts b ∷ method_view ts c ∷ []) e ∙ ap (λ v. x ∷ v ∷ method_view ts c ∷ []) f ∙ ap (λ v. x ∷ y ∷ v ∷ []) g
