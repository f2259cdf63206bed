-- The parts of trees.
use Rattle.std.proofs.Common.{◌≡◌, List, [], ◌∷◌, ◌++◌, map, refl, sym, ap, ◌∙◌}
use Rattle.std.proofs.lemmas.List.{map-append}
use Rattle.servant_scripts.specs.declared.phrase.Part.{Part}
use Rattle.servant_scripts.specs.declared.phrase.Phrase.{Phrase}
use Rattle.servant_scripts.specs.declared.phrase.Field.{Field}
use Rattle.servant_scripts.specs.declared.phrase.Link.{Link}
use Rattle.servant_scripts.specs.declared.phrase.Form.TheFolds.{fold_out-Phrase, fold_out-Field}
use Rattle.servant_scripts.specs.Trees.{Said, said, Shape}
use Rattle.servant_scripts.specs.Views.{Joint, joint, spine, form_step, link_step, field_step, phrase_step, shape_of, said_of, joint_of, entry_of}

-- an expression is its first part with its links
pub said_is : (p : Phrase) → said_of p ≡ spine (said p.at (shape_of p.form)) (map joint_of p.links.items)
said_is p = fold_out-Phrase Shape Joint (Part × Said) Said form_step link_step field_step phrase_step p

pub entry_is : (f : Field) → entry_of f ≡ (f.name, said_of f.value)
entry_is f = fold_out-Field Shape Joint (Part × Said) Said form_step link_step field_step phrase_step f

pub spine_push : (s : Said) (js : List Joint) (j : Joint) → spine s (js ++ j ∷ []) ≡ joint (spine s js) j
spine_push s [] j = refl
spine_push s (k ∷ js) j = spine_push (joint s k) js j

-- one more link
pub linked : (p q : Phrase) (l : Link) → q.at ≡ p.at → q.form ≡ p.form → q.links.items ≡ p.links.items ++ l ∷ [] → said_of q ≡ joint (said_of p) (joint_of l)
linked p q l at form links =
    said_is q ∙ ap (λ z. spine (said z (shape_of q.form)) (map joint_of q.links.items)) at ∙ ap (λ z. spine (said p.at (shape_of z)) (map joint_of q.links.items)) form
    ∙ ap (λ z. spine (said p.at (shape_of p.form)) (map joint_of z)) links
    ∙ ap (spine (said p.at (shape_of p.form))) (map-append joint_of p.links.items (l ∷ [])) ∙ spine_push (said p.at (shape_of p.form)) (map joint_of p.links.items) (joint_of l)
    ∙ ap (λ z. joint z (joint_of l)) (sym (said_is p))
