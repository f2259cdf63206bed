-- The parts of expressions as they are written, and what is checked of them.
use Rattle.std.proofs.Common.{◌≡◌, ◌∙◌, ap, refl, List, [], ◌∷◌}
use Rattle.std.specs.Prelude.{Option, Some, None}
use Rattle.cdr_values.specs.Trees.{Kind}
use Rattle.idl_types.specs.References.{kind_at}
use Rattle.idl_types.specs.declared.type_ref.TypeRef.{TypeRef}
use Rattle.servant_scripts.specs.declared.phrase.At.{At}
use Rattle.servant_scripts.specs.declared.phrase.Part.{Part}
use Rattle.servant_scripts.specs.declared.phrase.Phrase.{Phrase}
use Rattle.servant_scripts.specs.declared.phrase.Field.{Field}
use Rattle.servant_scripts.specs.declared.phrase.Form.TheFolds.{fold_out-Phrase, fold_out-Field}
use Rattle.servant_scripts.specs.Trees.{Said, said, Shape, place_of}
use Rattle.servant_scripts.specs.Views.{Joint, joint, spine, form_step, link_step, field_step, phrase_step, shape_of, said_of, entry_of}
use Rattle.script_checks.specs.Scene.{Scene, Var, ◌>>=◌}
use Rattle.script_checks.specs.Operators.{needs}
use Rattle.script_checks.specs.Checking.{typed, shaped, of_kind, given}
use Rattle.script_checks.specs.Chains.{chained, want_first, joints_view}
use Rattle.script_checks.proofs.Chains.{is_chain, same_place}

said_is : (p : Phrase) → said_of p ≡ spine (said p.at (shape_of p.form)) (joints_view p.links.items)
said_is p = fold_out-Phrase Shape Joint (Part × Said) Said form_step link_step field_step phrase_step p

pub field_is : (f : Field) → entry_of f ≡ (f.name, said_of f.value)
field_is f = fold_out-Field Shape Joint (Part × Said) Said form_step link_step field_step phrase_step f

spine_place : (t : Said) (js : List Joint) → place_of (spine t js) ≡ place_of t
spine_place t [] = refl
spine_place t (j ∷ js) = spine_place (joint t j) js ∙ same_place t j

-- an expression begins where its first token is
pub phrase_place : (p : Phrase) → place_of (said_of p) ≡ p.at
phrase_place p = ap place_of (said_is p) ∙ spine_place (said p.at (shape_of p.form)) (joints_view p.links.items)

-- an expression is checked as its first part, with what is after it
pub phrase_is_chain : (s : Scene) (vs : List Var) (want : Option TypeRef) (p : Phrase)
    → typed s vs want (said_of p)
    ≡ (shaped s vs (want_first want (joints_view p.links.items)) p.at (shape_of p.form) >>= chained s vs p.at (joints_view p.links.items))
unfolding typed
phrase_is_chain s vs want p =
    ap (typed s vs want) (said_is p) ∙ is_chain s vs want (said p.at (shape_of p.form)) (joints_view p.links.items)

kind_asked : (s : Scene) (vs : List Var) (k : Kind) (e : Said) → of_kind s vs k e ≡ (typed s vs None e >>= needs (Some k) (place_of e))
unfolding typed of_kind
kind_asked s vs k (said at shape) = refl

given_asked : (s : Scene) (vs : List Var) (due : TypeRef) (e : Said)
    → given s vs due e ≡ (typed s vs (Some due) e >>= needs (kind_at s.things due) (place_of e))
unfolding typed given
given_asked s vs due (said at shape) = refl

-- the kind is asked after the expression
pub kind_behind : (s : Scene) (vs : List Var) (k : Kind) (p : Phrase)
    → of_kind s vs k (said_of p) ≡ (typed s vs None (said_of p) >>= needs (Some k) p.at)
kind_behind s vs k p =
    kind_asked s vs k (said_of p) ∙ ap (λ (at : At). typed s vs None (said_of p) >>= needs (Some k) at) (phrase_place p)

-- and so is the type that is due
pub given_behind : (s : Scene) (vs : List Var) (due : TypeRef) (p : Phrase)
    → given s vs due (said_of p) ≡ (typed s vs (Some due) (said_of p) >>= needs (kind_at s.things due) p.at)
given_behind s vs due p =
    given_asked s vs due (said_of p)
    ∙ ap (λ (at : At). typed s vs (Some due) (said_of p) >>= needs (kind_at s.things due) at) (phrase_place p)
