-- An expression with what is after it is a chain.
use Rattle.std.proofs.Common.{◌≡◌, ◌∙◌, List, [], ◌∷◌, Ok, Err, ap, refl, sym}
use Rattle.std.specs.Prelude.{Option, None}
use Rattle.idl_types.specs.declared.type_ref.TypeRef.{TypeRef}
use Rattle.servant_scripts.specs.declared.phrase.At.{At}
use Rattle.servant_scripts.specs.Trees.{Said, place_of}
use Rattle.servant_scripts.specs.Views.{Joint, operator, member, joint, spine}
use Rattle.script_checks.specs.Scene.{Scene, Var, Typed, Checks, ◌>>=◌}
use Rattle.script_checks.specs.Checking.{typed}
use Rattle.script_checks.specs.Chains.{linked, chained, want_first}

-- what is asked of the second and the third may be asked of both at once
at_once : (r : Checks Typed) (f g : Typed → Checks Typed) → ((r >>= f) >>= g) ≡ (r >>= (λ x. f x >>= g))
at_once (Ok x) f g = refl
at_once (Err e) f g = refl

-- it begins where it began
pub same_place : (t : Said) (j : Joint) → place_of (joint t j) ≡ place_of t
same_place t (operator o b) = refl
same_place t (member p) = refl

module _ (s : Scene) (vs : List Var) where
  nothing_behind : (at : At) (r : Checks Typed) → r ≡ (r >>= chained s vs at [])
  nothing_behind at (Ok x) = refl
  nothing_behind at (Err e) = refl

  one_joint : (want : Option TypeRef) (t : Said) (j : Joint)
      → typed s vs want (joint t j) ≡ (typed s vs None t >>= linked s vs (place_of t) j)
  unfolding typed
  one_joint want t (operator o b) = refl
  one_joint want t (member p) = refl

  two_joints : (t : Said) (j : Joint) (js : List Joint)
      → (typed s vs None (joint t j) >>= chained s vs (place_of t) js) ≡ (typed s vs None t >>= chained s vs (place_of t) (j ∷ js))
  two_joints t j js =
      ap (λ (x : Checks Typed). x >>= chained s vs (place_of t) js) (one_joint None t j)
      ∙ at_once (typed s vs None t) (linked s vs (place_of t) j) (chained s vs (place_of t) js)

  behind : (want : Option TypeRef) (t : Said) (j : Joint) (js : List Joint)
      → typed s vs want (spine t (j ∷ js)) ≡ (typed s vs None t >>= chained s vs (place_of t) (j ∷ js))
  behind want t j [] =
      one_joint want t j ∙ sym (one_joint None t j) ∙ nothing_behind (place_of t) (typed s vs None (joint t j)) ∙ two_joints t j []
  behind want t j (k ∷ ks) =
      behind want (joint t j) k ks
      ∙ ap (λ (at : At). typed s vs None (joint t j) >>= chained s vs at (k ∷ ks)) (same_place t j)
      ∙ two_joints t j (k ∷ ks)

  pub is_chain : (want : Option TypeRef) (t : Said) (js : List Joint)
      → typed s vs want (spine t js) ≡ (typed s vs (want_first want js) t >>= chained s vs (place_of t) js)
  is_chain want t [] = nothing_behind (place_of t) (typed s vs want t)
  is_chain want t (j ∷ js) = behind want t j js
