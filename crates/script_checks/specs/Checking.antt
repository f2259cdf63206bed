-- The check of an expression: what is run in its place and its kind, or its first fault in the order of the text (own profile).
-- A fault of a part goes before that of the whole. A list is asked only where a type is due, which is a reference.
use Rattle.std.specs.Prelude.{ℕ, ◌+◌, List, [], ◌∷◌, ◌++◌, length, Ok, Option, Some, None}
use Rattle.cdr_values.specs.Trees.{Kind, truth, number, text, Members}
use Rattle.idl_types.specs.References.{members_in, kind_at}
use Rattle.idl_types.specs.declared.type_ref.TypeRef.{TypeRef}
use Rattle.servant_scripts.specs.declared.phrase.At.{At}
use Rattle.servant_scripts.specs.Trees.{Said, said, Shape, say_number, say_truth, say_text, say_priority, say_name, say_unary, say_binary, say_member, say_new, say_list, Fields, no_fields, field, Saids, no_saids, one_said, place_of}
use Rattle.script_values.specs.Trees as run
use Rattle.script_values.specs.Trees.{Term, literal, priority, binary, build, terms_of}
use Rattle.script_checks.specs.Kinds.{number_kind, truth_kind, text_kind}
use Rattle.script_checks.specs.Scene.{Scene, Var, Typed, Checks, ◌>>=◌}
use Rattle.script_checks.specs.Dues.{member_due, element_due}
use Rattle.script_checks.specs.Naming.{name_typed, struct_named}
use Rattle.script_checks.specs.Operators.{with_unary, with_member, want_in, asks, needs}
use Rattle.script_checks.specs.Built.{new_member, complete, list_due, list_of}

unfoldable mutual
  -- an expression, where this type is due, or none
  pub typed : Scene → List Var → Option TypeRef → Said → Checks Typed
  typed s vs want (said at shape) = shaped s vs want at shape

  pub shaped : Scene → List Var → Option TypeRef → At → Shape → Checks Typed
  shaped s vs want at (say_number z) = Ok (literal (number z), number_kind)
  shaped s vs want at (say_truth b) = Ok (literal (truth b), truth_kind)
  shaped s vs want at (say_text t) = Ok (literal (text t), text_kind)
  shaped s vs want at say_priority = Ok (priority, number_kind)
  shaped s vs want at (say_name n) = name_typed s vs n
  shaped s vs want at (say_unary o e) = typed s vs (want_in o want) e >>= with_unary o (place_of e)
  shaped s vs want at (say_member e p) = typed s vs None e >>= with_member (place_of e) p
  shaped s vs want at (say_binary o a b) =
      typed s vs None a >>= λ x. asks o (place_of a) x >>= λ k. of_kind s vs k.0 b >>= λ y. Ok (binary o x.0 y, k.1)
  shaped s vs want at (say_new n fs close) =
      struct_named s n >>= λ k. fields s vs k.0 (members_in k.1) fs [] >>= complete (members_in k.1) close
      >>= λ ps. Ok (build (terms_of ps), k.1)
  shaped s vs want at (say_list es) = list_due s.things want at >>= λ k. elements s vs (element_due k.0) es [] >>= list_of k.1 at

  -- an expression of this kind
  pub of_kind : Scene → List Var → Kind → Said → Checks Term
  of_kind s vs k (said at shape) = shaped s vs None at shape >>= needs (Some k) at

  -- an expression of the type that is due
  pub given : Scene → List Var → TypeRef → Said → Checks Term
  given s vs due (said at shape) = shaped s vs (Some due) at shape >>= needs (kind_at s.things due) at

  -- members after those so far, of the struct or the exception at a place
  pub fields : Scene → List Var → ℕ → Members → Fields → List run.Part → Checks (List run.Part)
  fields s vs place ms no_fields parts = Ok parts
  fields s vs place ms (field p e fs) parts =
      new_member ms parts p >>= λ n. given s vs (member_due place n) e
      >>= λ t. fields s vs place ms fs (parts ++ (n, kind_at s.things (member_due place n), t) ∷ [])

  -- elements after those so far
  pub elements : Scene → List Var → TypeRef → Saids → List run.Part → Checks (List run.Part)
  elements s vs due no_saids parts = Ok parts
  elements s vs due (one_said e es) parts =
      given s vs due e >>= λ t. elements s vs due es (parts ++ (length parts, kind_at s.things due, t) ∷ [])
