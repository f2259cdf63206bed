-- The check of statements (own profile). A variable lives from after its `let` to the end of its block, in the slot that has its place
-- among those that are alive; the parameters come first. A method has 64 `let` at most.
use Rattle.std.specs.Prelude.{ℕ, ◌+◌, ◌&&◌, ◌||◌, nat_lt, Bool, true, false, List, [], ◌∷◌, ◌++◌, length, position, option_to_list, Ok, Option, Some, None, if◌then◌else◌}
use Rattle.std.specs.Option.{option_map, is_some}
use Rattle.std.specs.Str.{bytes_eq}
use Rattle.cdr_values.specs.Trees.{Name, Names, Kind, members_of}
use Rattle.idl_types.specs.References.{kind_at}
use Rattle.idl_types.specs.Things.{ExceptionView}
use Rattle.idl_types.specs.declared.type_ref.TypeRef.{TypeRef}
use Rattle.servant_scripts.specs.declared.phrase.At.{At}
use Rattle.servant_scripts.specs.declared.phrase.Part.{Part}
use Rattle.servant_scripts.specs.Trees.{Scoped, place_of, Say, say_let, say_set, say_if, say_leave, say_return, say_raise, Says, no_says, one_say}
use Rattle.script_values.specs.Trees.{terms_of, Step, let_be, set, branch, leave, give, raise, steps_of}
use Rattle.script_checks.specs.declared.fault.CheckCause.TheVariants as cause
use Rattle.script_checks.specs.Kinds.{truth_kind}
use Rattle.script_checks.specs.Scene.{Scene, Var, Typed, Checks, ◌>>=◌, refused, or_refused, if_holds, find_var}
use Rattle.script_checks.specs.Dues.{short}
use Rattle.script_checks.specs.Naming.{exception_named, last_part}
use Rattle.script_checks.specs.Built.{complete}
use Rattle.script_checks.specs.Checking.{typed, given, of_kind, fields}

-- what a method gives: the type of its result, and the ids of the exceptions that it may raise
pub record Due : Type 0 where
  pub result : Option TypeRef
  pub raises : Names

-- what a statement leaves: what is run, the variable that it brings, and the number of `let` so far
abbrev pub Done : Type 0
Done = Step × Option Var × ℕ

-- how many `let` a method may have
abbrev pub most_lets : ℕ
most_lets = 64

-- one more `let`, or a fault at its word
abbrev pub one_let : At → ℕ → Checks ℕ
one_let at lets = if_holds (nat_lt lets most_lets) cause.TooManyLets at (lets + 1)

-- a name that no living variable has, or a fault at the name
abbrev pub new_name : List Var → Part → Checks Name
new_name vs p = if_holds (if is_some (find_var 0 vs p.name) then false else true) cause.Twice p.at p.name

-- a variable that may not be set
abbrev pub local : Name → Typed → Var
local name x = record { name = name; kind = x.1; due = None }

-- the slot and the type of a variable, where it may be set
abbrev pub settable : At → ℕ × Kind × Option TypeRef → Checks (ℕ × TypeRef)
settable at v = or_refused cause.NotSettable at (option_map (λ due. (v.0, due)) v.2)

-- the slot and the type of the variable of a name, which may be set
abbrev pub set_place : List Var → Part → Checks (ℕ × TypeRef)
set_place vs p = or_refused cause.UnknownName p.at (find_var 0 vs p.name) >>= settable p.at

-- the index of an exception among those that a method may raise
abbrev pub raised_at : Names → Scoped → ExceptionView → Checks ℕ
raised_at raises n e = or_refused cause.NotRaised (last_part n) (position (bytes_eq e.id) raises)

-- `return` without a value is where no result is due
abbrev pub leaves_at : At → Option TypeRef → Checks Step
leaves_at at None = Ok leave
leaves_at at (Some due) = refused cause.Kind at

unfoldable mutual
  -- a statement
  pub line : Scene → Due → List Var → ℕ → Say → Checks Done
  line s d vs lets (say_let at p e) =
      one_let at lets >>= λ n. new_name vs p >>= λ name. typed s vs None e
      >>= λ x. Ok (let_be (length vs) x.0, Some (local name x), n)
  line s d vs lets (say_set p e) = set_place vs p >>= λ v. given s vs v.1 e >>= λ t. Ok (set v.0 (kind_at s.things v.1) t, None, lets)
  line s d vs lets (say_if c a b) =
      of_kind s vs truth_kind c >>= λ t. lines s d vs lets a [] >>= λ x. lines s d vs x.1 b []
      >>= λ y. Ok (branch t (steps_of x.0) (steps_of y.0), None, y.1)
  line s d vs lets (say_leave at) = leaves_at at d.result >>= λ t. Ok (t, None, lets)
  line s d vs lets (say_return at e) =
      or_refused cause.Kind (place_of e) d.result >>= λ due. given s vs due e
      >>= λ t. Ok (give (kind_at s.things due) t, None, lets)
  line s d vs lets (say_raise n fs close) =
      exception_named s n >>= λ e. raised_at d.raises n e.1
      >>= λ i. fields s vs e.0 (members_of e.1.members) fs [] >>= complete (members_of e.1.members) close
      >>= λ ps. Ok (raise (short i) (terms_of ps), None, lets)

  -- statements after those so far, and the number of `let` after them
  pub lines : Scene → Due → List Var → ℕ → Says → List Step → Checks (List Step × ℕ)
  lines s d vs lets no_says done = Ok (done, lets)
  lines s d vs lets (one_say l ls) done = line s d vs lets l >>= λ x. lines s d (vs ++ option_to_list x.1) x.2 ls (done ++ x.0 ∷ [])

abbrev mutual
  -- every path through a statement ends with `return` or `raise`
  pub ends_line : Say → Bool
  ends_line (say_let at p e) = false
  ends_line (say_set p e) = false
  ends_line (say_if c a b) = ends a && ends b
  ends_line (say_leave at) = true
  ends_line (say_return at e) = true
  ends_line (say_raise n fs close) = true

  -- every path through statements does
  pub ends : Says → Bool
  ends no_says = false
  ends (one_say l ls) = ends_line l || ends ls
