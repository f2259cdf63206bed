-- What is known in the middle of a text: own profile.
use Rattle.std.specs.Prelude.{ℕ, ℤ, pos, List, [], Bool, false, Option, None}
use Rattle.cdr_values.specs.Trees.{size1, unsigned, Kind, scalar, Branch}
use Rattle.idl_scopes.specs.declared.place.Place.{Place}
use Rattle.idl_scopes.specs.Table.{Table, no_names}
use Rattle.idl_constants.specs.ConstValues.{Value, number}
use Rattle.idl_types.specs.declared.way.Way.{Way}
use Rattle.idl_types.specs.declared.way.Way.TheVariants.{Input}
use Rattle.idl_types.specs.Things.{ParamView, OperationView}
use Rattle.idl_lookup.specs.declared.head.Head.{Head}
use Rattle.idl_lookup.specs.declared.head.Head.TheVariants.{Outside}
use Rattle.idl_names.specs.Sizes.{Sized, leaf}

-- what a declaration stands for beside its scope
pub data Thing : Type 0 where
  -- a module, a member, a case or a parameter, or what hasn't ended
  nothing : Thing
  -- the places of its bases, and of its operations, inherited ones first
  interface : List ℕ → List ℕ → Thing
  type : Sized → Thing
  exception : List (List ℕ × Kind) → Thing
  constant : Kind → Value → Thing
  -- of the enum with this id, and its number
  enumerator : List ℕ → ℕ → Thing
  -- an operation, or those of an attribute, and their leaves
  operations : List OperationView → ℕ → Thing

-- the scoped name that is read
pub data Search : Type 0 where
  fresh : Search
  rooted : Search
  -- what its parts so far have found
  found : ℕ → Search

-- A value: where it begins, and its literal, which is after a sign. For a name both are its last part.
pub record Valued : Type 0 where
  pub value : Value
  pub at : Place
  pub literal : Place

-- the parts so far of the declaration that is read; they are empty outside of a declaration
pub record Parts : Type 0 where
  pub bases : List ℕ
  -- the scopes that they give
  pub given : List ℕ
  pub members : List (List ℕ × Kind)
  pub enumerators : List (List ℕ)
  pub discriminator : Kind
  pub cases : List Branch
  -- all labels of the union so far
  pub taken : List ℤ
  -- those of the case that is read
  pub labels : List ℤ
  pub is_default : Bool
  pub readonly : Bool
  pub oneway : Bool
  pub way : Way
  -- what of the operation is read
  pub head : Head
  pub result : Option Kind
  pub params : List ParamView
  pub raises : List (List ℕ)
  pub leaves : ℕ
  pub levels : ℕ

-- what is known of a text up to a token
pub record Built : Type 0 where
  pub scopes : Table
  -- what the declarations stand for, in their order
  pub things : List Thing
  -- the scope that is open
  pub here : ℕ
  -- the file's leaves so far
  pub leaves : ℕ
  pub search : Search
  -- of the last part of a scoped name
  pub last : Place
  -- the newest type, bound and value, and the lengths of an array, the outermost first
  pub type : Sized
  pub bound : ℕ
  pub value : Valued
  pub lengths : List ℕ
  pub parts : Parts

-- where nothing was read
abbrev pub no_place : Place
no_place = record { line = 0; column = 0 }

-- no declaration is read
abbrev pub no_parts : Parts
no_parts = record { bases = []; given = []; members = []; enumerators = []; discriminator = scalar (unsigned size1); cases = []; taken = []; labels = []; is_default = false; readonly = false; oneway = false; way = Input; head = Outside; result = None; params = []; raises = []; leaves = 0; levels = 0 }

-- nothing is read
abbrev pub nothing_built : Built
nothing_built = record { scopes = no_names; things = []; here = 0; leaves = 0; search = fresh; last = no_place; type = leaf (scalar (unsigned size1)); bound = 0; value = record { value = number (pos 0); at = no_place; literal = no_place }; lengths = []; parts = no_parts }
