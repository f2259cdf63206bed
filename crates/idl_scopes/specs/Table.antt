-- What is declared in the scopes of a text: CORBA 3.0.3, chapter 3, names and scoping.
use Rattle.std.specs.Prelude.{ℕ, List, []}
use Rattle.idl_scopes.specs.declared.place.Place.{Place}

-- what a scope knows of a declaration
pub data Sort : Type 0 where
  -- its end hasn't been read: the name is taken, and it isn't found
  unfinished : Sort
  -- `module` is a reserved word
  module_ : Sort
  -- an interface, and all scopes whose names it inherits, in the order of looking up
  interface : List ℕ → Sort
  -- an operation or an attribute
  operation : Sort
  other : Sort

-- a declaration: the scope in which it is, its name as it is spelled, where the name is, and what it is
pub record Declared : Type 0 where
  pub scope : ℕ
  pub name : List ℕ
  pub place : Place
  pub sort : Sort

-- All declarations in the order of their names, and the key of each: its scope, and its name in lower case. The file's scope is
-- 0, and the scope of a declaration is one more than its place.
pub record Table : Type 0 where
  pub keys : List (ℕ × List ℕ)
  pub declared : List Declared

-- nothing is declared
abbrev pub no_names : Table
no_names = record { keys = []; declared = [] }
