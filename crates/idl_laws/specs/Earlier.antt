-- What is declared before a point of a text is so at each later point.
use Rattle.std.specs.Prelude.{◌≡◌, ℕ, true, List, ◌++◌, slice_get, Some}
use Rattle.grammar.specs.Grammar.{MarkOf}
use Rattle.idl_scopes.specs.Table.{Declared, Table}
use Rattle.idl_scopes.specs.Finding.{is_finished}
use Rattle.idl_names.specs.State.{Built}
use Rattle.idl_names.specs.Declaring.{idl}
use Rattle.idl_laws.specs.Points.{Point}

-- a declaration is the same later: its scope, its spelling and its place; and what it is, once its end has been read
pub record IsStill (d e : Declared) : Type 0 where
  pub scope : e.scope ≡ d.scope
  pub name : e.name ≡ d.name
  pub place : e.place ≡ d.place
  pub sort : is_finished d.sort ≡ true → e.sort ≡ d.sort

-- each declaration of the one has the same number in the other
abbrev pub Keeps : Table → Table → Type 0
Keeps t u = (i : ℕ) (d : Declared) → slice_get t.declared i ≡ Some d → (e : Declared) × (slice_get u.declared i ≡ Some e) × IsStill d e

-- So the declarations before a point are the first ones of the finished table, which is what is known at the last point.
abbrev pub DeclarationsStay : Type 0
DeclarationsStay =
    (text : List ℕ) (before between after : List (MarkOf idl)) (s c : Built)
    → Point text before (between ++ after) s → Point text (before ++ between) after c → Keeps s.scopes c.scopes
