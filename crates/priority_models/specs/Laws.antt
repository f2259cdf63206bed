-- Laws of placing and of transforms.
use Rattle.std.specs.Prelude.{◌≡◌, ◌≢◌, ℕ, true, List, [], Option, Some, None, Result, unwrap_or, All, AllPairs, Contains}
use Rattle.orb_base.specs.Apart.{are_apart}
use Rattle.orb_base.specs.Pool.{Pool}
use Rattle.orb_base.specs.Span.{Span, Holds}
use Rattle.orb_base.specs.declared.priority_model.PriorityModel.TheVariants.{ClientPropagated, ServerDeclared}
use Rattle.priority_models.specs.Placing.{Placed}
use Rattle.priority_models.specs.Transforms.{bands, inbound, mandated}
use Rattle.priority_models.specs.declared.misplaced.Misplaced.{Misplaced}
use Rattle.priority_models.specs.declared.transform.TransformRow.{TransformRow}

-- there is one answer for each request, and no second one
pub record PlacesOneWay : Type 0 where
  pub some : (pool : Pool) (band : Option Span) (p : ℕ) → (result : Result ℕ Misplaced) × Placed pool band p result
  pub one : (pool : Pool) (band : Option Span) (p : ℕ) (a b : Result ℕ Misplaced) → Placed pool band p a → Placed pool band p b → a ≡ b

-- without rows the priority that was sent counts, or the server's where none was sent; under SERVER_DECLARED it is the server's,
-- whatever the rows are
pub record KeepsWithoutRows : Type 0 where
  pub sent : (server : ℕ) (sent : Option ℕ) → mandated ClientPropagated server [] sent ≡ Some (unwrap_or sent server)
  pub declared : (server : ℕ) (rows : List TransformRow) (sent : Option ℕ) → mandated ServerDeclared server rows sent ≡ Some server

-- two rows hold one priority
abbrev pub BothHold : ℕ → TransformRow → TransformRow → Type 0
BothHold p a b = Holds a.band p × Holds b.band p

-- of rows that are apart one at most holds a priority, and a row that holds it says what becomes of it, wherever it is among
-- them; where there are rows and none holds it, nothing does
pub record OneRowCounts (rows : List TransformRow) (p : ℕ) : Type 0 where
  pub one : AllPairs (λ a b. ¬ BothHold p a b) rows
  pub counts : (row : TransformRow) → Contains rows row → Holds row.band p → inbound rows p ≡ Some row.to
  pub none : rows ≢ [] → All (λ row. ¬ Holds row.band p) rows → inbound rows p ≡ None

-- the order of a transform's rows has no meaning
abbrev pub RowsCountByBands : Type 0
RowsCountByBands = (rows : List TransformRow) (p : ℕ) → are_apart (bands rows) ≡ true → OneRowCounts rows p
