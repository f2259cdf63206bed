-- The priority that a request runs at: Real-time CORBA 1.2, Priority models and Priority transforms. The form of a transform, a
-- table, is own profile.
use Rattle.std.specs.Prelude.{◌≡◌, ◌≤◌, ◌&&◌, ℕ, Bool, true, nat_le, List, [], ◌∷◌, map, length, Option, Some, None, option_map}
use Rattle.std.specs.List.{find}
use Rattle.orb_base.specs.Apart.{are_apart}
use Rattle.orb_base.specs.Span.{Span}
use Rattle.orb_base.specs.declared.limits.TheConstants.{MAX_TRANSFORM_ROWS}
use Rattle.orb_base.specs.declared.priority_model.PriorityModel.{PriorityModel}
use Rattle.orb_base.specs.declared.priority_model.PriorityModel.TheVariants.{ClientPropagated, ServerDeclared}
use Rattle.priority_models.specs.declared.transform.TransformRow.{TransformRow}

-- the bands of rows
abbrev pub bands : List TransformRow → List Span
bands rows = map (λ row. row.band) rows

-- rows that a transform may have: few, and no two of their bands share a priority
pub record AreRows (rows : List TransformRow) : Type 0 where
  pub few : length rows ≤ MAX_TRANSFORM_ROWS
  pub apart : are_apart (bands rows) ≡ true

-- whether the priority lies in the band
abbrev pub holds : Span → ℕ → Bool
holds band p = nat_le band.low p && nat_le p band.high

-- the `to` of the row whose band holds the priority; where no row holds it there is none
abbrev pub mapped : List TransformRow → ℕ → Option ℕ
mapped rows p = option_map (λ row. row.to) (find (λ row. holds row.band p) rows)

-- what becomes of a priority that was sent: a transform without rows keeps it, and any other maps it
abbrev pub inbound : List TransformRow → ℕ → Option ℕ
inbound [] p = Some p
inbound (row ∷ rows) p = mapped (row ∷ rows) p

-- the priority that a request runs at, by its adapter's model, the server's priority, the rows of the transform and the priority
-- that was sent; there is none where no row holds the one that counts
abbrev pub mandated : PriorityModel → ℕ → List TransformRow → Option ℕ → Option ℕ
mandated ServerDeclared server rows sent = Some server
mandated ClientPropagated server rows None = Some server
mandated ClientPropagated server rows (Some p) = inbound rows p
