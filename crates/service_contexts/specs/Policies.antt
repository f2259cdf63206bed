-- The component of a profile that carries policies: CORBA 3.0.3, section 13.6.6. Its layout is own profile.
use Rattle.std.specs.Prelude.{ℕ, List}
use Rattle.std.specs.Result.{result_ok}
use Rattle.orb_base.specs.Tagged.{Tagged}
use Rattle.cdr_core.specs.Cursor.{Cursor}
use Rattle.cdr_core.specs.Lists.{list_at, made_at, tagged_of, list_fields, tagged_fields, FitsList, FitsTagged}
use Rattle.service_contexts.specs.Carrying.{Carries}
use Rattle.service_contexts.specs.Reading.{Taken}

-- the data of a component of policies, each its type and its value
abbrev pub CarriesPolicies : List Tagged → List ℕ → Type 0
CarriesPolicies = Carries (List Tagged) (FitsList FitsTagged) (list_fields tagged_fields)

-- policies after their number
unfoldable pub policies_at : Cursor → Taken (List Tagged)
policies_at c = result_ok (list_at (made_at tagged_of) c)
