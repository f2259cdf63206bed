-- Repository ids: CORBA 3.0.3, section 10.7.1.
use Rattle.std.specs.Prelude.{ℕ, zero, suc, ◌-◌, ◌==◌, List, [], ◌++◌, length, codes, if◌then◌else◌}
use Rattle.idl_scopes.specs.Table.{Table}
use Rattle.idl_scopes.specs.Finding.{scope_at, name_at, outer}

-- the names of a scope and of those around it, up to so many, each with a `/` after it
unfoldable pub within : ℕ → Table → ℕ → List ℕ
within zero t scope = []
within (suc n) t scope = if scope == 0 then [] else ((within n t (outer t scope) ++ name_at t (scope - 1)) ++ codes "/")

-- the id of the declaration at a place
abbrev pub id_of : Table → ℕ → List ℕ
id_of t i = ((codes "IDL:" ++ within (length t.declared) t (scope_at t i)) ++ name_at t i) ++ codes ":1.0"
