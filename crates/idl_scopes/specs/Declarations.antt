-- What a declaration of the program stands for, and its key.
use Rattle.std.specs.Prelude.{ℕ, List}
use Rattle.idl_scopes.specs.Table as t
use Rattle.idl_scopes.specs.Inherited.{list_of}
use Rattle.idl_scopes.specs.declared.sort.Sort.{Sort}
use Rattle.idl_scopes.specs.declared.sort.Sort.TheVariants as v
use Rattle.idl_scopes.specs.declared.known.Known.{Known}
use Rattle.idl_scopes.specs.declared.declared.Declared.{Declared}

-- what a declaration is
abbrev pub sort_of : Sort → t.Sort
sort_of v.Unfinished = t.unfinished
sort_of v.Module = t.module_
sort_of (v.Interface scopes) = t.interface (list_of scopes)
sort_of v.Operation = t.operation
sort_of v.Other = t.other

-- a declaration
abbrev pub declared_of : Declared → t.Declared
declared_of d = record { scope = d.scope; name = d.name.items; place = d.place; sort = sort_of d.sort }

-- a key without where it lies in memory
abbrev pub known_of : Known → ℕ × List ℕ
known_of k = (k.scope, k.name.items)
