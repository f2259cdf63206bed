-- The plain trees that types stand for.
use Rattle.std.specs.Prelude.{ℕ, List, [], ◌∷◌, map}
use Rattle.cdr_values.specs.Trees.{size1, size2, size4, size8, boolean, char, unsigned, signed, enumeration, Kind, scalar, words, sequence, array, structure, union, members_of, cases_of, Branch}
use Rattle.cdr_values.specs.declared.kind.IdlType.{IdlType}
use Rattle.cdr_values.specs.declared.kind.IdlType.TheFolds.{fold-IdlType, fold-Member, fold-Case}
use Rattle.cdr_values.specs.declared.kind.IdlType.TheOpen.{IdlType-F, Member-F, Case-F}
use Rattle.cdr_values.specs.declared.kind.Member.{Member}
use Rattle.cdr_values.specs.declared.kind.Case.{Case}

-- one layer, whose children are trees already
abbrev pub kind_step : IdlType-F Kind Branch (List ℕ × Kind) → Kind
kind_step IdlType-F.Boolean = scalar boolean
kind_step IdlType-F.Octet = scalar (unsigned size1)
kind_step IdlType-F.Char = scalar char
kind_step IdlType-F.Short = scalar (signed size2)
kind_step IdlType-F.UShort = scalar (unsigned size2)
kind_step IdlType-F.Long = scalar (signed size4)
kind_step IdlType-F.ULong = scalar (unsigned size4)
kind_step IdlType-F.LongLong = scalar (signed size8)
kind_step IdlType-F.ULongLong = scalar (unsigned size8)
kind_step (IdlType-F.Words bound) = words bound
kind_step (IdlType-F.Seq k bound) = sequence k.value bound
kind_step (IdlType-F.Array k n) = array k.value n
kind_step (IdlType-F.Struct name ms) = structure name (members_of ms.items)
kind_step (IdlType-F.Union name d cs) = union name d.value (cases_of cs.items)
kind_step (IdlType-F.Enum name labels) = scalar (enumeration name labels.items)

-- a member by name and type
abbrev pub member_step : Member-F Kind Branch (List ℕ × Kind) → List ℕ × Kind
member_step m = (m.name, m.kind)

-- a case by labels, whether it is the default, name and type
abbrev pub case_step : Case-F Kind Branch (List ℕ × Kind) → Branch
case_step c = (c.labels.items, c.is_default, c.member.0, c.member.1)

-- the tree of a type
abbrev pub kind_of : IdlType → Kind
kind_of = fold-IdlType Kind Branch (List ℕ × Kind) kind_step case_step member_step

-- the name of a member and the tree of its type
abbrev pub member_of : Member → List ℕ × Kind
member_of = fold-Member Kind Branch (List ℕ × Kind) kind_step case_step member_step

-- a case with the tree of its member's type
abbrev pub case_of : Case → Branch
case_of = fold-Case Kind Branch (List ℕ × Kind) kind_step case_step member_step

-- members in order
abbrev pub members_view : List Member → List (List ℕ × Kind)
members_view = map member_of

-- cases in order
abbrev pub cases_view : List Case → List Branch
cases_view = map case_of
