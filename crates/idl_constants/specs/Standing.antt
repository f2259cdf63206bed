-- Which types may be where: CORBA 3.0.3, chapter 3, constant declarations and unions.
use Rattle.std.specs.Prelude.{Bool, true, false}
use Rattle.cdr_values.specs.Lawful.{is_tag}
use Rattle.cdr_values.specs.Trees.{enumeration, Scalar, Kind, scalar, words}

-- a union switches on what a lawful type's union may: an integer type, char, boolean or an enum; an octet is no integer type
abbrev pub may_switch : Kind → Bool
may_switch kind = is_tag kind

-- a constant is of an integer type, octet, char, boolean or string
abbrev pub may_be_constant_scalar : Scalar → Bool
may_be_constant_scalar (enumeration id labels) = false
may_be_constant_scalar k = true

-- only such a scalar or a string may be after `const`
abbrev pub may_be_constant : Kind → Bool
may_be_constant (scalar k) = may_be_constant_scalar k
may_be_constant (words bound) = true
may_be_constant kind = false
