-- More of the same: attributes, exceptions, modules that open again, defaults, signs.
use Rattle.std.proofs.Common.{◌≡◌, refl, Some, None, codes}
use Rattle.grammar.specs.Reading.{read_whole, read_rule, read_inner, take_one, ended, repeated}
use Rattle.idl_tokens.specs.Placed.{same_kind}
use Rattle.idl_tokens.specs.Runs.{text_len}
use Rattle.idl_tokens.specs.Lexing.{lex}
use Rattle.idl_tokens.specs.Cutting.{cut}
use Rattle.idl_grammar.specs.declared.fault.IdlCause.TheVariants as cause
use Rattle.idl_scopes.specs.Finding.{outwards}
use Rattle.idl_scopes.specs.Ids.{within}
use Rattle.idl_names.specs.Declaring.{text_names}
use Rattle.idl_names.proofs.Examples.{told}

-- a name of an inherited attribute
inherited_attribute : told (text_names (codes "interface A { attribute long x; }; interface B : A { void x(); };")) ≡ Some (cause.Clash, 59)
unfolding lex text_len cut same_kind read_whole read_rule read_inner take_one ended repeated outwards within
inherited_attribute = refl

-- an exception that is raised
raised : told (text_names (codes "exception E { long x; }; interface I { void f() raises (E); };")) ≡ None
unfolding lex text_len cut same_kind read_whole read_rule read_inner take_one ended repeated outwards within
raised = refl

-- a struct is no exception
raised_struct : told (text_names (codes "struct S { long x; }; interface I { void f() raises (S); };")) ≡ Some (cause.WrongKind, 54)
unfolding lex text_len cut same_kind read_whole read_rule read_inner take_one ended repeated outwards within
raised_struct = refl

-- a oneway raises nothing
oneway_raises : told (text_names (codes "exception E { }; interface I { oneway void f() raises (E); };")) ≡ Some (cause.BadOneway, 48)
unfolding lex text_len cut same_kind read_whole read_rule read_inner take_one ended repeated outwards within
oneway_raises = refl

-- a module that opens again
opened_again : told (text_names (codes "module M { typedef long T; }; module M { typedef T U; };")) ≡ None
unfolding lex text_len cut same_kind read_whole read_rule read_inner take_one ended repeated outwards within
opened_again = refl

-- a module in another case
other_case : told (text_names (codes "module M { typedef long T; }; module m { typedef long U; };")) ≡ Some (cause.Clash, 38)
unfolding lex text_len cut same_kind read_whole read_rule read_inner take_one ended repeated outwards within
other_case = refl

-- a default that is there twice
default_twice : told (text_names (codes "union U switch (long) { default: long a; default: long b; };")) ≡ Some (cause.TwiceCase, 42)
unfolding lex text_len cut same_kind read_whole read_rule read_inner take_one ended repeated outwards within
default_twice = refl

-- a string has a bound of 1 at least
text_bound : told (text_names (codes "typedef string<0> T;")) ≡ Some (cause.OutOfRange, 16)
unfolding lex text_len cut same_kind read_whole read_rule read_inner take_one ended repeated outwards within
text_bound = refl

-- a value of another kind begins with its sign
sign_of_char : told (text_names (codes "const char c = -5;")) ≡ Some (cause.WrongKind, 16)
unfolding lex text_len cut same_kind read_whole read_rule read_inner take_one ended repeated outwards within
sign_of_char = refl

-- a number after a sign is at fault where it is
plus : told (text_names (codes "const short c = +32768;")) ≡ Some (cause.OutOfRange, 18)
unfolding lex text_len cut same_kind read_whole read_rule read_inner take_one ended repeated outwards within
plus = refl

-- a oneway whose result is not declared
unknown_result : told (text_names (codes "interface I { oneway Nope f(); };")) ≡ Some (cause.Unknown, 22)
unfolding lex text_len cut same_kind read_whole read_rule read_inner take_one ended repeated outwards within
unknown_result = refl

-- an enumerator of another enum
other_enum : told (text_names (codes "enum E { A }; enum F { B }; union U switch (E) { case B: long a; };")) ≡ Some (cause.WrongKind, 55)
unfolding lex text_len cut same_kind read_whole read_rule read_inner take_one ended repeated outwards within
other_enum = refl

-- a base that is there twice
base_twice : told (text_names (codes "interface A { void f(); }; interface B : A, A { };")) ≡ None
unfolding lex text_len cut same_kind read_whole read_rule read_inner take_one ended repeated outwards within
base_twice = refl

-- a member of the name of its struct
member_of_its_name : told (text_names (codes "struct S { long s; };")) ≡ Some (cause.Clash, 17)
unfolding lex text_len cut same_kind read_whole read_rule read_inner take_one ended repeated outwards within
member_of_its_name = refl

-- an interface is not its own base
own_base : told (text_names (codes "interface I : I { };")) ≡ Some (cause.Unknown, 15)
unfolding lex text_len cut same_kind read_whole read_rule read_inner take_one ended repeated outwards within
own_base = refl

-- a keyword in another case
keyword : told (text_names (codes "typedef long LONG;")) ≡ Some (cause.Clash, 14)
unfolding lex text_len cut same_kind read_whole read_rule read_inner take_one ended repeated outwards within
keyword = refl

-- one number spelled in two ways
one_label : told (text_names (codes "union U switch (long) { case 16: long a; case 0x10: long b; };")) ≡ Some (cause.TwiceCase, 47)
unfolding lex text_len cut same_kind read_whole read_rule read_inner take_one ended repeated outwards within
one_label = refl
