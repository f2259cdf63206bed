-- What the definitions say of short texts, each of one line: the first token at fault, or none.
use Rattle.std.proofs.Common.{◌≡◌, refl, ℕ, List, Result, Ok, Err, Option, Some, None, codes}
use Rattle.grammar.specs.Reading.{read_whole, read_rule, read_inner, take_one, ended, repeated}
use Rattle.idl_tokens.specs.Placed.{same_kind}
use Rattle.idl_tokens.specs.Runs.{text_len}
use Rattle.idl_tokens.specs.Lexing.{lex}
use Rattle.idl_tokens.specs.Cutting.{cut}
use Rattle.idl_grammar.specs.declared.fault.IdlFault.{IdlFault}
use Rattle.idl_grammar.specs.declared.fault.IdlCause.{IdlCause}
use Rattle.idl_grammar.specs.declared.fault.IdlCause.TheVariants as cause
use Rattle.idl_scopes.specs.Finding.{outwards}
use Rattle.idl_scopes.specs.Ids.{id_of, within}
use Rattle.idl_names.specs.State.{Built}
use Rattle.idl_names.specs.Declaring.{text_names}

abbrev pub told : Result Built IdlFault → Option (IdlCause × ℕ)
told (Ok s) = None
told (Err f) = Some (f.cause, f.column)

abbrev id_behind : ℕ → Result Built IdlFault → Option (List ℕ)
id_behind i (Ok s) = Some (id_of s.scopes i)
id_behind i (Err f) = None

-- a typedef that is used
fine : told (text_names (codes "typedef long T; typedef T U;")) ≡ None
unfolding lex text_len cut same_kind read_whole read_rule read_inner take_one ended repeated outwards within
fine = refl

-- a name that is not declared
unknown : told (text_names (codes "typedef V U;")) ≡ Some (cause.Unknown, 9)
unfolding lex text_len cut same_kind read_whole read_rule read_inner take_one ended repeated outwards within
unknown = refl

-- a name that differs in case alone
clash : told (text_names (codes "typedef long T; typedef T t;")) ≡ Some (cause.Clash, 27)
unfolding lex text_len cut same_kind read_whole read_rule read_inner take_one ended repeated outwards within
clash = refl

-- a struct is found after its end alone
recursive : told (text_names (codes "struct S { sequence<S> x; };")) ≡ Some (cause.Unknown, 21)
unfolding lex text_len cut same_kind read_whole read_rule read_inner take_one ended repeated outwards within
recursive = refl

-- an out parameter of a oneway
out_of_oneway : told (text_names (codes "interface I { oneway void f(out long x); };")) ≡ Some (cause.BadOneway, 29)
unfolding lex text_len cut same_kind read_whole read_rule read_inner take_one ended repeated outwards within
out_of_oneway = refl

-- a oneway whose result is a module
module_result : told (text_names (codes "module M { interface I { oneway M f(); }; };")) ≡ Some (cause.WrongKind, 33)
unfolding lex text_len cut same_kind read_whole read_rule read_inner take_one ended repeated outwards within
module_result = refl

-- a oneway whose result goes on after a module
long_result : told (text_names (codes "module M { interface I { oneway M::N f(); }; };")) ≡ Some (cause.BadOneway, 33)
unfolding lex text_len cut same_kind read_whole read_rule read_inner take_one ended repeated outwards within
long_result = refl

-- an array of 90,000 leaves
large : told (text_names (codes "typedef long T[300][300];")) ≡ Some (cause.TooLarge, 14)
unfolding lex text_len cut same_kind read_whole read_rule read_inner take_one ended repeated outwards within
large = refl

-- a value outside its type
outside : told (text_names (codes "const octet c = -256;")) ≡ Some (cause.OutOfRange, 18)
unfolding lex text_len cut same_kind read_whole read_rule read_inner take_one ended repeated outwards within
outside = refl

-- a name of an inherited operation
inherited : told (text_names (codes "interface A { void f(); }; interface B : A { void F(); };")) ≡ Some (cause.Clash, 51)
unfolding lex text_len cut same_kind read_whole read_rule read_inner take_one ended repeated outwards within
inherited = refl

-- a label that is there twice
twice : told (text_names (codes "enum E { X, Y }; union U switch (E) { case X: long a; case X: long b; };")) ≡ Some (cause.TwiceCase, 60)
unfolding lex text_len cut same_kind read_whole read_rule read_inner take_one ended repeated outwards within
twice = refl

-- two bases that give different things of a name
bases : told (text_names (codes "interface A { const long c = 1; }; interface B { const long c = 2; }; interface C : A, B { };")) ≡ Some (cause.Clash, 88)
unfolding lex text_len cut same_kind read_whole read_rule read_inner take_one ended repeated outwards within
bases = refl

-- the name of the built-in module
built_in : told (text_names (codes "module oRB { typedef long T; };")) ≡ Some (cause.Clash, 8)
unfolding lex text_len cut same_kind read_whole read_rule read_inner take_one ended repeated outwards within
built_in = refl

-- a member that hides a type
hidden : told (text_names (codes "typedef long T; struct S { long T; T x; };")) ≡ Some (cause.WrongKind, 36)
unfolding lex text_len cut same_kind read_whole read_rule read_inner take_one ended repeated outwards within
hidden = refl

-- an interface as a type
interface_type : told (text_names (codes "interface I { void f(in I x); };")) ≡ Some (cause.NotInProfile, 25)
unfolding lex text_len cut same_kind read_whole read_rule read_inner take_one ended repeated outwards within
interface_type = refl

-- nothing is found in an operation
behind_operation : told (text_names (codes "interface I { void f(in long p); }; typedef I::f::p T;")) ≡ Some (cause.Unknown, 51)
unfolding lex text_len cut same_kind read_whole read_rule read_inner take_one ended repeated outwards within
behind_operation = refl

-- a bound of 65,537
bound : told (text_names (codes "typedef sequence<long, 65537> T;")) ≡ Some (cause.OutOfRange, 24)
unfolding lex text_len cut same_kind read_whole read_rule read_inner take_one ended repeated outwards within
bound = refl

-- a value of another kind
wrong_value : told (text_names (codes "const octet c = 1; const char d = c;")) ≡ Some (cause.WrongKind, 35)
unfolding lex text_len cut same_kind read_whole read_rule read_inner take_one ended repeated outwards within
wrong_value = refl

-- an id
id : id_behind 1 (text_names (codes "module M { struct S { long x; }; };")) ≡ Some (codes "IDL:M/S:1.0")
unfolding lex text_len cut same_kind read_whole read_rule read_inner take_one ended repeated outwards within
id = refl
