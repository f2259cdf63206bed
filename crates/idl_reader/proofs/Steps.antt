-- What a step gives, where it isn't refused.
use Rattle.std.proofs.Common.{◌≡◌, Bool, true, false, Ok, Err, subst}
use Rattle.grammar.specs.Reading.{◌>>=◌}
use Rattle.grammar.proofs.Basics.{bind_ok, ok_is}
use Rattle.idl_grammar.specs.declared.fault.IdlFault.{IdlFault}
use Rattle.idl_grammar.specs.declared.fault.IdlCause.{IdlCause}
use Rattle.idl_scopes.specs.declared.place.Place.{Place}
use Rattle.idl_names.specs.State.{Built}
use Rattle.idl_names.specs.Changes.{Done, unless}

-- what is built is so
abbrev pub Gives : (Built → Type 0) → Done → Type 0
Gives I r = (c : Built) → r ≡ Ok c → I c

pub gives_ok : (I : Built → Type 0) (s : Built) → I s → Gives I (Ok s)
gives_ok I s o c e = subst I (ok_is s c e) o

pub gives_err : (I : Built → Type 0) (f : IdlFault) → Gives I (Err f)
gives_err I f c e = absurd cc

pub gives_then : (I J : Built → Type 0) (r : Done) (f : Built → Done) → Gives I r → ((x : Built) → I x → Gives J (f x)) → Gives J (r >>= f)
gives_then I J r f h k c e = let m = bind_ok r f c e in k m.0 (h m.0 m.1) c m.2

pub gives_unless : (I : Built → Type 0) (b : Bool) (d : IdlCause) (p : Place) (s : Built) → I s → Gives I (unless b d p s)
gives_unless I true d p s o = gives_err I _
gives_unless I false d p s o = gives_ok I s o
