-- The variables that an operation begins with: its parameters in order, read from a request's body (CORBA 3.0.3, section 15.3) or
-- with the zero of their type.
use Rattle.std.specs.Prelude.{List, [], ◌∷◌, ◌++◌, Ok}
use Rattle.cdr_core.specs.Cursor.{Cursor, Reads}
use Rattle.cdr_core.specs.Sequence.{◌>>=◌}
use Rattle.cdr_values.specs.Trees.{Kind, Value}
use Rattle.cdr_values.specs.Reading.{read}
use Rattle.idl_types.specs.declared.way.Way.{Way}
use Rattle.idl_types.specs.declared.way.Way.TheVariants.{Input, Output, Both}
use Rattle.idl_types.specs.Things.{ParamView}
use Rattle.dynamic_servants.specs.Zeros.{zero_of}

-- what a parameter begins with, and what is read after it
abbrev pub argument : Way → Kind → Cursor → Reads Value
argument Input k c = read k c
argument Output k c = Ok (zero_of k, c)
argument Both k c = read k c

-- all parameters, after the values so far
abbrev pub arguments : List ParamView → List Value → Cursor → Reads (List Value)
arguments [] vs c = Ok (vs, c)
arguments (p ∷ ps) vs c = argument p.way p.kind c >>= λ x. arguments ps (vs ++ x.0 ∷ []) x.1
