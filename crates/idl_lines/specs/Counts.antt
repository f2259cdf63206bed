-- How many parameters of an operation go which way: CORBA 3.0.3, section 3.13.
use Rattle.std.specs.Prelude.{ℕ, Bool, true, false, List, count_by}
use Rattle.idl_types.specs.declared.way.Way.{Way}
use Rattle.idl_types.specs.declared.way.Way.TheVariants.{Input, Output, Both}
use Rattle.idl_types.specs.Things.{ParamView}

-- a parameter of this way goes from the client: `in` and `inout` do
abbrev pub goes_in : Way → Bool
goes_in Input = true
goes_in Output = false
goes_in Both = true

-- a parameter of this way goes to the client: `out` and `inout` do
abbrev pub goes_out : Way → Bool
goes_out Input = false
goes_out Output = true
goes_out Both = true

-- how many parameters go from the client
abbrev pub ins : List ParamView → ℕ
ins params = count_by (λ p. goes_in p.way) params

-- how many parameters go to the client
abbrev pub outs : List ParamView → ℕ
outs params = count_by (λ p. goes_out p.way) params
