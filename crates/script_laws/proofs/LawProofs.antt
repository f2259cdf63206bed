-- The laws.
use Rattle.std.proofs.Common.{Some, None, Ok, Err, sym, subst, IfOk}
use Rattle.cdr_values.specs.Trees.{Value}
use Rattle.script_values.specs.Operations.{Comes}
use Rattle.script_values.specs.Evaluation.{value_at}
use Rattle.dynamic_servants.specs.Outcome.{carried_out}
use Rattle.script_laws.specs.Defined.{Defined}
use Rattle.script_laws.specs.Evaluation.{defined_value}
use Rattle.script_laws.specs.Outcome.{defined_work}
use Rattle.script_laws.specs.Kinds.{HasKind}
use Rattle.script_laws.specs.Laws.{ExpressionsAreDefined, MethodsAreDefined}
use Rattle.script_laws.proofs.Good.{Good, itself, same}
use Rattle.script_laws.proofs.Holes.{shown}
use Rattle.script_laws.proofs.Sent.{Any}
use Rattle.script_laws.proofs.Expressions.{typed_good}
use Rattle.script_laws.proofs.Methods.{method_good}

given_so : (P : Value → Type 0) (s : Defined Value) (t : Comes Value) → Good itself P s t → IfOk t P
given_so P None t h = absurd h
given_so P (Some (Err l)) t h = subst (λ (r : Comes Value). IfOk r P) (sym h) tt
given_so P (Some (Ok v)) t h = subst (λ (r : Comes Value). IfOk r P) (sym h.0) h.1

pub expressions_defined : ExpressionsAreDefined
expressions_defined s vars want e x priority slots sound names is st =
    let h = typed_good s (record { sound = sound; names = names }) priority vars slots st want e x is in
    (same (HasKind x.1) (defined_value priority slots x.0) (value_at priority (shown slots) x.0) h, given_so (HasKind x.1) (defined_value priority slots x.0) (value_at priority (shown slots) x.0) h)

pub methods_defined : MethodsAreDefined
methods_defined s place o x op m v job args sound names at is made are =
    let h = method_good s (record { sound = sound; names = names }) place o x op at is m v job args made are in
    same Any (defined_work s.things op (v.lets, v.body) job args) (carried_out s.things op (v.lets, v.body) job args) h.1
