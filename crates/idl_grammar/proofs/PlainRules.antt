-- One token tells the rules of IDL apart: each rule by computation, whatever is done along it.
use Rattle.std.proofs.Common.{◌≡◌, ◌≤◌, lit≤, true, false, Result, refl}
use Rattle.grammar.specs.Views.{size}
use Rattle.grammar.specs.Rules.{one, maybe, ◌then◌}
use Rattle.grammar.specs.Plain.{is_plain, goes_on}
use Rattle.idl_tokens.specs.Placed.{Placed, same_kind}
use Rattle.idl_tokens.specs.declared.kind.Kind.{Kind}
use Rattle.idl_tokens.proofs.SameKinds.{same_is}
use Rattle.idl_tokens.specs.declared.kind.Kind.TheVariants as token
use Rattle.idl_grammar.specs.declared.fault.IdlFault.{IdlFault}
use Rattle.idl_grammar.specs.declared.label.IdlLabel.{IdlLabel}
use Rattle.idl_grammar.specs.declared.label.IdlLabel.TheVariants as l
use Rattle.idl_grammar.specs.declared.label.Inner.{Inner}
use Rattle.idl_grammar.specs.declared.label.Inner.TheVariants as inner
use Rattle.idl_grammar.specs.IdlRules.{file, inside}
use Rattle.idl_grammar.specs.Plain.{idl, IsPlainIdl}

plain_file : {B : Type 0} (act : IdlLabel → Placed Kind → B → Result B IdlFault) (judge : IdlLabel → B → Result B IdlFault) → is_plain (idl act judge) file ≡ true
unfolding same_kind
plain_file act judge = refl

file_ends : {B : Type 0} (act : IdlLabel → Placed Kind → B → Result B IdlFault) (judge : IdlLabel → B → Result B IdlFault) → goes_on (idl act judge) file token.End ≡ false
unfolding same_kind
file_ends act judge = refl

plain_inside : {B : Type 0} (act : IdlLabel → Placed Kind → B → Result B IdlFault) (judge : IdlLabel → B → Result B IdlFault) (r : Inner) → is_plain (idl act judge) (inside r) ≡ true
unfolding same_kind
plain_inside act judge inner.ModuleBody = refl
plain_inside act judge inner.InterfaceBody = refl
plain_inside act judge inner.StructBody = refl
plain_inside act judge inner.ExceptionBody = refl
plain_inside act judge inner.UnionType = refl
plain_inside act judge inner.UnionBody = refl
plain_inside act judge inner.EnumBody = refl
plain_inside act judge inner.Parameters = refl
plain_inside act judge inner.Raised = refl
plain_inside act judge inner.Element = refl
plain_inside act judge inner.TextBound = refl
plain_inside act judge inner.ArrayLength = refl

-- the rules are plain
pub idl_plain : {B : Type 0} (act : IdlLabel → Placed Kind → B → Result B IdlFault) (judge : IdlLabel → B → Result B IdlFault) → IsPlainIdl act judge
idl_plain act judge = record { rules = record { same_is = same_is; inside_is = plain_inside act judge }; whole = plain_file act judge; ends = file_ends act judge }

-- and a rule that isn't is given as such: a name that may stand once or twice
not_plain : {B : Type 0} (act : IdlLabel → Placed Kind → B → Result B IdlFault) (judge : IdlLabel → B → Result B IdlFault) → is_plain (idl act judge) (maybe (one token.Name l.Skip) then one token.Name l.Skip) ≡ false
unfolding same_kind
not_plain act judge = refl

-- how far reading by a rule goes down
pub small : (r : Inner) → size (inside r) ≤ 100000
small inner.ModuleBody = lit≤ tt
small inner.InterfaceBody = lit≤ tt
small inner.StructBody = lit≤ tt
small inner.ExceptionBody = lit≤ tt
small inner.UnionType = lit≤ tt
small inner.UnionBody = lit≤ tt
small inner.EnumBody = lit≤ tt
small inner.Parameters = lit≤ tt
small inner.Raised = lit≤ tt
small inner.Element = lit≤ tt
small inner.TextBound = lit≤ tt
small inner.ArrayLength = lit≤ tt
