-- One token tells the rules of scripts apart: each rule by computation, whatever is done along it.
use Rattle.std.proofs.Common.{◌≡◌, ◌≤◌, lit≤, true, false, Result, refl}
use Rattle.grammar.specs.Views.{size}
use Rattle.grammar.specs.Rules.{one, maybe, ◌then◌}
use Rattle.grammar.specs.Plain.{is_plain, goes_on}
use Rattle.idl_tokens.specs.Placed.{Placed, same_kind}
use Rattle.idl_tokens.specs.declared.kind.Kind.{Kind}
use Rattle.idl_tokens.proofs.SameKinds.{same_is}
use Rattle.idl_tokens.specs.declared.kind.Kind.TheVariants as token
use Rattle.script_grammar.specs.declared.fault.ScriptFault.{ScriptFault}
use Rattle.script_grammar.specs.declared.label.ScriptLabel.{ScriptLabel}
use Rattle.script_grammar.specs.declared.label.ScriptLabel.TheVariants as l
use Rattle.script_grammar.specs.declared.label.Inner.{Inner}
use Rattle.script_grammar.specs.declared.label.Inner.TheVariants as inner
use Rattle.script_grammar.specs.ScriptRules.{file, inside}
use Rattle.script_grammar.specs.Plain.{script, IsPlainScript}

plain_file : {B : Type 0} (act : ScriptLabel → Placed Kind → B → Result B ScriptFault) (judge : ScriptLabel → B → Result B ScriptFault) → is_plain (script act judge) file ≡ true
unfolding same_kind
plain_file act judge = refl

file_ends : {B : Type 0} (act : ScriptLabel → Placed Kind → B → Result B ScriptFault) (judge : ScriptLabel → B → Result B ScriptFault) → goes_on (script act judge) file token.End ≡ false
unfolding same_kind
file_ends act judge = refl

file_breaks : {B : Type 0} (act : ScriptLabel → Placed Kind → B → Result B ScriptFault) (judge : ScriptLabel → B → Result B ScriptFault) → goes_on (script act judge) file token.Bad ≡ false
unfolding same_kind
file_breaks act judge = refl

plain_inside : {B : Type 0} (act : ScriptLabel → Placed Kind → B → Result B ScriptFault) (judge : ScriptLabel → B → Result B ScriptFault) (r : Inner) → is_plain (script act judge) (inside r) ≡ true
unfolding same_kind
plain_inside act judge inner.ServantBody = refl
plain_inside act judge inner.Names = refl
plain_inside act judge inner.Statements = refl
plain_inside act judge inner.FieldList = refl
plain_inside act judge inner.MaybeFields = refl
plain_inside act judge inner.Expression = refl
plain_inside act judge inner.Nothing = refl
plain_inside act judge inner.ListItems = refl

-- the rules are plain
pub script_plain : {B : Type 0} (act : ScriptLabel → Placed Kind → B → Result B ScriptFault) (judge : ScriptLabel → B → Result B ScriptFault) → IsPlainScript act judge
script_plain act judge = record { rules = record { same_is = same_is; inside_is = plain_inside act judge }; whole = plain_file act judge; ends = file_ends act judge; breaks = file_breaks act judge }

-- and a rule that isn't is given as such: a name that may stand once or twice
not_plain : {B : Type 0} (act : ScriptLabel → Placed Kind → B → Result B ScriptFault) (judge : ScriptLabel → B → Result B ScriptFault) → is_plain (script act judge) (maybe (one token.Name l.Skip) then one token.Name l.Skip) ≡ false
unfolding same_kind
not_plain act judge = refl

-- how far reading by a rule goes down
pub small : (r : Inner) → size (inside r) ≤ 100000
small inner.ServantBody = lit≤ tt
small inner.Names = lit≤ tt
small inner.Statements = lit≤ tt
small inner.FieldList = lit≤ tt
small inner.MaybeFields = lit≤ tt
small inner.Expression = lit≤ tt
small inner.Nothing = lit≤ tt
small inner.ListItems = lit≤ tt
