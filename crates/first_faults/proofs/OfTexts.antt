-- The laws of first faults at IDL and at scripts.
use Rattle.std.proofs.Common.{◌≡◌, inl, inr, ℕ, false, List, [], Ok, Err, refl, ap, ◌∙◌}
use Rattle.grammar.specs.Plain.{goes_on}
use Rattle.grammar.specs.Reading.{Reads, read_whole}
use Rattle.idl_tokens.specs.Cutting.{text_tokens}
use Rattle.idl_tokens.specs.Placed.{same_kind}
use Rattle.idl_tokens.specs.declared.dialect.Dialect.TheVariants.{Idl, Script}
use Rattle.idl_tokens.specs.declared.kind.Kind.{Kind}
use Rattle.idl_tokens.specs.declared.kind.Kind.TheVariants.{End, Bad}
use Rattle.idl_grammar.specs.declared.fault.IdlFault.{IdlFault}
use Rattle.idl_grammar.specs.declared.label.IdlLabel.TheVariants as l
use Rattle.idl_grammar.specs.IdlRules as idl_rules
use Rattle.idl_grammar.specs.Plain.{IsPlainIdl}
use Rattle.idl_grammar.proofs.PlainRules.{idl_plain}
use Rattle.idl_names.specs.State.{nothing_built}
use Rattle.idl_names.specs.Labels as names
use Rattle.idl_names.specs.Declaring.{idl, built_in, text_names}
use Rattle.idl_names.specs.Whole.{Declares}
use Rattle.script_grammar.specs.declared.fault.ScriptFault.{ScriptFault}
use Rattle.script_grammar.specs.ScriptRules as script_rules
use Rattle.script_grammar.specs.Plain.{IsPlainScript}
use Rattle.script_grammar.proofs.PlainRules.{script_plain}
use Rattle.servant_scripts.specs.Drafts.{empty}
use Rattle.servant_scripts.specs.Labels as scripting
use Rattle.servant_scripts.specs.Scripts.{scripts, servants_in, tokens_reading, script_reading, Spells}
use Rattle.servant_scripts.proofs.Ends.{Ends, text_ends}
use Rattle.first_faults.specs.Laws.{idl_texts, script_texts, RefusesFirst, AtOneToken, IsOne, IsRead, HasNone, AnyLabelRefuses}
use Rattle.first_faults.proofs.Faults.{refused_first, one_token, one_fault, no_fault, fault_read}

-- ---- IDL

idl_is : IsPlainIdl names.act names.judge
idl_is = idl_plain names.act names.judge

bad_ends : goes_on idl idl_rules.file Bad ≡ false
unfolding same_kind
bad_ends = refl

idl_off : (k : Kind) → Ends k → goes_on idl idl_rules.file k ≡ false
idl_off k (inl e) = ap (goes_on idl idl_rules.file) e ∙ idl_is.ends
idl_off k (inr e) = ap (goes_on idl idl_rules.file) e ∙ bad_ends

idl_ends : (text : List ℕ) → goes_on idl idl_rules.file (text_tokens Idl text).end.kind ≡ false
idl_ends text = idl_off (text_tokens Idl text).end.kind (text_ends Idl text)

not_built : (r : Reads idl) (f : IdlFault) → built_in r ≡ Err f → r ≡ Err f
not_built (Ok t) f e = absurd cc
not_built (Err g) f e = cc

pub idl_refuses : RefusesFirst idl_texts text_names
idl_refuses text f e = refused_first idl idl_is.rules 64 End idl_rules.file idl_is.whole (nothing_built, text_tokens Idl text) f (idl_ends text) (not_built (read_whole idl 64 End idl_rules.file (nothing_built, text_tokens Idl text)) f e)

pub idl_at_one : AtOneToken idl_texts
idl_at_one text f h x y = (one_token idl idl_is.rules 64 End idl_rules.file idl_is.whole (nothing_built, text_tokens Idl text) f h x y).0

pub idl_one : IsOne idl_texts
idl_one text f h x y on = one_fault idl idl_is.rules 64 End idl_rules.file idl_is.whole (nothing_built, text_tokens Idl text) f h (idl_ends text) x y on

pub idl_read : IsRead idl_texts text_names
idl_read text f x on = ap built_in (fault_read idl idl_is.rules 64 End idl_rules.file idl_is.whole (nothing_built, text_tokens Idl text) f (idl_ends text) x on)

pub idl_none : HasNone idl_texts Declares
idl_none text new f w x = no_fault idl idl_is.rules 64 End idl_rules.file idl_is.whole (text_tokens Idl text) nothing_built new f w x

pub any_refuses : AnyLabelRefuses
any_refuses text cause = record { marks = []; built = nothing_built; at = text_tokens Idl text; goes = refl; acts_are = refl; why = inr (inl (l.Refuse cause, refl)) }

-- ---- scripts

script_is : IsPlainScript scripting.act scripting.judge
script_is = script_plain scripting.act scripting.judge

script_off : (k : Kind) → Ends k → goes_on scripts script_rules.file k ≡ false
script_off k (inl e) = ap (goes_on scripts script_rules.file) e ∙ script_is.ends
script_off k (inr e) = ap (goes_on scripts script_rules.file) e ∙ script_is.breaks

script_ends : (text : List ℕ) → goes_on scripts script_rules.file (text_tokens Script text).end.kind ≡ false
script_ends text = script_off (text_tokens Script text).end.kind (text_ends Script text)

not_said : (r : Reads scripts) (f : ScriptFault) → servants_in r ≡ Err f → r ≡ Err f
not_said (Ok t) f e = absurd cc
not_said (Err g) f e = cc

pub script_refuses : RefusesFirst script_texts script_reading
unfolding tokens_reading
script_refuses text f e = refused_first scripts script_is.rules 64 End script_rules.file script_is.whole (empty, text_tokens Script text) f (script_ends text) (not_said (read_whole scripts 64 End script_rules.file (empty, text_tokens Script text)) f e)

pub script_at_one : AtOneToken script_texts
script_at_one text f h x y = (one_token scripts script_is.rules 64 End script_rules.file script_is.whole (empty, text_tokens Script text) f h x y).0

pub script_one : IsOne script_texts
script_one text f h x y on = one_fault scripts script_is.rules 64 End script_rules.file script_is.whole (empty, text_tokens Script text) f h (script_ends text) x y on

pub script_read : IsRead script_texts script_reading
unfolding tokens_reading
script_read text f x on = ap servants_in (fault_read scripts script_is.rules 64 End script_rules.file script_is.whole (empty, text_tokens Script text) f (script_ends text) x on)

pub script_none : HasNone script_texts Spells
script_none text servants f w x = no_fault scripts script_is.rules 64 End script_rules.file script_is.whole (text_tokens Script text) empty w.0 f w.1 x
