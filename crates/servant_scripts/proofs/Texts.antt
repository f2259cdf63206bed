-- The laws of grammars at scripts.
use Rattle.std.proofs.Common.{◌≡◌, inl, inr, ℕ, false, List, Result, Ok, Err, refl, sym, ap, ◌∙◌}
use Rattle.grammar.specs.Grammar.{Sentence}
use Rattle.grammar.specs.Plain.{goes_on}
use Rattle.grammar.specs.Reading.{Stream, Reads, read_whole}
use Rattle.grammar.specs.Refusal.{Whole, Refused, NoneHere}
use Rattle.grammar.proofs.WholeTexts.{whole_sound, whole_complete, whole_refused}
use Rattle.idl_tokens.specs.Cutting.{text_tokens}
use Rattle.idl_tokens.specs.declared.dialect.Dialect.TheVariants.{Script}
use Rattle.idl_tokens.specs.declared.kind.Kind.{Kind}
use Rattle.idl_tokens.specs.declared.kind.Kind.TheVariants.{End}
use Rattle.script_grammar.specs.ScriptRules.{file}
use Rattle.script_grammar.specs.Plain.{IsPlainScript}
use Rattle.script_grammar.specs.declared.fault.ScriptFault.{ScriptFault}
use Rattle.script_grammar.proofs.PlainRules.{script_plain}
use Rattle.std.specs.Prelude.{IfOk, IfErr}
use Rattle.servant_scripts.specs.declared.error.ScriptError.{ScriptError}
use Rattle.servant_scripts.specs.declared.error.ScriptError.TheVariants as answer
use Rattle.servant_scripts.specs.declared.line.Script.{Script as ScriptTree}
use Rattle.servant_scripts.specs.Answers.{Tells}
use Rattle.servant_scripts.specs.Views.{script_of}
use Rattle.servant_scripts.specs.Trees.{ServantSaid}
use Rattle.servant_scripts.specs.Drafts.{Draft, empty}
use Rattle.servant_scripts.specs.Labels.{act, judge}
use Rattle.servant_scripts.specs.Scripts.{scripts, servants_in, tokens_reading, script_reading, Spells, ReadsScripts, ReadsEachScript, StopsAtFirstFault, TellsFault}
use Rattle.servant_scripts.proofs.Ends.{Ends, text_ends}

plain : IsPlainScript act judge
plain = script_plain act judge

-- what was built of tokens that are read
spelled : (s : Stream Kind) (r : Reads scripts) (servants : List ServantSaid) → read_whole scripts 64 End file (empty, s) ≡ r → servants_in r ≡ Ok servants
    → (d : Draft) × Whole scripts (Sentence scripts 64 file) End s empty d × (d.servants ≡ servants)
spelled s (Ok t) servants is e = (t.0, whole_sound scripts 64 End file (empty, s) t is, cc)
spelled s (Err f) servants is e = absurd cc

pub scripts_spelled : ReadsScripts
unfolding tokens_reading
scripts_spelled text servants e = spelled (text_tokens Script text) (read_whole scripts 64 End file (empty, text_tokens Script text)) servants refl e

pub spelled_read : ReadsEachScript
unfolding tokens_reading
spelled_read text servants w =
    ap servants_in (whole_complete scripts plain.rules 64 End file plain.whole plain.ends (text_tokens Script text) empty w.0 w.1) ∙ ap (λ z. Ok z) w.2

goes_no_further : (k : Kind) → Ends k → goes_on scripts file k ≡ false
goes_no_further k (inl e) = ap (λ z. goes_on scripts file z) e ∙ plain.ends
goes_no_further k (inr e) = ap (λ z. goes_on scripts file z) e ∙ plain.breaks

refused : (s : Stream Kind) (r : Reads scripts) (f : ScriptFault) → Ends s.end.kind → read_whole scripts 64 End file (empty, s) ≡ r → servants_in r ≡ Err f
    → Refused scripts (NoneHere scripts 64 End file) (empty, s) f
refused s (Ok t) f ends is e = absurd cc
refused s (Err g) f ends is e =
    let same : g ≡ f = cc in
    whole_refused scripts plain.rules 64 End file plain.whole (empty, s) f (goes_no_further s.end.kind ends) (is ∙ ap (λ z. Err z) same)

pub stops_at_fault : StopsAtFirstFault
unfolding tokens_reading
stops_at_fault text fault e =
    refused (text_tokens Script text) (read_whole scripts 64 End file (empty, text_tokens Script text)) fault (text_ends Script text) refl e

-- what an answer that tells the reading says of the text
pub told_spells : (text : List ℕ) (r : Result ScriptTree ScriptError) → Tells r (script_reading text) → IfOk r (λ s. Spells text (script_of s))
told_spells text (Ok s) told = scripts_spelled text (script_of s) told
told_spells text (Err e) told = tt

pub told_fault : (text : List ℕ) (r : Result ScriptTree ScriptError) → Tells r (script_reading text) → IfErr r (λ e. TellsFault text e)
told_fault text (Ok s) told = tt
told_fault text (Err (answer.Refused fault)) told = stops_at_fault text fault told
told_fault text (Err answer.NoMemory) told = tt

pub told_only : (text : List ℕ) (r : Result ScriptTree ScriptError) (servants : List ServantSaid) → Tells r (script_reading text) → Spells text servants → Tells r (Ok servants)
told_only text (Ok s) servants told spells = sym (spelled_read text servants spells) ∙ told
told_only text (Err (answer.Refused fault)) servants told spells = sym (spelled_read text servants spells) ∙ told
told_only text (Err answer.NoMemory) servants told spells = tt
