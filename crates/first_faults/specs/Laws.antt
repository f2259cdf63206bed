-- The laws of first faults, for the texts of IDL and for scripts: own profile.
use Rattle.std.specs.Prelude.{◌≡◌, ℕ, List, Result, Err}
use Rattle.grammar.specs.Language.{Language, RuleOf}
use Rattle.grammar.specs.Reading.{Stream, front}
use Rattle.grammar.specs.Grammar.{tokens_of}
use Rattle.idl_tokens.specs.Cutting.{text_tokens}
use Rattle.idl_tokens.specs.declared.dialect.Dialect.TheVariants.{Idl, Script}
use Rattle.idl_tokens.specs.declared.kind.Kind.TheVariants.{End}
use Rattle.idl_grammar.specs.declared.fault.IdlCause.{IdlCause}
use Rattle.idl_grammar.specs.IdlRules as idl_rules
use Rattle.idl_grammar.specs.Stopping.{fault_at}
use Rattle.idl_names.specs.State.{nothing_built}
use Rattle.idl_names.specs.Declaring.{idl}
use Rattle.idl_names.specs.Whole.{IsFirstFault}
use Rattle.script_grammar.specs.ScriptRules as script_rules
use Rattle.servant_scripts.specs.Drafts.{empty}
use Rattle.servant_scripts.specs.Scripts.{scripts}
use Rattle.first_faults.specs.FirstFaults.{GoesOn, FirstFault}

-- the texts of a grammar: how many brackets may be open, what is built before the first token, and how a text is cut
pub record Texts : Type 1 where
  pub language : Language
  pub depth : ℕ
  pub end : language.Kind
  pub rule : RuleOf language
  pub start : language.Built
  pub tokens : List ℕ → Stream language.Kind

-- the texts of IDL
abbrev pub idl_texts : Texts
idl_texts = record { language = idl; depth = 64; end = End; rule = idl_rules.file; start = nothing_built; tokens = text_tokens Idl }

-- the texts of scripts
abbrev pub script_texts : Texts
script_texts = record { language = scripts; depth = 64; end = End; rule = script_rules.file; start = empty; tokens = text_tokens Script }

-- f is the fault of a text's first token at fault
abbrev pub IsFirst : (t : Texts) → List ℕ → t.language.Fault → Type 0
IsFirst t text f = FirstFault t.language t.depth t.end t.rule (t.start, t.tokens text) f

-- some text goes on with the token of the fault, after the same tokens
abbrev pub GoesOnThere : (t : Texts) (text : List ℕ) (f : t.language.Fault) → IsFirst t text f → Type 0
GoesOnThere t text f x = GoesOn t.language t.depth t.end t.rule (tokens_of x.marks) x.at.tokens x.at.end

-- the fault that reading a text gives is a first fault
abbrev pub RefusesFirst : (t : Texts) → {X : Type 0} → (List ℕ → Result X t.language.Fault) → Type 0
RefusesFirst t reading = (text : List ℕ) (f : t.language.Fault) → reading text ≡ Err f → IsFirst t text f

-- two first faults of a text are at one token
abbrev pub AtOneToken : Texts → Type 0
AtOneToken t = (text : List ℕ) (f h : t.language.Fault) (x : IsFirst t text f) (y : IsFirst t text h) → x.at ≡ y.at

-- where some text goes on with that token, they are one
abbrev pub IsOne : Texts → Type 0
IsOne t = (text : List ℕ) (f h : t.language.Fault) (x : IsFirst t text f) (y : IsFirst t text h) → GoesOnThere t text f x → f ≡ h

-- and it is the fault that reading gives
abbrev pub IsRead : (t : Texts) → {X : Type 0} → (List ℕ → Result X t.language.Fault) → Type 0
IsRead t reading = (text : List ℕ) (f : t.language.Fault) (x : IsFirst t text f) → GoesOnThere t text f x → reading text ≡ Err f

-- a text that says something has no first fault
abbrev pub HasNone : (t : Texts) → {X : Type 0} → (List ℕ → X → Type 0) → Type 0
HasNone t {X} says = (text : List ℕ) (said : X) (f : t.language.Fault) → says text said → IsFirst t text f → ⊥

-- where any label may be the one that refused, each text of IDL has each cause at its first token
abbrev pub AnyLabelRefuses : Type 0
AnyLabelRefuses = (text : List ℕ) (cause : IdlCause) → IsFirstFault text (fault_at cause (front (text_tokens Idl text)))
