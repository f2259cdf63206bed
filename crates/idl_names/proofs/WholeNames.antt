-- Reading a text and what it declares are one, by the laws of reading.
use Rattle.std.proofs.Common.{◌≡◌, ℕ, zero, suc, Bool, true, false, subst, List, [], ◌∷◌, Result, Ok, Err, refl, ap, ◌∙◌}
use Rattle.std.specs.Prelude.{if◌then◌else◌}
use Rattle.grammar.specs.Language.{Placed}
use Rattle.grammar.specs.Plain.{goes_on}
use Rattle.grammar.specs.Reading.{Stream, stream, State, read_whole}
use Rattle.grammar.proofs.WholeTexts.{whole_sound, whole_complete, whole_refused}
use Rattle.idl_tokens.specs.Cutting.{cut, with_token, line_after, column_after, text_tokens}
use Rattle.idl_tokens.specs.Lexing.{lex}
use Rattle.idl_tokens.specs.Placed.{same_kind}
use Rattle.idl_tokens.specs.declared.dialect.Dialect.{Dialect}
use Rattle.idl_tokens.specs.declared.dialect.Dialect.TheVariants.{Idl}
use Rattle.idl_tokens.specs.declared.kind.Kind.{Kind}
use Rattle.idl_tokens.specs.declared.kind.Kind.TheVariants.{End, Bad, Blank}
use Rattle.idl_grammar.specs.declared.fault.IdlFault.{IdlFault}
use Rattle.idl_grammar.specs.IdlRules.{file}
use Rattle.idl_grammar.proofs.PlainRules.{idl_plain}
use Rattle.idl_names.specs.State.{Built, nothing_built}
use Rattle.idl_names.specs.Labels.{act, judge}
use Rattle.idl_names.specs.Declaring.{idl, built_in, text_names}
use Rattle.grammar.specs.declared.builder.ReadError.{ReadError}
use Rattle.grammar.specs.declared.builder.ReadError.TheVariants as answer
use Rattle.idl_names.specs.Memory.{Yields}
use Rattle.idl_names.specs.Views.{built_of}
use Rattle.idl_names.specs.declared.state.Names.{Names}
use Rattle.idl_names.specs.Whole.{Declares, IsFirstFault, TellsNames, TellsOnly}

-- the end of a text's tokens goes on with no file
bad_ends : goes_on idl file Bad ≡ false
unfolding same_kind
bad_ends = refl

-- what was read is built
built_ok : (r : Result (State idl) IdlFault) (new : Built) → built_in r ≡ Ok new → (t : State idl) × (r ≡ Ok t) × (t.0 ≡ new)
built_ok (Ok t) new e = (t, refl, cc)
built_ok (Err f) new e = absurd cc

built_err : (r : Result (State idl) IdlFault) (f : IdlFault) → built_in r ≡ Err f → r ≡ Err f
built_err (Ok t) f e = absurd cc
built_err (Err g) f e = cc

-- what is read is declared
pub read_declares : (text : List ℕ) (new : Built) → text_names text ≡ Ok new → Declares text new
read_declares text new e =
    let x = built_ok (read_whole idl 64 End file (nothing_built, text_tokens Idl text)) new e in
    subst (Declares text) x.2 (whole_sound idl 64 End file (nothing_built, text_tokens Idl text) x.0 x.1)

-- what is declared is read
pub declared_reads : (text : List ℕ) (new : Built) → Declares text new → text_names text ≡ Ok new
declared_reads text new w =
    let plain = idl_plain act judge in
    ap built_in (whole_complete idl plain.rules 64 End file plain.whole plain.ends (text_tokens Idl text) nothing_built new w)

-- what ends tokens, no file goes on with
abbrev Ends : Stream Kind → Type 0
Ends s = goes_on idl file s.end.kind ≡ false

ends_so : (b c : Bool) (t : Placed Kind) (s : Stream Kind) → (b ≡ true → Ends (stream [] t)) → Ends s → Ends (if b then stream [] t else (if c then s else stream (t ∷ s.tokens) s.end))
ends_so true c t s h g = h refl
ends_so false true t s h g = g
ends_so false false t s h g = g

token_ends : (k : Kind) (t : Placed Kind) (s : Stream Kind) → t.kind ≡ k → Ends s → Ends (with_token k t s)
token_ends k t s is h =
    let plain = idl_plain act judge in
    ends_so (same_kind k Bad) (same_kind k Blank) t s (λ e. ap (goes_on idl file) (is ∙ plain.rules.same_is k Bad e) ∙ bad_ends) h

text_ends : (d : Dialect) (left line column : ℕ) (text : List ℕ) → Ends (cut d left line column text)
unfolding cut
text_ends d left line column [] = (idl_plain act judge).ends
text_ends d (suc left) line column (b ∷ z) = text_ends d left (line_after b line) (column_after b column) z
text_ends d zero line column (b ∷ z) = token_ends (lex d b z).0 _ _ refl (text_ends d (lex d b z).1 (line_after b line) (column_after b column) z)

-- what is refused is the first token at fault
pub refused_first : (text : List ℕ) (f : IdlFault) → text_names text ≡ Err f → IsFirstFault text f
refused_first text f e =
    let plain = idl_plain act judge in
    whole_refused idl plain.rules 64 End file plain.whole (nothing_built, text_tokens Idl text) f (text_ends Idl 0 1 1 text)
    (built_err (read_whole idl 64 End file (nothing_built, text_tokens Idl text)) f e)

-- what a reading tells is so
pub tells : (r : Result Names (ReadError IdlFault)) (text : List ℕ) → Yields built_of r (text_names text) → TellsNames r text
tells (Ok names) text e = read_declares text (built_of names) e
tells (Err (answer.Refused f)) text e = refused_first text f e
tells (Err answer.NoMemory) text e = tt

-- and nothing else is
pub tells_only : (r : Result Names (ReadError IdlFault)) (text : List ℕ) → Yields built_of r (text_names text) → (new : Built) → Declares text new → TellsOnly r new
tells_only (Ok names) text e new w = let d = declared_reads text new w in cc
tells_only (Err (answer.Refused f)) text e new w = let d = declared_reads text new w in absurd cc
tells_only (Err answer.NoMemory) text e new w = tt
