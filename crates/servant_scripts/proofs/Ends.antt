-- What ends the tokens of a text: its end, or what begins no token.
use Rattle.std.proofs.Common.{◌≡◌, ◌⊎◌, inl, inr, ℕ, zero, suc, Bool, true, false, List, [], ◌∷◌, ◌+◌, take, refl, ◌∙◌}
use Rattle.std.specs.Prelude.{if◌then◌else◌}
use denote.Enum.Bare.{same_true}
use Rattle.idl_tokens.specs.Placed.{Placed, same_kind}
use Rattle.idl_tokens.specs.Stream.{Stream, stream}
use Rattle.idl_tokens.specs.Lexing.{lex}
use Rattle.idl_tokens.specs.Cutting.{cut, line_after, column_after, text_tokens}
use Rattle.idl_tokens.specs.contracts.kind.Kind.{the_type}
use Rattle.idl_tokens.specs.declared.kind.Kind.{Kind}
use Rattle.idl_tokens.specs.declared.kind.Kind.TheVariants.{Bad, Blank, End}
use Rattle.idl_tokens.specs.declared.dialect.Dialect.{Dialect}

-- the kind of an end
abbrev pub Ends : Kind → Type 0
Ends k = (k ≡ End) ⊎ (k ≡ Bad)

is_bad : (k : Kind) → same_kind k Bad ≡ true → k ≡ Bad
unfolding same_kind
is_bad k e = same_true the_type tt k Bad e

kept_end : (b : Bool) (t : Placed Kind) (s : Stream Kind) → Ends s.end.kind → Ends (if b then s else stream (t ∷ s.tokens) s.end).end.kind
kept_end true t s e = e
kept_end false t s e = e

token_end : (b : Bool) (k : Kind) (t : Placed Kind) (s : Stream Kind) → same_kind k Bad ≡ b → t.kind ≡ k → Ends s.end.kind
    → Ends (if b then stream [] t else (if same_kind k Blank then s else stream (t ∷ s.tokens) s.end)).end.kind
token_end true k t s e is ends = inr (is ∙ is_bad k e)
token_end false k t s e is ends = kept_end (same_kind k Blank) t s ends

cut_ends : (d : Dialect) (left line column : ℕ) (z : List ℕ) → Ends (cut d left line column z).end.kind
unfolding cut
cut_ends d left line column [] = inl refl
cut_ends d (suc left) line column (b ∷ z) = cut_ends d left (line_after b line) (column_after b column) z
cut_ends d zero line column (b ∷ z) =
    let k : Kind × ℕ = lex d b z in
    token_end (same_kind k.0 Bad) k.0 (record { kind = k.0; text = take (k.1 + 1) (b ∷ z); line = line; column = column }) (cut d k.1 (line_after b line) (column_after b column) z) refl refl
    (cut_ends d k.1 (line_after b line) (column_after b column) z)

-- the tokens of a text end so
pub text_ends : (d : Dialect) (text : List ℕ) → Ends (text_tokens d text).end.kind
text_ends d text = cut_ends d 0 1 1 text
