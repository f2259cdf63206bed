-- Cutting a text token by token, as a loop does.
use Rattle.std.proofs.Common.{◌≡◌, ℕ, zero, suc, ◌+◌, ◌-◌, ◌<◌, ◌≤◌, Bool, true, false, List, [], ◌∷◌, ◌++◌, length, take, drop, slice_index, refl, sym, ap, subst, ◌∙◌, append_assoc, append-nil, arith}
use Rattle.idl_tokens.specs.declared.kind.Kind.{Kind}
use Rattle.idl_tokens.specs.declared.kind.Kind.TheVariants.{Blank, Bad, End}
use Rattle.idl_tokens.specs.declared.dialect.Dialect.{Dialect}
use Rattle.idl_tokens.specs.Placed.{Placed, same_kind}
use Rattle.idl_tokens.specs.Stream.{Stream, stream}
use Rattle.idl_tokens.specs.Lexing.{lex, lex_at}
use Rattle.idl_tokens.specs.Cutting.{kept, cut, with_token, place_after, line_after, column_after, ending}

-- the tokens so far, and those that are still cut
abbrev pub in_front : List (Placed Kind) → Stream Kind → Stream Kind
in_front ts s = stream (ts ++ s.tokens) s.end

abbrev cut_at : Dialect → ℕ × ℕ → List ℕ → Stream Kind
cut_at d p z = cut d 0 p.0 p.1 z

cut_skips : (d : Dialect) (left line column : ℕ) (z : List ℕ) → left ≤ length z → cut d left line column z ≡ cut_at d (place_after line column (take left z)) (drop left z)
unfolding cut
cut_skips d zero line column [] h = refl
cut_skips d zero line column (b ∷ z) h = refl
cut_skips d (suc left) line column [] h = absurd (omega arith)
cut_skips d (suc left) line column (b ∷ z) h = cut_skips d left (line_after b line) (column_after b column) z (omega arith)

abbrev token_at : Dialect → ℕ → ℕ → ℕ → List ℕ → Placed Kind
token_at d b line column z = record { kind = (lex d b z).0; text = take ((lex d b z).1 + 1) (b ∷ z); line = line; column = column }

cut_one : (d : Dialect) (line column b : ℕ) (z : List ℕ) (n : ℕ) → (lex d b z).1 ≡ n → n ≤ length z
    → cut d 0 line column (b ∷ z) ≡ with_token (lex d b z).0 (token_at d b line column z) (cut_at d (place_after line column (take (n + 1) (b ∷ z))) (drop (n + 1) (b ∷ z)))
unfolding cut
cut_one d line column b z n is h =
    let k : n + 1 ≡ suc n = omega arith in
    rw (k, is) (ap (with_token (lex d b z).0 _) (cut_skips d n (line_after b line) (column_after b column) z h))

abbrev placed : Kind → List ℕ → ℕ → ℕ → Placed Kind
placed kind text line column = record { kind = kind; text = text; line = line; column = column }

kept_on : (t : Placed Kind) (ts : List (Placed Kind)) (s : Stream Kind) → same_kind t.kind Bad ≡ false → in_front (kept ts t) s ≡ in_front ts (with_token t.kind t s)
kept_on t ts s bad = kept_by (same_kind t.kind Blank) refl
  where
    kept_by : (c : Bool) → same_kind t.kind Blank ≡ c → in_front (kept ts t) s ≡ in_front ts (with_token t.kind t s)
    kept_by true is = rw (bad, is) refl
    kept_by false is = rw (bad, is) (ap (λ x. stream x s.end) (append_assoc ts (t ∷ []) s.tokens))

cut_core : (d : Dialect) (line column b : ℕ) (z : List ℕ) (ts : List (Placed Kind)) (total : Stream Kind) → (lex d b z).1 ≤ length z → same_kind (lex d b z).0 Bad ≡ false
    → in_front ts (cut d 0 line column (b ∷ z)) ≡ total → in_front (kept ts (token_at d b line column z)) (cut_at d (place_after line column (take ((lex d b z).1 + 1) (b ∷ z))) (drop ((lex d b z).1 + 1) (b ∷ z))) ≡ total
cut_core d line column b z ts total le bad so_far =
    kept_on (token_at d b line column z) ts _ bad ∙ ap (in_front ts) (sym (cut_one d line column b z (lex d b z).1 refl le)) ∙ so_far

bad_core : (d : Dialect) (line column b : ℕ) (z : List ℕ) (ts : List (Placed Kind)) (total : Stream Kind) → (lex d b z).1 ≤ length z → same_kind (lex d b z).0 Bad ≡ true
    → in_front ts (cut d 0 line column (b ∷ z)) ≡ total → stream ts (token_at d b line column z) ≡ total
bad_core d line column b z ts total le bad so_far =
    let here : cut d 0 line column (b ∷ z) ≡ stream [] (token_at d b line column z) = rw (cut_one d line column b z (lex d b z).1 refl le, bad) refl in
    ap (λ x. stream x (token_at d b line column z)) (sym (append-nil ts)) ∙ ap (in_front ts) (sym here) ∙ so_far

-- one turn: a token was kept, or was blank
pub cut_on : (d : Dialect) (line column : ℕ) (z piece rest : List ℕ) (k : Kind × ℕ) (p : ℕ × ℕ) (ts more : List (Placed Kind)) (total : Stream Kind) → 0 < length z → k ≡ lex_at d z → piece ≡ take (k.1 + 1) z → rest ≡ drop (k.1 + 1) z → p ≡ place_after line column piece
    → more ≡ kept ts (placed k.0 piece line column) → k.1 + 1 ≤ length z → same_kind k.0 Bad ≡ false → in_front ts (cut d 0 line column z) ≡ total → in_front more (cut d 0 p.0 p.1 rest) ≡ total
cut_on d line column [] piece rest k p ts more total some is front back place keeps le bad so_far = absurd (omega (arith, some))
cut_on d line column (b ∷ z) piece rest k p ts more total some is front back place keeps le bad so_far =
    let within : (lex d b z).1 + 1 ≤ length (b ∷ z) = subst (λ x. x.1 + 1 ≤ length (b ∷ z)) is le in
    let good : same_kind (lex d b z).0 Bad ≡ false = subst (λ x. same_kind x.0 Bad ≡ false) is bad in
    rw (keeps, place, back, front, is) (cut_core d line column b z ts total (omega (arith, within)) good so_far)

-- the last turn, at what begins no token
pub cut_bad : (d : Dialect) (line column : ℕ) (z piece : List ℕ) (k : Kind × ℕ) (ts : List (Placed Kind)) (total : Stream Kind) → 0 < length z → k ≡ lex_at d z → piece ≡ take (k.1 + 1) z → k.1 + 1 ≤ length z → same_kind k.0 Bad ≡ true
    → in_front ts (cut d 0 line column z) ≡ total → stream ts (placed k.0 piece line column) ≡ total
cut_bad d line column [] piece k ts total some is front le bad so_far = absurd (omega (arith, some))
cut_bad d line column (b ∷ z) piece k ts total some is front le bad so_far =
    let within : (lex d b z).1 + 1 ≤ length (b ∷ z) = subst (λ x. x.1 + 1 ≤ length (b ∷ z)) is le in
    let wrong : same_kind (lex d b z).0 Bad ≡ true = subst (λ x. same_kind x.0 Bad ≡ true) is bad in
    rw (front, is) (bad_core d line column b z ts total (omega (arith, within)) wrong so_far)

-- the end of the text
pub cut_end : (d : Dialect) (line column : ℕ) (z : List ℕ) (ts : List (Placed Kind)) (total : Stream Kind) → length z ≡ 0 → in_front ts (cut d 0 line column z) ≡ total → stream ts (ending line column) ≡ total
unfolding cut
cut_end d line column [] ts total is so_far = ap (λ x. stream x (ending line column)) (sym (append-nil ts)) ∙ so_far
cut_end d line column (b ∷ z) ts total is so_far = absurd (omega (arith, is))

pub lex_parts : (d : Dialect) (z : List ℕ) → 0 < length z → lex_at d z ≡ lex d (slice_index z 0) (drop 1 z)
lex_parts d [] h = absurd (omega (arith, h))
lex_parts d (b ∷ z) h = refl

pub head_and_tail : (z : List ℕ) → 0 < length z → z ≡ slice_index z 0 ∷ drop 1 z
head_and_tail [] h = absurd (omega (arith, h))
head_and_tail (b ∷ z) h = refl

pub front_is : (b n : ℕ) (z text : List ℕ) → text ≡ b ∷ z → take (n + 1) text ≡ b ∷ take n z
front_is b n z text is = let k : n + 1 ≡ suc n = omega arith in rw (is, k) refl

pub behind_front : (b n : ℕ) (z text : List ℕ) → text ≡ b ∷ z → n ≤ length text - 1 → n ≤ length z
behind_front b n z text is h = let e = ap (λ (x : List ℕ). length x) is in omega (arith, e, h)
