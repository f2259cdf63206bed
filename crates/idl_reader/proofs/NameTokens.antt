-- The names of a text: letters, digits and `_`, and none before that is `_`. So no other character is in a name.
use Rattle.std.proofs.Common.{◌≡◌, inl, inr, ℕ, zero, suc, ◌+◌, ◌-◌, ◌≤◌, arith, Bool, true, false, cond, not, List, [], ◌∷◌, length, take, Option, Some, None, refl, sym, ap, subst, ◌∙◌}
use Rattle.std.specs.Prelude.{◌==◌, ◌||◌, ◌&&◌, nat_lt, unwrap_or, if◌then◌else◌}
use Rattle.std.specs.List.{list_all, list_any, starts_with, prefix_len}
use Rattle.std.specs.Int.{is_in_range}
use Rattle.std.specs.Char.{to_ascii_lowercase, is_ascii_alphabetic, is_ascii_digit}
use Rattle.std.proofs.lemmas.Bool.{or_from, and_from, and_parts, not-true, both_ways, cases_Bool, cond_both, false_from_ne_true, eqb-true, ne_eqb, ltb-false}
use Rattle.std.proofs.lemmas.List.Sums.{prefix_len-le-length}
use Rattle.idl_scopes.specs.Finding.{lowered}
use Rattle.idl_tokens.specs.declared.kind.Kind.{Kind}
use Rattle.idl_tokens.specs.declared.kind.Kind.TheVariants as kind
use Rattle.idl_tokens.specs.declared.dialect.Dialect.TheVariants.{Idl}
use Rattle.idl_tokens.specs.Placed.{Placed, same_kind}
use Rattle.idl_tokens.specs.Stream.{Stream, stream}
use Rattle.idl_tokens.specs.Runs.{is_name_byte, is_blank, is_of_line, run_len, text_len, comment_end}
use Rattle.idl_tokens.specs.Words.{Table, mark_at, idl_marks}
use Rattle.idl_tokens.specs.Lexing.{byte_at, named, underscored, numbered, quoted, character, comment, slashed, lex}
use Rattle.idl_tokens.specs.Cutting.{cut, text_tokens, line_after, column_after}
use Rattle.idl_reader.proofs.CutNames.{is_slash, has_slash}
use Rattle.idl_reader.proofs.EachToken.{EachToken}

-- a kind of tokens is that of names
abbrev pub is_name : Kind → Bool
is_name kind.Name = true
is_name k = false

low_slash : (c : ℕ) → is_slash (to_ascii_lowercase c) ≡ is_slash c
low_slash c = elim (cases_Bool (nat_lt c 65)) [
  | inl below ↦ ap (λ (b : Bool). is_slash (cond b c (cond (nat_lt c 91) (c + 32) c))) below
  | inr above ↦ ap (λ (b : Bool). is_slash (cond b c (cond (nat_lt c 91) (c + 32) c))) above ∙ elim (cases_Bool (nat_lt c 91)) [
    | inl upper ↦
        let h : 65 ≤ c = ltb-false c 65 above in
        ap (λ (b : Bool). is_slash (cond b (c + 32) c)) upper ∙ ne_eqb (c + 32) 47 (λ e. omega arith) ∙ sym (ne_eqb c 47 (λ e. omega arith))
    | inr lower ↦ ap (λ (b : Bool). is_slash (cond b (c + 32) c)) lower
  ]
]

-- a text has a `/` in lower case where it has one
low_slashes : (z : List ℕ) → has_slash (lowered z) ≡ has_slash z
low_slashes [] = refl
low_slashes (b ∷ z) = (λ i. low_slash b i || low_slashes z i)

-- a name begins with `_`
abbrev pub begins_low : List ℕ → Bool
begins_low [] = false
begins_low (b ∷ z) = b == 95

-- what a name is: letters, digits and `_`, and no `_` before
abbrev pub IsNameText : List ℕ → Type 0
IsNameText z = (list_all is_name_byte z ≡ true) × (begins_low z ≡ false)

-- a byte that passes a test is none that doesn't
other_byte : (p : ℕ → Bool) (c : ℕ) → p c ≡ false → (b : ℕ) → p b ≡ true → (b == c) ≡ false
other_byte p c h b e = false_from_ne_true (b == c) (λ s. both_ways (p b) (ap p (eqb-true b c s) ∙ h) e)

lacks : (c : ℕ) → is_name_byte c ≡ false → (z : List ℕ) → list_all is_name_byte z ≡ true → list_any (λ b. b == c) z ≡ false
lacks c h [] e = refl
lacks c h (b ∷ z) e =
    let p = and_parts (is_name_byte b) (list_all is_name_byte z) e in
    or_from (b == c) (list_any (λ a. a == c) z) (other_byte is_name_byte c h b p.0) (lacks c h z p.1)

-- a name lacks each byte that is no letter, no digit and no `_`
pub name_lacks : (c : ℕ) → is_name_byte c ≡ false → (z : List ℕ) → IsNameText z → list_any (λ b. b == c) z ≡ false
name_lacks c h z n = lacks c h z n.0

-- so a `/`, in lower case too
pub name_whole : (z : List ℕ) → IsNameText z → has_slash (lowered z) ≡ false
name_whole z n = low_slashes z ∙ name_lacks 47 refl z n

letter_among : (d u l w : Bool) → (u || l) ≡ true → (((d || u) || l) || w) ≡ true
letter_among true u l w h = refl
letter_among false true l w h = refl
letter_among false false l w h = ap (λ (c : Bool). c || w) h

letter_is : (b : ℕ) → is_ascii_alphabetic b ≡ true → is_name_byte b ≡ true
letter_is b h = letter_among (is_in_range 48 57 b) (is_in_range 65 90 b) (is_in_range 97 122 b) (b == 95) h

abbrev run : List ℕ → ℕ
run z = prefix_len (λ x. not (not (is_name_byte x))) z

run_is : (z : List ℕ) → run_len is_name_byte z ≡ run z
run_is z = elim (cases_Bool (nat_lt (run z) (length z))) [
  | inl less ↦ ap (λ (c : Bool). unwrap_or (cond c (Some (run z)) None) (length z)) less
  | inr all ↦
      let h = prefix_len-le-length (λ x. not (not (is_name_byte x))) z in
      let k : length z ≤ run z = ltb-false (run z) (length z) all in
      let e : length z ≡ run z = omega arith in
      ap (λ (c : Bool). unwrap_or (cond c (Some (run z)) None) (length z)) all ∙ e
]

run_all : (z : List ℕ) → list_all is_name_byte (take (run z) z) ≡ true
run_all [] = refl
run_all (b ∷ z) = elim (cases_Bool (is_name_byte b)) [
  | inl is ↦
      let e : run (b ∷ z) ≡ 1 + run z = ap (λ (c : Bool). cond (not (not c)) (1 + run z) 0) is in
      let f : 1 + run z ≡ suc (run z) = omega arith in
      ap (λ (n : ℕ). list_all is_name_byte (take n (b ∷ z))) (e ∙ f) ∙ and_from (is_name_byte b) (list_all is_name_byte (take (run z) z)) is (run_all z)
  | inr isnt ↦ ap (λ (c : Bool). list_all is_name_byte (take (cond (not (not c)) (1 + run z) 0) (b ∷ z))) isnt
]

-- a token that is a name has a name's text
abbrev IsFine : ℕ → List ℕ → Kind × ℕ → Type 0
IsFine b z k = is_name k.0 ≡ true → IsNameText (take (k.1 + 1) (b ∷ z))

no_name : (b : ℕ) (z : List ℕ) (k : Kind × ℕ) → is_name k.0 ≡ false → IsFine b z k
no_name b z k h e = absurd (both_ways (is_name k.0) h e)

fine_if : (b : ℕ) (z : List ℕ) (c : Bool) (x y : Kind × ℕ) → (c ≡ true → IsFine b z x) → (c ≡ false → IsFine b z y) → IsFine b z (if c then x else y)
fine_if b z c x y p q = cond_both c x y (IsFine b z) p q

fine_named : (b : ℕ) (z : List ℕ) → is_ascii_alphabetic b ≡ true → IsFine b z (named Idl b z)
fine_named b z h e =
    let n = run_len is_name_byte z in
    let f : n + 1 ≡ suc (run z) = let r = run_is z in omega arith in
    let letters = and_from (is_name_byte b) (list_all is_name_byte (take (run z) z)) (letter_is b h) (run_all z) in
    subst (λ (m : ℕ). IsNameText (take m (b ∷ z))) (sym f) (letters, other_byte is_ascii_alphabetic 95 refl b h)

mark_no_name : (ms : Table) (z : List ℕ) → list_all (λ m. not (is_name m.1)) ms ≡ true → is_name (mark_at ms z).0 ≡ false
mark_no_name [] z h = refl
mark_no_name (m ∷ ms) z h =
    let p = and_parts (not (is_name m.1)) (list_all (λ m. not (is_name m.1)) ms) h in
    cond_both (starts_with (λ a b. a == b) z m.0) (m.1, length m.0 - 1) (mark_at ms z) (λ (k : Kind × ℕ). is_name k.0 ≡ false)
    (λ e. not-true (is_name m.1) p.0) (λ e. mark_no_name ms z p.1)

fine_mark : (b : ℕ) (z y : List ℕ) → IsFine b z (mark_at idl_marks y)
fine_mark b z y = no_name b z (mark_at idl_marks y) (mark_no_name idl_marks y refl)

fine_quoted : (b : ℕ) (z : List ℕ) (o : Option ℕ) → IsFine b z (quoted o)
fine_quoted b z (Some n) = no_name b z (quoted (Some n)) refl
fine_quoted b z None = no_name b z (quoted None) refl

fine_comment : (b : ℕ) (z : List ℕ) (o : Option ℕ) → IsFine b z (comment o)
fine_comment b z (Some n) = no_name b z (comment (Some n)) refl
fine_comment b z None = no_name b z (comment None) refl

fine_character : (b : ℕ) (z y : List ℕ) → IsFine b z (character y)
fine_character b z [] = no_name b z (character []) refl
fine_character b z (c ∷ y) = fine_if b z (is_of_line c && (byte_at y 0 == 39)) (kind.Character, 2) (kind.Bad, 0) (λ e. no_name b z (kind.Character, 2) refl) (λ e. no_name b z (kind.Bad, 0) refl)

fine_slashed : (b : ℕ) (z y : List ℕ) → IsFine b z (slashed Idl y)
fine_slashed b z [] = fine_mark b z (47 ∷ [])
fine_slashed b z (c ∷ y) =
    fine_if b z (c == 47) (kind.Blank, run_len is_of_line y + 1) (if c == 42 then comment (comment_end 0 y) else mark_at idl_marks (47 ∷ c ∷ y))
    (λ e. no_name b z (kind.Blank, run_len is_of_line y + 1) refl)
    (λ e. fine_if b z (c == 42) (comment (comment_end 0 y)) (mark_at idl_marks (47 ∷ c ∷ y)) (λ f. fine_comment b z (comment_end 0 y)) (λ f. fine_mark b z (47 ∷ c ∷ y)))

fine_underscored : (b : ℕ) (z : List ℕ) → IsFine b z (underscored z)
fine_underscored b z =
    fine_if b z (is_ascii_alphabetic (byte_at z 0)) (kind.Underscored, run_len is_name_byte z) (kind.NotInProfile, 0)
    (λ e. no_name b z (kind.Underscored, run_len is_name_byte z) refl) (λ e. no_name b z (kind.NotInProfile, 0) refl)

fine_token : (b : ℕ) (z : List ℕ) → IsFine b z (lex Idl b z)
unfolding lex
fine_token b z =
    let after_slash : Kind × ℕ = if b == 47 then slashed Idl z else mark_at idl_marks (b ∷ z) in
    let after_tick : Kind × ℕ = if b == 39 then character z else after_slash in
    let after_quote : Kind × ℕ = if b == 34 then quoted (text_len z) else after_tick in
    let after_line : Kind × ℕ = if b == 95 then underscored z else after_quote in
    let after_digit : Kind × ℕ = if is_ascii_digit b then numbered b z else after_line in
    let after_letter : Kind × ℕ = if is_ascii_alphabetic b then named Idl b z else after_digit in
    fine_if b z (is_blank b) (kind.Blank, 0) after_letter (λ e. no_name b z (kind.Blank, 0) refl) (λ e.
    fine_if b z (is_ascii_alphabetic b) (named Idl b z) after_digit (λ h. fine_named b z h) (λ h.
    fine_if b z (is_ascii_digit b) (numbered b z) after_line (λ k. no_name b z (numbered b z) refl) (λ k.
    fine_if b z (b == 95) (underscored z) after_quote (λ l. fine_underscored b z) (λ l.
    fine_if b z (b == 34) (quoted (text_len z)) after_tick (λ m. fine_quoted b z (text_len z)) (λ m.
    fine_if b z (b == 39) (character z) after_slash (λ n. fine_character b z z) (λ n.
    fine_if b z (b == 47) (slashed Idl z) (mark_at idl_marks (b ∷ z)) (λ o. fine_slashed b z z) (λ o. fine_mark b z (b ∷ z))))))))

-- a token of a name has a name's text
abbrev pub IsPlainName : Placed Kind → Type 0
IsPlainName t = is_name t.kind ≡ true → IsNameText t.text

each_if : (c d : Bool) (t : Placed Kind) (s : Stream Kind) → IsPlainName t → EachToken IsPlainName s.tokens
    → EachToken IsPlainName (if c then stream [] t else (if d then s else stream (t ∷ s.tokens) s.end)).tokens
each_if true d t s h e = tt
each_if false true t s h e = e
each_if false false t s h e = (h, e)

each_cut : (left line column : ℕ) (text : List ℕ) → EachToken IsPlainName (cut Idl left line column text).tokens
unfolding cut
each_cut left line column [] = tt
each_cut (suc left) line column (b ∷ z) = each_cut left (line_after b line) (column_after b column) z
each_cut zero line column (b ∷ z) =
    let k = lex Idl b z in
    each_if (same_kind k.0 kind.Bad) (same_kind k.0 kind.Blank) (record { kind = k.0; text = take (k.1 + 1) (b ∷ z); line = line; column = column })
    (cut Idl k.1 (line_after b line) (column_after b column) z)
    (λ e. fine_token b z e) (each_cut k.1 (line_after b line) (column_after b column) z)

-- so of all tokens of a text
pub plain_names : (text : List ℕ) → EachToken IsPlainName (text_tokens Idl text).tokens
plain_names text = each_cut 0 1 1 text
