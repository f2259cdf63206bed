-- A whole text is read where it is a sentence along which all may be done, and else the fault is that of the first token at fault.
use Rattle.std.proofs.Common.{◌≡◌, ◌⊎◌, ℕ, zero, suc, ◌+◌, ◌<◌, Bool, true, false, cond, not, List, [], ◌∷◌, ◌++◌, length, Option, Some, None, Result, Ok, Err, refl, sym, ap, subst, ◌∙◌, append_assoc, append-nil, length-append, inl, inr, arith}
use Rattle.std.proofs.lemmas.Bool.{and_parts}
use Rattle.std.specs.Prelude.{◌||◌, ◌&&◌}
use Rattle.grammar.specs.Language.{Placed, Language, RuleOf}
use Rattle.grammar.specs.Reading.{Stream, stream, State, Reads, ◌>>=◌, front, is_empty, stop, read_rule, ended, read_whole}
use Rattle.grammar.specs.Grammar.{Mark, took, did, MarkOf, Spelled, SpelledInner, Sentence, tokens_of, Goes, acts_then, acts}
use Rattle.grammar.specs.Plain.{goes_on, is_plain, IsPlain}
use Rattle.grammar.specs.Refusal.{NoSentence, NoText, NoneHere, Refused, Whole}
use Rattle.grammar.proofs.Basics.{bind_ok, bind_err, ok_is, chosen, before}
use Rattle.grammar.proofs.Sound.{Read, read_sound}
use Rattle.grammar.proofs.Complete.{read_complete}
use Rattle.grammar.proofs.Local.{bare, Alike, Passes, Stops, Outcome, read_local}

bare_acts : (g : Language) (ms : List (MarkOf g)) → acts (bare g) ms tt ≡ Ok tt
bare_acts g [] = refl
bare_acts g (took l t ∷ ms) = bare_acts g ms
bare_acts g (did l ∷ ms) = bare_acts g ms

plain_bare : (g : Language) → IsPlain g → IsPlain (bare g)
plain_bare g p = record { same_is = p.same_is; inside_is = p.inside_is }

inner_bare : (g : Language) (depth : ℕ) → SpelledInner g depth ≡ SpelledInner (bare g) depth
unfolding SpelledInner
inner_bare g zero = refl
inner_bare g (suc depth) = ap (λ f r ms. Spelled g f (g.inside r) ms) (inner_bare g depth)

-- a sentence alone is read, where nothing is done
sentence_reads : (g : Language) → IsPlain g → (depth : ℕ) (r : RuleOf g) → is_plain g r ≡ true → (y : List (MarkOf g)) → Sentence g depth r y → (end : Placed g.Kind) → goes_on g r end.kind ≡ false
    → (s : Stream g.Kind) → s ≡ stream (tokens_of y) end → read_rule (bare g) depth r (tt, s) ≡ Ok (tt, stream [] end)
sentence_reads g p depth r plain y h end over s is =
    read_complete (bare g) (plain_bare g p) depth r plain y (subst (λ f. Spelled g f r y) (inner_bare g depth) h) (tt, s) (tt, stream [] end) (is ∙ ap (λ z. stream z end) (sym (append-nil (tokens_of y)))) (bare_acts g y) over

-- where a reading stops for the grammar, no sentence goes on
none_goes_on : (g : Language) → IsPlain g → (depth : ℕ) (r : RuleOf g) → is_plain g r ≡ true → (end : Placed g.Kind) → goes_on g r end.kind ≡ false → (ms : List (MarkOf g)) (ts : List (Placed g.Kind))
    → ((z u : Stream g.Kind) → Goes g ms z u → Alike (stream ts end) u → read_rule (bare g) depth r (tt, z) ≡ Err (front u)) → NoSentence g (Sentence g depth r) (tokens_of ms) ts
none_goes_on g p depth r plain end over ms [] local = λ y h e.
    let reads = sentence_reads g p depth r plain y h end over (stream (tokens_of y) end) refl in
    let fails = local (stream (tokens_of y) end) (stream [] end) (ap (λ z. stream z end) (e ∙ sym (append-nil (tokens_of ms)))) refl in
    absurd cc
none_goes_on g p depth r plain end over ms (v ∷ vs) local = λ y z h e.
    let reads = sentence_reads g p depth r plain y h end over (stream (tokens_of y) end) refl in
    let fails = local (stream (tokens_of y) end) (stream (v ∷ z) end) (ap (λ z. stream z end) e) refl in
    absurd cc

-- where a reading is done and tokens are left, no sentence goes on
none_behind : (g : Language) → IsPlain g → (depth : ℕ) (r : RuleOf g) → is_plain g r ≡ true → (end : Placed g.Kind) → goes_on g r end.kind ≡ false → (ms : List (MarkOf g)) (v : Placed g.Kind) (vs : List (Placed g.Kind))
    → ((z u : Stream g.Kind) → Goes g ms z u → Alike (stream (v ∷ vs) end) u → read_rule (bare g) depth r (tt, z) ≡ Ok (tt, u)) → NoSentence g (Sentence g depth r) (tokens_of ms) (v ∷ vs)
none_behind g p depth r plain end over ms v vs local = λ y z h e.
    let reads = sentence_reads g p depth r plain y h end over (stream (tokens_of y) end) refl in
    let passes = local (stream (tokens_of y) end) (stream (v ∷ z) end) (ap (λ z. stream z end) e) refl in
    let apart : [] ≡ v ∷ z = ap (λ (x : State (bare g)). x.1.tokens) (ok_is (tt, stream [] end) (tt, stream (v ∷ z) end) (sym reads ∙ passes)) in
    absurd cc

-- ---- the first token at fault

pub read_refused : (g : Language) → IsPlain g → (depth : ℕ) (r : RuleOf g) → is_plain g r ≡ true → (s : State g) (f : g.Fault) → goes_on g r s.1.end.kind ≡ false → read_rule g depth r s ≡ Err f → Refused g (λ ms t. NoSentence g (Sentence g depth r) (tokens_of ms) t.tokens) s f
read_refused g p depth r plain s f over e =
    let h : Stops g (read_rule (bare g) depth r) s f = subst (Outcome g (read_rule (bare g) depth r) s) e (read_local g p depth r plain s) in
    let end : s.1.end ≡ h.at.end = ap (λ (z : Stream g.Kind). z.end) h.goes in
    let off : goes_on g r h.at.end.kind ≡ false = ap (λ (z : Placed g.Kind). goes_on g r z.kind) (sym end) ∙ over in
    record {
      marks = h.marks;
      built = h.built;
      at = h.at;
      goes = h.goes;
      acts_are = h.acts_are;
      why = elim h.why [
        | inl w ↦ inl (w.0, none_goes_on g p depth r plain h.at.end off h.marks h.at.tokens w.1)
        | inr w ↦ inr w
      ];
    }

-- ---- a whole text

ended_ok : (g : Language) (end : g.Kind) (b : g.Built) (ts : List (Placed g.Kind)) (last : Placed g.Kind) (t : State g) → ended g end (b, stream ts last) ≡ Ok t → (ts ≡ []) × (g.same last.kind end ≡ true) × (t ≡ (b, stream ts last))
unfolding ended
ended_ok g end b [] last t e =
    elim (chosen (g.same last.kind end) _ _ (Ok t) e) [
      | inl here ↦ (refl, here.0, sym (ok_is (b, stream [] last) t here.1))
      | inr not ↦ absurd cc
    ]
ended_ok g end b (u ∷ us) last t e = absurd cc

-- what is read is a text of the grammar, and is built of it
pub whole_sound : (g : Language) (depth : ℕ) (end : g.Kind) (r : RuleOf g) (s t : State g) → read_whole g depth end r s ≡ Ok t → Whole g (Sentence g depth r) end s.1 s.0 t.0
unfolding read_whole
whole_sound g depth end r s t e =
    let a = bind_ok (read_rule g depth r s) (ended g end) t e in
    let x = read_sound g depth r s a.0 a.1 in
    let d = ended_ok g end a.0.0 a.0.1.tokens a.0.1.end t a.2 in
    record {
      marks = x.marks;
      is = x.is;
      tokens_are = ap (λ (z : Stream g.Kind). z.tokens) x.goes ∙ ap (λ z. tokens_of x.marks ++ z) d.0 ∙ append-nil (tokens_of x.marks);
      end_is = ap (λ (z : Stream g.Kind). g.same z.end.kind end) x.goes ∙ d.1;
      acts_are = x.acts_are ∙ ap (λ (z : State g). Ok z.0) (sym d.2);
    }

-- a text of the grammar is read
pub whole_complete : (g : Language) → IsPlain g → (depth : ℕ) (end : g.Kind) (r : RuleOf g) → is_plain g r ≡ true → goes_on g r end ≡ false → (s : Stream g.Kind) (old new : g.Built) → Whole g (Sentence g depth r) end s old new → read_whole g depth end r (old, s) ≡ Ok (new, stream [] s.end)
unfolding read_whole ended
whole_complete g p depth end r plain over s old new w =
    let off : goes_on g r s.end.kind ≡ false = ap (goes_on g r) (p.same_is s.end.kind end w.end_is) ∙ over in
    let goes : s ≡ stream (tokens_of w.marks ++ []) s.end = ap (λ z. stream z s.end) (w.tokens_are ∙ sym (append-nil (tokens_of w.marks))) in
    let read = read_complete g p depth r plain w.marks w.is (old, s) (new, stream [] s.end) goes w.acts_are off in
    rw (read, w.end_is) refl

as_text : (g : Language) (sentence : List (MarkOf g) → Type 0) (end : g.Kind) (before ts : List (Placed g.Kind)) (last : Placed g.Kind) → NoSentence g sentence before ts → NoText g sentence end before ts last
as_text g sentence end before [] last h = λ e. h
as_text g sentence end before (u ∷ us) last h = h

unended : (g : Language) → IsPlain g → (depth : ℕ) (end : g.Kind) (r : RuleOf g) → is_plain g r ≡ true → (ms : List (MarkOf g)) (b : g.Built) (ts : List (Placed g.Kind)) (last : Placed g.Kind) (f : g.Fault) → goes_on g r last.kind ≡ false
    → ((z u : Stream g.Kind) → Goes g ms z u → Alike (stream ts last) u → read_rule (bare g) depth r (tt, z) ≡ Ok (tt, u)) → ended g end (b, stream ts last) ≡ Err f → (f ≡ g.stop (front (stream ts last))) × NoneHere g depth end r ms (stream ts last)
unfolding ended
unended g p depth end r plain ms b [] last f over local e =
    elim (chosen (g.same last.kind end) _ _ (Err f) e) [
      | inl here ↦ absurd cc
      | inr bad ↦ (cc, λ is. absurd cc)
    ]
unended g p depth end r plain ms b (v ∷ vs) last f over local e = (cc, none_behind g p depth r plain last over ms v vs local)

-- and the fault of any other text is that of its first token at fault
pub whole_refused : (g : Language) → IsPlain g → (depth : ℕ) (end : g.Kind) (r : RuleOf g) → is_plain g r ≡ true → (s : State g) (f : g.Fault) → goes_on g r s.1.end.kind ≡ false → read_whole g depth end r s ≡ Err f → Refused g (NoneHere g depth end r) s f
unfolding read_whole
whole_refused g p depth end r plain s f over e =
    elim (bind_err (read_rule g depth r s) (ended g end) f e) [
      | inl fails ↦
          let h = read_refused g p depth r plain s f over fails in
          record {
            marks = h.marks;
            built = h.built;
            at = h.at;
            goes = h.goes;
            acts_are = h.acts_are;
            why = elim h.why [
              | inl w ↦ inl (w.0, as_text g (Sentence g depth r) end (tokens_of h.marks) h.at.tokens h.at.end w.1)
              | inr w ↦ inr w
            ];
          }
      | inr x ↦
          let h : Passes g (read_rule (bare g) depth r) s x.0 = subst (Outcome g (read_rule (bare g) depth r) s) x.1 (read_local g p depth r plain s) in
          let last : s.1.end ≡ x.0.1.end = ap (λ (z : Stream g.Kind). z.end) h.goes in
          let off : goes_on g r x.0.1.end.kind ≡ false = ap (λ (z : Placed g.Kind). goes_on g r z.kind) (sym last) ∙ over in
          record {
            marks = h.marks;
            built = x.0.0;
            at = x.0.1;
            goes = h.goes;
            acts_are = h.acts_are;
            why = inl (unended g p depth end r plain h.marks x.0.0 x.0.1.tokens x.0.1.end f off h.local x.2);
          }
    ]
