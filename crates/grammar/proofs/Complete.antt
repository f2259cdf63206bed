-- What a plain grammar spells, and may be done along it, is read.
use Rattle.std.proofs.Common.{◌≡◌, ◌⊎◌, ℕ, zero, suc, ◌+◌, ◌<◌, Bool, true, false, not, List, [], ◌∷◌, ◌++◌, length, Option, Some, None, Result, Ok, Err, refl, sym, ap, subst, ◌∙◌, append_assoc, length-append, inl, inr, arith}
use Rattle.std.proofs.lemmas.Bool.{or_parts, and_parts, not-true}
use Rattle.std.specs.Prelude.{◌||◌, ◌&&◌}
use Rattle.grammar.specs.Rules.{Rule, one, does, ◌then◌, ◌or◌, maybe, many, chained, nested, turn}
use Rattle.grammar.specs.Language.{Placed, Language, RuleOf}
use Rattle.grammar.specs.Reading.{Stream, stream, State, Reads, Readers, ◌>>=◌, front, first_or, behind, stop, acted, take_one, may_be_empty, begins, repeated, bracketed, by_rule, read_inner, read_rule}
use Rattle.grammar.specs.Grammar.{Mark, took, did, MarkOf, Parts, Spelled, SpelledInner, tokens_of, Goes, acts_then, acts}
use Rattle.grammar.specs.Plain.{goes_on, some_first, some_next, is_plain, IsPlain}
use Rattle.grammar.proofs.Basics.{false_unless, ok_is, before, before_append, acts_one, acts_split}
use Rattle.grammar.proofs.Chained.{empty_turn, next_turn, never_next, goes_chain}
use Rattle.grammar.proofs.First.{first_has, next_has, Opens, opens}

not_both : (g : Language) → IsPlain g → (such : g.Kind → Bool) (r : RuleOf g) (kind : g.Kind) → not (some_first g such r) ≡ true → such kind ≡ true → begins g r kind ≡ false
not_both g p such r kind n h = false_unless (begins g r kind) (λ b. let e = first_has g p.same_is such r kind b h in let f = not-true (some_first g such r) n in absurd cc)

not_next : (g : Language) → IsPlain g → (such : g.Kind → Bool) (r : RuleOf g) (kind : g.Kind) → not (some_next g such r) ≡ true → such kind ≡ true → goes_on g r kind ≡ false
not_next g p such r kind n h = false_unless (goes_on g r kind) (λ b. let e = next_has g p.same_is such r kind b h in let f = not-true (some_next g such r) n in absurd cc)

-- a rule that isn't empty has a first token, which comes before
starts : (g : Language) (r : RuleOf g) (ts zs : List (Placed g.Kind)) (end : Placed g.Kind) → Opens g r ts → may_be_empty g r ≡ false → begins g r (first_or (ts ++ zs) end).kind ≡ true
starts g r [] zs end o n = absurd cc
starts g r (t ∷ ts) zs end o n = o

-- where b follows a, its first token doesn't go on with a
parts_a : (g : Language) → IsPlain g → (a b : RuleOf g) (ts zs : List (Placed g.Kind)) (end : Placed g.Kind) → Opens g b ts → not (some_next g (begins g b) a) ≡ true
    → goes_on g (a then b) (first_or zs end).kind ≡ false → goes_on g a (first_or (ts ++ zs) end).kind ≡ false
parts_a g p a b [] zs end o n e =
    let f = (or_parts (may_be_empty g b && goes_on g a (first_or zs end).kind) (goes_on g b (first_or zs end).kind) e).0 in
    let here : (may_be_empty g b && goes_on g a (first_or zs end).kind) ≡ goes_on g a (first_or zs end).kind = rw o refl in
    sym here ∙ f
parts_a g p a b (t ∷ ts) zs end o n e = not_next g p (begins g b) a t.kind n o

parts_many : (g : Language) → IsPlain g → (a : RuleOf g) (ts zs : List (Placed g.Kind)) (end : Placed g.Kind) → Opens g (many a) ts → not (some_next g (begins g a) a) ≡ true
    → goes_on g (many a) (first_or zs end).kind ≡ false → goes_on g a (first_or (ts ++ zs) end).kind ≡ false
parts_many g p a [] zs end o n e = (or_parts (begins g a (first_or zs end).kind) (goes_on g a (first_or zs end).kind) e).1
parts_many g p a (t ∷ ts) zs end o n e = not_next g p (begins g a) a t.kind n o

taken : (g : Language) (k : g.Kind) (l : g.Label) (u : Placed g.Kind) (b c : g.Built) (s t : Stream g.Kind) → g.same u.kind k ≡ true → g.act l u b ≡ Ok c → s ≡ stream (u ∷ t.tokens) t.end → take_one g k l (b, s) ≡ Ok (c, t)
unfolding take_one
taken g k l u b c s t is e goes = rw (goes, is, e) refl

abbrev Complete : (g : Language) → (State g → Reads g) → (List (MarkOf g) → Type 0) → (g.Kind → Bool) → Type 0
Complete g read spelled more = (ms : List (MarkOf g)) → spelled ms → (b c : g.Built) → acts g ms b ≡ Ok c → (s t : Stream g.Kind) → Goes g ms s t → more (front t).kind ≡ false → read (b, s) ≡ Ok (c, t)

abbrev done : {A E : Type 0} → A → Result A E
done x = Ok x

-- a reading, and what is read after it
then_ok : {A E : Type 0} (r : Result A E) (f : A → Result A E) (x y : A) → r ≡ Ok x → f x ≡ Ok y → (r >>= f) ≡ Ok y
then_ok r f x y e h = rw e h

shorter : {X : Type 0} (n : ℕ) (xs ys : List X) → 0 < length xs → length (xs ++ ys) < suc n → length ys < n
shorter n xs ys some le = omega (arith, length-append xs ys, some, le)

some_tokens : (g : Language) (r : RuleOf g) (ts : List (Placed g.Kind)) → Opens g r ts → may_be_empty g r ≡ false → 0 < length ts
some_tokens g r [] o n = absurd cc
some_tokens g r (t ∷ ts) o n = omega arith

repeated_complete : (g : Language) → IsPlain g → (inner : g.Inner → List (MarkOf g) → Type 0) (a : RuleOf g) (turn : State g → Reads g) → Complete g turn (Spelled g inner a) (goes_on g a)
    → may_be_empty g a ≡ false → not (some_next g (begins g a) a) ≡ true
    → (fuel n : ℕ) → (ms : List (MarkOf g)) → Parts g (Spelled g inner a) n ms → (b c : g.Built) → acts g ms b ≡ Ok c → (s t : Stream g.Kind) → Goes g ms s t → goes_on g (many a) (front t).kind ≡ false → length s.tokens < fuel → repeated g fuel (begins g a) turn (b, s) ≡ Ok (c, t)
unfolding repeated
repeated_complete g p inner a turn f full next zero n ms h b c e s t goes over lt = absurd (omega (arith, lt))
repeated_complete g p inner a turn f full next (suc fuel) zero ms h b c e s t goes over lt =
    let same : s ≡ t = goes ∙ ap (λ z. before z t) h in
    let built : acts g [] b ≡ Ok c = ap (λ z. acts g z b) (sym h) ∙ e in
    let off : begins g a (front s).kind ≡ false = ap (λ (z : Stream g.Kind). begins g a (front z).kind) same ∙ (or_parts (begins g a (front t).kind) (goes_on g a (front t).kind) over).0 in
    rw (off, same) (ap (λ z. done (z, t)) (ok_is b c (sym (acts_one g (Ok b)) ∙ built)))
repeated_complete g p inner a turn f full next (suc fuel) (suc n) ms h b c e s t goes over lt =
    let x = h.0 in
    let y = h.1 in
    let mid = before y t in
    let goes-x : s ≡ before x mid = goes ∙ ap (λ z. before z t) h.4 ∙ before_append x y t in
    let along = acts_split g x y b c (ap (λ z. acts g z b) (sym h.4) ∙ e) in
    let o = opens g inner a x h.2 in
    let begun : begins g a (front s).kind ≡ true = ap (λ (z : Stream g.Kind). begins g a (front z).kind) goes-x ∙ starts g a (tokens_of x) mid.tokens mid.end o full in
    let off : goes_on g a (front mid).kind ≡ false = parts_many g p a (tokens_of y) t.tokens t.end (opens g inner (many a) y (n, h.3)) next over in
    let read : turn (b, s) ≡ Ok (along.0, mid) = f x h.2 b along.0 along.1 s mid goes-x off in
    let len : length s.tokens ≡ length (tokens_of x ++ mid.tokens) = ap (λ (z : Stream g.Kind). length z.tokens) goes-x in
    let less : length mid.tokens < fuel = shorter fuel (tokens_of x) mid.tokens (some_tokens g a (tokens_of x) o full) (subst (λ z. z < suc fuel) len lt) in
    rw begun (then_ok (turn (b, s)) (repeated g fuel (begins g a) turn) (along.0, mid) (c, t) read (repeated_complete g p inner a turn f full next fuel n y h.3 along.0 c along.2 mid t refl over less))

-- what makes a choice plain
plain_or : (g : Language) (x y : RuleOf g) → is_plain g (x or y) ≡ true → (may_be_empty g x ≡ false) × (may_be_empty g y ≡ false) × (not (some_first g (begins g y) x) ≡ true) × (is_plain g x ≡ true) × (is_plain g y ≡ true)
plain_or g x y plain =
    let a = not (may_be_empty g x) in
    let b = not (may_be_empty g y) in
    let c = not (some_first g (begins g y) x) in
    let one = and_parts (a && b && c && is_plain g x) (is_plain g y) plain in
    let two = and_parts (a && b && c) (is_plain g x) one.0 in
    let three = and_parts (a && b) c two.0 in
    let four = and_parts a b three.0 in
    (not-true (may_be_empty g x) four.0, not-true (may_be_empty g y) four.1, three.1, two.1, one.1)

abbrev CompleteInner : (g : Language) → Readers g → (g.Inner → List (MarkOf g) → Type 0) → Type 0
CompleteInner g None spelled = (r : g.Inner) (ms : List (MarkOf g)) → spelled r ms → ⊥
CompleteInner g (Some inner) spelled = (r : g.Inner) → Complete g (inner r) (spelled r) (goes_on g (g.inside r))

bracketed_complete : (g : Language) → IsPlain g → (inner : Readers g) (spelled : g.Inner → List (MarkOf g) → Type 0) → CompleteInner g inner spelled → (k : g.Kind) (o : g.Label) (r : g.Inner) (c : g.Kind) (l : g.Label)
    → goes_on g (g.inside r) c ≡ false → Complete g (bracketed g k o inner r c l) (Spelled g spelled (nested k o r c l)) (λ z. false)
bracketed_complete g p None spelled f k o r c l n ms h a b e s t goes over = absurd (f r h.1 h.4)
bracketed_complete g p (Some inner) spelled f k o r c l n ms h a b e s t goes over =
    let u = h.0 in
    let x = h.1 in
    let v = h.2 in
    let last = before (took l v ∷ []) t in
    let first = before x last in
    let goes-u : s ≡ stream (u ∷ first.tokens) first.end = goes ∙ ap (λ z. before z t) h.6 ∙ before_append (took o u ∷ x) (took l v ∷ []) t in
    let along = acts_split g (took o u ∷ []) (x ++ took l v ∷ []) a b (ap (λ z. acts g z a) (sym h.6) ∙ e) in
    let opened : g.act o u a ≡ Ok along.0 = sym (acts_one g _) ∙ along.1 in
    let shut = acts_split g x (took l v ∷ []) along.0 b along.2 in
    let closed : g.act l v shut.0 ≡ Ok b = sym (acts_one g _) ∙ shut.2 in
    let off : goes_on g (g.inside r) v.kind ≡ false = ap (goes_on g (g.inside r)) (p.same_is v.kind c h.5) ∙ n in
    then_ok _ (take_one g c l) (shut.0, last) (b, t)
    (then_ok _ (inner r) (along.0, first) (shut.0, last) (taken g k o u a along.0 s first h.3 opened goes-u) (f r x h.4 along.0 shut.0 shut.1 first last refl off))
    (taken g c l v shut.0 b last t h.5 closed refl)

abbrev CompleteRule : (g : Language) → Readers g → (g.Inner → List (MarkOf g) → Type 0) → RuleOf g → Type 0
CompleteRule g inner spelled r = Complete g (by_rule g inner r) (Spelled g spelled r) (goes_on g r)

then_complete : (g : Language) → IsPlain g → (inner : Readers g) (spelled : g.Inner → List (MarkOf g) → Type 0) (x y : RuleOf g) → not (some_next g (begins g y) x) ≡ true → CompleteRule g inner spelled x → CompleteRule g inner spelled y → CompleteRule g inner spelled (x then y)
then_complete g p inner spelled x y nx f k ms h b c e s t goes over =
    let mid = before h.1 t in
    let goes-x : s ≡ before h.0 mid = goes ∙ ap (λ z. before z t) h.4 ∙ before_append h.0 h.1 t in
    let along = acts_split g h.0 h.1 b c (ap (λ z. acts g z b) (sym h.4) ∙ e) in
    let off : goes_on g x (front mid).kind ≡ false = parts_a g p x y (tokens_of h.1) t.tokens t.end (opens g spelled y h.1 h.3) nx over in
    then_ok _ (by_rule g inner y) (along.0, mid) (c, t) (f h.0 h.2 b along.0 along.1 s mid goes-x off) (k h.1 h.3 along.0 c along.2 mid t refl (or_parts (may_be_empty g y && goes_on g x (front t).kind) (goes_on g y (front t).kind) over).1)

does_complete : (g : Language) (inner : Readers g) (spelled : g.Inner → List (MarkOf g) → Type 0) (l : g.Label) → CompleteRule g inner spelled (does l)
does_complete g inner spelled l ms h b c e s t goes over =
    let here : acts g (did l ∷ []) b ≡ Ok c = ap (λ z. acts g z b) (sym h) ∙ e in
    let judged : g.judge l b ≡ Ok c = sym (acts_one g _) ∙ here in
    let same : s ≡ t = goes ∙ ap (λ z. before z t) h in
    rw (judged, same) refl

all_so : (a b c d : Bool) → a ≡ true → b ≡ true → c ≡ true → d ≡ true → (a && b && (c && d && true)) ≡ true
all_so a b c d e f h k = rw (e, f, h, k) refl

-- what makes a chain plain
pub plain_long : (g : Language) (a o : RuleOf g) (l : g.Label) → is_plain g (chained a o l) ≡ true
    → (not (some_next g (begins g (many (turn a o l))) a) ≡ true) × (may_be_empty g (turn a o l) ≡ false) × (not (some_next g (begins g (turn a o l)) (turn a o l)) ≡ true) × (is_plain g (turn a o l) ≡ true) × (is_plain g a ≡ true)
plain_long g a o l plain =
    let full = not (may_be_empty g o && may_be_empty g a) in
    let second = not (some_next g (begins g (a then does l)) o) in
    let on = not (some_next g (begins g (turn a o l)) a) in
    let far = not (may_be_empty g a && some_next g (begins g (turn a o l)) o) in
    let p = is_plain g a in
    let q = is_plain g o in
    let five = and_parts (p && q && full && second && on) far plain in
    let four = and_parts (p && q && full && second) on five.0 in
    let three = and_parts (p && q && full) second four.0 in
    let two = and_parts (p && q) full three.0 in
    let one = and_parts p q two.0 in
    let last : not (some_next g (begins g (does l)) a) ≡ true = ap not (never_next g a) in
    (four.1, empty_turn (may_be_empty g o) (may_be_empty g a) two.1, next_turn (may_be_empty g a) (some_next g (begins g (turn a o l)) a) (some_next g (begins g (turn a o l)) o) four.1 five.1, all_so second q (not (some_next g (begins g (does l)) a)) p three.1 one.1 last one.0, one.0)

pub plain_turn : (g : Language) (a o : RuleOf g) (l : g.Label) → is_plain g (o then (a then does l)) ≡ true → (not (some_next g (begins g (a then does l)) o) ≡ true) × (is_plain g o ≡ true) × (not (some_next g (begins g (does l)) a) ≡ true)
plain_turn g a o l plain =
    let n = not (some_next g (begins g (a then does l)) o) in
    let m = not (some_next g (begins g (does l)) a) in
    let one = and_parts (n && is_plain g o) (is_plain g (a then does l)) plain in
    let two = and_parts n (is_plain g o) one.0 in
    let three = and_parts (m && is_plain g a) (is_plain g (does l)) one.1 in
    (two.0, two.1, (and_parts m (is_plain g a) three.0).0)

by_rule_complete : (g : Language) → IsPlain g → (inner : Readers g) (spelled : g.Inner → List (MarkOf g) → Type 0) → CompleteInner g inner spelled → (r : RuleOf g) → is_plain g r ≡ true → Complete g (by_rule g inner r) (Spelled g spelled r) (goes_on g r)
by_rule_complete g p inner spelled f (one k l) plain ms h b c e s t goes over =
    let here : acts g (took l h.0 ∷ []) b ≡ Ok c = ap (λ z. acts g z b) (sym h.2) ∙ e in
    taken g k l h.0 b c s t h.1 (sym (acts_one g _) ∙ here) (goes ∙ ap (λ z. before z t) h.2)
by_rule_complete g p inner spelled f (does l) plain ms h b c e s t goes over =
    let here : acts g (did l ∷ []) b ≡ Ok c = ap (λ z. acts g z b) (sym h) ∙ e in
    let judged : g.judge l b ≡ Ok c = sym (acts_one g _) ∙ here in
    let same : s ≡ t = goes ∙ ap (λ z. before z t) h in
    rw (judged, same) refl
by_rule_complete g p inner spelled f (x then y) plain ms h b c e s t goes over =
    let nx = not (some_next g (begins g y) x) in
    let one = and_parts (nx && is_plain g x) (is_plain g y) plain in
    let two = and_parts nx (is_plain g x) one.0 in
    let mid = before h.1 t in
    let goes-x : s ≡ before h.0 mid = goes ∙ ap (λ z. before z t) h.4 ∙ before_append h.0 h.1 t in
    let along = acts_split g h.0 h.1 b c (ap (λ z. acts g z b) (sym h.4) ∙ e) in
    let off : goes_on g x (front mid).kind ≡ false = parts_a g p x y (tokens_of h.1) t.tokens t.end (opens g spelled y h.1 h.3) two.0 over in
    then_ok _ (by_rule g inner y) (along.0, mid) (c, t) (by_rule_complete g p inner spelled f x two.1 h.0 h.2 b along.0 along.1 s mid goes-x off) (by_rule_complete g p inner spelled f y one.1 h.1 h.3 along.0 c along.2 mid t refl (or_parts (may_be_empty g y && goes_on g x (front t).kind) (goes_on g y (front t).kind) over).1)
by_rule_complete g p inner spelled f (x or y) plain ms (inl h) b c e s t goes over =
    let q = plain_or g x y plain in
    let begun : begins g x (front s).kind ≡ true = ap (λ (z : Stream g.Kind). begins g x (front z).kind) goes ∙ starts g x (tokens_of ms) t.tokens t.end (opens g spelled x ms h) q.0 in
    rw begun (by_rule_complete g p inner spelled f x q.3 ms h b c e s t goes (or_parts (goes_on g x (front t).kind) (goes_on g y (front t).kind) over).0)
by_rule_complete g p inner spelled f (x or y) plain ms (inr h) b c e s t goes over =
    let q = plain_or g x y plain in
    let begun : begins g y (front s).kind ≡ true = ap (λ (z : Stream g.Kind). begins g y (front z).kind) goes ∙ starts g y (tokens_of ms) t.tokens t.end (opens g spelled y ms h) q.1 in
    let not : begins g x (front s).kind ≡ false = not_both g p (begins g y) x (front s).kind q.2 begun in
    rw not (by_rule_complete g p inner spelled f y q.4 ms h b c e s t goes (or_parts (goes_on g x (front t).kind) (goes_on g y (front t).kind) over).1)
by_rule_complete g p inner spelled f (maybe x) plain ms (inl h) b c e s t goes over =
    let one = and_parts (not (may_be_empty g x)) (is_plain g x) plain in
    let begun : begins g x (front s).kind ≡ true = ap (λ (z : Stream g.Kind). begins g x (front z).kind) goes ∙ starts g x (tokens_of ms) t.tokens t.end (opens g spelled x ms h) (not-true (may_be_empty g x) one.0) in
    rw begun (by_rule_complete g p inner spelled f x one.1 ms h b c e s t goes (or_parts (begins g x (front t).kind) (goes_on g x (front t).kind) over).1)
by_rule_complete g p inner spelled f (maybe x) plain ms (inr h) b c e s t goes over =
    let same : s ≡ t = goes ∙ ap (λ z. before z t) h in
    let built : acts g [] b ≡ Ok c = ap (λ z. acts g z b) (sym h) ∙ e in
    let off : begins g x (front s).kind ≡ false = ap (λ (z : Stream g.Kind). begins g x (front z).kind) same ∙ (or_parts (begins g x (front t).kind) (goes_on g x (front t).kind) over).0 in
    rw (off, same) (ap (λ z. done (z, t)) (ok_is b c (sym (acts_one g (Ok b)) ∙ built)))
by_rule_complete g p inner spelled f (many x) plain ms h b c e s t goes over =
    let nx = not (some_next g (begins g x) x) in
    let one = and_parts (not (may_be_empty g x) && nx) (is_plain g x) plain in
    let two = and_parts (not (may_be_empty g x)) nx one.0 in
    repeated_complete g p spelled x (by_rule g inner x) (by_rule_complete g p inner spelled f x one.1) (not-true (may_be_empty g x) two.0) two.1 (length s.tokens + 1) h.0 ms h.1 b c e s t goes over (omega arith)
by_rule_complete g p inner spelled f (chained x o l) plain ms h b c e s t goes over =
    let turn = o then (x then does l) in
    let q = plain_long g x o l plain in
    let r = plain_turn g x o l q.3 in
    let of_x = by_rule_complete g p inner spelled f x q.4 in
    let of_o = by_rule_complete g p inner spelled f o r.1 in
    let of_turn : CompleteRule g inner spelled turn = then_complete g p inner spelled o (x then does l) r.0 of_o (then_complete g p inner spelled x (does l) r.2 of_x (does_complete g inner spelled l)) in
    then_complete g p inner spelled x (many turn) q.0 of_x
    (λ ns k b' c' e' s' t' goes' over'. repeated_complete g p spelled turn (by_rule g inner turn) of_turn q.1 q.2 (length s'.tokens + 1) k.0 ns k.1 b' c' e' s' t' goes' over' (omega arith)) ms h b c e s t goes
    (sym (goes_chain g x o l (front t).kind) ∙ over)
by_rule_complete g p inner spelled f (nested k o r c l) plain ms h a b e s t goes over = bracketed_complete g p inner spelled f k o r c l (not-true (goes_on g (g.inside r) c) plain) ms h a b e s t goes over

inner_complete : (g : Language) → IsPlain g → (depth : ℕ) → CompleteInner g (read_inner g depth) (SpelledInner g depth)
unfolding read_inner SpelledInner
inner_complete g p zero = λ r ms h. h
inner_complete g p (suc depth) = λ r. by_rule_complete g p (read_inner g depth) (SpelledInner g depth) (inner_complete g p depth) (g.inside r) (p.inside_is r)

-- what the grammar spells, and may be done along it, is read, where no token goes on with it
pub read_complete : (g : Language) → IsPlain g → (depth : ℕ) (r : RuleOf g) → is_plain g r ≡ true → (ms : List (MarkOf g)) → Spelled g (SpelledInner g depth) r ms
    → (s t : State g) → Goes g ms s.1 t.1 → acts g ms s.0 ≡ Ok t.0 → goes_on g r (front t.1).kind ≡ false → read_rule g depth r s ≡ Ok t
unfolding read_rule
read_complete g p depth r plain ms h s t goes e over = by_rule_complete g p (read_inner g depth) (SpelledInner g depth) (inner_complete g p depth) r plain ms h s.0 t.0 e s.1 t.1 goes over
