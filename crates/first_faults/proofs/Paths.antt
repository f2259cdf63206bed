-- A reading goes along marks that its tokens give, whatever is done along them.
use Rattle.std.proofs.Common.{◌≡◌, ◌⊎◌, ℕ, zero, suc, ◌+◌, Bool, true, false, cond, List, [], ◌∷◌, ◌++◌, length, Some, None, Result, Ok, Err, refl, sym, ap, ◌∙◌, append_assoc, append-nil, inl, inr}
use Rattle.grammar.specs.Rules.{one, does, ◌then◌, ◌or◌, maybe, many, chained, nested}
use Rattle.grammar.specs.Language.{Placed, Language, RuleOf}
use Rattle.grammar.specs.Reading.{Stream, stream, State, Reads, Readers, ◌>>=◌, front, stop, acted, take_one, begins, repeated, bracketed, by_rule, read_inner, read_rule}
use Rattle.grammar.specs.Grammar.{took, did, MarkOf, Parts, Spelled, SpelledInner, Sentence, Goes, acts_then, acts}
use Rattle.grammar.proofs.Basics.{acts-then, Goes-then}
use Rattle.first_faults.specs.Beginnings.{InBrackets, Begun, BegunInner, Beginning}
use Rattle.grammar.proofs.Sound.{IsOne}
use Rattle.first_faults.proofs.Meets.{stays_err, goes_on_to}
use Rattle.first_faults.proofs.Begun.{inner_begun}

-- ---- a language that counts marks down and refuses the last one, with all marks up to it

abbrev count_down : {X : Type 0} → X → ℕ → List X → Result (ℕ × List X) (List X)
count_down m zero ms = Err (ms ++ m ∷ [])
count_down m (suc n) ms = Ok (n, ms ++ m ∷ [])

abbrev pub counting : Language → Language
counting g = record {
  Kind = g.Kind;
  Label = g.Label;
  Inner = g.Inner;
  Built = ℕ × List (MarkOf g);
  Fault = List (MarkOf g);
  same = g.same;
  inside = g.inside;
  act = λ l t b. count_down (took l t) b.0 b.1;
  judge = λ l b. count_down (did l) b.0 b.1;
  stop = λ t. [];
}

-- ---- what a reading along marks gives

abbrev pub run : (g : Language) → Bool → Result g.Built g.Fault → Stream g.Kind → Reads g
run g true (Ok c) t = Ok (c, t)
run g false (Ok c) t = Err (g.stop (front t))
run g o (Err f) t = Err f

pub run_err : (g : Language) (o : Bool) (f : g.Fault) (t : Stream g.Kind) → run g o (Err f) t ≡ Err f
run_err g true f t = refl
run_err g false f t = refl

pub stays : (g : Language) (ms : List (MarkOf g)) (f : g.Fault) → acts_then g ms (Err f) ≡ Err f
stays g [] f = refl
stays g (m ∷ ms) f = refl

abbrev Runs : (g : Language) → (State g → Reads g) → List (MarkOf g) → Bool → Stream g.Kind → Stream g.Kind → Type 0
Runs g read ms o s t = (b : g.Built) → read (b, s) ≡ run g o (acts g ms b) t

one_after : (g : Language) (fst snd : State g → Reads g) (x y : List (MarkOf g)) (o : Bool) (s m t : Stream g.Kind) → Runs g fst x true s m → Runs g snd y o m t → Runs g (λ z. fst z >>= snd) (x ++ y) o s t
one_after g fst snd x y o s m t f k b = ap_run (acts g x b) (f b) (acts-then g x y (Ok b))
  where
    ap_run : (a : Result g.Built g.Fault) → fst (b, s) ≡ run g true a m → acts g (x ++ y) b ≡ acts_then g y a → (fst (b, s) >>= snd) ≡ run g o (acts g (x ++ y) b) t
    ap_run (Ok c) e h = goes_on_to (fst (b, s)) snd (c, m) _ e (k c ∙ ap (λ z. run g o z t) (sym h))
    ap_run (Err d) e h = stays_err (fst (b, s)) snd d e ∙ sym (run_err g o d t) ∙ ap (λ z. run g o z t) (sym (h ∙ stays g y d))

not_after : (g : Language) (fst snd : State g → Reads g) (x : List (MarkOf g)) (s m : Stream g.Kind) → Runs g fst x false s m → Runs g (λ z. fst z >>= snd) x false s m
not_after g fst snd x s m f b = no_run (acts g x b) (f b)
  where
    no_run : (a : Result g.Built g.Fault) → fst (b, s) ≡ run g false a m → (fst (b, s) >>= snd) ≡ run g false a m
    no_run (Ok c) e = stays_err (fst (b, s)) snd (g.stop (front m)) e
    no_run (Err d) e = stays_err (fst (b, s)) snd d e

-- ---- the path of a reading

-- whole where the reading is over, and begun where it stops
abbrev pub Shape : {X : Type 0} → (X → Type 0) → (X → Type 0) → Bool → X → Type 0
Shape whole begun true x = whole x
Shape whole begun false x = begun x

-- the marks along which it goes, and where it is over or stops, of the grammar and of the language that counts
pub record Path (g : Language) (read : State g → Reads g) (counts : State (counting g) → Reads (counting g)) (whole begun : List (MarkOf g) → Type 0) (s : Stream g.Kind) : Type 0 where
  pub marks : List (MarkOf g)
  pub at : Stream g.Kind
  pub over : Bool
  pub goes : Goes g marks s at
  pub shape : Shape whole begun over marks
  pub reads : (b : g.Built) → read (b, s) ≡ run g over (acts g marks b) at
  pub counted : (b : ℕ × List (MarkOf g)) → counts (b, s) ≡ run (counting g) over (acts (counting g) marks b) at

abbrev Joins : {X : Type 0} → (List X → Type 0) → (List X → Type 0) → (List X → Type 0) → Type 0
Joins {X} p q r = (x y : List X) → p x → q y → r (x ++ y)

join_shape : {X : Type 0} (w v whole e begun : List X → Type 0) → Joins w v whole → Joins w e begun → (o : Bool) (x y : List X) → w x → Shape v e o y → Shape whole begun o (x ++ y)
join_shape w v whole e begun f k true x y h i = f x y h i
join_shape w v whole e begun f k false x y h i = k x y h i

then_path : (g : Language) (fst snd : State g → Reads g) (cfst csnd : State (counting g) → Reads (counting g)) (w d v e whole begun : List (MarkOf g) → Type 0) → Joins w v whole → ((x : List (MarkOf g)) → d x → begun x) → Joins w e begun
    → (s : Stream g.Kind) → Path g fst cfst w d s → ((t : Stream g.Kind) → Path g snd csnd v e t) → Path g (λ z. fst z >>= snd) (λ z. cfst z >>= csnd) whole begun s
then_path g fst snd cfst csnd w d v e whole begun f i j s p k = then_by p.over p.shape p.reads p.counted
  where
    then_by : (o : Bool) → Shape w d o p.marks → Runs g fst p.marks o s p.at → Runs (counting g) cfst p.marks o s p.at → Path g (λ z. fst z >>= snd) (λ z. cfst z >>= csnd) whole begun s
    then_by true h r c =
        let q = k p.at in
        record {
          marks = p.marks ++ q.marks;
          at = q.at;
          over = q.over;
          goes = Goes-then g p.marks q.marks s p.at q.at p.goes q.goes;
          shape = join_shape w v whole e begun f j q.over p.marks q.marks h q.shape;
          reads = one_after g fst snd p.marks q.marks q.over s p.at q.at r q.reads;
          counted = one_after (counting g) cfst csnd p.marks q.marks q.over s p.at q.at c q.counted;
        }
    then_by false h r c = record {
      marks = p.marks;
      at = p.at;
      over = false;
      goes = p.goes;
      shape = i p.marks h;
      reads = not_after g fst snd p.marks s p.at r;
      counted = not_after (counting g) cfst csnd p.marks s p.at c;
    }

as_shape : {X : Type 0} (w d whole begun : X → Type 0) → ((x : X) → w x → whole x) → ((x : X) → d x → begun x) → (o : Bool) (x : X) → Shape w d o x → Shape whole begun o x
as_shape w d whole begun f k true x h = f x h
as_shape w d whole begun f k false x h = k x h

as_path : (g : Language) (read : State g → Reads g) (counts : State (counting g) → Reads (counting g)) (w d whole begun : List (MarkOf g) → Type 0) → ((x : List (MarkOf g)) → w x → whole x) → ((x : List (MarkOf g)) → d x → begun x)
    → (s : Stream g.Kind) → Path g read counts w d s → Path g read counts whole begun s
as_path g read counts w d whole begun f k s p = record {
  marks = p.marks;
  at = p.at;
  over = p.over;
  goes = p.goes;
  shape = as_shape w d whole begun f k p.over p.marks p.shape;
  reads = p.reads;
  counted = p.counted;
}

if_path : (g : Language) (b : g.Kind → Bool) (fst snd : State g → Reads g) (cfst csnd : State (counting g) → Reads (counting g)) (whole begun : List (MarkOf g) → Type 0) (s : Stream g.Kind) → Path g fst cfst whole begun s → Path g snd csnd whole begun s
    → Path g (λ z. cond (b (front z.1).kind) (fst z) (snd z)) (λ z. cond (b (front z.1).kind) (cfst z) (csnd z)) whole begun s
if_path g b fst snd cfst csnd whole begun s p q = if_by (b (front s).kind) refl
  where
    if_by : (c : Bool) → b (front s).kind ≡ c → Path g (λ z. cond (b (front z.1).kind) (fst z) (snd z)) (λ z. cond (b (front z.1).kind) (cfst z) (csnd z)) whole begun s
    if_by true e = record { marks = p.marks; at = p.at; over = p.over; goes = p.goes; shape = p.shape; reads = λ c. rw e (p.reads c); counted = λ c. rw e (p.counted c) }
    if_by false e = record { marks = q.marks; at = q.at; over = q.over; goes = q.goes; shape = q.shape; reads = λ c. rw e (q.reads c); counted = λ c. rw e (q.counted c) }

-- nothing is read
done_path : (g : Language) (whole begun : List (MarkOf g) → Type 0) (s : Stream g.Kind) → whole [] → Path g (λ z. Ok z) (λ z. Ok z) whole begun s
done_path g whole begun s h = record { marks = []; at = s; over = true; goes = refl; shape = h; reads = λ b. refl; counted = λ b. refl }

stop_path : (g : Language) (whole begun : List (MarkOf g) → Type 0) (s : Stream g.Kind) → begun [] → Path g (λ z. stop g z) (λ z. stop (counting g) z) whole begun s
stop_path g whole begun s h = record { marks = []; at = s; over = false; goes = refl; shape = h; reads = λ b. refl; counted = λ b. refl }

acted_run : (g : Language) (r : Result g.Built g.Fault) (t : Stream g.Kind) → acted g r t ≡ run g true (acts_then g [] r) t
acted_run g (Ok c) t = refl
acted_run g (Err f) t = refl

judge_path : (g : Language) (l : g.Label) (s : Stream g.Kind) → Path g (by_rule g None (does l)) (by_rule (counting g) None (does l)) (λ ms. ms ≡ did l ∷ []) (λ ms. (ms ≡ []) ⊎ (ms ≡ did l ∷ [])) s
judge_path g l s = record { marks = did l ∷ []; at = s; over = true; goes = refl; shape = refl; reads = λ b. acted_run g (g.judge l b) s; counted = λ b. acted_run (counting g) (count_down (did l) b.0 b.1) s }

one_path : (g : Language) (k : g.Kind) (l : g.Label) (ts : List (Placed g.Kind)) (end : Placed g.Kind) → Path g (take_one g k l) (take_one (counting g) k l) (IsOne g k l) (λ ms. ms ≡ []) (stream ts end)
unfolding take_one
one_path g k l [] end = record { marks = []; at = stream [] end; over = false; goes = refl; shape = refl; reads = λ b. refl; counted = λ b. refl }
one_path g k l (u ∷ us) end = one_by (g.same u.kind k) refl
  where
    one_by : (c : Bool) → g.same u.kind k ≡ c → Path g (take_one g k l) (take_one (counting g) k l) (IsOne g k l) (λ ms. ms ≡ []) (stream (u ∷ us) end)
    one_by true e = record {
      marks = took l u ∷ [];
      at = stream us end;
      over = true;
      goes = refl;
      shape = (u, e, refl);
      reads = λ b. rw e (acted_run g (g.act l u b) (stream us end));
      counted = λ b. rw e (acted_run (counting g) (count_down (took l u) b.0 b.1) (stream us end));
    }
    one_by false e = record { marks = []; at = stream (u ∷ us) end; over = false; goes = refl; shape = refl; reads = λ b. rw e refl; counted = λ b. rw e refl }

-- ---- several times

abbrev Several : (g : Language) → (List (MarkOf g) → Type 0) → List (MarkOf g) → Type 0
Several g whole ms = (n : ℕ) × Parts g whole n ms

abbrev SeveralBegun : (g : Language) → (List (MarkOf g) → Type 0) → (List (MarkOf g) → Type 0) → List (MarkOf g) → Type 0
SeveralBegun g whole begun ms = (x : List (MarkOf g)) × (y : List (MarkOf g)) × ((n : ℕ) × Parts g whole n x) × begun y × (ms ≡ x ++ y)

repeated_path : (g : Language) (b : g.Kind → Bool) (turn : State g → Reads g) (cturn : State (counting g) → Reads (counting g)) (whole begun : List (MarkOf g) → Type 0) → ((s : Stream g.Kind) → Path g turn cturn whole begun s)
    → (n : ℕ) (s : Stream g.Kind) → Path g (repeated g n b turn) (repeated (counting g) n b cturn) (Several g whole) (SeveralBegun g whole begun) s
unfolding repeated
repeated_path g b turn cturn whole begun f zero s = done_path g (Several g whole) (SeveralBegun g whole begun) s (0, refl)
repeated_path g b turn cturn whole begun f (suc n) s =
    if_path g b (λ z. turn z >>= repeated g n b turn) (λ z. Ok z) (λ z. cturn z >>= repeated (counting g) n b cturn) (λ z. Ok z) (Several g whole) (SeveralBegun g whole begun) s
    (then_path g turn (repeated g n b turn) cturn (repeated (counting g) n b cturn) whole begun (Several g whole) (SeveralBegun g whole begun) (Several g whole) (SeveralBegun g whole begun)
    (λ x y h k. (suc k.0, (x, y, h, k.1, refl)))
    (λ x h. ([], x, (0, refl), h, refl))
    (λ x y h k. (x ++ k.0, k.1, (suc k.2.0, (x, k.0, h, k.2.1, refl)), k.3, ap (λ z. x ++ z) k.4 ∙ sym (append_assoc x k.0 k.1)))
    s (f s) (λ t. repeated_path g b turn cturn whole begun f n t))
    (done_path g (Several g whole) (SeveralBegun g whole begun) s (0, refl))

-- ---- brackets

abbrev PathInner : (g : Language) → Readers g → Readers (counting g) → InBrackets g → InBrackets g → Type 0
PathInner g None None w n = Unit {0}
PathInner g None (Some c) w n = ⊥
PathInner g (Some inner) None w n = ⊥
PathInner g (Some inner) (Some c) w n = (r : g.Inner) (s : Stream g.Kind) → Path g (inner r) (c r) (w r) (n r) s

bracketed_path : (g : Language) (inner : Readers g) (c : Readers (counting g)) (w n : InBrackets g) → PathInner g inner c w n → ((r : g.Inner) (ms : List (MarkOf g)) → w r ms → n r ms) → (k : g.Kind) (o : g.Label) (r : g.Inner) (last : g.Kind) (l : g.Label) (s : Stream g.Kind)
    → Path g (bracketed g k o inner r last l) (bracketed (counting g) k o c r last l) (Spelled g w (nested k o r last l)) (Begun g w n (nested k o r last l)) s
bracketed_path g None None w n f i k o r last l s = stop_path g (Spelled g w (nested k o r last l)) (Begun g w n (nested k o r last l)) s (inl refl)
bracketed_path g None (Some c) w n f i k o r last l s = absurd f
bracketed_path g (Some inner) None w n f i k o r last l s = absurd f
bracketed_path g (Some inner) (Some c) w n f i k o r last l s =
    let all = Spelled g w (nested k o r last l) in
    let part = Begun g w n (nested k o r last l) in
    let two : List (MarkOf g) → Type 0 = λ ms. (t : Placed g.Kind) × (x : List (MarkOf g)) × (g.same t.kind k ≡ true) × w r x × (ms ≡ took o t ∷ x) in
    then_path g (λ z. take_one g k o z >>= inner r) (take_one g last l) (λ z. take_one (counting g) k o z >>= c r) (take_one (counting g) last l) two part (IsOne g last l) (λ ms. ms ≡ []) all part
    (λ x y h q. (h.0, h.1, q.0, h.2, h.3, q.1, ap (λ z. z ++ y) h.4 ∙ ap (λ z. took o h.0 ∷ h.1 ++ z) q.2))
    (λ x h. h)
    (λ x y h q. inr (inl (h.0, h.1, h.2, i r h.1 h.3, ap (λ z. z ++ y) h.4 ∙ ap (λ z. took o h.0 ∷ h.1 ++ z) q ∙ ap (λ z. took o h.0 ∷ z) (append-nil h.1))))
    s
    (then_path g (take_one g k o) (inner r) (take_one (counting g) k o) (c r) (IsOne g k o) (λ ms. ms ≡ []) (w r) (n r) two part
    (λ x y h q. (h.0, y, h.1, q, ap (λ z. z ++ y) h.2))
    (λ x h. inl h)
    (λ x y h q. inr (inl (h.0, y, h.1, q, ap (λ z. z ++ y) h.2)))
    s (one_path g k o s.tokens s.end) (λ t. f r t))
    (λ t. one_path g last l t.tokens t.end)

-- ---- every rule

abbrev PathRule : (g : Language) → ℕ → RuleOf g → Stream g.Kind → Type 0
PathRule g depth r s = Path g (by_rule g (read_inner g depth) r) (by_rule (counting g) (read_inner (counting g) depth) r) (Spelled g (SpelledInner g depth) r) (Begun g (SpelledInner g depth) (BegunInner g depth) r) s

both_path : (g : Language) (depth : ℕ) (a b : RuleOf g) → ((s : Stream g.Kind) → PathRule g depth a s) → ((s : Stream g.Kind) → PathRule g depth b s) → (s : Stream g.Kind) → PathRule g depth (a then b) s
both_path g depth a b f k s =
    let w = SpelledInner g depth in
    let n = BegunInner g depth in
    let rg = read_inner g depth in
    let rc = read_inner (counting g) depth in
    then_path g (by_rule g rg a) (by_rule g rg b) (by_rule (counting g) rc a) (by_rule (counting g) rc b) (Spelled g w a) (Begun g w n a) (Spelled g w b) (Begun g w n b) (Spelled g w (a then b)) (Begun g w n (a then b))
    (λ x y h q. (x, y, h, q, refl)) (λ x h. inl h) (λ x y h q. inr (x, y, h, q, refl)) s (f s) k

many_path : (g : Language) (depth : ℕ) (a : RuleOf g) → ((s : Stream g.Kind) → PathRule g depth a s) → (s : Stream g.Kind) → PathRule g depth (many a) s
many_path g depth a f s =
    let p = repeated_path g (begins g a) (by_rule g (read_inner g depth) a) (by_rule (counting g) (read_inner (counting g) depth) a) (Spelled g (SpelledInner g depth) a) (Begun g (SpelledInner g depth) (BegunInner g depth) a) f (length s.tokens + 1) s in
    record { marks = p.marks; at = p.at; over = p.over; goes = p.goes; shape = p.shape; reads = p.reads; counted = p.counted }

rule_path : (g : Language) (depth : ℕ) → PathInner g (read_inner g depth) (read_inner (counting g) depth) (SpelledInner g depth) (BegunInner g depth) → (r : RuleOf g) (s : Stream g.Kind) → PathRule g depth r s
rule_path g depth i (one k l) s =
    as_path g (take_one g k l) (take_one (counting g) k l) (IsOne g k l) (λ ms. ms ≡ []) (IsOne g k l) (Begun g (SpelledInner g depth) (BegunInner g depth) (one k l)) (λ x h. h) (λ x h. inl h) s (one_path g k l s.tokens s.end)
rule_path g depth i (does l) s = judge_path g l s
rule_path g depth i (a then b) s = both_path g depth a b (rule_path g depth i a) (rule_path g depth i b) s
rule_path g depth i (a or b) s =
    let w = SpelledInner g depth in
    let n = BegunInner g depth in
    let rg = read_inner g depth in
    let rc = read_inner (counting g) depth in
    if_path g (begins g a) (by_rule g rg a) (by_rule g rg b) (by_rule (counting g) rc a) (by_rule (counting g) rc b) (Spelled g w (a or b)) (Begun g w n (a or b)) s
    (as_path g (by_rule g rg a) (by_rule (counting g) rc a) (Spelled g w a) (Begun g w n a) (Spelled g w (a or b)) (Begun g w n (a or b)) (λ x h. inl h) (λ x h. inl h) s (rule_path g depth i a s))
    (as_path g (by_rule g rg b) (by_rule (counting g) rc b) (Spelled g w b) (Begun g w n b) (Spelled g w (a or b)) (Begun g w n (a or b)) (λ x h. inr h) (λ x h. inr h) s (rule_path g depth i b s))
rule_path g depth i (maybe a) s =
    let w = SpelledInner g depth in
    let n = BegunInner g depth in
    let rg = read_inner g depth in
    let rc = read_inner (counting g) depth in
    if_path g (begins g a) (by_rule g rg a) (λ z. Ok z) (by_rule (counting g) rc a) (λ z. Ok z) (Spelled g w (maybe a)) (Begun g w n (maybe a)) s
    (as_path g (by_rule g rg a) (by_rule (counting g) rc a) (Spelled g w a) (Begun g w n a) (Spelled g w (maybe a)) (Begun g w n (maybe a)) (λ x h. inl h) (λ x h. h) s (rule_path g depth i a s))
    (done_path g (Spelled g w (maybe a)) (Begun g w n (maybe a)) s (inr refl))
rule_path g depth i (many a) s = many_path g depth a (rule_path g depth i a) s
rule_path g depth i (chained a o l) s =
    let of_a = rule_path g depth i a in
    let of_turn = both_path g depth o (a then does l) (rule_path g depth i o) (both_path g depth a (does l) of_a (λ t. judge_path g l t)) in
    let p = both_path g depth a (many (o then (a then does l))) of_a (many_path g depth (o then (a then does l)) of_turn) s in
    record { marks = p.marks; at = p.at; over = p.over; goes = p.goes; shape = p.shape; reads = p.reads; counted = p.counted }
rule_path g depth i (nested k o r c l) s = bracketed_path g (read_inner g depth) (read_inner (counting g) depth) (SpelledInner g depth) (BegunInner g depth) i (inner_begun g depth) k o r c l s

inner_path : (g : Language) (depth : ℕ) → PathInner g (read_inner g depth) (read_inner (counting g) depth) (SpelledInner g depth) (BegunInner g depth)
unfolding read_inner SpelledInner BegunInner
inner_path g zero = tt
inner_path g (suc depth) = λ r s. rule_path g depth (inner_path g depth) (g.inside r) s

abbrev pub PathOf : (g : Language) → ℕ → RuleOf g → Stream g.Kind → Type 0
PathOf g depth r s = Path g (read_rule g depth r) (read_rule (counting g) depth r) (Sentence g depth r) (Beginning g depth r) s

pub read_path : (g : Language) (depth : ℕ) (r : RuleOf g) (s : Stream g.Kind) → PathOf g depth r s
unfolding read_rule
read_path g depth r s = rule_path g depth (inner_path g depth) r s
