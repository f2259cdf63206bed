-- What reading refuses is the first fault; two first faults are at one token, and no text has one.
use Rattle.std.proofs.Common.{◌≡◌, ℕ, Bool, true, false, List, [], ◌∷◌, ◌++◌, Result, Ok, Err, refl, sym, ap, subst, ◌∙◌, append_assoc, append-nil, inl, inr}
use Rattle.grammar.specs.Language.{Placed, Language, RuleOf}
use Rattle.grammar.specs.Reading.{Stream, stream, State, Reads, ◌>>=◌, front, first_or, is_empty, ended, read_whole}
use Rattle.grammar.specs.Grammar.{took, did, MarkOf, Sentence, SpelledInner, tokens_of, Goes, act_mark, acts_then, acts}
use Rattle.grammar.specs.Plain.{goes_on, is_plain, IsPlain}
use Rattle.grammar.specs.Refusal.{Whole}
use Rattle.grammar.proofs.WholeTexts.{whole_sound}
use Rattle.grammar.proofs.Basics.{before, before_append, acts-then, tokens_append, chosen}
use Rattle.first_faults.specs.Beginnings.{BegunInner, Beginning}
use Rattle.first_faults.specs.FirstFaults.{GoesOn, IsDue, AtToken, BeforeToken, FirstFault}
use Rattle.first_faults.proofs.Begun.{whole_begun}
use Rattle.first_faults.proofs.Paths.{run, stays, PathOf, read_path}
use Rattle.first_faults.proofs.Follows.{failed, err_is, follows, reads_sentence, begins_path}
use Rattle.first_faults.proofs.Tokens.{at_token, same_up_to, done_before, compared}

-- ---- along marks of which one is refused

refused_along : (g : Language) (m : List (MarkOf g)) (k : MarkOf g) (z : List (MarkOf g)) (b c : g.Built) (f : g.Fault) → acts g m b ≡ Ok c → act_mark g k c ≡ Err f → acts g (m ++ k ∷ z) b ≡ Err f
refused_along g m k z b c f e h = acts-then g m (k ∷ z) (Ok b) ∙ ap (acts_then g (k ∷ z)) e ∙ ap (acts_then g z) h ∙ stays g z f

-- the first mark that is refused
record RefusedMark (g : Language) (ms : List (MarkOf g)) (b : g.Built) (f : g.Fault) : Type 0 where
  pub m : List (MarkOf g)
  pub k : MarkOf g
  pub z : List (MarkOf g)
  pub c : g.Built
  pub is : ms ≡ m ++ k ∷ z
  pub acts_are : acts g m b ≡ Ok c
  pub refused : act_mark g k c ≡ Err f

refused_mark : (g : Language) (ms : List (MarkOf g)) (b : g.Built) (f : g.Fault) → acts g ms b ≡ Err f → RefusedMark g ms b f
refused_mark g [] b f e = absurd cc
refused_mark g (k ∷ ms) b f e = mark_by (act_mark g k b) refl (λ c i. refused_mark g ms c f i) e
  where
    mark_by : (r : Result g.Built g.Fault) → act_mark g k b ≡ r → ((c : g.Built) → acts g ms c ≡ Err f → RefusedMark g ms c f) → acts_then g ms r ≡ Err f → RefusedMark g (k ∷ ms) b f
    mark_by (Ok c) h n i =
        let x = n c i in
        record { m = k ∷ x.m; k = x.k; z = x.z; c = x.c; is = ap (λ z. k ∷ z) x.is; acts_are = ap (acts_then g x.m) h ∙ x.acts_are; refused = x.refused }
    mark_by (Err d) h n i = let j = err_is d f (sym (stays g ms d) ∙ i) in record { m = []; k = k; z = ms; c = b; is = refl; acts_are = refl; refused = h ∙ ap (λ z. failed z) j }

-- ---- where a fault is

begins_of : (g : Language) (depth : ℕ) (end : g.Kind) (r : RuleOf g) (s : State g) (f : g.Fault) (x : FirstFault g depth end r s f) → (rest : List (MarkOf g)) × Beginning g depth r (x.marks ++ rest)
begins_of g depth end r s f x =
    elim x.why [
      | inl t ↦ (took t.label (front x.at) ∷ t.rest, t.begins)
      | inr w ↦
          elim w [
            | inl t ↦ (did t.label ∷ t.rest, t.begins)
            | inr t ↦ ([], subst (λ z. Beginning g depth r z) (sym (append-nil x.marks)) t.begins)
          ]
    ]

-- marks that take the token of a fault aren't all done
none_later : (g : Language) → IsPlain g → (depth : ℕ) (end : g.Kind) (r : RuleOf g) → is_plain g r ≡ true → (s : State g) (f : g.Fault) (x : FirstFault g depth end r s f)
    → (ms rest : List (MarkOf g)) → Beginning g depth r (ms ++ rest) → (c : g.Built) → acts g ms s.0 ≡ Ok c
    → (u : Placed g.Kind) (us vs : List (Placed g.Kind)) → tokens_of ms ≡ tokens_of x.marks ++ u ∷ us → x.at.tokens ≡ u ∷ vs → ⊥
none_later g p depth end r plain s f x ms rest h c e u us vs later here =
    let a = at_token ms (tokens_of x.marks) u us later in
    let y = a.0 in
    let k = a.1 in
    let z = a.2 in
    let parts : ms ++ rest ≡ y ++ took k u ∷ (z ++ rest) = ap (λ t. t ++ rest) a.3 ∙ append_assoc y (took k u ∷ z) rest in
    let begun : Beginning g depth r (y ++ took k u ∷ (z ++ rest)) = subst (λ t. Beginning g depth r t) parts h in
    let at_is : front x.at ≡ u = ap (λ t. first_or t x.at.end) here in
    let at_all : x.at ≡ stream (u ∷ vs) x.at.end = ap (λ t. stream t x.at.end) here in
    let goes_x : s.1 ≡ before x.marks (stream (u ∷ vs) x.at.end) = x.goes ∙ ap (λ t. before x.marks t) at_all in
    let goes_y : s.1 ≡ before y (stream (u ∷ vs) x.at.end) = goes_x ∙ ap (λ t. stream (t ++ u ∷ vs) x.at.end) (sym a.4) in
    let path = read_path g depth r s.1 in
    let second = follows g p depth r plain y k u (z ++ rest) begun s.1 vs x.at.end goes_y path in
    elim x.why [
      | inl t ↦
          let begun_x : Beginning g depth r (x.marks ++ took t.label u ∷ t.rest) = subst (λ q. Beginning g depth r (x.marks ++ took t.label q ∷ t.rest)) at_is t.begins in
          let first = follows g p depth r plain x.marks t.label u t.rest begun_x s.1 vs x.at.end goes_x path in
          let same = same_up_to y x.marks k t.label u u second.0 first.0 a.4 (sym second.1 ∙ first.1) in
          let is : ms ≡ x.marks ++ took t.label u ∷ z = a.3 ∙ ap (λ q. q ++ took k u ∷ z) same.0 ∙ ap (λ q. x.marks ++ took q u ∷ z) same.1 in
          let bad : g.act t.label u x.built ≡ Err f = ap (λ q. g.act t.label q x.built) (sym at_is) ∙ t.refused in
          let all = ap (λ q. acts g q s.0) is ∙ refused_along g x.marks (took t.label u) z s.0 x.built f x.acts_are bad in
          absurd cc
      | inr w ↦
          elim w [
            | inl t ↦
                let due = subst (λ q. IsDue g depth r x.marks t.label q) here t.is_due in
                let d = due y k (z ++ rest) a.4 begun in
                let is : ms ≡ x.marks ++ did t.label ∷ (d.0 ++ took k u ∷ z) = a.3 ∙ ap (λ q. q ++ took k u ∷ z) d.1 ∙ append_assoc x.marks (did t.label ∷ d.0) (took k u ∷ z) in
                let all = ap (λ q. acts g q s.0) is ∙ refused_along g x.marks (did t.label) (d.0 ++ took k u ∷ z) s.0 x.built f x.acts_are t.refused in
                absurd cc
            | inr t ↦ let none = subst (λ q. GoesOn g depth end r (tokens_of x.marks) q x.at.end → ⊥) here t.none in absurd (none (y, k, z ++ rest, a.4, begun))
          ]
    ]

stream_is : {K : Type 0} (a b : Stream K) → a.tokens ≡ b.tokens → a.end ≡ b.end → a ≡ b
stream_is a b e f = ap (λ z. stream z a.end) e ∙ ap (λ z. stream b.tokens z) f

-- two first faults are at one token
pub one_token : (g : Language) → IsPlain g → (depth : ℕ) (end : g.Kind) (r : RuleOf g) → is_plain g r ≡ true → (s : State g) (f h : g.Fault) (x : FirstFault g depth end r s f) (y : FirstFault g depth end r s h) → (x.at ≡ y.at) × (tokens_of x.marks ≡ tokens_of y.marks)
one_token g p depth end r plain s f h x y =
    let tokens : tokens_of x.marks ++ x.at.tokens ≡ tokens_of y.marks ++ y.at.tokens = ap (λ (z : Stream g.Kind). z.tokens) (sym x.goes ∙ y.goes) in
    let ends : x.at.end ≡ y.at.end = ap (λ (z : Stream g.Kind). z.end) (sym x.goes ∙ y.goes) in
    elim (compared (tokens_of x.marks) (tokens_of y.marks) x.at.tokens y.at.tokens tokens) [
      | inl a ↦ let b = begins_of g depth end r s h y in absurd (none_later g p depth end r plain s f x y.marks b.0 b.1 y.built y.acts_are a.0 a.1 (a.1 ++ y.at.tokens) a.2 a.3)
      | inr w ↦
          elim w [
            | inl a ↦ let b = begins_of g depth end r s f x in absurd (none_later g p depth end r plain s h y x.marks b.0 b.1 x.built x.acts_are a.0 a.1 (a.1 ++ x.at.tokens) a.2 a.3)
            | inr a ↦ (stream_is x.at y.at a.1 ends, a.0)
          ]
    ]

-- ---- and are one, where a text goes on there

token_fault : (g : Language) → IsPlain g → (depth : ℕ) (r : RuleOf g) → is_plain g r ≡ true → (s : State g) (marks : List (MarkOf g)) (built : g.Built) (at : Stream g.Kind) (f : g.Fault) → Goes g marks s.1 at → acts g marks s.0 ≡ Ok built → AtToken g depth r marks built at f
    → acts g (read_path g depth r s.1).marks s.0 ≡ Err f
token_fault g p depth r plain s marks built at f goes along t = by_tokens at.tokens refl
  where
    by_tokens : (ts : List (Placed g.Kind)) → at.tokens ≡ ts → acts g (read_path g depth r s.1).marks s.0 ≡ Err f
    by_tokens [] e = let n = sym (ap (λ z. is_empty z) e) ∙ t.is_there in absurd cc
    by_tokens (u ∷ us) e =
        let at_is : u ≡ front at = ap (λ z. first_or z at.end) (sym e) in
        let all : s.1 ≡ before marks (stream (front at ∷ us) at.end) = goes ∙ ap (λ z. before marks (stream z at.end)) (e ∙ ap (λ z. z ∷ us) at_is) in
        let n = follows g p depth r plain marks t.label (front at) t.rest t.begins s.1 us at.end all (read_path g depth r s.1) in
        ap (λ z. acts g z s.0) n.1 ∙ refused_along g marks (took t.label (front at)) n.0 s.0 built f along t.refused

-- where a text goes on there, all its marks meet the fault
meets_fault : (g : Language) → IsPlain g → (depth : ℕ) (end : g.Kind) (r : RuleOf g) → is_plain g r ≡ true → (s : State g) (f : g.Fault) → goes_on g r s.1.end.kind ≡ false → (x : FirstFault g depth end r s f)
    → GoesOn g depth end r (tokens_of x.marks) x.at.tokens x.at.end → acts g (read_path g depth r s.1).marks s.0 ≡ Err f
meets_fault g p depth end r plain s f off x on =
    elim x.why [
      | inl t ↦ token_fault g p depth r plain s x.marks x.built x.at f x.goes x.acts_are t
      | inr w ↦
          elim w [
            | inl t ↦ due_by t x.at.tokens refl on t.is_due
            | inr t ↦ absurd (t.none on)
          ]
    ]
  where
    due_by : (t : BeforeToken g depth r x.marks x.built x.at f) (ts : List (Placed g.Kind)) → x.at.tokens ≡ ts → GoesOn g depth end r (tokens_of x.marks) ts x.at.end → IsDue g depth r x.marks t.label ts → acts g (read_path g depth r s.1).marks s.0 ≡ Err f
    due_by t [] e h due =
        let tokens : s.1.tokens ≡ tokens_of h.1.0 = ap (λ (z : Stream g.Kind). z.tokens) x.goes ∙ ap (λ z. tokens_of x.marks ++ z) e ∙ append-nil (tokens_of x.marks) ∙ sym h.1.2 in
        let n = reads_sentence g p depth r plain h.1.0 h.1.1 s.1 tokens off (read_path g depth r s.1) in
        let d = due h.1.0 h.1.1 h.1.2 in
        ap (λ z. acts g z s.0) (n.1 ∙ d.1) ∙ refused_along g x.marks (did t.label) d.0 s.0 x.built f x.acts_are t.refused
    due_by t (u ∷ us) e h due =
        let goes : s.1 ≡ before h.0 (stream (u ∷ us) x.at.end) = x.goes ∙ ap (λ z. before x.marks (stream z x.at.end)) e ∙ ap (λ z. stream (z ++ u ∷ us) x.at.end) (sym h.3) in
        let n = follows g p depth r plain h.0 h.1 u h.2 h.4 s.1 us x.at.end goes (read_path g depth r s.1) in
        let d = due h.0 h.1 h.2 h.3 h.4 in
        let is = n.1 ∙ ap (λ z. z ++ took h.1 u ∷ n.0) d.1 ∙ append_assoc x.marks (did t.label ∷ d.0) (took h.1 u ∷ n.0) in
        ap (λ z. acts g z s.0) is ∙ refused_along g x.marks (did t.label) (d.0 ++ took h.1 u ∷ n.0) s.0 x.built f x.acts_are t.refused

pub one_fault : (g : Language) → IsPlain g → (depth : ℕ) (end : g.Kind) (r : RuleOf g) → is_plain g r ≡ true → (s : State g) (f h : g.Fault) → goes_on g r s.1.end.kind ≡ false → (x : FirstFault g depth end r s f) (y : FirstFault g depth end r s h)
    → GoesOn g depth end r (tokens_of x.marks) x.at.tokens x.at.end → f ≡ h
one_fault g p depth end r plain s f h off x y on =
    let at = one_token g p depth end r plain s f h x y in
    let on_y : GoesOn g depth end r (tokens_of y.marks) y.at.tokens y.at.end =
    subst (λ z. GoesOn g depth end r z y.at.tokens y.at.end) at.1 (subst (λ (z : Stream g.Kind). GoesOn g depth end r (tokens_of x.marks) z.tokens z.end) at.0 on) in
    err_is f h (sym (meets_fault g p depth end r plain s f off x on) ∙ meets_fault g p depth end r plain s h off y on_y)

-- ---- a text that the grammar has, along which all may be done, has no fault

pub no_fault : (g : Language) → IsPlain g → (depth : ℕ) (end : g.Kind) (r : RuleOf g) → is_plain g r ≡ true → (s : Stream g.Kind) (old new : g.Built) (f : g.Fault) → Whole g (Sentence g depth r) end s old new → FirstFault g depth end r (old, s) f → ⊥
no_fault g p depth end r plain s old new f w x = none_by x.at.tokens refl
  where
    ends : x.at.end ≡ s.end
    ends = ap (λ (z : Stream g.Kind). z.end) (sym x.goes)

    tokens : tokens_of w.marks ≡ tokens_of x.marks ++ x.at.tokens
    tokens = sym w.tokens_are ∙ ap (λ (z : Stream g.Kind). z.tokens) x.goes

    begun : Beginning g depth r (w.marks ++ [])
    begun = subst (λ z. Beginning g depth r z) (sym (append-nil w.marks)) (whole_begun g (SpelledInner g depth) (BegunInner g depth) r w.marks w.is)

    none_by : (ts : List (Placed g.Kind)) → x.at.tokens ≡ ts → ⊥
    none_by (u ∷ us) e = none_later g p depth end r plain (old, s) f x w.marks [] begun new w.acts_are u us us (tokens ∙ ap (λ z. tokens_of x.marks ++ z) e) e
    none_by [] e =
        let same : tokens_of w.marks ≡ tokens_of x.marks = tokens ∙ ap (λ z. tokens_of x.marks ++ z) e ∙ append-nil (tokens_of x.marks) in
        elim x.why [
          | inl t ↦ let n = sym (ap (λ z. is_empty z) e) ∙ t.is_there in absurd cc
          | inr v ↦
              elim v [
                | inl t ↦
                    let due = subst (λ z. IsDue g depth r x.marks t.label z) e t.is_due in
                    let d = due w.marks w.is same in
                    let all = ap (λ z. acts g z old) d.1 ∙ refused_along g x.marks (did t.label) d.0 old x.built f x.acts_are t.refused in
                    let good = w.acts_are in
                    absurd cc
                | inr t ↦
                    let none = subst (λ z. GoesOn g depth end r (tokens_of x.marks) z x.at.end → ⊥) e t.none in
                    absurd (none (ap (λ (z : Placed g.Kind). g.same z.kind end) ends ∙ w.end_is, (w.marks, w.is, same)))
              ]
        ]

-- ---- what reading refuses

longer : {X : Type 0} (a : List X) (u : X) (us : List X) → a ≡ a ++ u ∷ us → ⊥
longer [] u us e = absurd cc
longer (x ∷ a) u us e = let t : a ≡ a ++ u ∷ us = cc in longer a u us t

-- the label of the mark that is refused
mark_fault : (g : Language) → IsPlain g → (depth : ℕ) (end : g.Kind) (r : RuleOf g) → is_plain g r ≡ true → (s : State g) (f : g.Fault) → goes_on g r s.1.end.kind ≡ false → (path : PathOf g depth r s.1)
    → (m : List (MarkOf g)) (k : MarkOf g) (z : List (MarkOf g)) (c : g.Built) → path.marks ≡ m ++ k ∷ z → acts g m s.0 ≡ Ok c → act_mark g k c ≡ Err f → FirstFault g depth end r s f
mark_fault g p depth end r plain s f off path m (took l u) z c is along bad = record {
  marks = m;
  built = c;
  at = stream (u ∷ (tokens_of z ++ path.at.tokens)) path.at.end;
  goes = path.goes ∙ ap (λ q. before q path.at) is ∙ before_append m (took l u ∷ z) path.at;
  acts_are = along;
  why = inl (record { label = l; rest = z; is_there = refl; begins = subst (λ q. Beginning g depth r q) is (begins_path g depth r s.1 path); refused = bad });
}
mark_fault g p depth end r plain s f off path m (did l) z c is along bad = record {
  marks = m;
  built = c;
  at = before z path.at;
  goes = goes;
  acts_are = along;
  why = inr (inl (record { label = l; rest = z; begins = subst (λ q. Beginning g depth r q) is (begins_path g depth r s.1 path); is_due = due_by (tokens_of z ++ path.at.tokens) refl; refused = bad }));
}
  where
    goes : s.1 ≡ before m (before z path.at)
    goes = path.goes ∙ ap (λ q. before q path.at) is ∙ before_append m (did l ∷ z) path.at

    due_by : (ts : List (Placed g.Kind)) → (tokens_of z ++ path.at.tokens) ≡ ts → IsDue g depth r m l ts
    due_by [] e = λ y h same.
        let tokens : s.1.tokens ≡ tokens_of y = ap (λ (q : Stream g.Kind). q.tokens) goes ∙ ap (λ q. tokens_of m ++ q) e ∙ append-nil (tokens_of m) ∙ sym same in
        let n = reads_sentence g p depth r plain y h s.1 tokens off path in
        (z, sym n.1 ∙ is)
    due_by (u ∷ us) e = λ y k rest same begun.
        let here : s.1 ≡ before y (stream (u ∷ us) path.at.end) = goes ∙ ap (λ q. before m (stream q path.at.end)) e ∙ ap (λ q. stream (q ++ u ∷ us) path.at.end) (sym same) in
        let n = follows g p depth r plain y k u rest begun s.1 us path.at.end here path in
        done_before y m k l u n.0 z same (sym n.1 ∙ is)

-- the token with which nothing goes on
token_refused : (g : Language) → IsPlain g → (depth : ℕ) (end : g.Kind) (r : RuleOf g) → is_plain g r ≡ true → (s : State g) (f : g.Fault) (path : PathOf g depth r s.1) (c : g.Built) → acts g path.marks s.0 ≡ Ok c → f ≡ g.stop (front path.at)
    → (path.at.tokens ≡ [] → g.same path.at.end.kind end ≡ true → (y : List (MarkOf g)) → Sentence g depth r y → tokens_of y ≡ tokens_of path.marks → ⊥) → FirstFault g depth end r s f
token_refused g p depth end r plain s f path c along stopped over = record {
  marks = path.marks;
  built = c;
  at = path.at;
  goes = path.goes;
  acts_are = along;
  why = inr (inr (record { begins = begins_path g depth r s.1 path; none = none_by path.at.tokens refl; stopped = stopped }));
}
  where
    none_by : (ts : List (Placed g.Kind)) → path.at.tokens ≡ ts → GoesOn g depth end r (tokens_of path.marks) ts path.at.end → ⊥
    none_by [] e h = over e h.0 h.1.0 h.1.1 h.1.2
    none_by (u ∷ us) e h =
        let here : s.1 ≡ before h.0 (stream (u ∷ us) path.at.end) = path.goes ∙ ap (λ q. before path.marks (stream q path.at.end)) e ∙ ap (λ q. stream (q ++ u ∷ us) path.at.end) (sym h.3) in
        let n = follows g p depth r plain h.0 h.1 u h.2 h.4 s.1 us path.at.end here path in
        let tokens : tokens_of path.marks ≡ tokens_of path.marks ++ u ∷ tokens_of n.0 = ap (λ q. tokens_of q) n.1 ∙ tokens_append h.0 (took h.1 u ∷ n.0) ∙ ap (λ q. q ++ u ∷ tokens_of n.0) h.3 in
        longer (tokens_of path.marks) u (tokens_of n.0) tokens

ended_err : (g : Language) (end : g.Kind) (c : g.Built) (ts : List (Placed g.Kind)) (last : Placed g.Kind) (f : g.Fault) → ended g end (c, stream ts last) ≡ Err f → (f ≡ g.stop (front (stream ts last))) × (ts ≡ [] → g.same last.kind end ≡ true → ⊥)
unfolding ended
ended_err g end c [] last f e =
    elim (chosen (g.same last.kind end) _ _ (Err f) e) [
      | inl here ↦ absurd cc
      | inr bad ↦ (cc, λ n is. absurd cc)
    ]
ended_err g end c (v ∷ vs) last f e = (cc, λ n is. absurd cc)

refused_by : (g : Language) → IsPlain g → (depth : ℕ) (end : g.Kind) (r : RuleOf g) → is_plain g r ≡ true → (s : State g) (f : g.Fault) → goes_on g r s.1.end.kind ≡ false → (path : PathOf g depth r s.1)
    → (o : Bool) (a : Result g.Built g.Fault) → path.over ≡ o → acts g path.marks s.0 ≡ a → (run g o a path.at >>= ended g end) ≡ Err f → FirstFault g depth end r s f
refused_by g p depth end r plain s f off path true (Err d) over along e =
    let x = refused_mark g path.marks s.0 f (along ∙ ap (λ z. failed z) (err_is d f e)) in
    mark_fault g p depth end r plain s f off path x.m x.k x.z x.c x.is x.acts_are x.refused
refused_by g p depth end r plain s f off path false (Err d) over along e =
    let x = refused_mark g path.marks s.0 f (along ∙ ap (λ z. failed z) (err_is d f e)) in
    mark_fault g p depth end r plain s f off path x.m x.k x.z x.c x.is x.acts_are x.refused
refused_by g p depth end r plain s f off path false (Ok c) over along e =
    token_refused g p depth end r plain s f path c along (sym (err_is (g.stop (front path.at)) f e))
    (λ none is y h same.
    let tokens : s.1.tokens ≡ tokens_of y = ap (λ (q : Stream g.Kind). q.tokens) path.goes ∙ ap (λ q. tokens_of path.marks ++ q) none ∙ append-nil (tokens_of path.marks) ∙ sym same in
    let n = reads_sentence g p depth r plain y h s.1 tokens off path in
    let both = sym n.0 ∙ over in
    absurd cc)
refused_by g p depth end r plain s f off path true (Ok c) over along e =
    let x = ended_err g end c path.at.tokens path.at.end f e in
    token_refused g p depth end r plain s f path c along x.0 (λ none is y h same. x.1 none is)

-- what reading refuses is the first fault
pub refused_first : (g : Language) → IsPlain g → (depth : ℕ) (end : g.Kind) (r : RuleOf g) → is_plain g r ≡ true → (s : State g) (f : g.Fault) → goes_on g r s.1.end.kind ≡ false → read_whole g depth end r s ≡ Err f → FirstFault g depth end r s f
unfolding read_whole
refused_first g p depth end r plain s f off e =
    let path = read_path g depth r s.1 in
    refused_by g p depth end r plain s f off path path.over (acts g path.marks s.0) refl refl (ap (λ z. z >>= ended g end) (sym (path.reads s.0)) ∙ e)

-- and where a text goes on there, the first fault is what reading refuses
pub fault_read : (g : Language) → IsPlain g → (depth : ℕ) (end : g.Kind) (r : RuleOf g) → is_plain g r ≡ true → (s : State g) (f : g.Fault) → goes_on g r s.1.end.kind ≡ false → (x : FirstFault g depth end r s f)
    → GoesOn g depth end r (tokens_of x.marks) x.at.tokens x.at.end → read_whole g depth end r s ≡ Err f
fault_read g p depth end r plain s f off x on = read_by (read_whole g depth end r s) refl
  where
    read_by : (a : Reads g) → read_whole g depth end r s ≡ a → read_whole g depth end r s ≡ Err f
    read_by (Ok t) e = absurd (no_fault g p depth end r plain s.1 s.0 t.0 f (whole_sound g depth end r s t e) x)
    read_by (Err h) e = e ∙ ap (λ z. failed z) (sym (one_fault g p depth end r plain s f h off x (refused_first g p depth end r plain s h off e) on))
