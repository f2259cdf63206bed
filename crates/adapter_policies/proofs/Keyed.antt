-- Maps whose keys are bytes, after a change at one key.
use Rattle.std.proofs.Common.{◌≡◌, ℕ, ◌+◌, ◌<◌, Bool, true, false, cond, List, ◌∷◌, Vec, Global, Option, length, drop, get_or, refl, sym, ap, subst, ◌∙◌, ⊎_elim, arith}
use Rattle.std.proofs.lemmas.List.{drop_all, drop_more}
use Rattle.std.proofs.lemmas.Bool.{cases_Bool, cond-true, cond-false}
use Rattle.std.specs.Cmp.Lexicographic.{bytes_decides, nat_list_eq_equiv}
use Rattle.std.specs.HashMap.{HashMap, UpdatesBy, IsEmpty, get_by}
use Rattle.std.specs.Map.{KeepsOthers, IsKeyTest, AreApart, lookup}
use Rattle.config_tables.specs.Keys.{same_text}
use Rattle.adapter_policies.specs.Index.{Numbers, IsIndexed, Keeps}
use Rattle.adapter_policies.specs.declared.object_spec.ObjectSpec.{ObjectSpec}

-- bytes that are other than a key's are no other key's
apart : (bs cs ks : List ℕ) → same_text bs cs ≡ false → same_text bs ks ≡ true → same_text cs ks ≡ false
apart bs cs ks n y = nat_list_eq_equiv.symm cs ks ∙ sym (nat_list_eq_equiv.congr bs ks cs y) ∙ n

-- the entries of other keys are kept
others : {K X : Type 0} (eq : K → K → Bool) (test : K → Bool) (old new : List (K × X)) → KeepsOthers eq test old new
    → (other : K → Bool) → IsKeyTest eq other → AreApart test other → lookup other new ≡ lookup other old
unfolding KeepsOthers
others eq test old new h = h

-- g is w at bs, and f at other bytes
by_bytes : {W : Type 0} (f g : List ℕ → W) (bs : List ℕ) (w : W) → g bs ≡ w
    → ((cs : List ℕ) → same_text bs cs ≡ false → g cs ≡ f cs) → (cs : List ℕ) → g cs ≡ cond (same_text bs cs) w (f cs)
by_bytes f g bs w here other cs =
    ⊎_elim
    (λ y. subst (λ l. g l ≡ w) ((bytes_decides bs cs).0 y) here ∙ sym (cond-true (same_text bs cs) w (f cs) y))
    (λ n. other cs n ∙ sym (cond-false (same_text bs cs) w (f cs) n))
    (cases_Bool (same_text bs cs))

-- after a change at the key bs, each key of bytes finds the new value there, and what it found before elsewhere
pub updated : {X S : Type 0} (bs : List ℕ) (m n : HashMap (Vec ℕ Global) X S) (w : Option X)
    → UpdatesBy (λ x y. same_text x.items y.items) (λ k. same_text bs k.items) m n w
    → (cs : List ℕ) → get_by (λ k. same_text cs k.items) n ≡ cond (same_text bs cs) w (get_by (λ k. same_text cs k.items) m)
updated bs m n w h =
    by_bytes (λ cs. get_by (λ k. same_text cs k.items) m) (λ cs. get_by (λ k. same_text cs k.items) n) bs w h.1
    (λ cs e. others _ _ _ _ h.3 _ (λ x y. nat_list_eq_equiv.congr cs x.items y.items) (λ k. apart bs cs k.items e))

-- no object is after the last one
pub indexed_none : (numbers : Numbers) (objects : List ObjectSpec) (n : ℕ) → IsEmpty numbers → n ≡ length objects → IsIndexed numbers n (drop n objects)
unfolding IsIndexed
indexed_none numbers objects n none end = λ key. rw (end, drop_all (length objects) objects (omega arith), none) refl

-- all objects are from the first one on
pub indexed_all : (numbers : Numbers) (objects : List ObjectSpec) (n : ℕ) → n ≡ 0 → IsIndexed numbers n (drop n objects) → IsIndexed numbers 0 objects
indexed_all numbers objects n first all = subst (λ (m : ℕ). IsIndexed numbers m (drop m objects)) first all

-- one more object is before those after it
pub indexed_more : (old new : Numbers) (objects : List ObjectSpec) (n : ℕ) (o : ObjectSpec) → n < length objects → o ≡ get_or objects n o
    → IsIndexed old (n + 1) (drop (n + 1) objects) → Keeps o.key n old new → IsIndexed new n (drop n objects)
unfolding IsIndexed Keeps
indexed_more old new objects n o within is behind kept = λ key.
    let step : drop n objects ≡ o ∷ drop (n + 1) objects = drop_more objects n o within ∙ ap (λ (x : ObjectSpec). x ∷ drop (n + 1) objects) (sym is) in
    rw (step, ← behind key) (kept key)
