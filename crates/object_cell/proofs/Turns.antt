-- Begins and Commits come in turn.
use Rattle.std.proofs.Common.{◌≡◌, ℕ, true, List, [], ◌∷◌, ◌++◌, Option, Some, None, sym, subst, refl, ap, ◌∙◌}
use Rattle.std.specs.Prelude.{is_none}
use Rattle.std.proofs.lemmas.Option.{same_Some}
use Rattle.orb_base.specs.JobRecord.{JobRecord}
use Rattle.orb_base.specs.declared.outcome.Outcome.{Outcome}
use Rattle.object_cell.specs.declared.call.ObjectCall.{ObjectCall}
use Rattle.object_cell.specs.declared.call.ObjectCall.TheVariants.{Begin, Commit}
use Rattle.object_cell.specs.declared.call.ObjectReply.{ObjectReply}
use Rattle.object_cell.specs.declared.call.ObjectReply.TheVariants.{Value}
use Rattle.object_cell.specs.Machine.{CameOf, Machine, One, History, is_ready, held_by, storing, step, Opens, IsSound, Comes}
use Rattle.object_cell.specs.Laws.{IsLegal, replay, BeginsWith, Commits, CommitsOn, value_after, last_value, ComesOf, ComeInTurn}

nobody_is : {A : Type 0} (o : Option ℕ) (n : ℕ) → o ≡ None → o ≡ Some n → A
nobody_is o n e f = absurd (cc)

one_is_nobody : {A : Type 0} (n : ℕ) → is_none (Some n) ≡ true → A
one_is_nobody n e = absurd (cc)

same_value : {V : Type 0} (a b : Option V) → ◌≡◌ {A = ObjectReply V} (Value a) (Value b) → a ≡ b
same_value a b e = cc

module _ {S V : Type 0} where
  after_call : (m : Machine S V) (call : ObjectCall V) → (step m call).0.value ≡ value_after m.value call
  after_call m (Begin by) = refl
  after_call m (Commit by job outcome value) = refl

  -- the value after a history
  pub last_is : (m : Machine S V) (h : History S V) → (replay m h).value ≡ last_value m.value h
  last_is m [] = refl
  last_is m (e ∷ es) = last_is (step m e.call).0 es ∙ ap (λ v. last_value v es) (after_call m e.call)

module _ {S V : Type 0} (staged : S → List ℕ → JobRecord → Option V → Outcome × Option V) where
  -- what comes at a place is legal there
  rest : (x : Machine S V) (before after : History S V) → IsLegal staged x (before ++ after) → IsLegal staged (replay x before) after
  rest x [] after l = l
  rest x (e ∷ es) after l = rest (step x e.call).0 es after l.3

  -- jobs are carried out alike; no call changes that
  abbrev IsAlike : Machine S V → Machine S V → Type 0
  IsAlike x m = (m.staging ≡ x.staging) × (m.interface ≡ x.interface)

  alike_call : (x m : Machine S V) (call : ObjectCall V) → IsAlike x m → IsAlike x (step m call).0
  alike_call x m (Begin by) a = a
  alike_call x m (Commit by job outcome value) a = a

  alike : (x m : Machine S V) (h : History S V) → IsAlike x m → IsAlike x (replay m h)
  alike x m [] a = a
  alike x m (e ∷ es) a = alike x (step m e.call).0 es (alike_call x m e.call a)

  -- where nobody holds the value, a Begin comes
  free_begins : (m : Machine S V) (e : One S V) (call : ObjectCall V) → e.call ≡ call → m.holder ≡ None → IsSound staged m call
      → e.reply ≡ (step m call).1 → BeginsWith m.value e
  free_begins m e (Begin by) c h s r = (by, c, r)
  free_begins m e (Commit by job outcome value) c h s r = nobody_is m.holder by h s.0

  -- what comes on a value by one object comes by an alike one
  comes : (x m : Machine S V) (job : JobRecord) (outcome : Outcome) (value : Option V) → IsAlike x m
      → Comes staged m job m.value outcome value → Comes staged x job m.value outcome value
  comes x m job outcome value a s =
      subst (λ (z : S). CameOf (staged z x.interface job m.value) m.value outcome value) a.0
      (subst (λ (z : List ℕ). CameOf (staged m.staging z job m.value) m.value outcome value) a.1 s)

  -- where this caller holds the value, its Commit comes
  held_commits : (x m : Machine S V) (e : One S V) (by : ℕ) (call : ObjectCall V) → e.call ≡ call → IsAlike x m
      → is_ready (held_by by m) call ≡ true → IsSound staged (held_by by m) call → CommitsOn staged x by m.value e
  held_commits x m e by (Begin other) c a r s = one_is_nobody by r
  held_commits x m e by (Commit other job outcome value) c a r s = (
    job,
    outcome,
    value,
    c ∙ ap (λ (k : ℕ). Commit k job outcome value) (sym (same_Some by other s.0)),
    comes x m job outcome value a s.1,
  )

  -- an entry and the one after it
  abbrev AreTwo : Machine S V → One S V → One S V → ObjectCall V → Type 0
  AreTwo m e d call = (e.reply ≡ (step m call).1) × (is_ready (step m call).0 d.call ≡ true) × IsSound staged (step m call).0 d.call
      × (d.reply ≡ (step (step m call).0 d.call).1)

  two : (x : Machine S V) (before after : History S V) (e d : One S V) (call : ObjectCall V) → e.call ≡ call
      → IsLegal staged x (before ++ e ∷ d ∷ after) → AreTwo (replay x before) e d call
  two x before after e d call c l = let r = rest x before (e ∷ d ∷ after) l in
      subst (AreTwo (replay x before) e d) c (r.2, r.3.0, r.3.1, r.3.2)

  -- what follows a Begin is its caller's Commit
  pub own_commit : (x : Machine S V) (before after : History S V) (e d : One S V) (by : ℕ) (was : Option V)
      → IsLegal staged x (before ++ e ∷ d ∷ after) → e.call ≡ Begin by → e.reply ≡ Value was → CommitsOn staged x by was d
  own_commit x before after e d by was l c r = let t = two x before after e d (Begin by) c l in
      subst (λ (v : Option V). CommitsOn staged x by v d) (same_value (replay x before).value was (sym t.0 ∙ r))
      (held_commits x (replay x before) d by d.call refl (alike x x before (refl, refl)) t.1 t.2)

  -- what follows a Commit is a Begin, which is answered its value
  pub next_begins : (x : Machine S V) (before after : History S V) (e d : One S V) (value : Option V)
      → IsLegal staged x (before ++ e ∷ d ∷ after) → Commits value e → BeginsWith value d
  next_begins x before after e d value l c = let t = two x before after e d (Commit c.0 c.1 c.2 value) c.3 l in
      free_begins (storing value (replay x before)) d d.call refl refl t.2 t.3

  -- the first call is a Begin
  pub first_begins : (zero : S → List ℕ → Option V) (x : Machine S V) (e : One S V) (after : History S V) → Opens zero x
      → IsLegal staged x (e ∷ after) → BeginsWith (zero x.staging x.interface) e
  first_begins zero x e after o l = subst (λ (v : Option V). BeginsWith v e) o.first (free_begins x e e.call refl o.free l.1 l.2)

  comes_of : (x m : Machine S V) (call : ObjectCall V) → IsAlike x m → IsSound staged m call → ComesOf staged x m.value call
  comes_of x m (Begin by) a s = tt
  comes_of x m (Commit by job outcome value) a s = comes x m job outcome value a s.1

  come_along : (x m : Machine S V) (h : History S V) → IsAlike x m → IsLegal staged m h → ComeInTurn staged x m.value h
  come_along x m [] a l = tt
  come_along x m (e ∷ es) a l = (
    comes_of x m e.call a l.1,
    subst (λ (v : Option V). ComeInTurn staged x v es) (after_call m e.call)
        (come_along x (step m e.call).0 es (alike_call x m e.call a) l.3),
  )

  -- jobs come one after another
  pub come_in_turn : (zero : S → List ℕ → Option V) (x : Machine S V) (h : History S V) → Opens zero x → IsLegal staged x h
      → ComeInTurn staged x (zero x.staging x.interface) h
  come_in_turn zero x h o l = subst (λ (v : Option V). ComeInTurn staged x v h) o.first (come_along x x h (refl, refl) l)
