-- Who was last answered the value holds it, and it is still that value.
use Rattle.std.proofs.Common.{◌≡◌, ℕ, true, List, [], ◌∷◌, ◌++◌, Option, Some, None, inl, inr, refl, sym, ap, subst, ◌∙◌}
use Rattle.std.specs.Prelude.{is_none}
use Rattle.std.proofs.lemmas.Bool.{cases_eq}
use Rattle.std.proofs.lemmas.Option.{same_Some}
use Rattle.orb_base.specs.JobRecord.{JobRecord}
use Rattle.orb_base.specs.declared.outcome.Outcome.{Outcome}
use Rattle.flat_seats.proofs.Along.{along}
use Rattle.flat_seats.proofs.OneTree.{flat_injects, flat_not_first}
use Rattle.flat_seats.proofs.Own.{of_mine, of_other}
use Rattle.turn_cell.specs.History.{of, replay, IsEnough}
use Rattle.turn_cell.specs.Numbers.{Injects, NotFirst}
use Rattle.object_cell.specs.declared.call.ObjectCall.{ObjectCall}
use Rattle.object_cell.specs.declared.call.ObjectCall.TheVariants.{Begin, Commit}
use Rattle.object_cell.specs.declared.call.ObjectReply.{ObjectReply}
use Rattle.object_cell.specs.declared.call.ObjectReply.TheVariants.{Value, Stored}
use Rattle.object_cell.specs.declared.limits.TheConstants.{MAX_SLOTS}
use Rattle.object_cell.specs.Machine.{CameOf, Machine, One, History, is_ready, held_by, storing, step, Opens, IsSound}
use Rattle.object_cell.specs.Callers.{heir, latest, IsFit}

pub one_parent_of : Injects heir
one_parent_of = flat_injects MAX_SLOTS

pub never_first_of : NotFirst heir
never_first_of = flat_not_first MAX_SLOTS

module _ {S V : Type 0} where
  pub latest_push : (o : Option (ObjectReply V)) (h : History S V) (e : One S V) → latest o (h ++ e ∷ []) ≡ Some e.reply
  latest_push o [] e = refl
  latest_push o (x ∷ xs) e = latest_push (Some x.reply) xs e

  -- the last reply of the caller of one more entry is its reply
  latest_mine : (h : History S V) (e : One S V) (n : ℕ) → e.caller ≡ n → latest None (of n (h ++ e ∷ [])) ≡ Some e.reply
  latest_mine h e n c = ap (latest None) (of_mine n h e c) ∙ latest_push None (of n h) e

  latest_other : (h : History S V) (e : One S V) (n : ℕ) → (e.caller ≡ n → ⊥) → latest None (of n (h ++ e ∷ [])) ≡ latest None (of n h)
  latest_other h e n d = ap (latest None) (of_other n h e d)

not_free : {A : Type 0} (o : Option ℕ) (n : ℕ) → is_none o ≡ true → o ≡ Some n → A
not_free o n r e = absurd (cc)

not_value : {A V : Type 0} (v : Option V) → ◌≡◌ {A = Option (ObjectReply V)} (Some Stored) (Some (Value v)) → A
not_value v e = absurd (cc)

is_value : {V : Type 0} (a b : Option V) → ◌≡◌ {A = Option (ObjectReply V)} (Some (Value a)) (Some (Value b)) → a ≡ b
is_value a b e = cc

none_yet : {A V : Type 0} (v : Option V) → ◌≡◌ {A = Option (ObjectReply V)} None (Some (Value v)) → A
none_yet v e = absurd (cc)

module _ {S V : Type 0} (staged : S → List ℕ → JobRecord → Option V → Outcome × Option V) (x : Machine S V) where
  -- after these entries: who was last answered the value holds it, and it is still that value; jobs are carried out as at the opening
  record Held (h : History S V) (m : Machine S V) : Type 0 where
    staging : m.staging ≡ x.staging
    interface : m.interface ≡ x.interface
    holds : (n : ℕ) (v : Option V) → latest None (of n h) ≡ Some (Value v) → (m.holder ≡ Some n) × (m.value ≡ v)

  held_begin : (h : History S V) (m : Machine S V) (e : One S V) (by : ℕ) → by ≡ e.caller → is_none m.holder ≡ true
      → e.reply ≡ Value m.value → Held h m → Held (h ++ e ∷ []) (held_by by m)
  held_begin h m e by c r p k = record {
    staging = k.staging;
    interface = k.interface;
    holds = λ n v l. elim (cases_eq e.caller n) [
      | inl same ↦ (ap Some (c ∙ same), is_value m.value v (ap Some (sym p) ∙ (sym (latest_mine h e n same) ∙ l)))
      | inr differs ↦ not_free m.holder n r (k.holds n v (sym (latest_other h e n differs) ∙ l)).0
    ];
  }

  held_commit : (h : History S V) (m : Machine S V) (e : One S V) (by : ℕ) (value : Option V) → by ≡ e.caller → m.holder ≡ Some by
      → e.reply ≡ Stored → Held h m → Held (h ++ e ∷ []) (storing value m)
  held_commit h m e by value c s p k = record {
    staging = k.staging;
    interface = k.interface;
    holds = λ n v l. elim (cases_eq e.caller n) [
      | inl same ↦ not_value v (ap Some (sym p) ∙ (sym (latest_mine h e n same) ∙ l))
      | inr differs ↦ (let w = k.holds n v (sym (latest_other h e n differs) ∙ l) in
          absurd (differs (sym c ∙ same_Some by n (sym s ∙ w.0))))
    ];
  }

  held_call : (h : History S V) (m : Machine S V) (e : One S V) (call : ObjectCall V) → Held h m → is_ready m call ≡ true
      → IsSound staged m call → e.reply ≡ (step m call).1 → IsFit staged x e.caller (of e.caller h) call
      → Held (h ++ e ∷ []) (step m call).0
  held_call h m e (Begin by) k r s p f = held_begin h m e by f.0 r p k
  held_call h m e (Commit by job outcome value) k r s p f = held_commit h m e by value f.0 s.0 p k

  held_step : (h : History S V) (m : Machine S V) (e : One S V) → Held h m → is_ready m e.call ≡ true → IsSound staged m e.call
      → e.reply ≡ (step m e.call).1 → IsFit staged x e.caller (of e.caller h) e.call → Held (h ++ e ∷ []) (step m e.call).0
  held_step h m e = held_call h m e e.call

  held_first : Held [] x
  held_first = record { staging = refl; interface = refl; holds = λ n v l. none_yet v l }

  sound_if_held : (h : History S V) (n : ℕ) (call : ObjectCall V) (m : Machine S V) → Held h m → IsFit staged x n (of n h) call
      → IsSound staged m call
  sound_if_held h n (Begin by) m k f = tt
  sound_if_held h n (Commit by job outcome value) m k f = let was = f.3.0 in let held = k.holds n was f.3.1 in (
    held.0 ∙ ap Some (sym f.0),
    subst (λ (s : S). CameOf (staged s m.interface job m.value) m.value outcome value) (sym k.staging)
        (subst (λ (i : List ℕ). CameOf (staged x.staging i job m.value) m.value outcome value) (sym k.interface)
        (subst (λ (v : Option V). CameOf (staged x.staging x.interface job v) v outcome value) (sym held.1) f.3.2)),
  )

-- a fit call is sound
pub enough : {S V : Type 0} (zero : S → List ℕ → Option V) (staged : S → List ℕ → JobRecord → Option V → Outcome × Option V)
    → IsEnough is_ready (IsSound staged) step (Opens zero) (IsFit staged)
enough zero staged x h n call opens legal fit f =
    let first = held_first staged x in
    let held = along is_ready (IsSound staged) step (IsFit staged) x (Held staged x) (held_step staged x) [] h x first legal fit in
    sound_if_held staged x h n call (replay step x h) held f
