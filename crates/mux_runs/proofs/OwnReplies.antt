-- What came of a call, by the whole history.
use Rattle.std.proofs.Common.{◌≡◌, ℕ, Bool, true, false, ◌==◌, ◌+◌, List, [], ◌∷◌, ◌++◌, Option, Some, inl, inr, if◌then◌else◌, refl, ap, ◌∙◌, subst, eq-eqb}
use Rattle.std.proofs.lemmas.Bool.{or_left}
use Rattle.client_mux.specs.declared.heard_reply.HeardReply.{HeardReply}
use Rattle.client_mux.specs.declared.why.Why.{Why}
use Rattle.client_mux.specs.declared.call.MuxCall.{MuxCall}
use Rattle.client_mux.specs.declared.call.MuxCall.TheVariants.{Start, Cancel, Next, Arrived, Await, Lost, Left}
use Rattle.client_mux.specs.declared.call.MuxReply.TheVariants as reply
use Rattle.client_mux.specs.Machine.{Mux, One, History, Opens}
use Rattle.client_mux.specs.Callers.{of, owns}
use Rattle.client_mux.specs.Exchange.{IsLegal, loss_or, first_loss, reply_after_start}
use Rattle.client_mux.proofs.FirstReply.{own_reply, after_stays}
use Rattle.client_mux.proofs.Losses.{gone_is_first}
use Rattle.mux_sides.specs.Calling.{start_of, await_of, left_of, IsCall}
use Rattle.mux_sides.specs.declared.calling.CallEnd.{CallEnd}
use Rattle.mux_sides.specs.declared.calling.CallEnd.TheVariants as came
use Rattle.mux_runs.specs.Runs.{CallsIn, IsOwn, AreOwn}
use Rattle.mux_runs.specs.declared.jobs.Asking.{Asking}

-- an entry of a caller is one of the history
record At (h : History) (e : One) : Type 0 where
  before : History
  after : History
  parts : h ≡ before ++ e ∷ after

at_later : (d : One) (ds : History) (e : One) → At ds e → At (d ∷ ds) e
at_later d ds e a = record { before = d ∷ a.before; after = a.after; parts = ap (λ (z : History). d ∷ z) a.parts }

same_first : (d e : One) (xs ys : History) → ◌≡◌ {A = History} (d ∷ xs) (e ∷ ys) → d ≡ e
same_first d e xs ys q = cc

same_rest : (d e : One) (xs ys : History) → ◌≡◌ {A = History} (d ∷ xs) (e ∷ ys) → xs ≡ ys
same_rest d e xs ys q = cc

none_there : (xs ys : History) (e : One) → ◌≡◌ {A = History} [] (xs ++ e ∷ ys) → ⊥
none_there [] ys e q = absurd (cc)
none_there (x ∷ xs) ys e q = absurd (cc)

at_with : (n : ℕ) (d : One) (ds ys : History) (e : One) (b : Bool) (zs : History) → ((ws : History) → of n ds ≡ ws ++ e ∷ ys → At ds e)
    → ◌≡◌ {A = History} (if b then d ∷ of n ds else of n ds) (zs ++ e ∷ ys) → At (d ∷ ds) e
at_with n d ds ys e true [] f p = record { before = []; after = ds; parts = ap (λ (z : One). z ∷ ds) (same_first d e (of n ds) ys p) }
at_with n d ds ys e true (z ∷ zs) f p = at_later d ds e (f zs (same_rest d z (of n ds) (zs ++ e ∷ ys) p))
at_with n d ds ys e false zs f p = at_later d ds e (f zs p)

at_of : (n : ℕ) (h xs ys : History) (e : One) → of n h ≡ xs ++ e ∷ ys → At h e
at_of n [] xs ys e q = absurd (none_there xs ys e q)
at_of n (d ∷ ds) xs ys e q = at_with n d ds ys e (d.caller == n) xs (λ ws p. at_of n ds ws ys e p) q

-- the first loss stays the first
loss_by : (call : MuxCall) (o p : Option Why) (why : Why) → (o ≡ Some why → p ≡ Some why) → loss_or call o ≡ Some why → loss_or call p ≡ Some why
loss_by (Lost w) o p why f e = e
loss_by (Start by q) o p why f e = f e
loss_by (Cancel by id) o p why f e = f e
loss_by Next o p why f e = f e
loss_by (Arrived id r) o p why f e = f e
loss_by (Await by id) o p why f e = f e
loss_by (Left by) o p why f e = f e

loss_stays : (h more : History) (why : Why) → first_loss h ≡ Some why → first_loss (h ++ more) ≡ Some why
loss_stays [] more why e = absurd (cc)
loss_stays (d ∷ ds) more why e = loss_by d.call (first_loss ds) (first_loss (ds ++ more)) why (loss_stays ds more why) e

module _ (x : Mux) (h : History) (o : Opens x) (l : IsLegal x h) where
  got : (by id : ℕ) (r : HeardReply) → At h (await_of by id (reply.Reply r)) → reply_after_start id h ≡ Some r
  got by id r a =
      let e : One = await_of by id (reply.Reply r) in
      ap (reply_after_start id) a.parts
      ∙ after_stays id r a.before (e ∷ a.after) (own_reply x a.before a.after e by id r o (subst (IsLegal x) a.parts l) refl refl)

  gone : (e : One) (why : Why) → e.reply ≡ reply.Gone why → At h e → first_loss h ≡ Some why
  gone e why r a =
      ap first_loss a.parts ∙ loss_stays a.before (e ∷ a.after) why (gone_is_first x a.before a.after e why o (subst (IsLegal x) a.parts l) r)

  -- the entries of a caller, after which it left
  with_left : (n : ℕ) (entries all : History) → entries ≡ all → of n h ≡ entries ++ left_of n ∷ [] → of n h ≡ all ++ left_of n ∷ []
  with_left n entries all e are = are ∙ ap (λ (z : History). z ++ left_of n ∷ []) e

  own_end : (n : ℕ) (asking : Asking) (end : CallEnd) (entries : History) → IsCall n asking.request asking.due end entries → of n h ≡ entries ++ left_of n ∷ [] → IsOwn h n end
  own_end n asking (came.Reply r) entries c are =
      let id = c.1.0 in
      let start : One = start_of n asking.request (reply.Id id) in
      let wait : One = await_of n id (reply.Reply r) in
      let is : of n h ≡ start ∷ wait ∷ left_of n ∷ [] = with_left n entries (start ∷ wait ∷ []) c.1.1 are in (
        id,
        ap (owns id) is ∙ or_left (id == id) (owns id (wait ∷ left_of n ∷ [])) (eq-eqb id id refl),
        got n id r (at_of n h (start ∷ []) (left_of n ∷ []) wait is),
      )
  own_end n asking (came.Gone why) entries c are = elim c [
    | inl never ↦ gone (start_of n asking.request (reply.Gone why)) why refl
        (at_of n h [] (left_of n ∷ []) (start_of n asking.request (reply.Gone why)) (with_left n entries (start_of n asking.request (reply.Gone why) ∷ []) never are))
    | inr late ↦ gone (await_of n late.1.0 (reply.Gone why)) why refl
        (at_of n h (start_of n asking.request (reply.Id late.1.0) ∷ []) (left_of n ∷ []) (await_of n late.1.0 (reply.Gone why))
        (with_left n entries (start_of n asking.request (reply.Id late.1.0) ∷ await_of n late.1.0 (reply.Gone why) ∷ []) late.1.1 are))
  ]
  own_end n asking came.NoneDue entries c are = tt

  pub own_ends : (first : ℕ) (qs : List Asking) (es : List CallEnd) → CallsIn h first qs es → AreOwn h first es
  own_ends first [] [] c = tt
  own_ends first [] (e ∷ es) c = absurd c
  own_ends first (a ∷ qs) [] c = absurd c
  own_ends first (a ∷ qs) (e ∷ es) c = (own_end first a e c.0.entries c.0.is_call c.0.are, own_ends (first + 1) qs es c.1)
