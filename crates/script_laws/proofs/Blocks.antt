-- A checked statement comes to its end without defaults.
use Rattle.std.proofs.Common.{◌≡◌, ◌<◌, ◌≤◌, ◌^◌, ℕ, suc, ◌+◌, ◌==◌, ◌&&◌, ◌||◌, nat_lt, Bool, true, false, List, [], ◌∷◌, ◌++◌, length, position, option_to_list, Option, Some, None, Ok, refl, sym, ap, ◌∙◌, subst, slice_get, slice_set, append-nil, append_assoc, length-append, arith}
use Rattle.std.proofs.lemmas.Bool.{eqb-true, and_right}
use Rattle.std.specs.Option.{option_map}
use Rattle.std.specs.Str.{bytes_eq}
use Rattle.std.proofs.lemmas.Option.{none-some, same_Some}
use Rattle.cdr_values.specs.Trees.{Name, Kind, Value, truth, items, values_of, members_of}
use Rattle.cdr_values.specs.Fitting.{is_of}
use Rattle.idl_types.specs.declared.type_ref.TypeRef.{TypeRef}
use Rattle.idl_types.specs.Things.{Thing, constant, named, exception, interface, ExceptionView}
use Rattle.idl_types.specs.References.{member_kind, kind_at}
use Rattle.servant_scripts.specs.declared.phrase.At.{At}
use Rattle.servant_scripts.specs.declared.phrase.Part.{Part}
use Rattle.servant_scripts.specs.Trees.{Scoped, Said, Fields, place_of, Say, say_let, say_set, say_if, say_leave, say_return, say_raise, Says, no_says, one_say}
use Rattle.script_names.specs.declared.meaning.Meaning.{Meaning}
use Rattle.script_names.specs.declared.meaning.Meaning.TheVariants as means
use Rattle.script_values.specs.Trees as run
use Rattle.script_values.specs.Trees.{Term, terms_of, Step, let_be, set, branch, leave, give, raise, Steps, steps_of}
use Rattle.script_values.specs.Operations as of
use Rattle.script_values.specs.Operations.{Comes}
use Rattle.script_values.specs.Evaluation.{value_at, filled, fit_in, blanks_of}
use Rattle.script_values.specs.Leaves.{sized}
use Rattle.script_values.specs.Running as values
use Rattle.script_values.specs.Running.{End, next, returned, gone, raised}
use Rattle.script_checks.specs.declared.fault.CheckCause.TheVariants as cause
use Rattle.script_checks.specs.Kinds.{truth_kind}
use Rattle.script_checks.specs.Scene.{Scene, Var, Typed, ◌>>=◌, or_refused, find_var}
use Rattle.script_checks.specs.Dues.{short, member_due}
use Rattle.script_checks.specs.Naming.{meaning_at, last_part, exception_in, exception_of, exception_named}
use Rattle.script_checks.specs.Built.{members_len, complete}
use Rattle.script_checks.specs.Checking.{typed, given, of_kind, fields}
use Rattle.script_checks.specs.Blocks.{Due, Done, most_lets, one_let, new_name, local, settable, set_place, raised_at, leaves_at, line, lines, ends_line, ends}
use Rattle.script_laws.specs.Defined.{◌and_then◌, there}
use Rattle.script_laws.specs.Evaluation.{defined_value, defined_fill, defined_fit, holes_of, whole}
use Rattle.script_laws.specs.Running.{DefinedRun, then_stored, then_end, one_of, behind, then_run, defined_one, defined_run}
use Rattle.script_laws.specs.Kinds.{HasKind, FitsDue, Stands}
use Rattle.script_laws.proofs.Good.{Good, bind, weaken, itself}
use Rattle.script_laws.proofs.Checks.{both, if_ok, or_ok, ok_is}
use Rattle.script_laws.proofs.Shapes.{is_truth, member_within, fits_kind}
use Rattle.script_laws.proofs.Holes.{shown, set_shows, put_is, set_long, get_within, fit_good, Fits, built_good}
use Rattle.script_laws.proofs.References.{field_ref}
use Rattle.script_laws.proofs.Scopes.{Found, variable_held, stands_new, stands_front, stands_set}
use Rattle.script_laws.proofs.Expressions.{Ground, typed_good, of_kind_good, given_good, fields_good, places_within}

-- how a run ended, and what the slots show then
abbrev pub shown_run : End × List (Option Value) → End × List Value
shown_run x = (x.0, shown x.1)

abbrev pub IsNext : End → Type 0
IsNext next = Unit {0}
IsNext (returned v) = ⊥
IsNext gone = ⊥
IsNext (raised n v) = ⊥

-- the members of an exception, each of its type
abbrev pub AreMembers : ExceptionView → Value → Type 0
AreMembers e v = (vs : List Value) × (v ≡ items (values_of vs)) × (length vs ≡ length e.members) × Fits (λ (i : ℕ). member_kind i (members_of e.members)) vs

-- an ending is one that the operation may have
abbrev pub MayEnd : List Thing → Due → End → Type 0
MayEnd ts d next = Unit {0}
MayEnd ts d (returned v) = (due : TypeRef) × (d.result ≡ Some due) × (k : Kind) × (kind_at ts due ≡ Some k) × (is_of v k ≡ true)
MayEnd ts d gone = d.result ≡ None
MayEnd ts d (raised n v) = (place : ℕ) × (e : ExceptionView) × (i : ℕ) × (slice_get ts place ≡ Some (exception e)) × (position (bytes_eq e.id) d.raises ≡ Some i) × (n ≡ short i) × AreMembers e v

-- what a run of a block leaves, which began with so many slots
pub record Ran (s : Scene) (d : Due) (vs : List Var) (all : Bool) (n : ℕ) (x : End × List (Option Value)) : Type 0 where
  pub long : length x.1 ≡ n
  pub stands : Stands s.things vs x.1
  pub on : IsNext x.0 → all ≡ false
  pub ending : MayEnd s.things d x.0

-- and of a statement, with the variable that it brings
pub record RanOne (s : Scene) (d : Due) (vs : List Var) (new : Option Var) (all : Bool) (n : ℕ) (x : End × List (Option Value)) : Type 0 where
  pub ran : Ran s d vs all n x
  pub brings : IsNext x.0 → Stands s.things (vs ++ option_to_list new) x.1

-- ---- parts

stored_good : (Q : End × List (Option Value) → Type 0) (os : List (Option Value)) (n : ℕ) (v : Value) → n < length os → Q (next, slice_set os n (Some v))
    → Good shown_run Q (then_stored os n v) (values.then_put (shown os) n v)
stored_good Q os n v near h =
    subst (λ (o : Option (List (Option Value))). Good shown_run Q (there (option_map (λ ps. (next, ps)) o)) (Ok (next, slice_set (shown os) n v))) (sym (put_is os n v near))
    (ap (λ (ws : List Value). Ok (next, ws)) (sym (set_shows os n v)), h)

due_placed : (n : ℕ) (o : Option TypeRef) (v : ℕ × TypeRef) → option_map (λ (due : TypeRef). (n, due)) o ≡ Some v → (o ≡ Some v.1) × (n ≡ v.0)
due_placed n (Some due) v h = let g : (n, due) ≡ v = same_Some (n, due) v h in (ap (λ (x : ℕ × TypeRef). Some x.1) g, ap (λ (x : ℕ × TypeRef). x.0) g)
due_placed n None v h = absurd (none-some v h)

settable_is : (at : At) (r : Found) (v : ℕ × TypeRef) → settable at r ≡ Ok v → (r.2 ≡ Some v.1) × (r.0 ≡ v.0)
settable_is at r v e = due_placed r.0 r.2 v (or_ok cause.NotSettable at (option_map (λ (due : TypeRef). (r.0, due)) r.2) v e)

exception_placed : (i : ℕ) (o : Option Thing) (e : ℕ × ExceptionView) → exception_in i o ≡ Some e → (i ≡ e.0) × (o ≡ Some (exception e.1))
exception_placed i (Some (exception x)) e h = let g : (i, x) ≡ e = same_Some (i, x) e h in (ap (λ (y : ℕ × ExceptionView). y.0) g, ap (λ (y : ℕ × ExceptionView). Some (exception y.1)) g)
exception_placed i (Some (constant x)) e h = absurd (none-some e h)
exception_placed i (Some (named x)) e h = absurd (none-some e h)
exception_placed i (Some (interface x)) e h = absurd (none-some e h)
exception_placed i None e h = absurd (none-some e h)

exception_meant : (ts : List Thing) (m : Meaning) (e : ℕ × ExceptionView) → exception_of ts m ≡ Some e → slice_get ts e.0 ≡ Some (exception e.1)
exception_meant ts (means.Thing i) e h = let g = exception_placed i (slice_get ts i) e h in ap (slice_get ts) (sym g.0) ∙ g.1
exception_meant ts (means.Enumerator i n) e h = absurd (none-some e h)
exception_meant ts means.Other e h = absurd (none-some e h)

exception_at : (s : Scene) (n : Scoped) (e : ℕ × ExceptionView) → exception_named s n ≡ Ok e → slice_get s.things e.0 ≡ Some (exception e.1)
exception_at s n e h =
    let q = both (meaning_at s n) (λ (m : Meaning). or_refused cause.Kind (last_part n) (exception_of s.things m)) e h in
    exception_meant s.things q.0 e (or_ok cause.Kind (last_part n) (exception_of s.things q.0) e q.2)

pub members_count : (ms : List (Name × Kind)) → members_len (members_of ms) ≡ length ms
members_count [] = refl
members_count (m ∷ ms) = ap suc (members_count ms)

leaves_is : (at : At) (o : Option TypeRef) (t : Step) → leaves_at at o ≡ Ok t → (o ≡ None) × (leave ≡ t)
leaves_is at None t e = (refl, ok_is leave t e)
leaves_is at (Some due) t e = absurd cc

-- what is built, as a run has it
abbrev built : ℕ → List Value → run.Terms → Comes Value
built p slots es = of.◌>>=◌ (filled p slots es (blanks_of es)) (λ (vs : List Value). sized (items (values_of vs)))

-- ---- statements

module _ (s : Scene) (g : Ground s) (d : Due) (p : ℕ) (base : ℕ) where
  -- a statement leaves no fewer `let` than it has, and comes to its end
  abbrev LineOk : List Var → ℕ → Bool → Done → Type 0
  LineOk vs lets all done =
      (length (option_to_list done.1) + lets ≤ done.2)
      × ((os : List (Option Value)) → base + done.2 ≤ length os → Stands s.things vs os
      → Good shown_run (RanOne s d vs done.1 all (length os)) (defined_one p done.0 os) (values.run_one p done.0 (shown os)))

  -- and so do statements
  abbrev LinesOk : List Var → ℕ → Bool → List Step → List Step × ℕ → Type 0
  LinesOk vs lets all sofar out =
      (new : List Step) × (out.0 ≡ sofar ++ new) × (lets ≤ out.1)
      × ((os : List (Option Value)) → base + out.1 ≤ length os → Stands s.things vs os
      → Good shown_run (Ran s d vs all (length os)) (defined_run p (steps_of new) os) (values.run p (steps_of new) (shown os)))

  -- what ends, brings nothing
  ended : (vs : List Var) (all : Bool) (n : ℕ) (x : End × List (Option Value)) → Ran s d vs all n x → RanOne s d vs None all n x
  ended vs all n x h = record { ran = h; brings = λ i. subst (λ (ws : List Var). Stands s.things ws x.1) (sym (append-nil vs)) h.stands }

  let_good : (vs : List Var) (lets n : ℕ) (x : Typed) (name : Name) (e : Said) → lets + 1 ≡ n → typed s vs None e ≡ Ok x → length vs ≤ base + lets
      → LineOk vs lets false (let_be (length vs) x.0, Some (local name x), n)
  unfolding defined_one values.run_one
  let_good vs lets n x name e count is room = (
    (let c = count in omega (arith, c)),
    λ os few st.
        let near : length vs < length os = omega (arith, room, few, count) in
        bind itself (HasKind x.1) shown_run (RanOne s d vs (Some (local name x)) false (length os)) (defined_value p os x.0) (value_at p (shown os) x.0) (then_stored os (length vs)) (values.then_put (shown os) (length vs))
        (typed_good s g p vs os st None e x is)
        (λ v k. let whole : Stands s.things (vs ++ local name x ∷ []) (slice_set os (length vs) (Some v)) = stands_new s.things vs (local name x) os v st near k tt in
        stored_good (RanOne s d vs (Some (local name x)) false (length os)) os (length vs) v near
        (record {
          ran = record { long = set_long os (length vs) (Some v); stands = stands_front s.things vs (local name x ∷ []) (slice_set os (length vs) (Some v)) whole; on = λ i. refl; ending = tt };
          brings = λ i. whole;
        })),
  )

  set_good : (vs : List Var) (lets : ℕ) (q : Part) (r : Found) (v : ℕ × TypeRef) (e : Said) (t : Term) → find_var 0 vs q.name ≡ Some r → (r.2 ≡ Some v.1) × (r.0 ≡ v.0) → given s vs v.1 e ≡ Ok t
      → LineOk vs lets false (set v.0 (kind_at s.things v.1) t, None, lets)
  unfolding defined_one values.run_one
  set_good vs lets q r v e t found is good = (
    omega arith,
    λ os few st.
        let held = variable_held s.things 0 vs q.name r os found st in
        let due : (kind_at s.things v.1 ≡ Some r.1) × (is_of held.2 r.1 ≡ true) = subst (λ (o : Option TypeRef). FitsDue s.things r.1 o held.2) is.0 held.5 in
        let value = given_good s g p vs os st v.1 e t good in
        let into = stands_set s.things 0 vs q.name r os found st in
        let place : into.0 ≡ v.0 = (let i = into.1 in let j : into.0 ≡ r.0 = omega (arith, i) in j) ∙ is.1 in
        let near : v.0 < length os = subst (λ (n : ℕ). n < length os) place into.2 in
        bind itself (λ (w : Value). is_of w r.1 ≡ true) shown_run (RanOne s d vs None false (length os)) (defined_value p os t and_then defined_fit (kind_at s.things v.1)) (fit_in (kind_at s.things v.1) (value_at p (shown os) t))
        (then_stored os v.0) (values.then_put (shown os) v.0)
        (fit_good (λ (w : Value). Unit {0}) (kind_at s.things v.1) r.1 (defined_value p os t) (value_at p (shown os) t) due.0 value.2)
        (λ w fits. stored_good (RanOne s d vs None false (length os)) os v.0 w near
        (ended vs false (length os) (next, slice_set os v.0 (Some w)) (record {
          long = set_long os v.0 (Some w);
          stands = subst (λ (n : ℕ). Stands s.things vs (slice_set os n (Some w))) place
              (into.3 w (fits_kind w r.1 fits) (subst (λ (o : Option TypeRef). FitsDue s.things r.1 o w) (sym is.0) (due.0, fits)));
          on = λ i. refl;
          ending = tt;
        }))),
  )

  return_good : (vs : List Var) (lets : ℕ) (due : TypeRef) (e : Said) (t : Term) → d.result ≡ Some due → given s vs due e ≡ Ok t → LineOk vs lets true (give (kind_at s.things due) t, None, lets)
  unfolding defined_one values.run_one
  return_good vs lets due e t is good = (
    omega arith,
    λ os few st.
        let value = given_good s g p vs os st due e t good in
        bind itself (λ (w : Value). is_of w value.0 ≡ true) shown_run (RanOne s d vs None true (length os)) (defined_value p os t and_then defined_fit (kind_at s.things due)) (fit_in (kind_at s.things due) (value_at p (shown os) t))
        (then_end returned os) (values.then_end returned (shown os))
        (fit_good (λ (w : Value). Unit {0}) (kind_at s.things due) value.0 (defined_value p os t) (value_at p (shown os) t) value.1 value.2)
        (λ w fits. (refl, ended vs true (length os) (returned w, os) (record { long = refl; stands = st; on = λ i. absurd i; ending = (due, is, value.0, value.1, fits) }))),
  )

  leave_good : (vs : List Var) (lets : ℕ) → d.result ≡ None → LineOk vs lets true (leave, None, lets)
  unfolding defined_one values.run_one
  leave_good vs lets is = (omega arith, λ os few st. (refl, ended vs true (length os) (gone, os) (record { long = refl; stands = st; on = λ i. absurd i; ending = is })))

  raise_good : (vs : List Var) (lets i : ℕ) (e : ℕ × ExceptionView) (fs : Fields) (ps : List run.Part) → slice_get s.things e.0 ≡ Some (exception e.1) → position (bytes_eq e.1.id) d.raises ≡ Some i
      → fields s vs e.0 (members_of e.1.members) fs [] ≡ Ok ps → length ps ≡ members_len (members_of e.1.members) → LineOk vs lets true (raise (short i) (terms_of ps), None, lets)
  unfolding defined_one values.run_one
  raise_good vs lets i e fs ps at listed good count = (
    omega arith,
    λ os few st.
        let ms = members_of e.1.members in
        let near : e.0 < 2 ^ 32 = (let a = get_within s.things e.0 (exception e.1) at in let b = g.sound.places in omega (arith, a, b)) in
        let most : length e.1.members ≤ 2 ^ 32 = g.sound.fields e.0 e.1 at in
        let long : members_len ms ≡ length e.1.members = members_count e.1.members in
        let refs : (j : ℕ) (k : Kind) → member_kind j ms ≡ Some k → kind_at s.things (member_due e.0 j) ≡ member_kind j ms = λ j k is.
        let within = member_within ms j k is in field_ref s.things e.0 j e.1 at near (omega (arith, within, long, most)) in
        let parts = fields_good s g p vs os st e.0 ms fs [] ps refs good tt tt in
        bind itself (AreMembers e.1) shown_run (RanOne s d vs None true (length os)) (defined_fill p os (terms_of ps) (holes_of (terms_of ps)) and_then whole)
        (built p (shown os) (terms_of ps)) (then_end (raised (short i)) os) (values.then_end (raised (short i)) (shown os))
        (built_good (λ (j : ℕ). member_kind j ms) (AreMembers e.1) p os ps parts.0 parts.1 (places_within s g p vs os st ms ps parts.0 count)
        (λ ws n fits. (ws, refl, n ∙ count ∙ long, fits)))
        (λ w are. (refl, ended vs true (length os) (raised (short i) w, os) (record { long = refl; stands = st; on = λ j. absurd j; ending = (e.0, e.1, i, at, listed, refl, are) }))),
  )

  -- a statement came to this, and what follows comes to its end
  after_line : (vs : List Var) (new : Option Var) (one more : Bool) (n : ℕ) (ss : Steps) (x : End) (os : List (Option Value)) → RanOne s d vs new one n (x, os)
      → (Stands s.things (vs ++ option_to_list new) os → Good shown_run (Ran s d (vs ++ option_to_list new) more (length os)) (defined_run p ss os) (values.run p ss (shown os)))
      → Good shown_run (Ran s d vs (one || more) n) (behind x (defined_run p ss os) os) (values.behind x (values.run p ss (shown os)) (shown os))
  after_line vs new one more n ss next os h f = weaken shown_run (Ran s d (vs ++ option_to_list new) more (length os)) (Ran s d vs (one || more) n) (defined_run p ss os) (values.run p ss (shown os)) (f (h.brings tt))
      (λ y r. record {
        long = r.long ∙ h.ran.long;
        stands = stands_front s.things vs (option_to_list new) y.1 r.stands;
        on = λ i. rw (h.ran.on tt) (r.on i);
        ending = r.ending;
      })
  after_line vs new one more n ss (returned v) os h f = (refl, record { long = h.ran.long; stands = h.ran.stands; on = λ i. absurd i; ending = h.ran.ending })
  after_line vs new one more n ss gone os h f = (refl, record { long = h.ran.long; stands = h.ran.stands; on = λ i. absurd i; ending = h.ran.ending })
  after_line vs new one more n ss (raised m v) os h f = (refl, record { long = h.ran.long; stands = h.ran.stands; on = λ i. absurd i; ending = h.ran.ending })

  -- one of two blocks is run
  either_good : (b : Bool) (vs : List Var) (one other : Bool) (os : List (Option Value)) (x y : DefinedRun) (u w : values.Ran)
      → Good shown_run (Ran s d vs one (length os)) x u → Good shown_run (Ran s d vs other (length os)) y w
      → Good shown_run (RanOne s d vs None (one && other) (length os)) (one_of x y (truth b)) (values.one_of u w (truth b))
  either_good true vs one other os x y u w h i = weaken shown_run (Ran s d vs one (length os)) (RanOne s d vs None (one && other) (length os)) x u h
      (λ z r. ended vs (one && other) (length os) z (record { long = r.long; stands = r.stands; on = λ j. rw (r.on j) refl; ending = r.ending }))
  either_good false vs one other os x y u w h i = weaken shown_run (Ran s d vs other (length os)) (RanOne s d vs None (one && other) (length os)) y w i
      (λ z r. ended vs (one && other) (length os) z (record { long = r.long; stands = r.stands; on = λ j. and_right one other (r.on j); ending = r.ending }))

  if_good : (vs : List Var) (lets : ℕ) (c : Said) (t : Term) (one other : Bool) (x y : List Step × ℕ) → of_kind s vs truth_kind c ≡ Ok t
      → LinesOk vs lets one [] x → LinesOk vs x.1 other [] y → LineOk vs lets (one && other) (branch t (steps_of x.0) (steps_of y.0), None, y.1)
  unfolding defined_one values.run_one
  if_good vs lets c t one other x y is a b = (
    (let l = a.2 in let m = b.2 in omega (arith, l, m)),
    λ os few st.
        let more : x.1 ≤ y.1 = b.2 in
        let first : Good shown_run (Ran s d vs one (length os)) (defined_run p (steps_of x.0) os) (values.run p (steps_of x.0) (shown os)) =
        subst (λ (l : List Step). Good shown_run (Ran s d vs one (length os)) (defined_run p (steps_of l) os) (values.run p (steps_of l) (shown os))) (sym a.1) (a.3 os (omega (arith, few, more)) st) in
        let second : Good shown_run (Ran s d vs other (length os)) (defined_run p (steps_of y.0) os) (values.run p (steps_of y.0) (shown os)) =
        subst (λ (l : List Step). Good shown_run (Ran s d vs other (length os)) (defined_run p (steps_of l) os) (values.run p (steps_of l) (shown os))) (sym b.1) (b.3 os few st) in
        let asked = of_kind_good s g p vs os st truth_kind c t is in
        let A = one_of (defined_run p (steps_of x.0) os) (defined_run p (steps_of y.0) os) in
        let B = values.one_of (values.run p (steps_of x.0) (shown os)) (values.run p (steps_of y.0) (shown os)) in
        bind itself (HasKind asked.0) shown_run (RanOne s d vs None (one && other) (length os)) (defined_value p os t) (value_at p (shown os) t) A B asked.2
        (λ v k. let z = is_truth asked.0 v asked.1 k in
        subst (λ (w : Value). Good shown_run (RanOne s d vs None (one && other) (length os)) (A w) (B w)) (sym z.1)
        (either_good z.0 vs one other os (defined_run p (steps_of x.0) os) (defined_run p (steps_of y.0) os) (values.run p (steps_of x.0) (shown os)) (values.run p (steps_of y.0) (shown os)) first second)),
  )

  mutual
    unfolding line lines defined_one defined_run values.run_one values.run

    line_good : (vs : List Var) (lets : ℕ) (l : Say) (done : Done) → line s d vs lets l ≡ Ok done → length vs ≤ base + lets → LineOk vs lets (ends_line l) done
    line_good vs lets (say_let at q e) done h room =
        let a = both (one_let at lets) (λ (n : ℕ). new_name vs q >>= λ (name : Name). typed s vs None e >>= λ (x : Typed). Ok (let_be (length vs) x.0, Some (local name x), n)) done h in
        let b = both (new_name vs q) (λ (name : Name). typed s vs None e >>= λ (x : Typed). Ok (let_be (length vs) x.0, Some (local name x), a.0)) done a.2 in
        let c = both (typed s vs None e) (λ (x : Typed). Ok (let_be (length vs) x.0, Some (local b.0 x), a.0)) done b.2 in
        let count = if_ok (nat_lt lets most_lets) cause.TooManyLets at (lets + 1) a.0 a.1 in
        subst (LineOk vs lets false) (ok_is (let_be (length vs) c.0.0, Some (local b.0 c.0), a.0) done c.2) (let_good vs lets a.0 c.0 b.0 e count.1 c.1 room)
    line_good vs lets (say_set q e) done h room =
        let a = both (set_place vs q) (λ (v : ℕ × TypeRef). given s vs v.1 e >>= λ (t : Term). Ok (set v.0 (kind_at s.things v.1) t, None, lets)) done h in
        let b = both (or_refused cause.UnknownName q.at (find_var 0 vs q.name)) (settable q.at) a.0 a.1 in
        let c = both (given s vs a.0.1 e) (λ (t : Term). Ok (set a.0.0 (kind_at s.things a.0.1) t, None, lets)) done a.2 in
        subst (LineOk vs lets false) (ok_is (set a.0.0 (kind_at s.things a.0.1) c.0, None, lets) done c.2)
        (set_good vs lets q b.0 a.0 e c.0 (or_ok cause.UnknownName q.at (find_var 0 vs q.name) b.0 b.1) (settable_is q.at b.0 a.0 b.2) c.1)
    line_good vs lets (say_if c a b) done h room =
        let q = both (of_kind s vs truth_kind c) (λ (t : Term). lines s d vs lets a [] >>= λ (x : List Step × ℕ). lines s d vs x.1 b [] >>= λ (y : List Step × ℕ). Ok (branch t (steps_of x.0) (steps_of y.0), None, y.1)) done h in
        let x = both (lines s d vs lets a []) (λ (x : List Step × ℕ). lines s d vs x.1 b [] >>= λ (y : List Step × ℕ). Ok (branch q.0 (steps_of x.0) (steps_of y.0), None, y.1)) done q.2 in
        let y = both (lines s d vs x.0.1 b []) (λ (y : List Step × ℕ). Ok (branch q.0 (steps_of x.0.0) (steps_of y.0), None, y.1)) done x.2 in
        let one = lines_good vs lets a [] x.0 x.1 room in
        let other = lines_good vs x.0.1 b [] y.0 y.1 (let l = one.2 in omega (arith, l, room)) in
        subst (LineOk vs lets (ends a && ends b)) (ok_is (branch q.0 (steps_of x.0.0) (steps_of y.0.0), None, y.0.1) done y.2) (if_good vs lets c q.0 (ends a) (ends b) x.0 y.0 q.1 one other)
    line_good vs lets (say_leave at) done h room =
        let a = both (leaves_at at d.result) (λ (t : Step). Ok (t, None, lets)) done h in
        let b = leaves_is at d.result a.0 a.1 in
        subst (LineOk vs lets true) (ok_is (a.0, None, lets) done a.2) (subst (λ (t : Step). LineOk vs lets true (t, None, lets)) b.1 (leave_good vs lets b.0))
    line_good vs lets (say_return at e) done h room =
        let a = both (or_refused cause.Kind (place_of e) d.result) (λ (due : TypeRef). given s vs due e >>= λ (t : Term). Ok (give (kind_at s.things due) t, None, lets)) done h in
        let b = both (given s vs a.0 e) (λ (t : Term). Ok (give (kind_at s.things a.0) t, None, lets)) done a.2 in
        subst (LineOk vs lets true) (ok_is (give (kind_at s.things a.0) b.0, None, lets) done b.2) (return_good vs lets a.0 e b.0 (or_ok cause.Kind (place_of e) d.result a.0 a.1) b.1)
    line_good vs lets (say_raise n fs close) done h room =
        let a = both (exception_named s n) (λ (e : ℕ × ExceptionView). raised_at d.raises n e.1 >>= λ (i : ℕ). fields s vs e.0 (members_of e.1.members) fs [] >>= complete (members_of e.1.members) close >>= λ (ps : List run.Part). Ok (raise (short i) (terms_of ps), None, lets)) done h in
        let b = both (raised_at d.raises n a.0.1) (λ (i : ℕ). fields s vs a.0.0 (members_of a.0.1.members) fs [] >>= complete (members_of a.0.1.members) close >>= λ (ps : List run.Part). Ok (raise (short i) (terms_of ps), None, lets)) done a.2 in
        let c = both (fields s vs a.0.0 (members_of a.0.1.members) fs [] >>= complete (members_of a.0.1.members) close) (λ (ps : List run.Part). Ok (raise (short b.0) (terms_of ps), None, lets)) done b.2 in
        let f = both (fields s vs a.0.0 (members_of a.0.1.members) fs []) (complete (members_of a.0.1.members) close) c.0 c.1 in
        let k = if_ok (length f.0 == members_len (members_of a.0.1.members)) cause.Members close f.0 c.0 f.2 in
        let count : length f.0 ≡ members_len (members_of a.0.1.members) = eqb-true (length f.0) (members_len (members_of a.0.1.members)) k.0 in
        subst (LineOk vs lets true) (ok_is (raise (short b.0) (terms_of c.0), None, lets) done c.2)
        (subst (λ (ps : List run.Part). LineOk vs lets true (raise (short b.0) (terms_of ps), None, lets)) k.1
        (raise_good vs lets b.0 a.0 fs f.0 (exception_at s n a.0 a.1) (or_ok cause.NotRaised (last_part n) (position (bytes_eq a.0.1.id) d.raises) b.0 b.1) f.1 count))

    pub lines_good : (vs : List Var) (lets : ℕ) (ls : Says) (sofar : List Step) (out : List Step × ℕ) → lines s d vs lets ls sofar ≡ Ok out → length vs ≤ base + lets → LinesOk vs lets (ends ls) sofar out
    lines_good vs lets no_says sofar out h room =
        subst (LinesOk vs lets false sofar) (ok_is (sofar, lets) out h)
        ([], sym (append-nil sofar), omega arith, λ os few st. (refl, record { long = refl; stands = st; on = λ i. refl; ending = tt }))
    lines_good vs lets (one_say l ls) sofar out h room =
        let a = both (line s d vs lets l) (λ (x : Done). lines s d (vs ++ option_to_list x.1) x.2 ls (sofar ++ x.0 ∷ [])) out h in
        let one = line_good vs lets l a.0 a.1 room in
        let vars = vs ++ option_to_list a.0.1 in
        let long : length vars ≡ length vs + length (option_to_list a.0.1) = length-append vs (option_to_list a.0.1) in
        let grown = one.0 in
        let rest = lines_good vars a.0.2 ls (sofar ++ a.0.0 ∷ []) out a.2 (omega (arith, long, grown, room)) in
        let more : a.0.2 ≤ out.1 = rest.2 in (
          a.0.0 ∷ rest.0,
          rest.1 ∙ append_assoc sofar (a.0.0 ∷ []) rest.0,
          omega (arith, more, grown),
          λ os few st.
              bind shown_run (RanOne s d vs a.0.1 (ends_line l) (length os)) shown_run (Ran s d vs (ends_line l || ends ls) (length os))
              (defined_one p a.0.0 os) (values.run_one p a.0.0 (shown os)) (then_run (defined_run p (steps_of rest.0))) (values.then_run (values.run p (steps_of rest.0)))
              (one.1 os (omega (arith, few, more)) st)
              (λ x r. after_line vs a.0.1 (ends_line l) (ends ls) (length os) (steps_of rest.0) x.0 x.1 r
              (λ now. rest.3 x.1 (let same = r.ran.long in omega (arith, same, few)) now)),
        )
