-- The arguments and the results of an operation, one after another.
use Rattle.std.proofs.Common.{◌≡◌, ℕ, ◌<◌, ◌==◌, Bool, true, false, true≢false, IsTrue, List, [], ◌∷◌, ◌++◌, map, length, Option, Some, None, option_and_then, Result, Ok, Err, refl, sym, ap, ◌∙◌, arith}
use Rattle.std.specs.Prelude.{IfOk}
use Rattle.std.proofs.lemmas.Bool.{and_from, eqb-true}
use Rattle.std.proofs.lemmas.List.{append-nil}
use Rattle.orb_base.specs.Room.{Room}
use Rattle.serde_json.specs.Data.{Data, Items, no_items, item}
use Rattle.serde_json.specs.Find.{as_array}
use Rattle.serde_json.specs.Read.{read}
use Rattle.serde_json.specs.View.{view, items_of, items_view}
use Rattle.serde_json.specs.declared.value.Value.{Value}
use Rattle.cdr_values.specs.Fitting.{is_of}
use Rattle.cdr_values.specs.Kinds.{kind_of}
use Rattle.cdr_values.specs.Trees as trees
use Rattle.cdr_values.specs.Trees.{Kind}
use Rattle.cdr_values.specs.Values.{value_of, values_view}
use Rattle.cdr_values.specs.declared.value.IdlValue.{IdlValue}
use Rattle.idl_types.specs.Views.{param_of}
use Rattle.idl_types.specs.declared.param.Param.{Param}
use Rattle.value_json.specs.Gives.{Refuses, Gives}
use Rattle.value_json.specs.Meant.{meant, with_first}
use Rattle.value_json.specs.Operations.{goes_in, goes_out, kinds_in, kinds_back, are_of, meant_of_each, arguments_in, shown_of_each}
use Rattle.value_json.specs.Shown.{ahead, shown}
use Rattle.value_json.specs.declared.fault.JsonError.{JsonError}
use Rattle.value_json.specs.declared.fault.JsonError.TheVariants.{NotOfType, NoMemory}
use Rattle.value_json.proofs.Loops.{onto, regroup, ahead_push, ahead_none}
use Rattle.value_json.proofs.OfType.{same_some, from_first, from_then, never, means_of_type}

-- ---- what is read is of the types

each_are_of : (ks : List Kind) (ds : Items) (vs : List trees.Value) → meant_of_each ks ds ≡ Some vs → are_of ks vs ≡ true
unfolding meant_of_each
each_are_of [] no_items vs e = rw (← same_some [] vs e) refl
each_are_of [] (item d ds) vs e = never vs _ e
each_are_of (k ∷ ks) no_items vs e = never vs _ e
each_are_of (k ∷ ks) (item d ds) vs e =
    let p = from_first (meant k d) (meant_of_each ks ds) vs e in
    let here : are_of (k ∷ ks) (p.0 ∷ p.1) ≡ true = and_from (is_of p.0 k) (are_of ks p.1) (means_of_type k d p.0 p.2) (each_are_of ks ds p.1 p.3) in
    rw (← p.4) here

arguments_are_of : (ks : List Kind) (bytes : List ℕ) (vs : List trees.Value) → arguments_in ks bytes ≡ Some vs → are_of ks vs ≡ true
arguments_are_of ks bytes vs e =
    let p = from_then (meant_of_each ks) (option_and_then as_array (read bytes)) vs e in
    each_are_of ks p.0 vs p.2

pub gives_are_of : (ks : List Kind) (bytes : List ℕ) (r : Result (Room IdlValue) JsonError) → Gives (λ (l : Room IdlValue). values_view l.items) r (arguments_in ks bytes)
    → IfOk r (λ l. IsTrue (are_of ks (values_view l.items)))
gives_are_of ks bytes (Ok l) e = arguments_are_of ks bytes (values_view l.items) e
gives_are_of ks bytes (Err x) e = tt

-- ---- what is read, one parameter after another

-- what the parameters that are left ask of the items that are left
abbrev pub asked : List Param → List Value → Option (List trees.Value)
asked ps ds = meant_of_each (kinds_in (map param_of ps)) (items_view ds)

pub args_skip : (before : List trees.Value) (ps more : List Param) (p : Param) (ds : List Value) (total : Option (List trees.Value)) → ps ≡ p ∷ more → goes_in p.way ≡ false
    → onto before (asked ps ds) ≡ total → onto before (asked more ds) ≡ total
args_skip before ps more p ds total is out h = let here : onto before (asked ps ds) ≡ onto before (asked more ds) = rw (is, out) refl in sym here ∙ h

module _ (before : List trees.Value) (ps more : List Param) (p : Param) (ds later : List Value) (d : Value) (total : Option (List trees.Value)) (is : ps ≡ p ∷ more) (goes : goes_in p.way ≡ true)
    (it : ds ≡ d ∷ later) (so_far : onto before (asked ps ds) ≡ total) where
  first : onto before (asked ps ds) ≡ onto before (with_first (meant (kind_of p.kind) (view d)) (asked more later))
  unfolding meant_of_each
  first = rw (is, it, goes) refl

  pub args_on : (x : trees.Value) → meant (kind_of p.kind) (view d) ≡ Some x → onto (before ++ x ∷ []) (asked more later) ≡ total
  args_on x e =
      let step : onto before (asked ps ds) ≡ onto (before ++ x ∷ []) (asked more later) = first ∙ rw e (regroup before x (asked more later)) in
      sym step ∙ so_far

  pub args_fail : (e : JsonError) → Refuses e (meant (kind_of p.kind) (view d)) → Refuses e total
  args_fail NoMemory e = tt
  args_fail NotOfType e = let step : onto before (asked ps ds) ≡ None = first ∙ rw e refl in sym so_far ∙ step

pub args_few : (before : List trees.Value) (ps more : List Param) (p : Param) (ds : List Value) (total : Option (List trees.Value)) → ps ≡ p ∷ more → goes_in p.way ≡ true → ds ≡ []
    → onto before (asked ps ds) ≡ total → total ≡ None
unfolding meant_of_each
args_few before ps more p ds total is goes none h = let here : onto before (asked ps ds) ≡ None = rw (is, none, goes) refl in sym h ∙ here

pub args_done : (before : List trees.Value) (ps : List Param) (ds : List Value) (total : Option (List trees.Value)) → ps ≡ [] → ds ≡ []
    → onto before (asked ps ds) ≡ total → total ≡ Some before
unfolding meant_of_each
args_done before ps ds total none it h = let here : onto before (asked ps ds) ≡ Some before = rw (none, it) (ap Some (append-nil before)) in sym h ∙ here

pub args_many : (before : List trees.Value) (ps : List Param) (ds : List Value) (total : Option (List trees.Value)) → ps ≡ [] → (ds ≡ [] → ⊥)
    → onto before (asked ps ds) ≡ total → total ≡ None
unfolding meant_of_each
args_many before ps [] total none some h = absurd (some refl)
args_many before ps (d ∷ ds) total none some h = let here : onto before (asked ps (d ∷ ds)) ≡ None = rw none refl in sym h ∙ here

-- ---- what is shown, one parameter after another

-- the items of the values that are left, for the parameters that are left
abbrev pub coming : List Param → List IdlValue → Items
coming ps vs = shown_of_each (kinds_back (map param_of ps)) (values_view vs)

pub outs_skip : (before : List Data) (ps more : List Param) (p : Param) (vs : List IdlValue) (total : Items) → ps ≡ p ∷ more → goes_out p.way ≡ false
    → ahead before (coming ps vs) ≡ total → ahead before (coming more vs) ≡ total
outs_skip before ps more p vs total is out h = let here : ahead before (coming ps vs) ≡ ahead before (coming more vs) = rw (is, out) refl in sym here ∙ h

pub outs_on : (before : List Data) (ps more : List Param) (p : Param) (vs later : List IdlValue) (v : IdlValue) (d : Data) (total : Items) → ps ≡ p ∷ more → goes_out p.way ≡ true
    → vs ≡ v ∷ later → d ≡ shown (value_of v) (kind_of p.kind) → ahead before (coming ps vs) ≡ total → ahead (before ++ d ∷ []) (coming more later) ≡ total
unfolding shown_of_each
outs_on before ps more p vs later v d total is goes it e h =
    let here : ahead before (coming ps vs) ≡ ahead (before ++ d ∷ []) (coming more later) =
    rw (is, goes, it, e) (sym (ahead_push before (shown (value_of v) (kind_of p.kind)) (coming more later))) in
    sym here ∙ h

pub outs_few : (before : List Data) (ps more : List Param) (p : Param) (vs : List IdlValue) (total : Items) → ps ≡ p ∷ more → goes_out p.way ≡ true → vs ≡ []
    → ahead before (coming ps vs) ≡ total → items_of before ≡ total
unfolding shown_of_each
outs_few before ps more p vs total is goes none h =
    let here : ahead before (coming ps vs) ≡ items_of before = rw (is, goes, none) (ahead_none before) in
    sym here ∙ h

pub outs_done : (before : List Data) (ps : List Param) (vs : List IdlValue) (total : Items) → ps ≡ [] → ahead before (coming ps vs) ≡ total → items_of before ≡ total
unfolding shown_of_each
outs_done before ps vs total none h =
    let here : ahead before (coming ps vs) ≡ items_of before = rw none (ahead_none before) in
    sym here ∙ h

-- a list that a pattern or a test finds empty, or not
pub none_below : {A : Type 0} (xs : List A) → length xs < 1 → xs ≡ []
none_below [] few = refl
none_below (x ∷ xs) few = absurd (omega arith)

pub none_when : {A : Type 0} (xs : List A) (b : Bool) → b ≡ (length xs == 0) → b ≡ true → xs ≡ []
none_when [] b e t = refl
none_when (x ∷ xs) b e t = let zero : length (x ∷ xs) ≡ 0 = eqb-true (length (x ∷ xs)) 0 (sym e ∙ t) in absurd (omega (arith, zero))

pub some_when : {A : Type 0} (xs : List A) (b : Bool) → b ≡ (length xs == 0) → b ≡ false → xs ≡ [] → ⊥
some_when xs b e f none = true≢false (sym (ap (λ ys. length ys == 0) none) ∙ sym e ∙ f)

-- the result before what comes after it
pub result_shown : (k : Kind) (ks : List Kind) (vs later : List IdlValue) (v : IdlValue) (d : Value) (list none : List Value) → vs ≡ v ∷ later → view d ≡ shown (value_of v) k
    → none ≡ [] → list ≡ none ++ d ∷ [] → ahead (map view list) (shown_of_each ks (values_view later)) ≡ shown_of_each (k ∷ ks) (values_view vs)
unfolding shown_of_each
result_shown k ks vs later v d list none it e empty pushed = rw (it, pushed, empty, e) refl

pub nothing_shown : (k : Kind) (ks : List Kind) (vs : List IdlValue) (list : List Value) → vs ≡ [] → list ≡ [] → items_view list ≡ shown_of_each (k ∷ ks) (values_view vs)
unfolding shown_of_each
nothing_shown k ks vs list none empty = rw (none, empty) refl
