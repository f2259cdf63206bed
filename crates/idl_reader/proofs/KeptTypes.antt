-- What is so of the types of a text, where each way to form one keeps it, and each body that ends gives it.
use Rattle.std.proofs.Common.{◌≡◌, inl, inr, ℕ, pos, negsuc, ◌+◌, ◌-◌, ◌≤◌, arith, Bool, true, false, not, ◌&&◌, List, [], ◌∷◌, ◌++◌, reverse, length, set, Option, Some, None, Result, Ok, Err, refl, sym, ap, subst, ◌∙◌}
use Rattle.std.specs.Prelude.{◌==◌, nat_lt, int_le, slice_get}
use Rattle.std.specs.List.{list_any}
use Rattle.std.proofs.lemmas.Bool.{and_parts, or_from, or_parts, cond_both, leb-true, ne_eqb}
use Rattle.std.proofs.lemmas.List.Folds.{list_any-append}
use Rattle.std.proofs.lemmas.List.Sorted.{IsPermutation-sym, IsPermutation-reverse, list_any-IsPermutation}
use Rattle.std.proofs.lemmas.Option.{none-some}
use Rattle.grammar.specs.Language.{Placed}
use Rattle.grammar.specs.Reading.{◌>>=◌}
use Rattle.cdr_values.specs.Trees as trees
use Rattle.cdr_values.specs.Trees.{scalar, structure, union, enumeration, words, members_of, cases_of, Branch}
use Rattle.idl_tokens.specs.declared.kind.Kind.{Kind}
use Rattle.idl_grammar.specs.declared.fault.IdlFault.{IdlFault}
use Rattle.idl_grammar.specs.declared.fault.IdlCause.{IdlCause}
use Rattle.idl_grammar.specs.declared.fault.IdlCause.TheVariants as cause
use Rattle.idl_grammar.specs.declared.label.Basic.{Basic}
use Rattle.idl_grammar.specs.declared.label.Basic.TheVariants as basic
use Rattle.idl_grammar.specs.declared.label.IdlLabel.{IdlLabel}
use Rattle.idl_grammar.specs.declared.label.IdlLabel.TheVariants as l
use Rattle.idl_scopes.specs.declared.place.Place.{Place}
use Rattle.idl_scopes.specs.Table.{Sort, module_}
use Rattle.idl_scopes.specs.Table as table
use Rattle.idl_scopes.specs.Finding.{outer, module_in}
use Rattle.idl_scopes.specs.Taking.{is_taken, is_taken_part}
use Rattle.idl_constants.specs.ConstValues.{Value, number, character, text, truth, choice, label_of}
use Rattle.idl_constants.specs.Fitting.{Fit, fit, fit_number}
use Rattle.idl_constants.specs.declared.misfit.Misfit.TheVariants as misfit
use Rattle.idl_types.specs.Things.{OperationView, ParamView}
use Rattle.idl_names.specs.Sizes.{Sized, plus, leaf, array_of, arrays_of, basic_kind}
use Rattle.idl_names.specs.State.{Thing, nothing, interface, type, exception, constant, enumerator, operations, Parts, no_parts, Valued, Built, nothing_built}
use Rattle.idl_names.specs.Changes.{Done, place_of, refused, unless, newest, opened, thing_in, thing_at, place_at, name_at, with_name, declare_in, declare, entered, enter, become, leave, ended, ends, counted, measured}
use Rattle.idl_names.specs.ScopedNames as names
use Rattle.idl_names.specs.Values as values
use Rattle.idl_names.specs.Bodies as bodies
use Rattle.idl_names.specs.Interfaces as interfaces
use Rattle.idl_names.specs.Labels.{act, judge}
use Rattle.idl_reader.proofs.Steps.{Gives, gives_ok, gives_err, gives_then, gives_unless}
use Rattle.idl_reader.proofs.Tables.{get_behind}
use Rattle.idl_reader.proofs.ThingLists.{get_set}

-- the types of what was read
abbrev types_of : Parts → List (List ℕ × trees.Kind) × List Branch × trees.Kind × Option trees.Kind × List ParamView
types_of p = (p.members, p.cases, p.discriminator, p.result, p.params)

-- no length of an array is 0
abbrev pub AreLengths : List ℕ → Type 0
AreLengths ns = list_any (λ n. n == 0) ns ≡ false

-- a size isn't 0
size_some : (v : Valued) (x : Value) → v.value ≡ x → (n : ℕ) → values.size_so (fit_number (pos 1) (pos 65536) x) v ≡ Ok n → (n == 0) ≡ false
size_some v (number (pos m)) is n e =
    cond_both (int_le (pos 1) (pos m) && int_le (pos m) (pos 65536)) (Ok tt) (Err misfit.OutOfRange) (λ (f : Fit). values.size_so f v ≡ Ok n → (n == 0) ≡ false)
    (λ c q.
    let p = and_parts (int_le (pos 1) (pos m)) (int_le (pos m) (pos 65536)) c in
    let low : 1 ≤ m = leb-true 1 m p.0 in
    let same : m ≡ n = ok_value m n (sym (ap (λ (y : Value). size_told (values.natural (label_of y))) is) ∙ q) in
    ne_eqb n 0 (λ z. omega arith))
    (λ c q. absurd cc) e
  where
    size_told : ℕ → Result ℕ IdlFault
    size_told k = Ok k

    ok_value : (a b : ℕ) → size_told a ≡ Ok b → a ≡ b
    ok_value a b q = cc
size_some v (number (negsuc m)) is n e = absurd cc
size_some v (character c) is n e = absurd cc
size_some v (text t) is n e = absurd cc
size_some v (truth b) is n e = absurd cc
size_some v (choice enum k) is n e = absurd cc

module _ (so : trees.Kind → Bool) (are_so : List (List ℕ × trees.Kind) → Bool) where
  -- a result, and parameters
  abbrev pub IsSoResult : Option trees.Kind → Type 0
  IsSoResult None = Unit {0}
  IsSoResult (Some k) = so k ≡ true

  abbrev pub AreSoParams : List ParamView → Type 0
  AreSoParams [] = Unit {0}
  AreSoParams (p ∷ ps) = (so p.kind ≡ true) × AreSoParams ps

  abbrev pub AreSoOperations : List OperationView → Type 0
  AreSoOperations [] = Unit {0}
  AreSoOperations (o ∷ os) = (IsSoResult o.result × AreSoParams o.params) × AreSoOperations os

  -- members and cases
  abbrev pub AreSoMembers : List (List ℕ × trees.Kind) → Type 0
  AreSoMembers [] = Unit {0}
  AreSoMembers (m ∷ ms) = (so m.1 ≡ true) × AreSoMembers ms

  abbrev pub AreSoCases : List Branch → Type 0
  AreSoCases [] = Unit {0}
  AreSoCases (c ∷ cs) = (so c.3 ≡ true) × AreSoCases cs

  -- what a declaration stands for
  abbrev pub IsSoThing : Thing → Type 0
  IsSoThing (type k) = so k.kind ≡ true
  IsSoThing (exception ms) = are_so ms ≡ true
  IsSoThing (constant k v) = so k ≡ true
  IsSoThing (operations os n) = AreSoOperations os
  IsSoThing thing = Unit {0}

  -- the types in all parts
  abbrev ArePartsSo : List (List ℕ × trees.Kind) × List Branch × trees.Kind × Option trees.Kind × List ParamView → Type 0
  ArePartsSo q = AreSoMembers q.0 × AreSoCases q.1 × (so q.2 ≡ true) × IsSoResult q.3 × AreSoParams q.4

  pub record AreTypesSo (s : Built) : Type 0 where
    pub type_is : so s.type.kind ≡ true
    pub lengths : AreLengths s.lengths
    pub things : (i : ℕ) (x : Thing) → slice_get s.things i ≡ Some x → IsSoThing x
    pub parts : ArePartsSo (types_of s.parts)

  -- a type that ends is so
  abbrev pub EndsWell : IdlLabel → Built → Type 0
  EndsWell l.EndStruct s = AreSoMembers s.parts.members → so (structure (bodies.open_id s) (members_of s.parts.members)) ≡ true
  EndsWell l.EndException s = AreSoMembers s.parts.members → are_so s.parts.members ≡ true
  EndsWell l.EndUnion s = AreSoCases s.parts.cases → so s.parts.discriminator ≡ true → so (union (bodies.open_id s) s.parts.discriminator (cases_of s.parts.cases)) ≡ true
  EndsWell l.EndEnum s = so (scalar (enumeration (bodies.open_id s) s.parts.enumerators)) ≡ true
  EndsWell label s = Unit {0}

  module _ (h_basic : (b : Basic) → so (basic_kind b) ≡ true)
      (h_words : (n : ℕ) → so (words n) ≡ true)
      (h_sequence : (k : trees.Kind) (n : ℕ) → so k ≡ true → so (trees.sequence k n) ≡ true)
      (h_array : (k : trees.Kind) (n : ℕ) → (n == 0) ≡ false → so k ≡ true → so (trees.array k n) ≡ true) where
    none_so : ArePartsSo (types_of no_parts)
    none_so = (tt, tt, h_basic basic.Octet, tt, tt)

    abbrev Kept : Done → Type 0
    Kept r = Gives AreTypesSo r

    -- a state with the same types
    alike : (s c : Built) → AreTypesSo s → s.type ≡ c.type → s.lengths ≡ c.lengths → s.things ≡ c.things → types_of s.parts ≡ types_of c.parts → AreTypesSo c
    alike s c h a l b d = record {
      type_is = subst (λ (k : Sized). so k.kind ≡ true) a h.type_is;
      lengths = subst AreLengths l h.lengths;
      things = subst (λ (ts : List Thing). (i : ℕ) (x : Thing) → slice_get ts i ≡ Some x → IsSoThing x) b h.things;
      parts = subst ArePartsSo d h.parts;
    }

    kept_like : (s c : Built) → AreTypesSo s → s.type ≡ c.type → s.lengths ≡ c.lengths → s.things ≡ c.things → types_of s.parts ≡ types_of c.parts → Kept (Ok c)
    kept_like s c h a l b d = gives_ok AreTypesSo c (alike s c h a l b d)

    kept_then : (r : Done) (f : Built → Done) → Kept r → ((x : Built) → AreTypesSo x → Kept (f x)) → Kept (r >>= f)
    kept_then r f h k = gives_then AreTypesSo AreTypesSo r f h k

    kept_unless : (b : Bool) (d : IdlCause) (p : Place) (s : Built) → AreTypesSo s → Kept (unless b d p s)
    kept_unless b d p s h = gives_unless AreTypesSo b d p s h

    kept_counted : (n : ℕ) (p : Place) (s : Built) → AreTypesSo s → Kept (counted n p s)
    kept_counted n p s h =
        cond_both (nat_lt 1048576 (s.leaves + n)) (refused cause.TooLarge p) (Ok (record s { leaves = s.leaves + n })) Kept
        (λ e. gives_err AreTypesSo _) (λ e. kept_like s (record s { leaves = s.leaves + n }) h refl refl refl refl)

    kept_measured : (k : Sized) (p : Place) (s : Built) → AreTypesSo s → Kept (measured k p s)
    kept_measured k p s h = kept_unless _ cause.TooLarge p s h

    kept_fitting : (f : Fit) (s : Built) → AreTypesSo s → Kept (values.fitting f s)
    kept_fitting (Ok x) s h = gives_ok AreTypesSo s h
    kept_fitting (Err m) s h = gives_err AreTypesSo _

    kept_so : (b : Bool) (d : IdlCause) (p : Place) (s : Built) (f : Built → Built) → ((x : Built) → AreTypesSo x → AreTypesSo (f x)) → AreTypesSo s → Kept (unless b d p s >>= (λ x. Ok (f x)))
    kept_so b d p s f k h = kept_then (unless b d p s) (λ x. Ok (f x)) (kept_unless b d p s h) (λ x hx. gives_ok AreTypesSo (f x) (k x hx))

    -- a thing more, and a thing that is set
    things_more : (s c : Built) (x : Thing) → AreTypesSo s → c.things ≡ s.things ++ x ∷ [] → IsSoThing x → so c.type.kind ≡ true → AreLengths c.lengths → ArePartsSo (types_of c.parts) → AreTypesSo c
    things_more s c x h e m a l b = record {
      things = λ i y g. elim (get_behind s.things x y i (ap (λ (ts : List Thing). slice_get ts i) (sym e) ∙ g)) [ inl q ↦ h.things i y q | inr q ↦ subst IsSoThing q.1 m ];
      type_is = a;
      lengths = l;
      parts = b;
    }

    things_set : (s c : Built) (n : ℕ) (x : Thing) → AreTypesSo s → c.things ≡ set s.things n x → IsSoThing x → so c.type.kind ≡ true → AreLengths c.lengths → ArePartsSo (types_of c.parts) → AreTypesSo c
    things_set s c n x h e m a l b = record {
      things = λ i y g. elim (get_set s.things n i x y (ap (λ (ts : List Thing). slice_get ts i) (sym e) ∙ g)) [ inl q ↦ subst IsSoThing q.1 m | inr q ↦ h.things i y q.1 ];
      type_is = a;
      lengths = l;
      parts = b;
    }

    -- the type that a thing is
    type_so : (ts : List Thing) (i : ℕ) (o : Option Thing) (last : Place) (k : Sized) → slice_get ts i ≡ o → ((j : ℕ) (x : Thing) → slice_get ts j ≡ Some x → IsSoThing x) → names.type_in (thing_in o) last ≡ Ok k → so k.kind ≡ true
    type_so ts i None last k e h q = absurd cc
    type_so ts i (Some (type m)) last k e h q = let same : m ≡ k = cc in subst (λ (z : Sized). so z.kind ≡ true) same (h i (type m) e)
    type_so ts i (Some nothing) last k e h q = absurd cc
    type_so ts i (Some (interface bs os)) last k e h q = absurd cc
    type_so ts i (Some (exception ms)) last k e h q = absurd cc
    type_so ts i (Some (constant kind v)) last k e h q = absurd cc
    type_so ts i (Some (enumerator id n)) last k e h q = absurd cc
    type_so ts i (Some (operations os n)) last k e h q = absurd cc

    kept_use_type : (r : Result Sized IdlFault) (s : Built) → AreTypesSo s → ((k : Sized) → r ≡ Ok k → so k.kind ≡ true) → Kept (names.typed_so r s)
    kept_use_type (Ok k) s h m = gives_ok AreTypesSo _ (record { type_is = m k refl; lengths = h.lengths; things = h.things; parts = h.parts })
    kept_use_type (Err f) s h m = gives_err AreTypesSo f

    use_type_so : (s : Built) → AreTypesSo s → Kept (names.use_type (names.meaning s) s)
    use_type_so s h = kept_use_type (names.type_in (names.meaning s) s.last) s h (λ k e. type_so s.things (names.meant s) (slice_get s.things (names.meant s)) s.last k refl h.things e)

    arrays_so : (ns : List ℕ) (k : Sized) → AreLengths ns → so k.kind ≡ true → so (arrays_of ns k).kind ≡ true
    arrays_so [] k l h = h
    arrays_so (n ∷ ns) k l h = let p = or_parts (n == 0) (list_any (λ m. m == 0) ns) l in arrays_so ns (array_of n k) p.1 (h_array k.kind n p.0 h)

    declared_so : (s : Built) → AreTypesSo s → so (bodies.declared_type s).kind ≡ true
    declared_so s h = arrays_so (bodies.inner_lengths s) s.type (list_any-IsPermutation (λ n. n == 0) (reverse s.lengths) s.lengths (IsPermutation-sym s.lengths (reverse s.lengths) (IsPermutation-reverse s.lengths)) ∙ h.lengths) h.type_is

    members_more : (ms : List (List ℕ × trees.Kind)) (m : List ℕ × trees.Kind) → AreSoMembers ms → so m.1 ≡ true → AreSoMembers (ms ++ m ∷ [])
    members_more [] m h k = (k, tt)
    members_more (x ∷ ms) m h k = (h.0, members_more ms m h.1 k)

    cases_more : (cs : List Branch) (c : Branch) → AreSoCases cs → so c.3 ≡ true → AreSoCases (cs ++ c ∷ [])
    cases_more [] c h k = (k, tt)
    cases_more (x ∷ cs) c h k = (h.0, cases_more cs c h.1 k)

    kept_valued : (r : Result Value IdlFault) (s : Built) → AreTypesSo s → Kept (names.valued_so r s)
    kept_valued (Ok v) s h = kept_like s _ h refl refl refl refl
    kept_valued (Err f) s h = gives_err AreTypesSo f

    kept_bound : (r : Result ℕ IdlFault) (s : Built) → AreTypesSo s → Kept (values.bound_so r s)
    kept_bound (Ok n) s h = kept_like s _ h refl refl refl refl
    kept_bound (Err f) s h = gives_err AreTypesSo f

    kept_length : (r : Result ℕ IdlFault) (s : Built) → AreTypesSo s → ((n : ℕ) → r ≡ Ok n → (n == 0) ≡ false) → Kept (values.length_so r s)
    kept_length (Ok n) s h m =
        gives_ok AreTypesSo _ (record {
          type_is = h.type_is;
          lengths = list_any-append (λ k. k == 0) s.lengths (n ∷ []) ∙ or_from (list_any (λ k. k == 0) s.lengths) (list_any (λ k. k == 0) (n ∷ [])) h.lengths (or_from (n == 0) false (m n refl) refl);
          things = h.things;
          parts = h.parts;
        })
    kept_length (Err f) s h m = gives_err AreTypesSo f

    kept_part : (t : Placed Kind) (s : Built) (o : Option ℕ) → AreTypesSo s → Kept (names.part_found t s o)
    kept_part t s None h = gives_err AreTypesSo _
    kept_part t s (Some i) h = kept_like s _ h refl refl refl refl

    kept_declare_in : (scope : ℕ) (sort : Sort) (thing : Thing) (t : Placed Kind) (s : Built) → AreTypesSo s → IsSoThing thing → Kept (declare_in scope sort thing t s)
    kept_declare_in scope sort thing t s h m =
        kept_then (unless (is_taken s.scopes t.text scope) cause.Clash (place_of t) s) (λ x. Ok (with_name scope sort thing t x)) (kept_unless _ cause.Clash (place_of t) s h)
        (λ x hx. gives_ok AreTypesSo (with_name scope sort thing t x) (things_more x (with_name scope sort thing t x) thing hx refl m hx.type_is hx.lengths hx.parts))

    kept_declare : (t : Placed Kind) (s : Built) → AreTypesSo s → Kept (declare t s)
    kept_declare t s h = kept_declare_in s.here table.unfinished nothing t s h tt

    kept_enter : (s : Built) → AreTypesSo s → Kept (enter s)
    kept_enter s h = kept_like s (entered s) h refl refl refl refl

    kept_leave : (s : Built) → AreTypesSo s → Kept (Ok (leave s))
    kept_leave s h = gives_ok AreTypesSo (leave s) (record { type_is = h.type_is; lengths = h.lengths; things = h.things; parts = none_so })

    kept_open_module : (t : Placed Kind) (s : Built) (o : Option ℕ) → AreTypesSo s → Kept (names.open_module t s o)
    kept_open_module t s (Some i) h = kept_like s (record s { here = i + 1 }) h refl refl refl refl
    kept_open_module t s None h = kept_then (declare_in s.here module_ nothing t s) enter (kept_declare_in s.here module_ nothing t s h tt) (λ x hx. kept_enter x hx)

    kept_enumerate : (t : Placed Kind) (s : Built) → AreTypesSo s → Kept (bodies.enumerate t s)
    kept_enumerate t s h =
        let thing = enumerator (bodies.open_id s) (length s.parts.enumerators) in
        kept_then (declare_in (outer s.scopes s.here) table.other thing t s) (bodies.label_named t) (kept_declare_in (outer s.scopes s.here) table.other thing t s h tt)
        (λ x hx. kept_like x _ hx refl refl refl refl)

    kept_typedef : (s : Built) → AreTypesSo s → Kept (bodies.typedef s)
    kept_typedef s h =
        let k = bodies.declared_type s in
        let p = place_at s (newest s) in
        kept_then (bodies.measured_name s >>= counted k.leaves p) (bodies.type_named k)
        (kept_then (bodies.measured_name s) (counted k.leaves p) (kept_measured k p s h) (λ x hx. kept_counted k.leaves p x hx))
        (λ x hx. gives_ok AreTypesSo (bodies.named (type k) x) (things_set x (bodies.named (type k) x) (newest x) (type k) hx refl (declared_so s h) hx.type_is refl hx.parts))

    kept_member : (s : Built) → AreTypesSo s → Kept (bodies.member s)
    kept_member s h =
        kept_then (bodies.measured_name s) bodies.member_named (kept_measured (bodies.declared_type s) (place_at s (newest s)) s h)
        (λ x hx. gives_ok AreTypesSo _ (things_set x _ (newest x) nothing hx refl tt hx.type_is refl
        (members_more x.parts.members (name_at x (newest x), (bodies.declared_type x).kind) hx.parts.0 (declared_so x hx), hx.parts.1, hx.parts.2, hx.parts.3, hx.parts.4)))

    kept_case_member : (s : Built) → AreTypesSo s → Kept (bodies.case_member s)
    kept_case_member s h =
        kept_then (bodies.measured_name s) bodies.case_named (kept_measured (bodies.declared_type s) (place_at s (newest s)) s h)
        (λ x hx. gives_ok AreTypesSo _ (things_set x _ (newest x) nothing hx refl tt hx.type_is refl
        (hx.parts.0, cases_more x.parts.cases (x.parts.labels, x.parts.is_default, name_at x (newest x), (bodies.declared_type x).kind) hx.parts.1 (declared_so x hx), hx.parts.2, hx.parts.3, hx.parts.4)))

    kept_ends : (sort : Sort) (thing : Thing) (s : Built) → AreTypesSo s → IsSoThing thing → Kept (ends sort thing s)
    kept_ends sort thing s h m = gives_ok AreTypesSo (ended sort thing s) (things_set s (ended sort thing s) (opened s) thing h refl m h.type_is h.lengths none_so)

    kept_ends_type : (k : Sized) (s : Built) → AreTypesSo s → so k.kind ≡ true → Kept (bodies.ends_type k s)
    kept_ends_type k s h is =
        let p = place_at s (opened s) in
        kept_then (measured k p s >>= counted k.leaves p) (ends table.other (type k))
        (kept_then (measured k p s) (counted k.leaves p) (kept_measured k p s h) (λ x hx. kept_counted k.leaves p x hx)) (λ x hx. kept_ends table.other (type k) x hx is)

    kept_end_exception : (s : Built) → AreTypesSo s → are_so s.parts.members ≡ true → Kept (bodies.end_exception s)
    kept_end_exception s h is =
        let p = place_at s (opened s) in
        let thing = exception s.parts.members in
        kept_then (unless (nat_lt 65536 s.parts.leaves) cause.TooLarge p s >>= counted s.parts.leaves p) (ends table.other thing)
        (kept_then (unless (nat_lt 65536 s.parts.leaves) cause.TooLarge p s) (counted s.parts.leaves p) (kept_unless _ cause.TooLarge p s h) (λ x hx. kept_counted s.parts.leaves p x hx))
        (λ x hx. kept_ends table.other thing x hx is)

    kept_end_const : (s : Built) → AreTypesSo s → Kept (values.end_const s)
    kept_end_const s h =
        let p = place_at s (newest s) in
        kept_then (values.fitting (fit s.type.kind s.value.value) s >>= counted 1 p) values.constant_named
        (kept_then (values.fitting (fit s.type.kind s.value.value) s) (counted 1 p) (kept_fitting (fit s.type.kind s.value.value) s h) (λ x hx. kept_counted 1 p x hx))
        (λ x hx.
        let thing = constant x.type.kind x.value.value in
        gives_ok AreTypesSo (become (newest x) table.other thing x) (things_set x (become (newest x) table.other thing x) (newest x) thing hx refl hx.type_is hx.type_is hx.lengths hx.parts))

    kept_base : (thing : Thing) (s : Built) → AreTypesSo s → Kept (interfaces.base_named thing s)
    kept_base thing s h =
        let f = λ (x : Built). unless (interfaces.base_clashes x) cause.Clash x.last x in
        kept_then (unless (not (interfaces.is_interface thing)) cause.WrongKind s.last s >>= f) interfaces.with_base
        (kept_then (unless (not (interfaces.is_interface thing)) cause.WrongKind s.last s) f (kept_unless _ cause.WrongKind s.last s h) (λ x hx. kept_unless _ cause.Clash x.last x hx))
        (λ x hx. kept_like x _ hx refl refl refl refl)

    kept_open_interface : (s : Built) → AreTypesSo s → Kept (interfaces.open_interface s)
    kept_open_interface s h =
        let thing = interface s.parts.bases (interfaces.inherited s) in
        let y = record (become (newest s) (table.interface s.parts.given) thing s) { parts = no_parts } in
        kept_enter y (things_set s y (newest s) thing h refl tt h.type_is h.lengths none_so)

    gained_so : (at : ℕ) (ts : List Thing) (i : ℕ) (o : Option Thing) → slice_get ts i ≡ o → ((j : ℕ) (x : Thing) → slice_get ts j ≡ Some x → IsSoThing x) → IsSoThing (interfaces.and_operation at (thing_in o))
    gained_so at ts i None e h = tt
    gained_so at ts i (Some (interface bs os)) e h = tt
    gained_so at ts i (Some nothing) e h = tt
    gained_so at ts i (Some (type k)) e h = h i (type k) e
    gained_so at ts i (Some (exception ms)) e h = h i (exception ms) e
    gained_so at ts i (Some (constant k v)) e h = h i (constant k v) e
    gained_so at ts i (Some (enumerator id n)) e h = tt
    gained_so at ts i (Some (operations os n)) e h = h i (operations os n) e

    with_operation_so : (scope at : ℕ) (s : Built) → AreTypesSo s → AreTypesSo (interfaces.with_operation scope at s)
    with_operation_so scope at s h =
        things_set s (interfaces.with_operation scope at s) (scope - 1) (interfaces.and_operation at (thing_at s (scope - 1))) h refl
        (gained_so at s.things (scope - 1) (slice_get s.things (scope - 1)) refl h.things) h.type_is h.lengths h.parts

    kept_end_operation : (s : Built) → AreTypesSo s → Kept (interfaces.end_operation s)
    kept_end_operation s h =
        kept_then (counted (plus s.parts.leaves 1) (place_at s (opened s)) s) interfaces.operation_ended (kept_counted (plus s.parts.leaves 1) (place_at s (opened s)) s h)
        (λ x hx.
        let y = interfaces.with_operation (outer x.scopes x.here) (opened x) x in
        gives_ok AreTypesSo (ended table.operation (interfaces.operation_read x) y)
        (things_set y (ended table.operation (interfaces.operation_read x) y) (opened y) (interfaces.operation_read x) (with_operation_so (outer x.scopes x.here) (opened x) x hx) refl ((hx.parts.3, hx.parts.4), tt) hx.type_is hx.lengths none_so))

    attribute_so : (b : Bool) (name : List ℕ) (k : Sized) → so k.kind ≡ true → IsSoThing (interfaces.attribute_of b name k)
    attribute_so true name k m = ((m, tt), tt)
    attribute_so false name k m = ((m, tt), ((tt, (m, tt)), tt))

    kept_attribute : (t : Placed Kind) (s : Built) → AreTypesSo s → Kept (interfaces.attribute t s)
    kept_attribute t s h =
        let thing = interfaces.attribute_of s.parts.readonly t.text s.type in
        kept_then (declare_in s.here table.operation thing t s >>= interfaces.attribute_counted t) interfaces.attribute_held
        (kept_then (declare_in s.here table.operation thing t s) (interfaces.attribute_counted t) (kept_declare_in s.here table.operation thing t s h (attribute_so s.parts.readonly t.text s.type h.type_is))
        (λ x hx. kept_counted (interfaces.operation_leaves (thing_at x (newest x))) (place_of t) x hx))
        (λ x hx. gives_ok AreTypesSo (interfaces.with_operation x.here (newest x) x) (with_operation_so x.here (newest x) x hx))

    params_more : (ps : List ParamView) (p : ParamView) → AreSoParams ps → so p.kind ≡ true → AreSoParams (ps ++ p ∷ [])
    params_more [] p h m = (m, tt)
    params_more (q ∷ ps) p h m = (h.0, params_more ps p h.1 m)

    kept_param : (t : Placed Kind) (s : Built) → AreTypesSo s → Kept (interfaces.param t s)
    kept_param t s h =
        kept_then (interfaces.declare_param t s) (interfaces.param_named t)
        (kept_then (unless (is_taken_part s.scopes t.text s.here) cause.Clash (place_of t) s) (λ x. Ok (with_name x.here table.other nothing t x)) (kept_unless _ cause.Clash (place_of t) s h)
        (λ x hx. gives_ok AreTypesSo (with_name x.here table.other nothing t x) (things_more x (with_name x.here table.other nothing t x) nothing hx refl tt hx.type_is hx.lengths hx.parts)))
        (λ x hx. gives_ok AreTypesSo _ (record { type_is = hx.type_is; lengths = hx.lengths; things = hx.things; parts = (hx.parts.0, hx.parts.1, hx.parts.2, hx.parts.3, params_more x.parts.params _ hx.parts.4 hx.type_is) }))

    kept_result : (s : Built) → AreTypesSo s → Kept (interfaces.result s)
    kept_result s h = gives_ok AreTypesSo _ (record { type_is = h.type_is; lengths = h.lengths; things = h.things; parts = (h.parts.0, h.parts.1, h.parts.2, h.type_is, h.parts.4) })

    kept_switch : (s : Built) → AreTypesSo s → Kept (bodies.switch s)
    kept_switch s h =
        kept_so _ cause.WrongKind s.last s (λ x. record x { parts = record x.parts { discriminator = x.type.kind } })
        (λ x hx. record { type_is = hx.type_is; lengths = hx.lengths; things = hx.things; parts = (hx.parts.0, hx.parts.1, hx.type_is, hx.parts.3, hx.parts.4) }) h

    kept_labelled : (s : Built) → AreTypesSo s → Kept (bodies.labelled s)
    kept_labelled s h = kept_so _ cause.TwiceCase s.value.at s (λ x. record x { parts = bodies.with_label (label_of x.value.value) x.parts }) (λ x hx. alike x _ hx refl refl refl refl) h

    -- what each label keeps so at its token
    pub so_at : (label : IdlLabel) (t : Placed Kind) (s : Built) → EndsWell label s → AreTypesSo s → Kept (act label t s)
    so_at (l.Refuse c) t s q h = gives_err AreTypesSo _
    so_at l.Module t s q h = kept_open_module t s (module_in s.scopes t.text s.here) h
    so_at l.EndModule t s q h = kept_leave s h
    so_at l.Interface t s q h = kept_declare t s h
    so_at l.OpenInterface t s q h = kept_open_interface s h
    so_at l.EndInterface t s q h = kept_leave s h
    so_at l.Rooted t s q h = kept_like s _ h refl refl refl refl
    so_at l.NamePart t s q h = kept_part t s (names.find_part t.text s s.search) h
    so_at (l.Basic b) t s q h = gives_ok AreTypesSo _ (record { type_is = h_basic b; lengths = h.lengths; things = h.things; parts = h.parts })
    so_at l.AnyText t s q h = gives_ok AreTypesSo _ (record { type_is = h_words 0; lengths = h.lengths; things = h.things; parts = h.parts })
    so_at l.BoundedText t s q h = gives_ok AreTypesSo _ (record { type_is = h_words s.bound; lengths = h.lengths; things = h.things; parts = h.parts })
    so_at l.Sequence t s q h = gives_ok AreTypesSo _ (record { type_is = h_sequence s.type.kind s.bound h.type_is; lengths = h.lengths; things = h.things; parts = h.parts })
    so_at l.Declare t s q h = kept_declare t s h
    so_at l.Open t s q h = kept_then (declare t s) enter (kept_declare t s h) (λ x hx. kept_enter x hx)
    so_at l.Sign t s q h = kept_like s _ h refl refl refl refl
    so_at l.Number t s q h = kept_like s _ h refl refl refl refl
    so_at l.Plus t s q h = kept_like s _ h refl refl refl refl
    so_at l.Minus t s q h = kept_like s _ h refl refl refl refl
    so_at l.Character t s q h = kept_like s _ h refl refl refl refl
    so_at l.Text t s q h = kept_like s _ h refl refl refl refl
    so_at (l.Truth b) t s q h = kept_like s _ h refl refl refl refl
    so_at l.EndStruct t s q h = kept_ends_type (record { kind = structure (bodies.open_id s) (members_of s.parts.members); leaves = s.parts.leaves; levels = plus s.parts.levels 1 }) s h
        (q h.parts.0)
    so_at l.EndException t s q h = kept_end_exception s h (q h.parts.0)
    so_at l.DefaultLabel t s q h = kept_so _ cause.TwiceCase (place_of t) s (λ x. record x { parts = record x.parts { is_default = true } }) (λ x hx. alike x _ hx refl refl refl refl) h
    so_at l.EndUnion t s q h =
        kept_ends_type (record { kind = union (bodies.open_id s) s.parts.discriminator (cases_of s.parts.cases); leaves = plus s.parts.leaves 1; levels = plus s.parts.levels 1 }) s h
        (q h.parts.1 h.parts.2)
    so_at l.Enumerator t s q h = kept_enumerate t s h
    so_at l.EndEnum t s q h = kept_ends_type (leaf (scalar (enumeration (bodies.open_id s) s.parts.enumerators))) s h q
    so_at l.ReadOnly t s q h = kept_like s _ h refl refl refl refl
    so_at l.Attribute t s q h = kept_attribute t s h
    so_at l.OneWay t s q h = kept_like s _ h refl refl refl refl
    so_at l.LongResultName t s q h = gives_err AreTypesSo _
    so_at l.In t s q h = kept_so _ cause.BadOneway (place_of t) s _ (λ x hx. alike x _ hx refl refl refl refl) h
    so_at l.Out t s q h = kept_so _ cause.BadOneway (place_of t) s _ (λ x hx. alike x _ hx refl refl refl refl) h
    so_at l.InOut t s q h = kept_so _ cause.BadOneway (place_of t) s _ (λ x hx. alike x _ hx refl refl refl refl) h
    so_at l.Param t s q h = kept_param t s h
    so_at l.Raises t s q h = kept_so _ cause.BadOneway (place_of t) s _ (λ x hx. alike x _ hx refl refl refl refl) h
    so_at label t s q h = gives_ok AreTypesSo s h

    -- and without a token
    pub so_alone : (label : IdlLabel) (s : Built) → AreTypesSo s → Kept (judge label s)
    so_alone l.Base s h = kept_base (names.meaning s) s h
    so_alone l.Inherit s h = kept_counted (interfaces.leaves_from s.things 0 (interfaces.inherited s)) (place_at s (newest s)) s h
    so_alone l.UseType s h = use_type_so s h
    so_alone l.UseConst s h = kept_valued (names.value_in (names.meaning s) s.last) s h
    so_alone l.Bound s h = kept_bound (values.size_in s.value) s h
    so_alone l.Length s h = kept_length (values.size_in s.value) s h (λ n e. size_some s.value s.value.value refl n e)
    so_alone l.Typedef s h = kept_typedef s h
    so_alone l.Member s h = kept_member s h
    so_alone l.CaseMember s h = kept_case_member s h
    so_alone l.Switch s h = kept_switch s h
    so_alone l.CaseLabel s h = kept_then (values.fitting (fit s.parts.discriminator s.value.value) s) bodies.labelled (kept_fitting (fit s.parts.discriminator s.value.value) s h) (λ x hx. kept_labelled x hx)
    so_alone l.ConstType s h = kept_unless _ cause.WrongKind s.last s h
    so_alone l.EndConst s h = kept_end_const s h
    so_alone l.EndAttribute s h = kept_like s _ h refl refl refl refl
    so_alone l.ResultName s h = kept_then (names.use_type (names.meaning s) s) _ (use_type_so s h) (λ x hx. gives_err AreTypesSo _)
    so_alone l.Result s h = kept_result s h
    so_alone l.Raised s h = kept_so _ cause.WrongKind s.last s _ (λ x hx. alike x _ hx refl refl refl refl) h
    so_alone l.EndOperation s h = kept_end_operation s h
    so_alone label s h = gives_ok AreTypesSo s h

    pub nothing_so : AreTypesSo nothing_built
    nothing_so = record { type_is = h_basic basic.Octet; lengths = refl; things = λ i x e. absurd (none-some x e); parts = none_so }
