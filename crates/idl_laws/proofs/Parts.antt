-- The parts of a scoped name are found one after the other, and what the last one means is used.
use Rattle.std.proofs.Common.{◌≡◌, ◌⊎◌, inl, inr, ℕ, ◌+◌, ◌-◌, ◌==◌, Bool, true, false, not, List, [], ◌∷◌, ◌++◌, Option, Some, None, Ok, Err, refl, sym, ap, subst, ◌∙◌}
use Rattle.std.specs.Prelude.{◌&&◌, if◌then◌else◌}
use Rattle.std.specs.Str.{bytes_eq}
use Rattle.std.proofs.lemmas.Bool.{and_parts, and_from, eq-eqb, eqb-true, eqb-false, both_ways}
use Rattle.std.proofs.lemmas.Option.{none-some, same_Some}
use Rattle.std.proofs.lemmas.Slice.Eq.{bytes_eq-Decides}
use Rattle.grammar.specs.Reading.{◌>>=◌}
use Rattle.grammar.specs.Grammar.{took, did, MarkOf, acts_then, acts}
use Rattle.grammar.proofs.Basics.{acts_one, acts_split, ok_is, bind_ok}
use Rattle.idl_grammar.specs.declared.fault.IdlCause.TheVariants as cause
use Rattle.idl_grammar.specs.declared.label.IdlLabel.{IdlLabel}
use Rattle.idl_grammar.specs.declared.label.IdlLabel.TheVariants as l
use Rattle.idl_scopes.specs.declared.place.Place.{Place}
use Rattle.idl_scopes.specs.Finding.{is_operation, sort_at, name_at, outer, own, or_else, among, looked_up, scopes_of, inside_of}
use Rattle.idl_scopes.specs.Ids.{id_of}
use Rattle.idl_constants.specs.ConstValues.{Value, choice}
use Rattle.idl_names.specs.Sizes.{Sized}
use Rattle.idl_names.specs.State.{Thing, type, constant, enumerator, found, Built}
use Rattle.idl_names.specs.Changes.{Done, place_of, refused, unless, opened, thing_at}
use Rattle.idl_names.specs.ScopedNames as names
use Rattle.idl_lookup.specs.Lookup as lookup
use Rattle.idl_names.specs.Interfaces as interfaces
use Rattle.idl_names.specs.Interfaces.{is_interface, is_exception}
use Rattle.idl_names.specs.Labels.{judge}
use Rattle.idl_names.specs.Declaring.{idl}
use Rattle.idl_lookup.specs.declared.head.Head.{Head}
use Rattle.idl_lookup.specs.declared.head.Head.TheVariants.{Outside, Parameters, Raises}
use Rattle.idl_reader.proofs.KeptNames.{IsOrderly, unless_ok}
use Rattle.idl_laws.specs.Names.{is_rooted, FurtherParts, is_use, MeansAround, MeansHere, FirstMeans, MeansInside, IsItself, MeansWithin, FurtherMeans, RestMeans}
use Rattle.idl_laws.specs.Points.{Point}
use Rattle.idl_laws.specs.Laws.{IsValue, Uses, NamesMean}
use Rattle.idl_laws.proofs.Found.{own_named, none_own, among_first, looked_means}
use Rattle.idl_laws.proofs.Points.{orderly_point}
use Rattle.idl_laws.proofs.Scoped.{part_gives, SearchSo, name_begins}

-- a name is spelled so, or isn't
spelled_so : (a b : List ℕ) → bytes_eq a b ≡ true → a ≡ b
spelled_so a b e = (bytes_eq-Decides a b).0 e

spelled_not : (a b : List ℕ) → bytes_eq a b ≡ false → a ≡ b → ⊥
spelled_not a b e same = both_ways (bytes_eq a b) e ((bytes_eq-Decides a b).1 same)

module _ (s : Built) (o : IsOrderly s) where
  -- the name means this so far
  abbrev at : ℕ → Place → Built
  at j p = record s { search = found j; last = p }

  -- ---- the first part

  around_by : (name : List ℕ) (i : ℕ) (b : Bool) → lookup.is_itself s.scopes (names.seat_of s) name (outer s.scopes s.here) ≡ b
      → (if b then Some (opened s) else looked_up s.scopes name (outer s.scopes s.here)) ≡ Some i → MeansAround s.scopes s.here name i
  around_by name i true e f =
      let here = outer s.scopes s.here in
      let own_name = bytes_eq (name_at s.scopes (s.here - 1)) name in
      inl (spelled_so (name_at s.scopes (s.here - 1)) name (and_parts (here == here) own_name e).1, sym (same_Some (opened s) i f))
  around_by name i false e f =
      let here = outer s.scopes s.here in
      let own_name = bytes_eq (name_at s.scopes (s.here - 1)) name in
      let other : name_at s.scopes (s.here - 1) ≡ name → ⊥ = λ same.
      let spelled = (bytes_eq-Decides (name_at s.scopes (s.here - 1)) name).1 same in
      both_ways ((here == here) && own_name) e (and_from (here == here) own_name (eq-eqb here here refl) spelled) in
      inr (other, looked_means s.scopes o.names o.keyed name here i f)

  around_so : (name : List ℕ) (i : ℕ) → lookup.find_around s.scopes (names.seat_of s) name ≡ Some i → MeansAround s.scopes s.here name i
  around_so name i e = around_by name i (lookup.is_itself s.scopes (names.seat_of s) name (outer s.scopes s.here)) refl e

  among_by : (name : List ℕ) (i : ℕ) (x : Option ℕ) → own s.scopes name s.here ≡ x → or_else x (lookup.find_around s.scopes (names.seat_of s) name) ≡ Some i
      → MeansHere Parameters s.scopes s.here name i
  among_by name i (Some j) e f = inl (own_named s.scopes o.names o.keyed s.here name i (e ∙ f))
  among_by name i None e f = inr (none_own s.scopes o.names o.keyed s.here name e, around_so name i f)

  here_so : (head : Head) (name : List ℕ) (i : ℕ) → lookup.find_first s.scopes (names.seat_of s) head name ≡ Some i → MeansHere head s.scopes s.here name i
  here_so Outside name i e = looked_means s.scopes o.names o.keyed name s.here i e
  here_so Parameters name i e = among_by name i (own s.scopes name s.here) refl e
  here_so Raises name i e = around_so name i e

  first_so : (b : Bool) (name : List ℕ) (i : ℕ) → SearchSo b s.search → names.find_part name s s.search ≡ Some i
      → FirstMeans b s.parts.head s.scopes s.here name i
  first_so true name i so e = own_named s.scopes o.names o.keyed 0 name i (ap (names.find_part name s) (sym so) ∙ e)
  first_so false name i so e = here_so s.parts.head name i (ap (names.find_part name s) (sym so) ∙ e)

  -- ---- further parts

  inside_by : (name : List ℕ) (j i : ℕ) (b : Bool) → is_operation (sort_at s.scopes j) ≡ b
      → (if b then None else among s.scopes name (scopes_of s.scopes j)) ≡ Some i
      → MeansInside s.scopes name j i
  inside_by name j i true e f = absurd (none-some i f)
  inside_by name j i false e f = (e, among_first s.scopes o.names o.keyed name (scopes_of s.scopes j) i f)

  inside_so : (name : List ℕ) (j i : ℕ) → inside_of s.scopes name j ≡ Some i → MeansInside s.scopes name j i
  inside_so name j i e = inside_by name j i (is_operation (sort_at s.scopes j)) refl e

  itself_by : (name : List ℕ) (j i : ℕ) (p : Place) (b : Bool) → lookup.is_itself s.scopes (names.seat_of s) name (j + 1) ≡ b
      → (if b then Some (opened s) else inside_of s.scopes name j) ≡ Some i
      → (IsItself s.scopes s.here name j × (i ≡ s.here - 1)) ⊎ ((IsItself s.scopes s.here name j → ⊥) × MeansInside s.scopes name j i)
  itself_by name j i p true e f =
      let h = and_parts ((j + 1) == outer s.scopes s.here) (bytes_eq (name_at s.scopes (s.here - 1)) name) e in
      let there = eqb-true (j + 1) (outer s.scopes s.here) h.0 in
      inl ((there, spelled_so (name_at s.scopes (s.here - 1)) name h.1), sym (same_Some (opened s) i f))
  itself_by name j i p false e f =
      let there = (j + 1) == outer s.scopes s.here in
      let own_name = bytes_eq (name_at s.scopes (s.here - 1)) name in
      let other : IsItself s.scopes s.here name j → ⊥ = λ h.
      let spelled = (bytes_eq-Decides (name_at s.scopes (s.here - 1)) name).1 h.1 in
      both_ways (there && own_name) e (and_from there own_name (eq-eqb (j + 1) (outer s.scopes s.here) h.0) spelled) in
      inr (other, inside_so name j i f)

  within_by : (name : List ℕ) (j i : ℕ) (p : Place) (b : Bool) → (j == opened s) ≡ b
      → (if b then None else (if lookup.is_itself s.scopes (names.seat_of s) name (j + 1) then Some (opened s) else inside_of s.scopes name j)) ≡ Some i
      → MeansWithin s.scopes s.here name j i
  within_by name j i p true e f = absurd (none-some i f)
  within_by name j i p false e f = (eqb-false j (opened s) e, itself_by name j i p (lookup.is_itself s.scopes (names.seat_of s) name (j + 1)) refl f)

  further_so : (head : Head) (name : List ℕ) (j i : ℕ) (p : Place) → lookup.find_further s.scopes (names.seat_of s) head name j ≡ Some i
      → FurtherMeans head s.scopes s.here name j i
  further_so Outside name j i p e = inside_so name j i e
  further_so Parameters name j i p e = within_by name j i p (j == opened s) refl e
  further_so Raises name j i p e = within_by name j i p (j == opened s) refl e

  skip_after : (r : Done) (c : Built) → acts_then idl (did l.Skip ∷ []) r ≡ Ok c → r ≡ Ok c
  skip_after (Ok x) c e = e
  skip_after (Err f) c e = absurd cc

  -- what further parts mean, and what is known after them
  record Rest (parts : List (List ℕ)) (j : ℕ) (c : Built) : Type 0 where
    meant : ℕ
    last : Place
    means : RestMeans s.parts.head s.scopes s.here parts j meant
    is : at meant last ≡ c

  rest_so : (parts : List (List ℕ)) (rest : List (MarkOf idl)) (j : ℕ) (p : Place) (c : Built) → FurtherParts parts rest
      → acts idl rest (at j p) ≡ Ok c → Rest parts j c
  rest_so [] rest j p c is e =
      record { meant = j; last = p; means = refl; is = ok_is (at j p) c (ap (λ (z : List (MarkOf idl)). acts idl z (at j p)) (sym is) ∙ e) }
  rest_so (name ∷ parts) rest j p c is e =
      let part = is.1 in
      let mid = took l.Skip is.0 ∷ took l.NamePart part ∷ did l.Skip ∷ [] in
      let m = acts_split idl mid is.2 (at j p) c (ap (λ (z : List (MarkOf idl)). acts idl z (at j p)) (sym is.5) ∙ e) in
      let looked = lookup.find_further s.scopes (names.seat_of s) s.parts.head part.text j in
      let g = part_gives part (at j p) looked m.0 (skip_after (names.part_found part (at j p) looked) m.0 m.1) in
      let next = rest_so parts is.2 g.0 (place_of part) c is.4 (ap (acts idl is.2) g.2 ∙ m.2) in
      let there = further_so s.parts.head part.text j g.0 p g.1 in
      record {
        meant = next.meant;
        last = next.last;
        means = (g.0, subst (λ (z : List ℕ). FurtherMeans s.parts.head s.scopes s.here z j g.0) is.3 there, next.means);
        is = next.is;
      }

  -- ---- what is used

  type_so : (x : Thing) (i : ℕ) (q : Place) (c : Built) → names.typed_so (names.type_in x q) (at i q) ≡ Ok c
      → (k : Sized) × (x ≡ type k) × (c.type ≡ k)
  type_so (type k) i q c e = (k, refl, ap (λ (z : Built). z.type) (sym (ok_is _ c e)))
  type_so x i q c e = absurd cc

  value_so : (x : Thing) (i : ℕ) (q : Place) (c : Built) → names.valued_so (names.value_in x q) (at i q) ≡ Ok c
      → (v : Value) × IsValue x v × (c.value.value ≡ v)
  value_so (constant kind v) i q c e = (v, refl, ap (λ (z : Built). z.value.value) (sym (ok_is _ c e)))
  value_so (enumerator enum n) i q c e = (choice enum n, refl, ap (λ (z : Built). z.value.value) (sym (ok_is _ c e)))
  value_so x i q c e = absurd cc

  not_not : (b : Bool) → not b ≡ false → b ≡ true
  not_not true e = refl
  not_not false e = absurd cc

  base_so : (x : Thing) (i : ℕ) (q : Place) (c : Built) → interfaces.base_named x (at i q) ≡ Ok c
      → (is_interface x ≡ true) × (c.parts.bases ≡ s.parts.bases ++ i ∷ [])
  base_so x i q c e =
      let clash : Built → Done = λ z. unless (interfaces.base_clashes z) cause.Clash z.last z in
      let first = unless (not (is_interface x)) cause.WrongKind q (at i q) in
      let m = bind_ok (first >>= clash) interfaces.with_base c e in
      let k = bind_ok first clash m.0 m.1 in
      let u = unless_ok (not (is_interface x)) cause.WrongKind q (at i q) k.0 k.1 in
      let v = unless_ok (interfaces.base_clashes k.0) cause.Clash k.0.last k.0 m.0 k.2 in
      let done : interfaces.with_base (at i q) ≡ Ok c = ap interfaces.with_base (u.1 ∙ v.1) ∙ m.2 in
      (not_not (is_interface x) u.0, ap (λ (z : Built). z.parts.bases) (sym (ok_is _ c done)))

  raised_so : (x : Thing) (i : ℕ) (q : Place) (c : Built) → interfaces.raised x (at i q) ≡ Ok c
      → (is_exception x ≡ true) × (c.parts.raises ≡ s.parts.raises ++ id_of s.scopes i ∷ [])
  raised_so x i q c e =
      let m = bind_ok (unless (not (is_exception x)) cause.WrongKind q (at i q)) interfaces.with_raised c e in
      let u = unless_ok (not (is_exception x)) cause.WrongKind q (at i q) m.0 m.1 in
      let done : interfaces.with_raised (at i q) ≡ Ok c = ap interfaces.with_raised u.1 ∙ m.2 in
      (not_not (is_exception x) u.0, ap (λ (z : Built). z.parts.raises) (sym (ok_is _ c done)))

  use_so : (label : IdlLabel) (i : ℕ) (q : Place) (c : Built) → is_use label ≡ true → judge label (at i q) ≡ Ok c → Uses label s i c
  use_so l.Base i q c u e = base_so (thing_at s i) i q c e
  use_so l.UseType i q c u e = type_so (thing_at s i) i q c e
  use_so l.UseConst i q c u e = value_so (thing_at s i) i q c e
  use_so l.Raised i q c u e = raised_so (thing_at s i) i q c e
  use_so l.ResultName i q c u e =
      let fails : Built → Done = λ z. refused cause.BadOneway z.last in
      let m = bind_ok (names.use_type (thing_at s i) (at i q)) fails c e in
      let never : fails m.0 ≡ Ok c = m.2 in
      absurd cc
  use_so label i q c u e = absurd cc

-- each name means what is before it
pub names_mean : NamesMean
names_mean text before name after label first parts s c p is u e =
    let part = is.0 in
    let rest = is.1 in
    let whole = took l.NamePart part ∷ rest in
    let o = orderly_point text before (name ++ did label ∷ after) s p in
    let here = subst (λ (z : List (MarkOf idl)). Point text before (z ++ did label ∷ after) s) is.4 p in
    let begins = name_begins text before rest after part parts label s here is.3 u in
    let m = acts_split idl whole (did label ∷ []) s c (ap (λ (z : List (MarkOf idl)). acts idl (z ++ did label ∷ []) s) (sym is.4) ∙ e) in
    let k = acts_split idl (took l.NamePart part ∷ []) rest s m.0 m.1 in
    let looked = names.find_part part.text s s.search in
    let g = part_gives part s looked k.0 (sym (acts_one idl (names.part_found part s looked)) ∙ k.1) in
    let r = rest_so s o parts rest g.0 (place_of part) m.0 is.3 (ap (acts idl rest) g.2 ∙ k.2) in
    let start = first_so s o (is_rooted before) part.text g.0 begins g.1 in
    let used : judge label (at s o r.meant r.last) ≡ Ok c = ap (judge label) r.is ∙ sym (acts_one idl (judge label m.0)) ∙ m.2 in (
      r.meant,
      record {
        start = g.0;
        first_means = subst (λ (z : List ℕ). FirstMeans (is_rooted before) s.parts.head s.scopes s.here z g.0) is.2 start;
        rest_means = r.means;
      },
      use_so s o label r.meant r.last c u used,
    )
