-- Things that a repository takes one by one, with the built-in interface after them, are sound.
use Rattle.std.proofs.Common.{◌≡◌, ◌⊎◌, inl, inr, ⊎_elim, ◌≤◌, ◌^◌, ℕ, zero, suc, ◌+◌, ◌||◌, not, Bool, true, false, cond, List, [], ◌∷◌, ◌++◌, length, find, Option, Some, None, refl, sym, ap, ◌∙◌, subst, slice_get, is_some, bytes_eq, length-append, arith}
use Rattle.std.specs.Prelude.{if◌then◌else◌}
use Rattle.std.specs.List.{list_any, position_or_len}
use Rattle.std.specs.Str.{str_eq_ignore_ascii_case, str_to_ascii_lowercase}
use Rattle.std.proofs.lemmas.Bool.{and_parts, le-ltb, both_ways, false_from_ne_true}
use Rattle.std.proofs.lemmas.Slice.Eq.{bytes_eq-Decides}
use Rattle.std.proofs.lemmas.Option.{none-some, same_Some}
use Rattle.cdr_values.specs.Trees.{Name}
use Rattle.idl_types.specs.BuiltIn as built
use Rattle.idl_types.specs.BuiltIn.{with_ping}
use Rattle.idl_types.specs.Counting.{thing_leaves}
use Rattle.idl_types.specs.Declaring.{is_new, may_hold, may_declare}
use Rattle.idl_types.specs.Finding.{has_id, place_named, thing_named}
use Rattle.idl_types.specs.Sound.{is_sound_type, is_sound_thing, is_reserved, ping_id, counted_leaves}
use Rattle.idl_types.specs.Things.{Thing, constant, named, exception, interface, ParamView, OperationView, InterfaceView, id_of}
use Rattle.idl_types.proofs.Holding.{fresh}
use Rattle.dynamic_servants.specs.Served.{served_by}
use Rattle.script_laws.specs.Things.{IsSound}
use Rattle.script_laws.specs.Held.{AreDeclared, ArePlain, has_labels}
use Rattle.script_laws.specs.Laws.{HaveZeros, HasBuiltIn, ScriptsAreDefined}
use Rattle.script_laws.proofs.Shapes.{every_at}
use Rattle.script_laws.proofs.Sent.{position_is}
use Rattle.script_laws.proofs.Zeros.{zero_fits}
use Rattle.script_laws.proofs.Counts.{sound_type, sound_operation, members_few, fields_few, operations_few, params_few, part_near}
use Rattle.script_laws.proofs.Served.{interface_is, served_defined}

-- ---- lists

get_front : {A : Type 0} (xs ys : List A) (j : ℕ) (x : A) → slice_get xs j ≡ Some x → slice_get (xs ++ ys) j ≡ Some x
get_front [] ys j x e = absurd (none-some x e)
get_front (y ∷ xs) ys zero x e = e
get_front (y ∷ xs) ys (suc j) x e = get_front xs ys j x e

get_last : {A : Type 0} (xs : List A) (x : A) → slice_get (xs ++ x ∷ []) (length xs) ≡ Some x
get_last [] x = refl
get_last (y ∷ xs) x = get_last xs x

-- what is in a list with one more is in the list, or that one
either_at : {A : Type 0} (xs : List A) (y : A) (i : ℕ) (x : A) → slice_get (xs ++ y ∷ []) i ≡ Some x → (slice_get xs i ≡ Some x) ⊎ (y ≡ x)
either_at [] y zero x e = inr (same_Some y x e)
either_at [] y (suc i) x e = absurd (none-some x e)
either_at (z ∷ xs) y zero x e = inl e
either_at (z ∷ xs) y (suc i) x e = either_at xs y i x e

neither : (a b : Bool) → not (a || b) ≡ true → (a ≡ false) × (not b ≡ true)
neither true b e = absurd cc
neither false b e = (refl, e)

unreserved : (b : Bool) → not b ≡ true → b ≡ false
unreserved true e = absurd cc
unreserved false e = refl

any_false : {A : Type 0} (p : A → Bool) (xs : List A) (j : ℕ) (x : A) → not (list_any p xs) ≡ true → slice_get xs j ≡ Some x → p x ≡ false
any_false p [] j x e at = absurd (none-some x at)
any_false p (y ∷ xs) zero x e at = subst (λ z. p z ≡ false) (same_Some y x at) (neither (p y) (list_any p xs) e).0
any_false p (y ∷ xs) (suc j) x e at = any_false p xs j x (neither (p y) (list_any p xs) e).1 at

found_first : {A : Type 0} (b : Bool) (y x : A) (o u : Option A) → (o ≡ Some x → u ≡ Some x) → cond b (Some y) o ≡ Some x → cond b (Some y) u ≡ Some x
found_first true y x o u f e = e
found_first false y x o u f e = f e

find_front : {A : Type 0} (p : A → Bool) (xs ys : List A) (x : A) → find p xs ≡ Some x → find p (xs ++ ys) ≡ Some x
find_front p [] ys x e = absurd (none-some x e)
find_front p (y ∷ xs) ys x e = found_first (p y) y x (find p xs) (find p (xs ++ ys)) (find_front p xs ys x) e

not_first : {A : Type 0} (b : Bool) (y : A) (o u w : Option A) → (o ≡ None → u ≡ w) → cond b (Some y) o ≡ None → cond b (Some y) u ≡ w
not_first true y o u w f e = absurd (none-some y (sym e))
not_first false y o u w f e = f e

find_behind : {A : Type 0} (p : A → Bool) (xs ys : List A) → find p xs ≡ None → find p (xs ++ ys) ≡ find p ys
find_behind p [] ys e = refl
find_behind p (y ∷ xs) ys e = not_first (p y) y (find p xs) (find p (xs ++ ys)) (find p ys) (find_behind p xs ys) e

-- ---- what is declared

-- a thing is sound, and has no more leaves than a file
abbrev Took : Thing → Type 0
Took t = (is_sound_thing t ≡ true) × (thing_leaves t ≤ 1048576)

taken : (b : List Thing) (t : Thing) → may_declare b t ≡ true → (is_reserved (id_of t) ≡ false) × (is_new b t ≡ true) × Took t
taken b t e =
    let a = and_parts (not (is_reserved (id_of t))) (may_hold b t) e in
    let f = fresh b t a.1 in
    let free : is_reserved (id_of t) ≡ false = unreserved (is_reserved (id_of t)) a.0 in
    let l = f.leaves in
    let c : counted_leaves t ≡ thing_leaves t = ap (λ (r : Bool). if r then 0 else thing_leaves t) free in
    (free, f.new, (f.sound, omega (arith, l, c)))

declared_at : (b us : List Thing) (i : ℕ) (t : Thing) → AreDeclared b us → slice_get us i ≡ Some t → (is_reserved (id_of t) ≡ false) × Took t
declared_at b [] i t d e = absurd (none-some t e)
declared_at b (u ∷ us) zero t d e = subst (λ (x : Thing). (is_reserved (id_of x) ≡ false) × Took x) (same_Some u t e) (let h = taken b u d.0 in (h.0, h.2))
declared_at b (u ∷ us) (suc i) t d e = declared_at (b ++ u ∷ []) us i t d.1 e

-- no thing before it has its id
other_id : (x y : Name) → str_eq_ignore_ascii_case x y ≡ false → bytes_eq x y ≡ false
other_id x y e = false_from_ne_true (bytes_eq x y) (λ same.
    let z : x ≡ y = (bytes_eq-Decides x y).0 same in
    let alike : str_eq_ignore_ascii_case x y ≡ true = subst (λ (w : Name). str_eq_ignore_ascii_case x w ≡ true) z ((bytes_eq-Decides (str_to_ascii_lowercase x) (str_to_ascii_lowercase x)).1 refl) in
    both_ways (str_eq_ignore_ascii_case x y) e alike)

new_at : (b us : List Thing) (i : ℕ) (t : Thing) (j : ℕ) (u : Thing) → AreDeclared b us → slice_get us i ≡ Some t → slice_get b j ≡ Some u → has_id (id_of t) u ≡ false
new_at b [] i t j u d e at = absurd (none-some t e)
new_at b (v ∷ us) zero t j u d e at =
    subst (λ (x : Thing). has_id (id_of x) u ≡ false) (same_Some v t e) (other_id (id_of v) (id_of u) (any_false (λ (w : Thing). str_eq_ignore_ascii_case (id_of v) (id_of w)) b j u (taken b v d.0).1 at))
new_at b (v ∷ us) (suc i) t j u d e at = new_at (b ++ v ∷ []) us i t j u d.1 e (get_front b (v ∷ []) j u at)

-- so the first thing of its id is the thing itself
found_itself : (b us : List Thing) (i : ℕ) (t : Thing) → AreDeclared b us → slice_get us i ≡ Some t → find (has_id (id_of t)) us ≡ Some t
found_itself b [] i t d e = absurd (none-some t e)
found_itself b (u ∷ us) zero t d e =
    let h : has_id (id_of u) u ≡ true = (bytes_eq-Decides (id_of u) (id_of u)).1 refl in
    subst (λ (x : Thing). find (has_id (id_of x)) (u ∷ us) ≡ Some x) (same_Some u t e) (ap (λ (r : Bool). cond r (Some u) (find (has_id (id_of u)) us)) h)
found_itself b (u ∷ us) (suc i) t d e =
    let h : has_id (id_of t) u ≡ false = new_at (b ++ u ∷ []) us i t (length b) u d.1 e (get_last b u) in
    ap (λ (r : Bool). cond r (Some u) (find (has_id (id_of t)) us)) h ∙ found_itself (b ++ u ∷ []) us i t d.1 e

-- none has the id of the built-in interface, which is reserved
not_ping : (t : Thing) → is_reserved (id_of t) ≡ false → has_id ping_id t ≡ false
not_ping t e = false_from_ne_true (has_id ping_id t) (λ same.
    let z : ping_id ≡ id_of t = (bytes_eq-Decides ping_id (id_of t)).0 same in
    both_ways (is_reserved (id_of t)) e (subst (λ (x : Name). is_reserved x ≡ true) z refl))

ping_nowhere : (b us : List Thing) → AreDeclared b us → (find (has_id ping_id) us ≡ None) × (position_or_len (has_id ping_id) us ≡ length us)
ping_nowhere b [] d = (refl, refl)
ping_nowhere b (u ∷ us) d =
    let h : has_id ping_id u ≡ false = not_ping u (taken b u d.0).0 in
    let g = ping_nowhere (b ++ u ∷ []) us d.1 in (
      ap (λ (r : Bool). cond r (Some u) (find (has_id ping_id) us)) h ∙ g.0,
      ap (λ (r : Bool). cond (not r) (1 + position_or_len (has_id ping_id) us) 0) h ∙ (let n = g.1 in omega (arith, n)),
    )

ping_unplaced : (us : List Thing) → AreDeclared [] us → place_named us ping_id ≡ None
ping_unplaced us d =
    let h = (ping_nowhere [] us d).1 in
    ap (λ (r : Bool). cond r (Some (position_or_len (has_id ping_id) us)) None) (le-ltb (position_or_len (has_id ping_id) us) (length us) (omega (arith, h)))

-- ---- with the built-in interface

abbrev ping_view : InterfaceView
ping_view = record { id = ping_id; bases = []; operations = built.operations }

few_raised : (o : ℕ) (op : OperationView) → slice_get built.operations o ≡ Some op → length op.raises ≤ 2 ^ 32
few_raised zero op e = subst (λ (q : OperationView). length q.raises ≤ 2 ^ 32) (same_Some built.current op e) (omega arith)
few_raised (suc zero) op e = subst (λ (q : OperationView). length q.raises ≤ 2 ^ 32) (same_Some built.echo op e) (omega arith)
few_raised (suc (suc zero)) op e = subst (λ (q : OperationView). length q.raises ≤ 2 ^ 32) (same_Some built.note op e) (omega arith)
few_raised (suc (suc (suc o))) op e = absurd (none-some op e)

one_labelled : (j : ℕ) (p : ParamView) → slice_get (built.text_param ∷ []) j ≡ Some p → has_labels p.kind ≡ true
one_labelled zero p e = subst (λ (q : ParamView). has_labels q.kind ≡ true) (same_Some built.text_param p e) refl
one_labelled (suc j) p e = absurd (none-some p e)

labels_told : (o : ℕ) (op : OperationView) (j : ℕ) (p : ParamView) → slice_get built.operations o ≡ Some op → slice_get op.params j ≡ Some p → has_labels p.kind ≡ true
labels_told zero op j p e at = absurd (none-some p (ap (λ (q : OperationView). slice_get q.params j) (same_Some built.current op e) ∙ at))
labels_told (suc zero) op j p e at = one_labelled j p (ap (λ (q : OperationView). slice_get q.params j) (same_Some built.echo op e) ∙ at)
labels_told (suc (suc zero)) op j p e at = absurd (none-some p (ap (λ (q : OperationView). slice_get q.params j) (same_Some built.note op e) ∙ at))
labels_told (suc (suc (suc o))) op j p e at = absurd (none-some op e)

module _ (ts : List Thing) (d : AreDeclared [] ts) (plain : ArePlain ts) where
  whole : with_ping ts ≡ ts ++ built.ping ∷ []
  whole = ap (λ (o : Option ℕ). if is_some o then ts else ts ++ built.ping ∷ []) (ping_unplaced ts d)

  ping_took : Took built.ping
  ping_took = (refl, omega arith)

  took_at : (i : ℕ) (t : Thing) → slice_get (ts ++ built.ping ∷ []) i ≡ Some t → Took t
  took_at i t e = ⊎_elim (λ h. (declared_at [] ts i t d h).1) (λ h. subst Took h ping_took) (either_at ts built.ping i t e)

  all_sound : IsSound (ts ++ built.ping ∷ [])
  all_sound = record {
    constants = λ i c e. ⊎_elim (λ h. plain.constants i c h) (λ h. absurd cc) (either_at ts built.ping i (constant c) e);
    ids = λ i t e. ⊎_elim
        (λ h. find_front (has_id (id_of t)) ts (built.ping ∷ []) t (found_itself [] ts i t d h))
        (λ h. subst (λ (x : Thing). thing_named (ts ++ built.ping ∷ []) (id_of x) ≡ Some x) h (find_behind (has_id ping_id) ts (built.ping ∷ []) (ping_nowhere [] ts d).0))
        (either_at ts built.ping i t e);
    texts = λ i x e. ⊎_elim (λ h. plain.texts i x h) (λ h. absurd cc) (either_at ts built.ping i (exception x) e);
    places = let a = plain.counted.few in let b = length-append ts (built.ping ∷ []) in omega (arith, a, b);
    members = λ i t e. members_few t (took_at i (named t) e).0;
    fields = λ i x e. fields_few x (took_at i (exception x) e).0;
    operations = λ i x e. operations_few x (took_at i (interface x) e).1;
    params = λ i x o op e at. let t = took_at i (interface x) e in params_few x o op t.0 t.1 at;
    raises = λ i x o op e at. ⊎_elim (λ h. plain.counted.raises i x o op h at)
        (λ h. few_raised o op (subst (λ (y : InterfaceView). slice_get y.operations o ≡ Some op) (sym (interface_is ping_view x h)) at)) (either_at ts built.ping i (interface x) e);
    steps = λ i t r k e at. part_near r t k (took_at i t e).0 at;
  }

  all_zeros : HaveZeros (ts ++ built.ping ∷ [])
  all_zeros = λ i x o op j p e at here out.
      let s = every_at (λ (q : ParamView). is_sound_type q.kind ≡ true) op.params j p (sound_operation x o op (took_at i (interface x) e).0 at).params here in
      let labelled : has_labels p.kind ≡ true = ⊎_elim (λ h. plain.labels i x o op j p h at here)
      (λ h. labels_told o op j p (subst (λ (y : InterfaceView). slice_get y.operations o ≡ Some op) (sym (interface_is ping_view x h)) at) here) (either_at ts built.ping i (interface x) e) in
      zero_fits p.kind (sound_type p.kind s).lawful labelled

  all_built_in : HasBuiltIn (ts ++ built.ping ∷ [])
  all_built_in = λ place e.
      let a = position_is (has_id ping_id) (ts ++ built.ping ∷ []) place e in
      ⊎_elim (λ h. absurd (both_ways (has_id ping_id a.1) (not_ping a.1 (declared_at [] ts place a.1 d h).0) a.3)) (λ h. a.2 ∙ ap Some (sym h)) (either_at ts built.ping place a.1 a.2)

pub scripts_defined : ScriptsAreDefined
scripts_defined ts script s id job d plain bytes e =
    served_defined (ts ++ built.ping ∷ []) script s id job (all_sound ts d plain) (all_zeros ts d plain) (all_built_in ts d plain) bytes
    (ap (λ (zs : List Thing). served_by zs script) (sym (whole ts d plain)) ∙ e)
