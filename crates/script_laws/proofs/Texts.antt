-- What texts declare is plain.
use Rattle.std.proofs.Common.{◌≡◌, ℕ, zero, suc, ◌+◌, ℤ, pos, negsuc, true, List, [], ◌∷◌, ◌++◌, Some, None, Ok, refl, sym, ap, subst, slice_get, ◌<◌, ◌^◌, length, is_some, arith}
use Rattle.std.specs.List.{list_all}
use Rattle.std.proofs.lemmas.Bool.{and_parts}
use Rattle.std.proofs.lemmas.Option.{none-some, same_Some}
use Rattle.cdr_values.specs.Trees as trees
use Rattle.cdr_values.specs.Trees.{Name, size1, size2, size4, size8, Scalar, boolean, char, unsigned, signed, enumeration, Kind, scalar, words, sequence, array, structure, union}
use Rattle.idl_scopes.specs.Table.{Table}
use Rattle.idl_constants.specs.ConstValues.{Value, number, character, text, truth, choice}
use Rattle.idl_constants.specs.Fitting.{fit, fit_number, fit_scalar}
use Rattle.idl_types.specs.Things as things
use Rattle.idl_types.specs.Things.{ParamView, OperationView}
use Rattle.idl_names.specs.State as names
use Rattle.idl_reader.specs.Values.{constant_value}
use Rattle.idl_reader.specs.Declared.{declared_at, listed, declared_from}
use Rattle.idl_reader.specs.Accepted.{Each, is_result_so, has_types_so, HasTypes, MayDeclare}
use Rattle.idl_reader.proofs.TypedThings.{each_typed}
use Rattle.idl_reader.proofs.TakenThings.{repositories_take_texts}
use Rattle.orb_base.specs.NulFree.{nul_at}
use Rattle.cdr_values.specs.Fitting.{is_of}
use Rattle.dynamic_servants.proofs.Spellings.{id_fits}
use Rattle.script_laws.specs.Kinds.{Every, HasKind}
use Rattle.script_laws.specs.Held.{AreDeclared, has_labels}
use Rattle.script_laws.specs.Laws.{TextsAreDefined}
use Rattle.script_laws.proofs.Shapes.{every_at}
use Rattle.script_laws.proofs.Names.{both_every}
use Rattle.script_laws.proofs.Counts.{all_every}
use Rattle.script_laws.proofs.CleanNames.{IsClean, names_clean}
use Rattle.script_laws.proofs.CleanIds.{id_has_none}
use Rattle.script_laws.proofs.KeptConstants.{HasFitting, constants_fit}
use Rattle.script_laws.proofs.Labelled.{members_labelled, labelled_text}
use Rattle.script_laws.proofs.Held.{scripts_defined}

-- ---- constants

fits_number : (low high : ℤ) (v : Value) → fit_number low high v ≡ Ok tt → (z : ℤ) × (constant_value v ≡ trees.number z)
fits_number low high (number z) e = (z, refl)
fits_number low high (character c) e = absurd cc
fits_number low high (text t) e = absurd cc
fits_number low high (truth b) e = absurd cc
fits_number low high (choice enum n) e = absurd cc

fits_scalar : (s : Scalar) (v : Value) → fit_scalar s v ≡ Ok tt → HasKind (scalar s) (constant_value v)
fits_scalar boolean (truth b) e = (b, refl)
fits_scalar boolean (number z) e = absurd cc
fits_scalar boolean (character c) e = absurd cc
fits_scalar boolean (text t) e = absurd cc
fits_scalar boolean (choice enum n) e = absurd cc
fits_scalar char (character c) e = (c, refl)
fits_scalar char (number z) e = absurd cc
fits_scalar char (text t) e = absurd cc
fits_scalar char (truth b) e = absurd cc
fits_scalar char (choice enum n) e = absurd cc
fits_scalar (unsigned size1) v e = fits_number (pos 0) (pos 255) v e
fits_scalar (unsigned size2) v e = fits_number (pos 0) (pos 65535) v e
fits_scalar (unsigned size4) v e = fits_number (pos 0) (pos 4294967295) v e
fits_scalar (unsigned size8) v e = fits_number (pos 0) (pos 18446744073709551615) v e
fits_scalar (signed size1) v e = absurd cc
fits_scalar (signed size2) v e = fits_number (negsuc 32767) (pos 32767) v e
fits_scalar (signed size4) v e = fits_number (negsuc 2147483647) (pos 2147483647) v e
fits_scalar (signed size8) v e = fits_number (negsuc 9223372036854775807) (pos 9223372036854775807) v e
fits_scalar (enumeration id labels) (choice enum n) e = (n, refl)
fits_scalar (enumeration id labels) (number z) e = absurd cc
fits_scalar (enumeration id labels) (character c) e = absurd cc
fits_scalar (enumeration id labels) (text t) e = absurd cc
fits_scalar (enumeration id labels) (truth b) e = absurd cc

fits_text : (bound : ℕ) (v : Value) → fit (words bound) v ≡ Ok tt → HasKind (words bound) (constant_value v)
fits_text bound (text t) e = (t, refl)
fits_text bound (number z) e = absurd cc
fits_text bound (character c) e = absurd cc
fits_text bound (truth b) e = absurd cc
fits_text bound (choice enum n) e = absurd cc

fits_type : (k : Kind) (v : Value) → fit k v ≡ Ok tt → HasKind k (constant_value v)
fits_type (scalar s) v e = fits_scalar s v e
fits_type (words bound) v e = fits_text bound v e
fits_type (sequence k bound) v e = absurd cc
fits_type (array k n) v e = absurd cc
fits_type (structure name ms) v e = absurd cc
fits_type (union name d cs) v e = absurd cc

-- a constant has a value of its kind, and the id of an exception no NUL
abbrev IsKept : things.Thing → Type 0
IsKept (things.constant c) = HasKind c.kind c.value
IsKept (things.named t) = Unit {0}
IsKept (things.exception e) = nul_at e.id ≡ None
IsKept (things.interface x) = Unit {0}

one_kept : (table : Table) → IsClean table → (all : List names.Thing) (i : ℕ) (x : names.Thing) → HasFitting x → Every IsKept (listed (declared_at table all i x))
one_kept table clean all i (names.constant k v) h = (fits_type k v h, tt)
one_kept table clean all i names.nothing h = tt
one_kept table clean all i (names.interface bs os) h = (tt, tt)
one_kept table clean all i (names.type k) h = (tt, tt)
one_kept table clean all i (names.exception ms) h = (id_has_none table clean i, tt)
one_kept table clean all i (names.enumerator enum n) h = tt
one_kept table clean all i (names.operations os n) h = tt

all_kept : (table : Table) → IsClean table → (all : List names.Thing) (i : ℕ) (rest : List names.Thing) → ((j : ℕ) (x : names.Thing) → slice_get rest j ≡ Some x → HasFitting x)
    → Every IsKept (declared_from table all i rest)
all_kept table clean all i [] h = tt
all_kept table clean all i (x ∷ rest) h =
    both_every IsKept (listed (declared_at table all i x)) (declared_from table all (i + 1) rest) (one_kept table clean all i x (h 0 x refl)) (all_kept table clean all (i + 1) rest (λ j y e. h (suc j) y e))

-- ---- each of several things

each_at : (P : List things.Thing → things.Thing → Type 0) (b ts : List things.Thing) (i : ℕ) (t : things.Thing) → Each P b ts → slice_get ts i ≡ Some t → (c : List things.Thing) × P c t
each_at P b [] i t h e = absurd (none-some t e)
each_at P b (u ∷ ts) zero t h e = (b, subst (P b) (same_Some u t e) h.0)
each_at P b (u ∷ ts) (suc i) t h e = each_at P (b ++ u ∷ []) ts i t h.1 e

each_declared : (b ts : List things.Thing) → Each MayDeclare b ts → AreDeclared b ts
each_declared b [] h = tt
each_declared b (t ∷ ts) h = (h.0, each_declared (b ++ t ∷ []) ts h.1)

id_is_text : (id : Name) → nul_at id ≡ None → length id + 1 < 2 ^ 32 → is_of (trees.text id) (words 0) ≡ true
id_is_text id none short = ap is_some (id_fits id none (omega (arith, short)))

pub texts_defined : TextsAreDefined
texts_defined source ts script s id job w counted bytes e =
    let new = w.new in
    let kept : Every IsKept ts = subst (Every IsKept) (sym w.told) (all_kept new.scopes (names_clean source new w.names) new.things 0 new.things (constants_fit source new w.names)) in
    let typed : Each (HasTypes has_labels members_labelled) [] ts =
    subst (Each (HasTypes has_labels members_labelled) []) (sym w.told) (each_typed has_labels members_labelled new.scopes new.things (labelled_text source new w.names).things) in
    scripts_defined ts script s id job (each_declared [] ts (repositories_take_texts source ts w)) (record {
      constants = λ i c at. every_at IsKept ts i (things.constant c) kept at;
      texts = λ i x at. id_is_text x.id (every_at IsKept ts i (things.exception x) kept at) (counted.ids i x at);
      labels = λ i x o op j p at is here.
          let h = each_at (HasTypes has_labels members_labelled) [] ts i (things.interface x) typed at in
          let one = every_at (λ (q : OperationView). has_types_so has_labels q ≡ true) x.operations o op (all_every (has_types_so has_labels) x.operations h.1) is in
          let both = and_parts (is_result_so has_labels op.result) (list_all (λ (q : ParamView). has_labels q.kind) op.params) one in
          every_at (λ (q : ParamView). has_labels q.kind ≡ true) op.params j p (all_every (λ (q : ParamView). has_labels q.kind) op.params both.1) here;
      counted = counted;
    }) bytes e
