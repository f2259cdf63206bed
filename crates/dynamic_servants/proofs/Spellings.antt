-- Values of types, spelled one after the other.
use Rattle.std.proofs.Common.{◌≡◌, ℕ, ◌+◌, ◌<◌, ◌≤◌, ◌^◌, Bool, true, false, ◌&&◌, cond, List, [], ◌∷◌, ◌++◌, map, length, Option, Some, None, Ok, refl, sym, ap, ◌∙◌, subst, append_assoc, arith}
use Rattle.std.specs.Prelude.{is_some, is_none}
use Rattle.std.proofs.lemmas.Bool.{lt-ltb, le-ltb}
use Rattle.std.proofs.lemmas.List.{append-nil}
use Rattle.orb_base.specs.NulFree.{nul_at}
use Rattle.orb_base.specs.declared.order.Order.{Order}
use Rattle.cdr_core.specs.Field.{Field, string_fields}
use Rattle.cdr_core.specs.Writing.{Page, page, written}
use Rattle.cdr_core.proofs.CallerLemmas.{written_none, written_both}
use Rattle.cdr_values.specs.Trees.{Kind, words, Value, text}
use Rattle.cdr_values.specs.Spelling.{fields_of, both, behind}
use Rattle.cdr_values.specs.Writing.{Wrote}
use Rattle.cdr_values.specs.Kinds.{kind_of, members_view}
use Rattle.cdr_values.specs.declared.kind.Member.{Member}
use Rattle.cdr_values.proofs.Loops.{member_kind}
use Rattle.idl_types.specs.Views.{param_of}
use Rattle.idl_types.specs.declared.param.Param.{Param}
use Rattle.script_values.specs.Operations.{member_at}
use Rattle.script_values.specs.declared.limit.Stop.{Stop}
use Rattle.script_values.specs.declared.limit.Stop.TheVariants as stop
use Rattle.dynamic_servants.specs.Replies.{Typed, all_fields, out_of, outs_from, members_from, spelled, within}
use Rattle.dynamic_servants.specs.Said.{Spelled, Unsaid}

-- a value of its type has fields, and these were spelled
pub put_said : (old new : Page) (asked : Option (List Field)) → is_some asked ≡ true → Wrote (Ok tt) old new asked → Spelled old new asked
put_said old new (Some fs) some h = record { fields = fs; are = refl; page = h }
put_said old new None some h = absurd cc

pub put_unsaid : (asked : Option (List Field)) → is_some asked ≡ false → asked ≡ None
put_unsaid None none = refl
put_unsaid (Some fs) none = absurd cc

-- ---- ids

pub id_fits : (id : List ℕ) → nul_at id ≡ None → length id < 4294967295 → fields_of (text id) (words 0) ≡ Some (string_fields id)
id_fits id none few = rw (none, lt-ltb (length id + 1) (2 ^ 32) (omega (arith, few))) refl

cut : (b : Bool) (x : Option (List Field)) → cond (b && false) x None ≡ None
cut true x = refl
cut false x = refl

pub no_id : (id : List ℕ) → 4294967295 ≤ length id → fields_of (text id) (words 0) ≡ None
no_id id many = rw (le-ltb (length id + 1) (2 ^ 32) (omega (arith, many))) (cut (is_none (nul_at id)) (Some (string_fields id)))

pub id_said : (old new : Page) (id : List ℕ) → nul_at id ≡ None → length id < 4294967295 → new ≡ written old (string_fields id) → Spelled old new (fields_of (text id) (words 0))
id_said old new id none few page = record { fields = string_fields id; are = id_fits id none few; page = page }

-- ---- one behind the other

pub nothing_said : (p : Page) → Spelled p p (Some [])
nothing_said p = record { fields = []; are = refl; page = written_none p }

behind_nothing : (a : Option (List Field)) → behind [] a ≡ a
behind_nothing None = refl
behind_nothing (Some fs) = refl

behind_behind : (fs gs : List Field) (a : Option (List Field)) → behind fs (behind gs a) ≡ behind (fs ++ gs) a
behind_behind fs gs None = refl
behind_behind fs gs (Some hs) = ap Some (sym (append_assoc fs gs hs))

both_both : (a b c : Option (List Field)) → both (both a b) c ≡ both a (both b c)
both_both None b c = refl
both_both (Some fs) None c = refl
both_both (Some fs) (Some gs) c = sym (behind_behind fs gs c)

pub all_then : (xs ys : List Typed) → all_fields (xs ++ ys) ≡ both (all_fields xs) (all_fields ys)
all_then [] ys = sym (behind_nothing (all_fields ys))
all_then (x ∷ xs) ys = ap (both (fields_of x.1 x.0)) (all_then xs ys) ∙ sym (both_both (fields_of x.1 x.0) (all_fields xs) (all_fields ys))

-- fields were spelled, and those that are left, put after them, are all
pub record Left (start now : Page) (left all : Option (List Field)) : Type 0 where
  pub fields : List Field
  pub page : now ≡ written start fields
  pub rest : behind fields left ≡ all

pub all_left : (p : Page) (all : Option (List Field)) → Left p p all all
all_left p all = record { fields = []; page = written_none p; rest = behind_nothing all }

pub one_said : (start now new : Page) (first more all : Option (List Field)) → Left start now (both first more) all → Spelled now new first → Left start new more all
one_said start now new first more all l s =
    let rest : behind l.fields (both (Some s.fields) more) ≡ all = subst (λ (o : Option (List Field)). behind l.fields (both o more) ≡ all) s.are l.rest in
    record {
      fields = l.fields ++ s.fields;
      page = written_both start now new l.fields s.fields l.page s.page;
      rest = sym (behind_behind l.fields s.fields more) ∙ rest;
    }

pub one_unsaid : (e : Stop) (start now : Page) (first more all : Option (List Field)) → Left start now (both first more) all → Unsaid e first → Unsaid e all
one_unsaid stop.NoMemory start now first more all l u = tt
one_unsaid (stop.Limit m) start now first more all l u = (sym l.rest ∙ ap (λ (o : Option (List Field)). behind l.fields (both o more)) u.0, u.1)

pub none_left : (start now : Page) (all : Option (List Field)) → Left start now (Some []) all → Spelled start now all
none_left start now all l = record { fields = l.fields; are = sym l.rest ∙ ap Some (append-nil l.fields); page = l.page }

-- ---- parameters and members

pub outs_step : (ps more : List Param) (p : Param) (i : ℕ) (slots : List Value) → ps ≡ p ∷ more
    → all_fields (outs_from i (map param_of ps) slots)
    ≡ both (all_fields (out_of p.way (kind_of p.kind) (member_at slots i))) (all_fields (outs_from (i + 1) (map param_of more) slots))
outs_step ps more p i slots is =
    ap (λ (qs : List Param). all_fields (outs_from i (map param_of qs) slots)) is
    ∙ all_then (out_of p.way (kind_of p.kind) (member_at slots i)) (outs_from (i + 1) (map param_of more) slots)

pub members_step : (ms more : List Member) (m : Member) (i : ℕ) (vs : List Value) → ms ≡ m ∷ more
    → all_fields (members_from i (members_view ms) vs)
    ≡ both (fields_of (member_at vs i) (kind_of m.kind)) (all_fields (members_from (i + 1) (members_view more) vs))
members_step ms more m i vs is =
    ap (λ (ns : List Member). all_fields (members_from i (members_view ns) vs)) is
    ∙ ap (λ (k : Kind). both (fields_of (member_at vs i) k) (all_fields (members_from (i + 1) (members_view more) vs))) (member_kind m)

-- ---- whole bodies

pub both_said : (start mid new : Page) (first more : Option (List Field)) → Spelled start mid first → Spelled mid new more → Spelled start new (both first more)
both_said start mid new first more s t = record {
  fields = s.fields ++ t.fields;
  are = ap (λ (o : Option (List Field)). both o more) s.are ∙ ap (λ (o : Option (List Field)). behind s.fields o) t.are;
  page = written_both start mid new s.fields t.fields s.page t.page;
}

pub one_field_set : (a : Option (List Field)) → both a (Some []) ≡ a
one_field_set None = refl
one_field_set (Some fs) = ap Some (append-nil fs)

-- what was put on an empty page is the body
pub body_is : (order : Order) (start now : Page) (asked : Option (List Field)) → start ≡ page order 24 [] → Spelled start now asked → spelled order asked ≡ within now.bytes
unfolding written
body_is order start now asked empty s =
    ap (spelled order) s.are
    ∙ ap (λ (p : Page). within (written p s.fields).bytes) (sym empty)
    ∙ ap (λ (p : Page). within p.bytes) (sym s.page)
