use Rattle.std.proofs.Common.{◌≡◌, ◌∙◌, ◌+◌, ◌<◌, ℕ, ap, sym, length, arith}
use Rattle.std.specs.Prelude.{Vec}
use Rattle.std.specs.List.{list_any}
use Rattle.std.specs.Str.{bytes_eq, str_eq_ignore_ascii_case, str_to_ascii_lowercase}
use Rattle.std.specs.declared.alloc.Global.{Global}
use Rattle.std.proofs.lemmas.Bool.{not-true}
use Rattle.idl_types.specs.Things.{Thing, id_of}
use Rattle.idl_types.specs.Views.{thing_of}
use Rattle.idl_types.specs.Sound.{file_leaves, counted_leaves}
use Rattle.idl_types.specs.Declaring.{may_hold}
use Rattle.idl_types.specs.Contents.{things_of}
use Rattle.orb_base.proofs.Places.{any_map}
use Rattle.idl_types.proofs.Judging.{new_by_case}
use Rattle.idl_types.proofs.Holding.{fresh, key_fresh, Kept, kept_after, counted_after}
use Rattle.idl_types.proofs.repository.Repository.hold.Goals as goal

pub take_in-requires-clause-key : goal.take_in-requires-clause-key
take_in-requires-clause-key c =
    let s = c.args.self.now in
    key_fresh s.declared.entries (thing_of c.args.declaration) c.in_ok-key.key.items (c.in_ok-key.ensures.items ∙ c.as_slice.ensures.bytes ∙ c.id-id.ensures) s.keyed
    (fresh (things_of s) (thing_of c.args.declaration) c.requires.may)

pub take_in-requires-clause-low : goal.take_in-requires-clause-low
take_in-requires-clause-low c =
    let s = c.args.self.now in
    let t = thing_of c.args.declaration in
    any_map (bytes_eq c.in_ok-low.low.items) (λ (n : Vec ℕ Global). n.items) s.folded.keys
    ∙ new_by_case c.in_ok-low.low.items s.folded.keys s.declared.entries t (c.in_ok-low.ensures ∙ ap str_to_ascii_lowercase c.id-id.ensures) s.by_case
    ∙ not-true (list_any (λ u. str_eq_ignore_ascii_case (id_of t) (id_of u)) (things_of s)) (fresh (things_of s) t c.requires.may).new

pub invariant_of-self : goal.invariant_of-self
invariant_of-self c =
    let s = c.args.self.now in
    let es = s.declared.entries in
    let is : thing_of c.in_ok-held.held.declaration ≡ thing_of c.args.declaration = ap thing_of c.in_ok-held.ensures in
    let few : length es < 524288 = omega (arith, c.if-len-ge-MARKS.false, c.len.ensures.len) in
    let old : Kept es s.folded.keys = record { keyed = s.keyed; room = s.room; each = s.each; ids = s.ids; based = s.based; inherited = s.inherited; own = s.own; by_case = s.by_case } in
    let new = kept_after c.take_in.result es c.take_in.new.declared.entries (c.in_ok-key.key, c.in_ok-held.held) s.folded.keys c.take_in.new.folded.keys c.in_ok-low.low.items
    c.take_in.ensures.entries c.take_in.ensures.names old few
    (c.in_ok-key.ensures.items ∙ c.as_slice.ensures.bytes ∙ c.id-id.ensures ∙ ap id_of (sym is))
    (c.in_ok-low.ensures ∙ ap str_to_ascii_lowercase (c.id-id.ensures ∙ ap id_of (sym is)))
    (fresh (things_of s) (thing_of c.in_ok-held.held.declaration) (ap (may_hold (things_of s)) is ∙ c.requires.may)) in
    let all = ap (λ (t : Thing). c.args.left + (file_leaves (things_of s) + counted_leaves t)) is ∙ c.requires.left in
    record {
      keyed = new.keyed;
      room = new.room;
      each = new.each;
      ids = new.ids;
      based = new.based;
      inherited = new.inherited;
      own = new.own;
      by_case = new.by_case;
      counted = counted_after c.take_in.result es c.take_in.new.declared.entries (c.in_ok-key.key, c.in_ok-held.held) s.left c.args.left c.take_in.new.free
          c.take_in.ensures.entries c.take_in.ensures.free s.counted all;
    }
