use Rattle.std.proofs.Common.{◌∙◌, sym, ap}
use Rattle.idl_scopes.specs.Finding.{among}
use Rattle.idl_scopes.specs.Pieces.{in_parts, whole_of}
use Rattle.idl_scopes.specs.Views.{table_of}
use Rattle.idl_scopes.proofs.NoHolders.{among_none}
use Rattle.idl_scopes.proofs.PartLookups.{in_front, in_a_part, in_back}
use Rattle.idl_scopes.proofs.scopes.Scopes.among_listed.Goals as goal

pub returns-then-is_none : goal.returns-then-is_none
returns-then-is_none c =
    sym (among_none (table_of c.args.self.now) c.args.name.now c.in_ok-holders.holders.scopes.items (whole_of c.args.scopes.now) (c.in_ok-holders.ensures (c.is_none.ensures.few c.if-is_none.true)) (c.is_none.ensures.none c.if-is_none.true))

pub returns-in-Some : goal.returns-in-Some
returns-in-Some c =
    in_front (table_of c.args.self.now) c.args.name.now c.args.scopes.now.front.items (in_parts c.args.scopes.now.parts.items) c.args.scopes.now.back.items
    c.deref.result.now c.in_ok-at.field-0 c.in-Some.at c.deref.ensures.value c.in_ok-at.ensures c.in-Some.is

pub returns-in-Some-2 : goal.returns-in-Some-2
returns-in-Some-2 c =
    in_a_part (table_of c.args.self.now) c.args.name.now c.args.scopes.now.front.items (in_parts c.args.scopes.now.parts.items) c.args.scopes.now.back.items
    c.deref.result.now c.in_ok-at.field-0 c.in_ok-at-2.field-0 c.in-Some-2.at c.deref.ensures.value c.in_ok-at.ensures c.in_default.is (c.in_ok-at-2.ensures ∙ ap (λ ps. among (table_of c.args.self.now) c.args.name.now (in_parts ps)) c.deref-2.ensures.value) c.in-Some-2.is

pub returns : goal.returns
returns c =
    in_back (table_of c.args.self.now) c.args.name.now c.args.scopes.now.front.items (in_parts c.args.scopes.now.parts.items) c.args.scopes.now.back.items
    c.deref.result.now c.deref-3.result.now c.in_ok-at.field-0 c.in_ok-at-2.field-0 c.in_ok-last.last c.deref.ensures.value c.in_ok-at.ensures c.in_default.is
    (c.in_ok-at-2.ensures ∙ ap (λ ps. among (table_of c.args.self.now) c.args.name.now (in_parts ps)) c.deref-2.ensures.value) c.in_default-2.is
    c.deref-3.ensures.value c.in_ok-last.ensures
