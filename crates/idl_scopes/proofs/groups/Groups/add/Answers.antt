use Rattle.std.proofs.Common.{◌≡◌, subst, sym, true, rules, arith}
use Rattle.std.specs.Prelude.{slice_set}
use Rattle.std.proofs.lemmas.Option.{slice_get_read}
use Rattle.indexmap.specs.IndexMap.{get}
use Rattle.idl_scopes.specs.Bases.{holds}
use Rattle.idl_scopes.specs.Groups.{listed}
use Rattle.idl_scopes.proofs.Grouping.{kept_grown, put_grown}
use Rattle.idl_scopes.proofs.groups.Groups.add.Goals as goal

pub returns-clause-kept : goal.returns-clause-kept
returns-clause-kept g c = λ k n h.
    kept_grown c.args.self.now.lists.items c.place_of-at.result (get g.K.PartialEq.eq c.args.self.now.numbered k) c.index_mut.result.now c.push.new.self c.args.number
    (search (slice_get_read, rules)) c.in_ok-push.ensures.items n h

pub returns-clause-put : goal.returns-clause-put
returns-clause-put g c =
    subst (λ (o : _). holds (listed (slice_set c.args.self.now.lists.items c.place_of-at.result c.push.new.self) o) c.args.number ≡ true) (sym (c.place_of-at.ensures.found (grind arith)))
    (put_grown c.args.self.now.lists.items c.place_of-at.result c.index_mut.result.now c.push.new.self c.args.number (search (slice_get_read, rules)) c.in_ok-push.ensures.items)
