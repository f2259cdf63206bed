use Rattle.std.proofs.Common.{◌∙◌, sym, arith}
use Rattle.idl_types.specs.Views.{thing_of}
use Rattle.idl_types.specs.Contents.{things_of}
use Rattle.idl_types.proofs.Holding.{ping_may, ping_free}
use Rattle.idl_types.proofs.Places.{none_of}
use Rattle.idl_types.proofs.repository.Repository.with_ping.Goals as goal

pub and_held-requires-clause-may : goal.and_held-requires-clause-may
and_held-requires-clause-may c =
    let s = c.args.self in
    ping_may (things_of s) (thing_of c.in_ok-ping.ping) c.in_ok-ping.ensures (sym c.place_of.ensures.place ∙ none_of c.place_of.result (sym c.is_some.ensures ∙ c.if-is_some.false)) s.own (omega (arith, s.counted))

pub and_held-requires-clause-free : goal.and_held-requires-clause-free
and_held-requires-clause-free c = ping_free (thing_of c.in_ok-ping.ping) c.in_ok-ping.ensures
