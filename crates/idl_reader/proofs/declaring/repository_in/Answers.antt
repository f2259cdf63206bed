use Rattle.std.proofs.Common.{map}
use Rattle.idl_scopes.specs.Views.{table_of}
use Rattle.idl_types.specs.Contents.{things_of}
use Rattle.idl_names.specs.Views.{thing_of}
use Rattle.idl_reader.proofs.OneMore.{declares_on}
use Rattle.idl_reader.proofs.TakenThings.{taken_next}
use Rattle.idl_reader.proofs.declaring.repository_in.Goals as goal

pub loop-at-preserved : goal.loop-at-preserved
loop-at-preserved c =
    let ts = c.args.things.now in
    declares_on (table_of c.args.scopes.now) (map thing_of ts) ts c.loop-at.at c.index-things-at.result (things_of c.loop-at.repository) (things_of c.declare_at.new.repository) _
    c.loop-at-test.true c.index-things-at.is c.in_ok-declare_at.ensures c.loop-at.invariant

pub declare_at-requires : goal.declare_at-requires
declare_at-requires c =
    let ts = c.args.things.now in
    taken_next (table_of c.args.scopes.now) (map thing_of ts) ts c.loop-at.at c.index-things-at.result (things_of c.loop-at.repository) _ c.loop-at-test.true c.index-things-at.is c.loop-at.invariant c.requires
