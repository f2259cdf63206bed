use Rattle.object_refs.proofs.OneWay.{profile_back}
use Rattle.object_refs.proofs.iiop_write.write_iiop.Goals as goal

pub returns-clause-reads_back : goal.returns-clause-reads_back
returns-clause-reads_back c = profile_back c.args.profile.now c.in_ok-bytes.bytes.items c.in_ok-bytes.ensures
