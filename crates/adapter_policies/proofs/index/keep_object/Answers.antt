use Rattle.adapter_policies.proofs.Keyed.{indexed_more}
use Rattle.adapter_policies.proofs.index.keep_object.Goals as goal

pub returns : goal.returns
returns c =
    let kept = rw (← c.index-objects-n.is) at (rw c.as_slice.ensures.bytes at c.in_ok-keep_number.ensures) in
    indexed_more c.args.numbers.now c.keep_number.new.numbers c.args.objects.now c.args.n c.index-objects-n.result c.requires.within c.index-objects-n.is c.requires.behind kept
