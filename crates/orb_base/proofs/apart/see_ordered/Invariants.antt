use Rattle.orb_base.proofs.ApartLaws.{OrderedTo}
use Rattle.orb_base.proofs.apart.see_ordered.Given as goal

abbrev pub invariant-loop-band : goal.invariant-loop-band
invariant-loop-band l = OrderedTo l.band-index l.bands
