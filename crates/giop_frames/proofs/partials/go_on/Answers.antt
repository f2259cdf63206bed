use Rattle.giop_frames.proofs.Deeds.{found_as, none_as, ok_then, goes_on, stays_open}
use Rattle.giop_frames.proofs.Effects.{fragment_opens_none}
use Rattle.giop_frames.proofs.partials.go_on.Goals as goal

pub returns-in-None : goal.returns-in-None
returns-in-None c =
    stays_open c.args.partials.now.items c.args.bytes.now (fragment_opens_none c.args.bytes.now c.requires.fragment)
    (none_as _ _ _ _ c.id_of.ensures c.as_slice.ensures.value c.in-None.ensures)

pub returns-in-Some : goal.returns-in-Some
returns-in-Some c =
    ok_then c.grow_at.result c.grow_at.ensures (λ g. goes_on c.args.partials.now.items c.grow_at.new.partials.items c.args.bytes.now c.in-Some.i c.requires.sound c.requires.fragment c.requires.more
    (found_as _ _ c.in-Some.i _ _ c.id_of.ensures c.as_slice.ensures.value c.in-Some.ensures) g)
