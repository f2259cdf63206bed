-- A request that fits goes to its place, and comes after the others.
use Rattle.std.proofs.Common.{◌≡◌, ◌<◌, ◌∙◌, ℕ, length, subst, sym, ap, arith, rules}
use Rattle.orb_base.specs.declared.job.Job.{Job}
use Rattle.request_buffer.specs.Entries.{entries}
use Rattle.request_buffer.proofs.Bounding.{Fits, fits_in, room_there, bounded_put, is_put}
use Rattle.request_buffer.proofs.buffer.Buffer.put.Goals as goal

pub put-requires : goal.put-requires
put-requires c =
    let inside = c.self.inside in
    let requires = rw (← c.self.view_is) at c.requires.fits in
    let fits = fits_in inside.queues inside.next inside.requests inside.bytes inside.max_requests inside.max_bytes c.args.job.size c.self.invariant requires in
    let one = fits.one_more in
    let queued = c.self.invariant.queued in
    let many = c.free_stamp-stamp.ensures.renumbered.as_many in
    let fewer : length (entries c.free_stamp-stamp.new.queues) < inside.max_requests = omega arith in
    record { room = room_there inside.max_requests c.free_stamp-stamp.result c.new.result.job.lane c.free_stamp-stamp.new.queues c.free_stamp-stamp.ensures.renumbered.stamped fewer }

pub invariant_of-self : goal.invariant_of-self
invariant_of-self c =
    let inside = c.self.inside in
    let requires = rw (← c.self.view_is) at c.requires.fits in
    let fits = fits_in inside.queues inside.next inside.requests inside.bytes inside.max_requests inside.max_bytes c.args.job.size c.self.invariant requires in
    let sized : c.from.result ≡ c.args.job.size = search rules in
    let its_bytes = subst (λ (n : ℕ). Fits inside.requests inside.bytes n inside.max_requests inside.max_bytes) (sym sized) fits in
    let carried : c.from.result ≡ c.new.result.job.size = sized ∙ ap (λ (j : Job). j.size) (sym c.new.ensures.job) in
    bounded_put inside.queues c.free_stamp-stamp.new.queues c.put.new.self inside.next c.free_stamp-stamp.result inside.requests inside.bytes inside.max_requests inside.max_bytes c.from.result c.new.result c.self.invariant
    c.free_stamp-stamp.ensures.renumbered c.put.ensures c.new.ensures.stamp carried its_bytes

pub returns : goal.returns
returns c =
    let inside = c.self.inside in
    rw (← c.self.view_is) (is_put inside.queues c.free_stamp-stamp.new.queues c.put.new.self inside.next c.free_stamp-stamp.result inside.max_requests inside.max_bytes c.new.result c.args.job
    c.free_stamp-stamp.ensures.renumbered c.put.ensures c.new.ensures.stamp c.new.ensures.job)
