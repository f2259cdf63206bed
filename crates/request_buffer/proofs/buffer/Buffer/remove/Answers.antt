-- The place of the request to be cancelled names it.
use Rattle.std.proofs.Common.{ℕ, refl}
use Rattle.std.specs.Prelude.{position}
use Rattle.request_buffer.specs.Kept.{arrival_of, may_cancel, IsTaken}
use Rattle.request_buffer.proofs.Spots.{taken_where, nowhere}
use Rattle.request_buffer.proofs.buffer.Buffer.remove.Goals as goal

pub returns-in-Some : goal.returns-in-Some
returns-in-Some c =
    taken_where (position (may_cancel c.args.conn c.args.id) c.args.self.now.requests) (arrival_of c.args.self.now c.in-Some.place) _
    (λ (at : ℕ). IsTaken c.args.self.now c.take.new.self c.take.result at) c.in-Some.ensures.exact c.take.ensures

pub returns-in-None : goal.returns-in-None
returns-in-None c = nowhere _ _ _ c.in-None.ensures.exact (refl, refl)
