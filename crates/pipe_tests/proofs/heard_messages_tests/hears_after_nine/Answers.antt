-- The framer is new.
use Rattle.std.proofs.Common.{length, ap, arith}
use Rattle.giop_frames.specs.Feeds.{Feed}
use Rattle.pipe_tests.proofs.heard_messages_tests.hears_after_nine.Goals as goal

pub frame-requires-clause-going : goal.frame-requires-clause-going
frame-requires-clause-going c =
    record { limit_is = ap (λ (f : Feed). f.limit) c.in_ok-framer.ensures; enough = ap (λ (f : Feed). f.lacked) c.in_ok-framer.ensures }

pub frame-requires-clause-few : goal.frame-requires-clause-few
frame-requires-clause-few c = omega (arith, ap (λ (f : Feed). length f.fed) c.in_ok-framer.ensures, c.requires)
