-- The second piece is fed where the first ended nothing.
use Rattle.std.proofs.Common.{length, ap, arith, length-append}
use Rattle.pipe_tests.proofs.heard_messages_tests.hears_in_two.Goals as goal

pub feed-requires-2-clause-going : goal.feed-requires-2-clause-going
feed-requires-2-clause-going c = c.in_ok-first.ensures.goes_on c.in_default.is

pub feed-requires-2-clause-few : goal.feed-requires-2-clause-few
feed-requires-2-clause-few c =
    omega (
      arith,
      ap length c.in_ok-first.ensures.fed_is,
      length-append c.in_ok-hearing.hearing.framer.fed c.args.front.now,
      ap length c.in_ok-hearing.ensures.none_fed,
      c.requires,
    )

pub at_end-last-requires : goal.at_end-last-requires
at_end-last-requires c = c.in_ok-second.ensures.goes_on c.in-None.is
