-- Where memory was wanting for the piece that came, it counts among what was given.
use Rattle.std.proofs.Common.{◌+◌, ◌≤◌, ◌∙◌, length, arith}
use Rattle.std.proofs.lemmas.Grind.{common_steps}
use Rattle.text_streams.proofs.CallerLemmas.{gave_last}
use Rattle.text_streams.proofs.reading.read_all.Goals as goal

pub returns-then-is_err : goal.returns-then-is_err
returns-then-is_err g c =
    let few : c.in-Bytes.n + length c.loop-piece.bytes.items ≤ c.args.limit + 1 = grind (arith, common_steps, c.in-Bytes.ensures.bytes.1, c.read.auto.into) in (
      gave_last _ _ _ _ _ _ _ c.loop-piece.invariant.gave few c.in-Bytes.ensures.bytes.2 c.in-Bytes.ensures.bytes.3,
      c.in-Bytes.ensures.end ∙ c.loop-piece.invariant.ends,
      c.in-Bytes.ensures.fault ∙ c.loop-piece.invariant.faults,
    )
