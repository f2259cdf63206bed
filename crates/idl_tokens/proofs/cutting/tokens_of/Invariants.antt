use Rattle.std.proofs.Common.{◌≡◌, ◌≤◌, ◌+◌, length, map}
use Rattle.idl_tokens.specs.Placed.{seen}
use Rattle.idl_tokens.specs.Cutting.{cut, text_tokens}
use Rattle.idl_tokens.proofs.OneTurn.{in_front}
use Rattle.idl_tokens.proofs.cutting.tokens_of.Given as goal

abbrev pub invariant-loop-rest : goal.invariant-loop-rest
invariant-loop-rest l =
    (in_front (map seen l.tokens.items) (cut l.dialect 0 l.line l.column l.rest) ≡ text_tokens l.dialect l.text)
    × (l.line + length l.rest ≤ 1 + length l.text) × (l.column + length l.rest ≤ 1 + length l.text)

abbrev pub decreases-loop-rest : goal.decreases-loop-rest
decreases-loop-rest l = length l.rest
