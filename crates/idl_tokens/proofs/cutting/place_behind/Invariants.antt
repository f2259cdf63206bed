use Rattle.std.proofs.Common.{◌≡◌, ◌≤◌, ◌+◌, ◌^◌, length, drop}
use Rattle.idl_tokens.specs.Cutting.{place_after}
use Rattle.idl_tokens.proofs.cutting.place_behind.Given as goal

abbrev pub invariant-loop-b : goal.invariant-loop-b
invariant-loop-b l =
    (place_after l.line l.column (drop l.b-index l.bytes) ≡ place_after l.fn.line l.fn.column l.bytes)
    × (l.line + length (drop l.b-index l.bytes) ≤ l.fn.line + length l.bytes) × (l.column + length (drop l.b-index l.bytes) ≤ l.fn.column + length l.bytes)
