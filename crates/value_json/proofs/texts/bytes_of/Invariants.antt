use Rattle.std.proofs.Common.{◌≡◌, ◌++◌, drop}
use Rattle.value_json.specs.Texts.{are_bytes}
use Rattle.value_json.proofs.texts.bytes_of.Given as goal

abbrev pub invariant-loop-c : goal.invariant-loop-c
invariant-loop-c l =
    (l.bytes.items ++ drop l.c-index l.characters ≡ l.characters) × (are_bytes (drop l.c-index l.characters) ≡ are_bytes l.characters)
