use Rattle.std.proofs.Common.{◌≡◌, drop, map}
use Rattle.command_options.specs.Nul.{has_nul}
use Rattle.command_options.proofs.nul.has_nul.Given as goal

abbrev pub invariant-loop-word : goal.invariant-loop-word
invariant-loop-word g l = has_nul (map g.S.AsStr.text (drop l.word-index l.words)) ≡ has_nul (map g.S.AsStr.text l.words)
