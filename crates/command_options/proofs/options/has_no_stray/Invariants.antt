use Rattle.std.proofs.Common.{◌≡◌, drop, map}
use Rattle.command_options.specs.Words.{has_no_stray_dash}
use Rattle.command_options.proofs.options.has_no_stray.Given as goal

abbrev pub invariant-loop-word : goal.invariant-loop-word
invariant-loop-word g l = has_no_stray_dash (map g.S.AsStr.text (drop l.word-index l.words)) ≡ has_no_stray_dash (map g.S.AsStr.text l.words)
