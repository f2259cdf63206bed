use Rattle.std.proofs.Common.{string_bytes}
use Rattle.giop_dump.proofs.DumpLaws.{LinesSoFar}
use Rattle.giop_dump.proofs.dump_lines.dump_lines.Given as goal

abbrev pub invariant-loop-whole : goal.invariant-loop-whole
invariant-loop-whole l = LinesSoFar l.whole-index l.messages (string_bytes l.text)
