-- A request's number is its place among those that lines offer.
use Rattle.trace_lines.proofs.ReadingBack.{read_back_whole}
use Rattle.trace_lines.proofs.laws.lines_are_read_back.Goals as goal

pub returns : goal.returns
returns c = λ lines has once. read_back_whole lines has once
